use Rattle.std.proofs.Common.{Option, refl, sym, subst, arith}
use Rattle.std.specs.Prelude.{⊤}
use Rattle.pair_types.specs.declared.slot.Slot.{Slot}
use Rattle.pairs.specs.Versions.{HasLives}
use Rattle.extent_ops.specs.Blocks.{FilledFrom}
use Rattle.extent_ops.proofs.Chaining.{goes-still, gives-up-given}
use Rattle.extent_ops.proofs.loading.fill_from.Goals as goal

pub returns-in-None-clause-goes : goal.returns-in-None-clause-goes
returns-in-None-clause-goes g c = goes-still _ _ 0

pub returns-in-None-clause-within : goal.returns-in-None-clause-within
returns-in-None-clause-within g c = omega arith

pub returns-in-None-clause-ok : goal.returns-in-None-clause-ok
returns-in-None-clause-ok g c = record {
  shows = λ w v agrees shown. shown;
  finds = λ w v agrees shown lives. subst
      (λ (o : Option Slot). FilledFrom o c.args.room.now c.args.room.now 0 v) (sym c.in-None.is) (refl, refl);
}

pub returns-in-Ok-clause-goes : goal.returns-in-Ok-clause-goes
returns-in-Ok-clause-goes g c = c.read_block.ensures.goes

pub returns-in-Ok-clause-within : goal.returns-in-Ok-clause-within
returns-in-Ok-clause-within g c = c.in-Ok.ensures.within

pub returns-in-Ok-clause-ok : goal.returns-in-Ok-clause-ok
returns-in-Ok-clause-ok g c = record {
  shows = c.in-Ok.ensures.ok.shows;
  finds = λ w v agrees shown lives. subst
      (λ (o : Option Slot). FilledFrom o c.args.room.now c.read_block.new.room c.in-Ok.n v) (sym c.in-Some.is)
      (c.in-Ok.ensures.ok.finds w v agrees shown lives);
}

pub returns-in-Err-clause-goes : goal.returns-in-Err-clause-goes
returns-in-Err-clause-goes g c = c.read_block.ensures.goes

pub returns-in-Err-clause-fault : goal.returns-in-Err-clause-fault
returns-in-Err-clause-fault g c =
    gives-up-given g.P.Pairs.told c.args.pairs.now c.read_block.new.self HasLives (λ _. ⊤) c.in-Err.fault (λ v lives. tt)
    c.in-Err.ensures.fault
