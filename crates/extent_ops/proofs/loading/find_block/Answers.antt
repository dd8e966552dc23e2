use Rattle.std.proofs.Common.{◌∙◌}
use Rattle.pairs.specs.Versions.{HasLives}
use Rattle.extent_ops.specs.Marking.{as_marks}
use Rattle.extent_ops.proofs.Chaining.{goes-still, gives-up-memory}
use Rattle.extent_ops.proofs.Placed.{found_slot}
use Rattle.extent_ops.proofs.loading.find_block.Goals as goal

pub returns-in-Err-clause-goes : goal.returns-in-Err-clause-goes
returns-in-Err-clause-goes g c = goes-still _ _ 0

pub returns-in-Err-clause-fault : goal.returns-in-Err-clause-fault
returns-in-Err-clause-fault g c =
    gives-up-memory g.P.Pairs.told c.args.pairs.now c.args.pairs.now HasLives c.from.result c.from.ensures

pub returns-in-Err-get_at-clause-goes : goal.returns-in-Err-get_at-clause-goes
returns-in-Err-get_at-clause-goes g c = c.get_at.ensures.goes

pub returns-in-Err-get_at-clause-fault : goal.returns-in-Err-get_at-clause-fault
returns-in-Err-get_at-clause-fault g c = c.in-Err-get_at.ensures.fault

pub slot_in-requires : goal.slot_in-requires
slot_in-requires g c = c.stores-stores.ensures.some

pub returns-clause-goes : goal.returns-clause-goes
returns-clause-goes g c = c.get_at.ensures.goes

pub returns-clause-ok : goal.returns-clause-ok
returns-clause-ok g c = record {
  shows = c.in-Ok-get_at.ensures.ok.shows;
  finds = λ w v agrees shown lives. found_slot v c.args.at c.args.file (as_marks c.args.marks) c.args.index c.stores-stores.result
      c.as_slice.result.now c.in-Ok-get_at.found c.slot_in.result (c.as_slice.ensures ∙ c.in-Ok.ensures.is)
      (c.stores-stores.ensures.shown w v agrees (c.in-Ok-get_at.ensures.ok.shows w v agrees shown))
      (c.in-Ok-get_at.ensures.ok.finds w v agrees shown lives) c.slot_in.ensures;
}
