use Rattle.std.proofs.Common.{◌∙◌, ℕ, List, Option, is_some, ap, sym}
use Rattle.pairs.specs.declared.at.At.TheVariants.{Live}
use Rattle.pairs.specs.Versions.{HasLives, value_at}
use Rattle.extent_ops.proofs.Chaining.{goes-still, gives-up-memory}
use Rattle.extent_ops.proofs.cutting.is_stale.Goals as goal

pub returns-in-Err-clause-goes : goal.returns-in-Err-clause-goes
returns-in-Err-clause-goes g c = goes-still _ _ 0

pub returns-in-Err-clause-fault : goal.returns-in-Err-clause-fault
returns-in-Err-clause-fault g c =
    gives-up-memory g.P.Pairs.told c.args.pairs.now c.args.pairs.now HasLives c.from.result c.from.ensures

pub returns-in-Ok-get_at-clause-goes : goal.returns-in-Ok-get_at-clause-goes
returns-in-Ok-get_at-clause-goes g c = c.get_at.ensures.goes

pub returns-in-Ok-get_at-clause-ok : goal.returns-in-Ok-get_at-clause-ok
returns-in-Ok-get_at-clause-ok g c = record {
  shows = c.in-Ok-get_at.ensures.ok.shows;
  finds = λ w v agrees shown lives.
      ap (λ (k : List ℕ). is_some (value_at Live v k)) (sym (c.as_slice.ensures ∙ c.in-Ok.ensures.is))
      ∙ ap (λ (o : Option (List ℕ)). is_some o) (c.in-Ok-get_at.ensures.ok.finds w v agrees shown lives) ∙ sym c.is_some.ensures;
}

pub returns-clause-goes : goal.returns-clause-goes
returns-clause-goes g c = c.get_at.ensures.goes

pub returns-clause-fault : goal.returns-clause-fault
returns-clause-fault g c = c.in-Err-get_at.ensures.fault
