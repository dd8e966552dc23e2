use Rattle.std.proofs.Common.{◌≡◌, List, ℕ, Some, ap, sym, ◌∙◌, arith}
use Rattle.pairs.specs.Lives.{born}
use Rattle.pairs.specs.Versions.{HasLives, epoch}
use Rattle.extent_ops.proofs.Chaining.{goes-still, goes-both, gives-up-memory, gives-up-reading, tells-both}
use Rattle.extent_ops.proofs.placing.is_born_now.Goals as goal

pub returns-in-Err-clause-goes : goal.returns-in-Err-clause-goes
returns-in-Err-clause-goes g c = goes-still _ _ 0

pub returns-in-Err-clause-fault : goal.returns-in-Err-clause-fault
returns-in-Err-clause-fault g c =
    gives-up-memory g.P.Pairs.told c.args.pairs.now c.args.pairs.now HasLives c.from.result c.from.ensures

pub returns-in-Err-born-clause-goes : goal.returns-in-Err-born-clause-goes
returns-in-Err-born-clause-goes g c = c.born.ensures.goes

pub returns-in-Err-born-clause-fault : goal.returns-in-Err-born-clause-fault
returns-in-Err-born-clause-fault g c = c.in-Err-born.ensures.fault

pub returns-in-Ok-epoch-clause-goes : goal.returns-in-Ok-epoch-clause-goes
returns-in-Ok-epoch-clause-goes g c =
    goes-both _ _ _ _ 0 0 0 (omega arith) c.born.ensures.goes c.epoch.ensures.goes

pub returns-in-Ok-epoch-clause-ok : goal.returns-in-Ok-epoch-clause-ok
returns-in-Ok-epoch-clause-ok g c =
    tells-both _ _ _ _ 0 (λ v. born (v.lives c.as_slice.result.now) ≡ c.in-Ok-born.found) (λ v. epoch v ≡ c.in-Ok-epoch.now) _
    c.epoch.ensures.goes c.in-Ok-born.ensures.ok c.in-Ok-epoch.ensures.ok
    (λ v found now.
    let is = ap (λ (k : List ℕ). born (v.lives k)) (sym (c.as_slice.ensures ∙ c.in-Ok.ensures.is)) ∙ found in (
      λ yes. is ∙ c.is_birth.ensures.is yes ∙ ap Some (sym now),
      λ no same. c.is_birth.ensures.not no (sym is ∙ same ∙ ap Some now),
    ))

pub returns-clause-goes : goal.returns-clause-goes
returns-clause-goes g c =
    goes-both _ _ _ _ 0 0 0 (omega arith) c.born.ensures.goes c.epoch.ensures.goes

pub returns-clause-fault : goal.returns-clause-fault
returns-clause-fault g c =
    gives-up-reading _ _ _ _ 0 0 _ c.in-Err-epoch.fault c.born.ensures.goes c.epoch.ensures.goes
    c.in-Ok-born.ensures.ok c.in-Err-epoch.ensures.fault
