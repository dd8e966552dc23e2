use Rattle.std.proofs.Common.{◌∙◌, ◌≤◌, ℕ, List, [], length, sym, subst, arith}
use Rattle.pairs.specs.Versions.{HasLives, CanPut, with_put}
use Rattle.extent_ops.proofs.Chaining.{goes-still, put-gives-up-memory, put-gives-up-given}
use Rattle.extent_ops.proofs.Placed.{can_mark}
use Rattle.extent_ops.proofs.cutting.mark_stale.Goals as goal

pub returns-in-Err-clause-goes : goal.returns-in-Err-clause-goes
returns-in-Err-clause-goes g c = goes-still _ _ 1

pub returns-in-Err-clause-fault : goal.returns-in-Err-clause-fault
returns-in-Err-clause-fault g c =
    put-gives-up-memory g.P.Pairs.told c.args.pairs.now c.args.pairs.now HasLives c.from.result c.from.ensures

pub put-requires-clause-key : goal.put-requires-clause-key
put-requires-clause-key g c = subst (λ (k : List ℕ). length k ≤ 264) (sym c.as_slice.ensures) c.in-Ok.ensures.short

pub put-requires-clause-value : goal.put-requires-clause-value
put-requires-clause-value g c = omega arith

pub returns-in-Ok-put-clause-goes : goal.returns-in-Ok-put-clause-goes
returns-in-Ok-put-clause-goes g c = c.put.ensures.goes

pub returns-in-Ok-put-clause-ok : goal.returns-in-Ok-put-clause-ok
returns-in-Ok-put-clause-ok g c = λ w v agrees shown lives.
    let is = c.as_slice.ensures ∙ c.in-Ok.ensures.is in
    subst (λ (k : List ℕ). g.P.Pairs.told.shows c.put.new.self w (with_put k [] v)) is
    (c.in-Ok-put.ensures.ok w v agrees shown (can_mark c.args.file c.as_slice.result.now [] v is lives))

pub returns-clause-goes : goal.returns-clause-goes
returns-clause-goes g c = c.put.ensures.goes

pub returns-clause-fault : goal.returns-clause-fault
returns-clause-fault g c =
    put-gives-up-given g.P.Pairs.told c.args.pairs.now c.put.new.self HasLives (CanPut c.as_slice.result.now [])
    c.in-Err-put.fault
    (λ v lives. can_mark c.args.file c.as_slice.result.now [] v (c.as_slice.ensures ∙ c.in-Ok.ensures.is) lives)
    c.in-Err-put.ensures.fault
