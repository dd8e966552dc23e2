use Rattle.std.proofs.Common.{sym, ◌∙◌}
use Rattle.pairs.specs.Versions.{HasLives}
use Rattle.birth_death.proofs.Finding.{search-gives-up}
use Rattle.birth_death.proofs.Nexts.{only-gives-up}
use Rattle.birth_death.proofs.Spending.{walk-starts, walk-steps, walk-ends, walk-finds}
use Rattle.birth_death.proofs.purges.find_spent.Goals as goal

pub returns-in-Err-clause-fault : goal.returns-in-Err-clause-fault
returns-in-Err-clause-fault g c =
    search-gives-up (g.G.Pages.state c.args.pages.now) _ HasLives c.in-Err.fault
    c.in-Err.ensures.only_reads c.in-Err.ensures.fault

pub loop-turn-init : goal.loop-turn-init
loop-turn-init g c =
    walk-starts c.args.kept.now c.args.from.now c.in-Ok.found (g.G.Pages.state c.args.pages.now) _
    c.in-Ok.ensures.only_reads c.in-Ok.ensures.found

pub returns-in-None-clause-found : goal.returns-in-None-clause-found
returns-in-None-clause-found g c =
    walk-ends c.args.kept.now c.args.from.now _ _ (rw c.in-None.is at c.loop-turn.invariant)

pub returns-then-is_spent-clause-found : goal.returns-then-is_spent-clause-found
returns-then-is_spent-clause-found g c =
    walk-finds c.args.kept.now c.args.from.now c.in-Some.q _ _ (rw c.in-Some.is at c.loop-turn.invariant)
    (sym c.is_spent.ensures ∙ c.if-is_spent.true)

pub returns-in-Err-next-clause-fault : goal.returns-in-Err-next-clause-fault
returns-in-Err-next-clause-fault g c =
    only-gives-up _ _ _ c.in-Err-next.fault c.loop-turn.invariant.only c.in-Err-next.ensures.only_reads
    (search-gives-up _ _ HasLives c.in-Err-next.fault c.in-Err-next.ensures.only_reads c.in-Err-next.ensures.fault)

pub loop-turn-preserved : goal.loop-turn-preserved
loop-turn-preserved g c =
    walk-steps c.args.kept.now c.args.from.now c.in-Some.q c.in-Ok-next.found _ _ _
    (rw c.in-Some.is at c.loop-turn.invariant) (sym c.is_spent.ensures ∙ c.if-is_spent.false)
    c.in-Ok-next.ensures.only_reads (rw c.as_slice.ensures at c.in-Ok-next.ensures.found)
