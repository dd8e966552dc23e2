use Rattle.std.proofs.Common.{◌≡◌, true, [], None}
use Rattle.btree_page.specs.Content.{Follows, last_bound, leaf_entry}
use Rattle.page_checks.proofs.run.fill.Given as goal

-- a leaf, and the record born next may follow its cells
abbrev pub invariant-loop-birth : goal.invariant-loop-birth
invariant-loop-birth l =
    (l.page.level ≡ 0) × Follows true (last_bound None l.page.cells) (leaf_entry l.q.key l.birth-counter 0 [])
