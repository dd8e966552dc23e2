use Rattle.std.proofs.Common.{◌≡◌, ◌+◌, length, drop}
use Rattle.std.specs.List.{sum_by}
use Rattle.nfs3_shapes.proofs.lists.are_short_with_attributes.Given as goal

abbrev pub invariant-loop-entry : goal.invariant-loop-entry
invariant-loop-entry l =
    l.room + sum_by (λ e. 144 + length e.name) l.entries ≡ 32768 + sum_by (λ e. 144 + length e.name) (drop l.entry-index l.entries)
