use Rattle.std.proofs.Common.{◌≡◌, false, take}
use Rattle.std.specs.List.{list_any}
use Rattle.pairs.specs.declared.at.At.TheVariants.{Snap}
use Rattle.pairs.specs.Lives.{sees, life_of}
use Rattle.mem_pairs.proofs.row.Row.is_spent.Given as goal

abbrev pub invariant-loop-number : goal.invariant-loop-number
invariant-loop-number l = list_any (λ n. sees (Snap n) (life_of l.self)) (take l.number-index l.kept) ≡ false
