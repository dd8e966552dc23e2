-- Copying nodes, one by one.
use Rattle.std.proofs.Common.{◌≡◌, ℕ, cond, List, ◌∷◌, Some, arith}
use Rattle.std.proofs.lemmas.Bool.{cases_eq}
use Rattle.std.proofs.lemmas.Grind.{common_steps}
use Rattle.std.specs.BTreeMap.{is_at}
use Rattle.std.specs.Map.{lookup}
use Rattle.std.specs.Option.{option_or}
use Rattle.std.specs.Ordering.{nat_cmp}
use Rattle.fs_rules.specs.Tree.{Node, Nodes}

-- what a number has is in the copy or is left, also once one more is copied
pub copied_more : (f g h : Nodes) (k q : ℕ) (n : Node) (s t : List (ℕ × Node))
    → f q ≡ option_or (g q) (lookup (is_at (nat_cmp q)) s)
    → s ≡ (k, n) ∷ t → f k ≡ Some n → h q ≡ cond (is_at (nat_cmp k) q) (Some n) (g q)
    → f q ≡ option_or (h q) (lookup (is_at (nat_cmp q)) t)
copied_more f g h k q n s t before left there updates = grind (arith, common_steps, cases_eq k q)
