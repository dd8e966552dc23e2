use Rattle.std.proofs.Common.{List, ℕ, length, ◌≤◌, sym, subst}
use Rattle.extent_ops.proofs.Keys.{value-short}
use Rattle.extent_ops.proofs.placing.extent_value.Goals as goal

pub returns-in-Ok-clause-short : goal.returns-in-Ok-clause-short
returns-in-Ok-clause-short c = subst (λ (l : List ℕ). length l ≤ 1200) (sym c.in-Ok.ensures.is) (value-short c.args.extent)
