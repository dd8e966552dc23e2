use Rattle.std.proofs.Common.{◌≡◌, ℕ}
use Rattle.std.specs.BTreeMap.{get, is_at}
use Rattle.std.specs.Map.{lookup}
use Rattle.std.specs.Option.{option_or}
use Rattle.std.specs.Ordering.{nat_cmp}
use Rattle.plain_nodes.proofs.nodes.copy_map.Given as goal

-- what a number has is in the copy, or is left
abbrev pub invariant-loop-fileid : goal.invariant-loop-fileid
invariant-loop-fileid l = (q : ℕ) → get nat_cmp l.map q ≡ option_or (get nat_cmp l.copy q)
    (lookup (is_at (nat_cmp q)) l.fileid-iterator)
