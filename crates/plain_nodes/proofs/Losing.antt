-- A node with one name less.
use Rattle.std.proofs.Common.{◌≡◌, nat_lt, true, false, Option, Some, None, IfSome, option_and_then, option_map, refl}
use Rattle.nfs3_types.specs.declared.moment.Moment.{Moment}
use Rattle.fs_rules.specs.Edits.{drop_link, set_ctime}
use Rattle.fs_rules.specs.Removing.{lose_link}
use Rattle.fs_rules.specs.Tree.{Node}

-- it stays, and has one link less
pub loses_kept : (now : Moment) (o : Option Node) → IfSome o (λ n. nat_lt 1 n.inode.nlink ≡ true)
    → option_map (λ n. set_ctime now (drop_link n)) o ≡ option_and_then (lose_link now) o
loses_kept now (Some n) more = cc
loses_kept now None more = refl

-- it goes with its last
pub loses_last : (now : Moment) (o : Option Node) → IfSome o (λ n. nat_lt 1 n.inode.nlink ≡ false)
    → None ≡ option_and_then (lose_link now) o
loses_last now (Some n) last = cc
loses_last now None last = refl
