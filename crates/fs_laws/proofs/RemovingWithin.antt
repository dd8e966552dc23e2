-- REMOVE and RMDIR leave the tree within its bounds.
use Rattle.std.proofs.Common.{ℕ, List, IfSome}
use Rattle.nfs3_types.specs.declared.args.DirOp.{DirOp}
use Rattle.nfs3_types.specs.declared.cred.Cred.{Cred}
use Rattle.nfs3_types.specs.declared.moment.Moment.{Moment}
use Rattle.fs_rules.specs.Answers.{tree_by}
use Rattle.fs_rules.specs.Edits.{drop_link, drop_name, drop_node, set_ctime, touch}
use Rattle.fs_rules.specs.Places.{Object}
use Rattle.fs_rules.specs.Removing.{drop_directory, lose_name, remove, remove_directory, remove_directory_plan, remove_file}
use Rattle.fs_rules.specs.Removing.{remove_plan}
use Rattle.fs_rules.specs.Sound.{HasBounds}
use Rattle.fs_rules.specs.Tree.{Node, Tree}
use Rattle.fs_laws.proofs.NodesWithin.{drop_name_within, link_less_within, touch_within}
use Rattle.fs_laws.proofs.SettingWithin.{done_within}
use Rattle.fs_laws.proofs.TreesWithin.{drop_keeps, drop_within, each_node_within, edit_node_keeps, lose_keeps, lose_within}

-- the name of a file goes
pub remove_file_within : (now : Moment) (directory : ℕ) (name : List ℕ) (fileid : ℕ) (t : Tree) → HasBounds t
    → HasBounds (remove_file now directory name fileid t)
unfolding remove_file
remove_file_within now directory name fileid t h =
    each_node_within (lose_name now fileid t) directory (λ n. touch now (drop_name name n))
    (λ n k. touch_within now directory (drop_name name n) (drop_name_within name directory n k)) (lose_within now t fileid h)

pub remove_within : (t : Tree) (cred : Cred) (a : DirOp (List ℕ)) (now : Moment) → HasBounds t
    → HasBounds (tree_by t (remove t cred a now))
unfolding remove
remove_within t cred a now h =
    done_within t (remove_plan t cred a) _ h (λ plan e. remove_file_within now plan.directory a.name plan.fileid t h)

-- an empty directory and its name go
pub drop_directory_within : (now : Moment) (directory : ℕ) (name : List ℕ) (fileid : ℕ) (t : Tree) → HasBounds t
    → HasBounds (drop_directory now directory name fileid t)
unfolding drop_directory
drop_directory_within now directory name fileid t h =
    each_node_within (drop_node fileid t) directory (λ n. touch now (drop_link (drop_name name n)))
    (λ n k. touch_within now directory (drop_link (drop_name name n))
    (link_less_within directory (drop_name name n) (drop_name_within name directory n k))) (drop_within t fileid h)

pub remove_directory_within : (t : Tree) (cred : Cred) (name : List ℕ) (now : Moment) (o : Object) → HasBounds t
    → HasBounds (tree_by t (remove_directory t cred name now o))
unfolding remove_directory
remove_directory_within t cred name now o h =
    done_within t (remove_directory_plan t cred name o) _ h (λ plan e. drop_directory_within now plan.directory name plan.fileid
    t h)

-- ---- what stays true of a node

pub remove_file_keeps : (P : Node → Type 0) (now : Moment) (directory : ℕ) (name : List ℕ) (fileid q : ℕ) (t : Tree)
    → ((n : Node) → P n → P (set_ctime now (drop_link n))) → ((n : Node) → P n → P (touch now (drop_name name n)))
    → IfSome (t.nodes q) P → IfSome ((remove_file now directory name fileid t).nodes q) P
unfolding remove_file
remove_file_keeps P now directory name fileid q t one two h =
    edit_node_keeps P (lose_name now fileid t) directory q (λ n. touch now (drop_name name n)) two
    (lose_keeps P now t fileid q one h)

pub drop_directory_keeps : (P : Node → Type 0) (now : Moment) (directory : ℕ) (name : List ℕ) (fileid q : ℕ) (t : Tree)
    → ((n : Node) → P n → P (touch now (drop_link (drop_name name n)))) → IfSome (t.nodes q) P
    → IfSome ((drop_directory now directory name fileid t).nodes q) P
unfolding drop_directory
drop_directory_keeps P now directory name fileid q t keeps h =
    edit_node_keeps P (drop_node fileid t) directory q (λ n. touch now (drop_link (drop_name name n))) keeps
    (drop_keeps P t fileid q h)
