-- REMOVE, and RMDIR outside of `.snapshot` (RFC 1813, sections 3.3.12 and 3.3.13).
use Rattle.std.specs.Prelude.{◌&&◌, if◌then◌else◌}
use Rattle.fs_rules.specs.Words.{ℕ, nat_lt, Bool, List, length, Option, Some, None, Ok, option_and_then, DirOp, Remove, Rmdir}
use Rattle.fs_rules.specs.Words.{Cred, Moment, Acces, Exist, Inval, IsDir, NoEnt, NotDir, NotEmpty, Inode, Place, Live}
use Rattle.fs_rules.specs.Words.{RemovePlan}
use Rattle.fs_rules.specs.Shared.{is_directory, Check, Row, ◌>>=◌, done, find_directory, need, need_place_for, refuse_if, some_or}
use Rattle.fs_rules.specs.Shared.{drop_link, drop_name, drop_node, edit_node, set_ctime, touch, with_node, is_dot, is_dot_dot}
use Rattle.fs_rules.specs.Shared.{is_dots, Object, change, entry_at, fileid_at, is_snapshots_name, leads_to, names_at, may_search}
use Rattle.fs_rules.specs.Shared.{may_write, Node, Tree}

-- the caller may take names out of a directory and put others in
abbrev pub may_alter : Cred → Inode → Bool
may_alter cred directory = may_write cred directory && may_search cred directory

abbrev pub has_names : Tree → Place → Bool
has_names t place = nat_lt 0 (length (names_at t place))

unfoldable pub find_removable : Tree → Cred → Object → List ℕ → Check Object
find_removable t cred directory name = do
  _ ← refuse_if (is_snapshots_name directory.place name) Acces
  _ ← need (may_alter cred directory.inode) Acces
  e ← some_or (entry_at t directory.place name) NoEnt
  some_or (leads_to t (Live e.fileid)) NoEnt

unfoldable pub remove_plan : Tree → Cred → DirOp (List ℕ) → Check RemovePlan
remove_plan t cred a = do
  directory ← find_directory t a
  _ ← refuse_if (is_dots a.name) Inval
  o ← find_removable t cred directory a.name
  _ ← refuse_if (is_directory o.inode.kind) IsDir
  Ok (record { directory = fileid_at directory.place; fileid = fileid_at o.place })

-- a file loses one of its names, and goes with its last
abbrev pub lose_link : Moment → Node → Option Node
lose_link now n = if nat_lt 1 n.inode.nlink then Some (set_ctime now (drop_link n)) else None

unfoldable pub lose_name : Moment → ℕ → Tree → Tree
lose_name now fileid t = record t { nodes = with_node fileid (option_and_then (lose_link now) (t.nodes fileid)) t.nodes }

unfoldable pub remove_file : Moment → ℕ → List ℕ → ℕ → Tree → Tree
remove_file now directory name fileid t = edit_node directory (λ n. touch now (drop_name name n)) (lose_name now fileid t)

unfoldable pub remove : Tree → Cred → DirOp (List ℕ) → Moment → Row
remove t cred a now =
    done (remove_plan t cred a)
    (λ plan. remove_file now plan.directory a.name plan.fileid t)
    (λ plan after. Remove (change t after (Live plan.directory)))

-- RMDIR, once the directory of the name is found
unfoldable pub remove_directory_plan : Tree → Cred → List ℕ → Object → Check RemovePlan
remove_directory_plan t cred name directory = do
  _ ← need_place_for directory name
  _ ← refuse_if (is_dot name) Inval
  _ ← refuse_if (is_dot_dot name) Exist
  o ← find_removable t cred directory name
  _ ← need (is_directory o.inode.kind) NotDir
  _ ← refuse_if (has_names t o.place) NotEmpty
  Ok (record { directory = fileid_at directory.place; fileid = fileid_at o.place })

unfoldable pub drop_directory : Moment → ℕ → List ℕ → ℕ → Tree → Tree
drop_directory now directory name fileid t =
    edit_node directory (λ n. touch now (drop_link (drop_name name n))) (drop_node fileid t)

unfoldable pub remove_directory : Tree → Cred → List ℕ → Moment → Object → Row
remove_directory t cred name now directory =
    done (remove_directory_plan t cred name directory)
    (λ plan. drop_directory now plan.directory name plan.fileid t)
    (λ plan after. Rmdir (change t after (Live plan.directory)))
