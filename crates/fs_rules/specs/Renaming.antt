-- RENAME and LINK (RFC 1813, sections 3.3.14 and 3.3.15).
use Rattle.std.specs.Prelude.{◌+◌, ◌==◌, ◌||◌, ◌&&◌, if◌then◌else◌}
use Rattle.fs_rules.specs.Words.{ℕ, zero, suc, nat_le, Bool, true, false, not, List, is_none, Option, Some, None, option_map}
use Rattle.fs_rules.specs.Words.{option_and_then, Ok, Err, LinkArgs, RenameArgs, Link, Rename, Cred, Moment, Acces, Exist, Inval}
use Rattle.fs_rules.specs.Words.{MLink, NameTooLong, NoEnt, NoSpc, Xdev, NameEntry, Live, Climb, TooDeep, Found, Root, LinkPlan}
use Rattle.fs_rules.specs.Words.{RenamePlan, Replaced}
use Rattle.fs_rules.specs.Shared.{given, is_directory, Check, Row, ◌>>=◌, done, find_object, is_live, need, need_directory}
use Rattle.fs_rules.specs.Shared.{need_good_name, need_live, need_search, refuse_if, some_or, add_link, add_name, drop_link}
use Rattle.fs_rules.specs.Shared.{drop_name, edit_node, set_ctime, set_parent, touch, deepest, most_links, is_dots, Object}
use Rattle.fs_rules.specs.Shared.{change, entry_at, fileid_at, is_snapshots_name, leads_to, shown, Node, Nodes, Tree}
use Rattle.fs_rules.specs.{Making.lacks_cookies, Making.need_free_name, Removing.drop_directory, Removing.has_names}
use Rattle.fs_rules.specs.{Removing.may_alter, Removing.remove_file}

abbrev pub parent_of : Option Node → ℕ → ℕ
parent_of (Some n) fileid = n.inode.parent
parent_of None fileid = fileid

abbrev pub through : Bool → Climb → Climb
through true Root = Found
through here way = way

-- the way up from a directory, which leads through so many at most, the root with them, and whether it leads
-- through the one that is sought
unfoldable pub climb : Nodes → ℕ → ℕ → ℕ → Climb
climb nodes sought zero fileid = TooDeep
climb nodes sought (suc most) fileid =
    through (fileid == sought) (if fileid == 1 then Root else climb nodes sought most (parent_of (nodes fileid) fileid))

-- a directory is not moved too deep, and not into itself or below itself
abbrev pub allow_move : Climb → Check (Unit {0})
allow_move TooDeep = Err NameTooLong
allow_move Found = Err Inval
allow_move Root = Ok tt

-- a node that gets another name: its directory, the directory of the new name, and what has that name
pub record Renaming : Type 0 where
  pub from : Object
  pub to : Object
  pub source : Object
  pub target : Option Object

abbrev pub target_at : Tree → Option NameEntry → Option Object
target_at t e = option_and_then (λ e. leads_to t (Live e.fileid)) e

abbrev pub is_same_node : Renaming → Bool
is_same_node r = given r.target (λ o. fileid_at o.place == fileid_at r.source.place)

abbrev pub reparents : Renaming → Bool
reparents r = is_directory r.source.inode.kind && not (fileid_at r.from.place == fileid_at r.to.place)

abbrev pub differs : Bool → Bool → Bool
differs true b = not b
differs false b = b

-- what has the new name cannot go for the source: just one of the two is a directory, or it is one with names
abbrev pub is_in_the_way : Tree → Object → Object → Bool
is_in_the_way t source o =
    differs (is_directory o.inode.kind) (is_directory source.inode.kind) || (is_directory o.inode.kind && has_names t o.place)

unfoldable pub find_renaming : Tree → Cred → RenameArgs (List ℕ) → Check Renaming
find_renaming t cred a = do
  from ← find_object t a.from.directory
  to ← find_object t a.to.directory
  _ ← need_directory from
  _ ← need_directory to
  _ ← need_live from
  _ ← need_live to
  _ ← need_good_name a.from.name
  _ ← need_good_name a.to.name
  _ ← refuse_if (is_dots a.from.name || is_dots a.to.name) Inval
  _ ← refuse_if (is_snapshots_name from.place a.from.name || is_snapshots_name to.place a.to.name) Acces
  _ ← need (may_alter cred from.inode) Acces
  _ ← need (may_alter cred to.inode) Acces
  e ← some_or (entry_at t from.place a.from.name) NoEnt
  source ← some_or (leads_to t (Live e.fileid)) NoEnt
  Ok (record { from = from; to = to; source = source; target = target_at t (entry_at t to.place a.to.name) })

-- what is found can be done; where both names are one node's, nothing is asked any more
unfoldable pub need_room : Tree → Renaming → Check (Unit {0})
need_room t r = do
  _ ← if reparents r then allow_move (climb t.nodes (fileid_at r.source.place) (deepest + 1) (fileid_at r.to.place)) else Ok tt
  _ ← refuse_if (given r.target (is_in_the_way t r.source)) Exist
  _ ← refuse_if (reparents r && is_none r.target && nat_le most_links r.to.inode.nlink) MLink
  refuse_if (lacks_cookies r.to.inode) NoSpc

abbrev pub replaced_by : Object → Replaced
replaced_by o = record { fileid = fileid_at o.place; is_directory = is_directory o.inode.kind }

unfoldable pub rename_plan : Tree → Cred → RenameArgs (List ℕ) → Check RenamePlan
rename_plan t cred a = do
  r ← find_renaming t cred a
  _ ← if is_same_node r then Ok tt else need_room t r
  Ok (record {
    from = fileid_at r.from.place;
    to = fileid_at r.to.place;
    fileid = fileid_at r.source.place;
    is_same = is_same_node r;
    reparents = reparents r;
    replaced = option_map replaced_by r.target;
  })

-- what has the new name goes, as by REMOVE or RMDIR
abbrev pub replace : Moment → ℕ → List ℕ → Option Replaced → Tree → Tree
replace now to name (Some r) t =
    if r.is_directory then drop_directory now to name r.fileid t else remove_file now to name r.fileid t
replace now to name None t = t

abbrev pub relink : RenamePlan → Tree → Tree
relink p t = if p.reparents then edit_node p.to add_link (edit_node p.from drop_link t) else t

abbrev pub renew : RenamePlan → Moment → Node → Node
renew p now n = set_ctime now (if p.reparents then set_parent p.to n else n)

unfoldable pub move_node : Moment → RenameArgs (List ℕ) → RenamePlan → Tree → Tree
move_node now a p t =
    edit_node p.fileid (renew p now)
    (edit_node p.to (λ n. touch now (add_name a.to.name p.fileid n))
    (edit_node p.from (λ n. touch now (drop_name a.from.name n))
    (relink p
    (replace now p.to a.to.name p.replaced t))))

unfoldable pub rename : Tree → Cred → RenameArgs (List ℕ) → Moment → Row
rename t cred a now =
    done (rename_plan t cred a)
    (λ plan. if plan.is_same then t else move_node now a plan t)
    (λ plan after. Rename (record { from = change t after (Live plan.from); to = change t after (Live plan.to) }))

-- a file that is not in the live tree is in another file system than the directory
unfoldable pub link_plan : Tree → Cred → LinkArgs (List ℕ) → Check LinkPlan
link_plan t cred a = do
  file ← find_object t a.file
  directory ← find_object t a.link.directory
  _ ← need_directory directory
  _ ← need_live directory
  _ ← need (is_live file.place) Xdev
  _ ← need_good_name a.link.name
  _ ← refuse_if (is_directory file.inode.kind) Inval
  _ ← need_search cred directory
  _ ← need_free_name t cred directory a.link.name
  _ ← refuse_if (nat_le most_links file.inode.nlink) MLink
  _ ← refuse_if (lacks_cookies directory.inode) NoSpc
  Ok (record { file = fileid_at file.place; directory = fileid_at directory.place })

unfoldable pub link : Tree → Cred → LinkArgs (List ℕ) → Moment → Row
link t cred a now =
    done (link_plan t cred a)
    (λ plan.
    edit_node plan.directory (λ n. touch now (add_name a.link.name plan.file n))
    (edit_node plan.file (λ n. set_ctime now (add_link n)) t))
    (λ plan after. Link (record { attributes = shown after (Live plan.file); directory = change t after (Live plan.directory) }))
