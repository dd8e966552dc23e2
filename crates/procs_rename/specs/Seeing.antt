-- What RENAME sees: what both handles lead to, and both names; and its plan.
use Rattle.std.specs.Prelude.{ℕ, ◌≡◌, ◌≤◌, ◌+◌, ◌||◌, ◌&&◌, Bool, true, false, List, length, is_none, nat_le, if◌then◌else◌}
use Rattle.std.specs.Prelude.{Some, option_map, IfSome, Result, Ok, Err}
use Rattle.nfs3_types.specs.declared.args.RenameArgs.{RenameArgs}
use Rattle.nfs3_types.specs.declared.cred.Cred.{Cred}
use Rattle.nfs3_types.specs.declared.status.Status.TheVariants.{Acces, Exist, Inval, MLink, NoEnt, NoSpc}
use Rattle.fs_rules.specs.declared.name_entry.NameEntry.{NameEntry}
use Rattle.fs_rules.specs.declared.place.Place.TheVariants.{Live}
use Rattle.fs_rules.specs.declared.plans.RenamePlan.{RenamePlan}
use Rattle.fs_rules.specs.Attributes.{is_directory}
use Rattle.fs_rules.specs.Checks.{Check, ◌>>=◌, find_object, is_live, need, need_directory, need_good_name, need_live}
use Rattle.fs_rules.specs.Checks.{refuse_if, some_or}
use Rattle.fs_rules.specs.Limits.{deepest, longest_name, most_links}
use Rattle.fs_rules.specs.Making.{lacks_cookies}
use Rattle.fs_rules.specs.Names.{is_dots}
use Rattle.fs_rules.specs.Places.{Object, entry_at, fileid_at, is_snapshots_name, leads_to, shown}
use Rattle.fs_rules.specs.Removing.{may_alter}
use Rattle.fs_rules.specs.Renaming.{Renaming, allow_move, climb, find_renaming, is_same_node, need_room, rename_plan, reparents}
use Rattle.fs_rules.specs.Renaming.{replaced_by, target_at}
use Rattle.fs_rules.specs.Sound.{IsSound}
use Rattle.fs_rules.specs.Tree.{Tree}
use Rattle.pairs.specs.Told.{PairsTold}
use Rattle.fs_shows.specs.declared.halt.Halt.{Halt}
use Rattle.fs_shows.specs.declared.halt.Halt.TheVariants.{Refused, Fault}
use Rattle.fs_shows.specs.Steps.{Reads, GivesUpOn}
use Rattle.procs_object.specs.declared.object.Found.{Found}
use Rattle.procs_object.specs.Finding.{IsObject, IsLed}
use Rattle.procs_rename.specs.declared.seeing.Ends.{Ends}
use Rattle.procs_rename.specs.declared.seeing.Seen.{Seen}
use Rattle.procs_rename.specs.declared.planning.Planned.{Planned}
use Rattle.procs_rename.specs.Moving.{CanMove}

-- ---- reads on the way to a check

module _ {S W : Type 0} (told : PairsTold S W) (old new : S) where
  -- Reads that go on, of what they found, where this much is so of it and of the tree; or the check ends by them.
  abbrev pub Gathers : {A X : Type 0} → (X → Tree → Type 0) → (Tree → Check A) → Result X Halt → Type 0
  Gathers IsSo check (Ok x) = Reads told old new IsSound (IsSo x)
  Gathers IsSo check (Err (Refused status)) = Reads told old new IsSound (λ t. check t ≡ Err status)
  Gathers IsSo check (Err (Fault fault)) = GivesUpOn told old new IsSound fault

-- ---- what is seen

-- what was found, as an object of this size
abbrev pub found_as : ℕ → Found → Object
found_as size x = record { place = x.place; inode = x.inode.head.kept; size = size }

-- the checks of both directories and both names, and then others
unfoldable pub behind_ends : {A : Type 0} → Cred → RenameArgs (List ℕ) → Object → Object → Check A → Check A
behind_ends cred a from to rest = do
  _ ← need_directory from
  _ ← need_directory to
  _ ← need_live from
  _ ← need_live to
  _ ← need_good_name a.from.name
  _ ← need_good_name a.to.name
  _ ← refuse_if (is_dots a.from.name || is_dots a.to.name) Inval
  _ ← refuse_if (is_snapshots_name from.place a.from.name || is_snapshots_name to.place a.to.name) Acces
  _ ← need (may_alter cred from.inode) Acces
  _ ← need (may_alter cred to.inode) Acces
  rest

-- neither name is longer than names are
pub record AreShort (a : RenameArgs (List ℕ)) : Type 0 where
  pub from : length a.from.name ≤ longest_name
  pub to : length a.to.name ≤ longest_name

-- checks that ended so, and then others
abbrev pub then_check : {A : Type 0} → Check (Unit {0}) → Check A → Check A
then_check (Ok u) rest = rest
then_check (Err status) rest = Err status

-- both are live directories, and the names are short
pub record AreOpen (a : RenameArgs (List ℕ)) (from to : Found) : Type 0 where
  pub from_kind : is_directory from.inode.head.kept.kind ≡ true
  pub to_kind : is_directory to.inode.head.kept.kind ≡ true
  pub from_live : is_live from.place ≡ true
  pub to_live : is_live to.place ≡ true
  pub short : AreShort a

-- what both handles lead to, and pass the checks of directories and names
pub record AreEnds (cred : Cred) (a : RenameArgs (List ℕ)) (x : Ends) (t : Tree) : Type 0 where
  pub from : Object
  pub to : Object
  pub from_found : find_object t a.from.directory ≡ Ok from
  pub to_found : find_object t a.to.directory ≡ Ok to
  pub from_is : IsObject t x.from from
  pub to_is : IsObject t x.to to
  pub passed : (rest : Check Renaming) → behind_ends cred a from to rest ≡ rest

-- what a name leads to
abbrev pub source_at : Tree → ℕ → List ℕ → Check Object
source_at t directory name = do
  e ← some_or (entry_at t (Live directory) name) NoEnt
  some_or (leads_to t (Live e.fileid)) NoEnt

pub record IsNamed (directory : ℕ) (name : List ℕ) (t : Tree) (x : Found) (o : Object) : Type 0 where
  pub is : IsObject t x o
  pub entry : NameEntry
  pub named : entry_at t (Live directory) name ≡ Some entry
  pub leads : leads_to t (Live entry.fileid) ≡ Some o

-- all that is looked for
pub record IsSeen (cred : Cred) (a : RenameArgs (List ℕ)) (x : Seen) (t : Tree) : Type 0 where
  pub renaming : Renaming
  pub found : find_renaming t cred a ≡ Ok renaming
  pub from : IsObject t x.from renaming.from
  pub to : IsObject t x.to renaming.to
  pub source : IsNamed (fileid_at x.from.place) a.from.name t x.source renaming.source
  pub target : IsLed t x.target renaming.target
  pub aimed : renaming.target ≡ target_at t (entry_at t (Live (fileid_at x.to.place)) a.to.name)

-- what is seen is open, and all of it is live
pub record IsOpen (a : RenameArgs (List ℕ)) (x : Seen) : Type 0 where
  pub ends : AreOpen a x.from x.to
  pub source : is_live x.source.place ≡ true
  pub target : IfSome x.target (λ o. is_live o.place ≡ true)

-- the same as the table has it, but for sizes
abbrev pub renaming_by : Seen → Renaming
renaming_by x = record {
  from = found_as 0 x.from;
  to = found_as 0 x.to;
  source = found_as 0 x.source;
  target = option_map (found_as 0) x.target;
}

-- ---- the plan

abbrev pub way_for : Tree → Renaming → Check (Unit {0})
way_for t r =
    if reparents r then allow_move (climb t.nodes (fileid_at r.source.place) (deepest + 1) (fileid_at r.to.place)) else Ok tt

-- where both names are one node's, nothing is asked any more
abbrev pub other_room : Tree → Renaming → Check (Unit {0})
other_room t r = if is_same_node r then Ok tt else need_room t r

-- the checks behind the way, where it is known whether something is in the way
abbrev pub room_behind : Bool → Renaming → Check (Unit {0})
room_behind blocked r = do
  _ ← refuse_if blocked Exist
  _ ← refuse_if (reparents r && is_none r.target && nat_le most_links r.to.inode.nlink) MLink
  refuse_if (lacks_cookies r.to.inode) NoSpc

abbrev pub plan_by : Renaming → RenamePlan
plan_by r = record {
  from = fileid_at r.from.place;
  to = fileid_at r.to.place;
  fileid = fileid_at r.source.place;
  is_same = is_same_node r;
  reparents = reparents r;
  replaced = option_map replaced_by r.target;
}

-- the plan is the table's, it can be done, and both directories have these attributes
pub record IsPlanned (cred : Cred) (a : RenameArgs (List ℕ)) (x : Planned) (t : Tree) : Type 0 where
  pub planned : rename_plan t cred a ≡ Ok x.plan
  pub from : shown t (Live x.plan.from) ≡ Some x.from
  pub to : shown t (Live x.plan.to) ≡ Some x.to
  pub fsid : t.fsid ≡ x.from.fsid
  pub moves : x.plan.is_same ≡ false → CanMove a x.plan t
