-- What is asked of a directory and of a name before the name is looked up, where the name leads, and what is found.
use Rattle.std.specs.Prelude.{◌≡◌, ◌==◌, ◌||◌, option_map, nat_le, Bool, true, false, ℕ, List, [], Option, Some, None, IsSome}
use Rattle.std.specs.Prelude.{if◌then◌else◌}
use Rattle.nfs3_types.specs.declared.args.DirOp.{DirOp}
use Rattle.nfs3_types.specs.declared.attributes.Fattr.{Fattr}
use Rattle.nfs3_types.specs.declared.body.Body.{Body}
use Rattle.nfs3_types.specs.declared.body.Body.TheVariants.{Lookup}
use Rattle.nfs3_types.specs.declared.cred.Cred.{Cred}
use Rattle.nfs3_types.specs.declared.status.Status.TheVariants.{Acces, Exist, Inval, MLink, NoEnt, NoSpc, Xdev}
use Rattle.nfs3_types.specs.declared.handle.Handle.{Handle}
use Rattle.nfs3_types.specs.Handles.{handle, handle_in}
use Rattle.fs_rules.specs.declared.inode.Inode.{Inode}
use Rattle.fs_rules.specs.declared.name_entry.NameEntry.{NameEntry}
use Rattle.fs_rules.specs.declared.place.Place.{Place}
use Rattle.fs_rules.specs.declared.place.Place.TheVariants.{Live, SnapshotDirectory}
use Rattle.fs_rules.specs.declared.plans.LinkPlan.{LinkPlan}
use Rattle.fs_rules.specs.declared.plans.RemovePlan.{RemovePlan}
use Rattle.fs_rules.specs.Attributes.{is_directory}
use Rattle.fs_rules.specs.Checks.{Check, ◌>>=◌, find_object, is_live, need, need_directory, need_good_name, need_live}
use Rattle.fs_rules.specs.Checks.{need_search, refuse_if, some_or}
use Rattle.fs_rules.specs.Limits.{most_links}
use Rattle.fs_rules.specs.Making.{lacks_cookies}
use Rattle.fs_rules.specs.Names.{is_dot, is_dot_dot, is_dots, named}
use Rattle.fs_rules.specs.Places.{Object, above, entry_at, fileid_at, is_snapshots_name, leads_to, place_named, place_of, shown, snapshot_at}
use Rattle.fs_rules.specs.Removing.{may_alter, remove_directory_plan}
use Rattle.fs_rules.specs.Rights.{may_write}
use Rattle.fs_rules.specs.Snapshots.{is_snapshot_directory, need_snapshot}
use Rattle.fs_rules.specs.Tree.{Node, Tree}
use Rattle.fs_keys.specs.declared.rows.First.{First}
use Rattle.procs_object.specs.Finding.{Begins, HasPlace}
use Rattle.procs_object.specs.declared.object.Found.{Found}
use Rattle.procs_names.specs.declared.dropping.Dropping.{Dropping}
use Rattle.procs_names.specs.declared.linking.Linking.{Linking}
use Rattle.procs_names.specs.declared.removing.Removal.{Removal}

-- what was found, as the table sees it; of its size nothing is asked
abbrev pub seen : Found → Object
seen x = record { place = x.place; inode = x.inode.head.kept; size = x.inode.head.size }

-- the tree is of this file system
abbrev pub IsOf : ℕ → Tree → Type 0
IsOf fsid t = t.fsid ≡ fsid

-- ---- LOOKUP

-- what is asked before the name is looked up
unfoldable pub need_lookup : Cred → Object → List ℕ → Check (Unit {0})
need_lookup cred directory name = do
  _ ← need_directory directory
  _ ← need_good_name name
  need_search cred directory

-- the number that an entry says
abbrev pub fileid_of : NameEntry → ℕ
fileid_of e = e.fileid

-- where a name leads without an entry
abbrev pub own_place : Place → Inode → List ℕ → Option Place
own_place place i name =
    if is_dot name then Some place
    else (if is_dot_dot name then Some (above place i)
    else (if is_snapshots_name place name then Some SnapshotDirectory else None))

-- the first record is this one, on a sound tree in which something stands at the place
pub record IsReady (row : First) (place : Place) (t : Tree) : Type 0 where
  pub begins : Begins row t
  pub there : HasPlace place t

-- what stands at a place
abbrev pub stands_at : Tree → Place → Check Object
stands_at t place = some_or (leads_to t place) NoEnt

-- what a name of a directory leads to
abbrev pub leads_at : Tree → Object → List ℕ → Check Object
leads_at t directory name = do
  place ← some_or (place_named t directory name) NoEnt
  stands_at t place

-- what the entry of a name leads to
unfoldable pub child_at : Tree → Place → List ℕ → Check Object
child_at t directory name = do
  e ← some_or (entry_at t directory name) NoEnt
  some_or (leads_to t (Live e.fileid)) NoEnt

-- what is told of an object at a place, and of the directory of its name
abbrev pub found_body : ℕ → Place → Fattr → Fattr → Body
found_body fsid place attributes directory = Lookup (record {
  object = handle.spelling (record { fsid = fsid; snapshot = snapshot_at place; fileid = fileid_at place });
  attributes = Some attributes;
  directory = Some directory;
})

abbrev pub IsTold : Tree → Body → Body → Type 0
IsTold t x body = body ≡ x

-- ---- REMOVE and RMDIR

-- the name may be taken out of the directory
unfoldable pub need_alterable : Cred → Object → List ℕ → Check (Unit {0})
need_alterable cred directory name = do
  _ ← refuse_if (is_snapshots_name directory.place name) Acces
  need (may_alter cred directory.inode) Acces

-- what REMOVE asks, and what RMDIR does
unfoldable pub need_removable : Cred → Object → List ℕ → Check (Unit {0})
need_removable cred directory name = do
  _ ← refuse_if (is_dots name) Inval
  need_alterable cred directory name

unfoldable pub need_removable_directory : Cred → Object → List ℕ → Check (Unit {0})
need_removable_directory cred directory name = do
  _ ← refuse_if (is_dot name) Inval
  _ ← refuse_if (is_dot_dot name) Exist
  need_alterable cred directory name

-- RMDIR's plan, outside of `.snapshot`
unfoldable pub rmdir_plan : Tree → Cred → DirOp (List ℕ) → Check RemovePlan
rmdir_plan t cred a = do
  directory ← find_object t a.directory
  remove_directory_plan t cred a.name directory

abbrev pub removal_of : Found → Found → Removal
removal_of directory object = record {
  plan = record { directory = fileid_at directory.place; fileid = fileid_at object.place };
  directory = directory.attributes;
}

-- The plan that was found, and the attributes of its directory: the directory has the name, and what goes has no names.
pub record IsRemoval (name : List ℕ) (t : Tree) (x : Removal) (plan : RemovePlan) : Type 0 where
  pub is : plan ≡ x.plan
  pub before : shown t (Live plan.directory) ≡ Some x.directory
  pub above : Node
  pub directory : t.nodes plan.directory ≡ Some above
  pub kind : is_directory above.inode.kind ≡ true
  pub has : IsSome (named name above.names)
  pub within : Node
  pub goes : t.nodes plan.fileid ≡ Some within
  pub bare : within.names ≡ []

-- ---- RMDIR in `.snapshot`

-- what is asked before the name is looked up
unfoldable pub need_droppable : Cred → List ℕ → Check (Unit {0})
need_droppable cred name = do
  _ ← need_good_name name
  _ ← refuse_if (is_dot name) Inval
  _ ← refuse_if (is_dot_dot name) Exist
  need (cred.uid == 0) Acces

-- all that is asked
unfoldable pub drop_check : Tree → Cred → DirOp (List ℕ) → Check (Unit {0})
drop_check t cred a = do
  _ ← find_object t a.directory
  need_snapshot t cred a.name

-- The snapshot of the name has this number, and these are the attributes of `.snapshot`.
pub record IsDropping (name : List ℕ) (t : Tree) (x : Dropping) (asked : Unit {0}) : Type 0 where
  pub number : option_map fileid_of (entry_at t SnapshotDirectory name) ≡ Some x.number
  pub before : shown t SnapshotDirectory ≡ Some x.directory

-- ---- LINK

-- what is asked before the name is looked up
unfoldable pub need_linkable : Cred → Object → Object → List ℕ → Check (Unit {0})
need_linkable cred file directory name = do
  _ ← need_directory directory
  _ ← need_live directory
  _ ← need (is_live file.place) Xdev
  _ ← need_good_name name
  _ ← refuse_if (is_directory file.inode.kind) Inval
  need_search cred directory

-- what is asked behind that, where it is known whether the name is taken
unfoldable pub need_room : Cred → Object → Object → Bool → Check (Unit {0})
need_room cred file directory taken = do
  _ ← refuse_if taken Exist
  _ ← need (may_write cred directory.inode) Acces
  _ ← refuse_if (nat_le most_links file.inode.nlink) MLink
  refuse_if (lacks_cookies directory.inode) NoSpc

-- a name is taken that needs no entry, or has one
abbrev pub is_taken_by : Place → List ℕ → Bool → Bool
is_taken_by place name is_entry = (is_dots name || is_snapshots_name place name) || is_entry

abbrev pub linking_of : Found → Found → Linking
linking_of file directory = record {
  plan = record { file = fileid_at file.place; directory = fileid_at directory.place };
  kind = file.inode.head.kept.kind;
  file = file.attributes;
  directory = directory.attributes;
}

-- The plan that was found, and the attributes of its file and of its directory: the name is free there.
pub record IsLinking (name : List ℕ) (t : Tree) (x : Linking) (plan : LinkPlan) : Type 0 where
  pub is : plan ≡ x.plan
  pub shows : shown t (Live plan.file) ≡ Some x.file
  pub before : shown t (Live plan.directory) ≡ Some x.directory
  pub file : Node
  pub there : t.nodes plan.file ≡ Some file
  pub plain : is_directory file.inode.kind ≡ false
  pub above : Node
  pub directory : t.nodes plan.directory ≡ Some above
  pub kind : is_directory above.inode.kind ≡ true
  pub free : named name above.names ≡ None
