-- MKDIR in `.snapshot`: what it asks, what it reads, and what it tells.
use Rattle.std.specs.Prelude.{ℕ, ◌≡◌, ◌+◌, ◌%◌, ◌^◌, ◌==◌, ◌||◌, nat_le, List, length, is_some, Option, Some, option_map}
use Rattle.nfs3_types.specs.declared.args.MkdirArgs.{MkdirArgs}
use Rattle.nfs3_types.specs.declared.attributes.Fattr.{Fattr}
use Rattle.nfs3_types.specs.declared.body.CreateOk.{CreateOk}
use Rattle.nfs3_types.specs.declared.cred.Cred.{Cred}
use Rattle.nfs3_types.specs.declared.moment.Moment.{Moment}
use Rattle.nfs3_types.specs.declared.status.Status.TheVariants.{Acces, Exist, NoSpc}
use Rattle.nfs3_types.specs.Handles.{handle}
use Rattle.fs_rules.specs.declared.name_entry.NameEntry.{NameEntry}
use Rattle.fs_rules.specs.declared.place.Place.TheVariants.{Live, SnapshotDirectory}
use Rattle.fs_rules.specs.Attributes.{attributes_of, wcc_of}
use Rattle.fs_rules.specs.Checks.{Check, ◌>>=◌, find_object, need, need_good_name, refuse_if}
use Rattle.fs_rules.specs.Limits.{last_epoch, most_snapshots}
use Rattle.fs_rules.specs.Names.{is_dots, named}
use Rattle.fs_rules.specs.Places.{Object, object_at, shown}
use Rattle.fs_rules.specs.Snapshots.{need_new_snapshot}
use Rattle.fs_rules.specs.Tree.{Tree}
use Rattle.fs_keys.specs.declared.rows.First.{First}
use Rattle.fs_shows.specs.Shows.{first_of}
use Rattle.procs_object.specs.declared.object.Found.{Found}
use Rattle.procs_mkdir.specs.declared.taking.Taking.{Taking}

-- ---- what is asked

-- of a name, beside these entries of `.snapshot`, at this epoch
unfoldable pub new_check : Cred → List ℕ → List NameEntry → ℕ → Check (Unit {0})
new_check cred name entries epoch = do
  _ ← need_good_name name
  _ ← need (cred.uid == 0) Acces
  _ ← refuse_if (is_dots name || is_some (named name entries)) Exist
  _ ← refuse_if (nat_le most_snapshots (length entries)) NoSpc
  refuse_if (nat_le last_epoch epoch) NoSpc

unfoldable pub take_check : Tree → Cred → MkdirArgs (List ℕ) → Check (Unit {0})
take_check t cred a = do
  _ ← find_object t a.place.directory
  need_new_snapshot t cred a.place.name

-- ---- what is read

-- the attributes of what was found, in the file system of this number
abbrev pub root_told : ℕ → Found → Fattr
root_told fsid x = record x.attributes { fsid = fsid }

-- the attributes that the live root has in a file system of this number
abbrev pub root_at : ℕ → Object → Fattr
root_at fsid o = attributes_of fsid 1 o.inode o.size

-- what was read is this of the tree, which may take a further snapshot
pub record IsTaking (t : Tree) (x : Taking) (asked : Unit {0}) : Type 0 where
  pub first : first_of t ≡ x.begins
  pub before : shown t SnapshotDirectory ≡ Some x.directory
  pub root : option_map (root_at (t.fsid + t.epoch)) (object_at t (Live 1)) ≡ x.root

-- ---- what is told

-- a directory that gains a subdirectory now: no sound tree has one with so many that this begins at 0 again
abbrev pub touched_more : Moment → Fattr → Fattr
touched_more now a = record a { nlink = (a.nlink + 1) % 2 ^ 32; mtime = now; ctime = now }

abbrev pub snapshot_told : First → Option Fattr → Fattr → Moment → CreateOk
snapshot_told begins root directory now = record {
  object = Some (handle.spelling (record { fsid = begins.fsid; snapshot = begins.epoch; fileid = 1 }));
  attributes = root;
  directory = wcc_of (Some directory) (Some (touched_more now directory));
}
