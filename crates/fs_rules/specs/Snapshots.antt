-- MKDIR and RMDIR. In the directory `.snapshot`, MKDIR takes a snapshot and RMDIR drops one: snapshots are this
-- service's own; their files are read as any others, and never change.
use Rattle.std.specs.Prelude.{◌+◌, ◌==◌, ◌||◌, if◌then◌else◌, ◌∷◌, ◌++◌}
use Rattle.fs_rules.specs.Words.{ℕ, nat_le, Bool, true, false, not, List, [], length, filter, bytes_eq, is_some, DirOp, MkdirArgs}
use Rattle.fs_rules.specs.Words.{Mkdir, Rmdir, Cred, Moment, Acces, Exist, Inval, NoEnt, NoSpc, Place, SnapshotDirectory, Kept}
use Rattle.fs_rules.specs.Words.{Times}
use Rattle.fs_rules.specs.Shared.{Check, Row, ◌>>=◌, done, find_object, need, need_good_name, refuse_if, last_epoch}
use Rattle.fs_rules.specs.Shared.{most_snapshots, is_dot, is_dot_dot, is_dots, change, entry_at, Tree}
use Rattle.fs_rules.specs.{Making.make_directory, Making.told_of_new, Removing.remove_directory}

abbrev pub touch_times : Moment → Times → Times
touch_times now times = record times { mtime = now; ctime = now }

abbrev pub has_snapshot : Tree → List ℕ → Bool
has_snapshot t name = is_some (entry_at t SnapshotDirectory name)

unfoldable pub need_new_snapshot : Tree → Cred → List ℕ → Check (Unit {0})
need_new_snapshot t cred name = do
  _ ← need_good_name name
  _ ← need (cred.uid == 0) Acces
  _ ← refuse_if (is_dots name || has_snapshot t name) Exist
  _ ← refuse_if (nat_le most_snapshots (length t.snapshots)) NoSpc
  refuse_if (nat_le last_epoch t.epoch) NoSpc

-- a whole copy of the live tree
unfoldable pub add_snapshot : Moment → List ℕ → Tree → Tree
add_snapshot now name t = record t {
  epoch = t.epoch + 1;
  snapshot_times = touch_times now t.snapshot_times;
  snapshots = t.snapshots ++ record { name = name; number = t.epoch; nodes = t.nodes } ∷ [];
}

unfoldable pub take_snapshot : Tree → Cred → List ℕ → Moment → Row
take_snapshot t cred name now =
    done (need_new_snapshot t cred name)
    (λ plan. add_snapshot now name t)
    (λ plan after. Mkdir (told_of_new t after SnapshotDirectory (Kept t.epoch 1)))

unfoldable pub need_snapshot : Tree → Cred → List ℕ → Check (Unit {0})
need_snapshot t cred name = do
  _ ← need_good_name name
  _ ← refuse_if (is_dot name) Inval
  _ ← refuse_if (is_dot_dot name) Exist
  _ ← need (cred.uid == 0) Acces
  need (has_snapshot t name) NoEnt

unfoldable pub drop_named : Moment → List ℕ → Tree → Tree
drop_named now name t = record t {
  snapshot_times = touch_times now t.snapshot_times;
  snapshots = filter (λ s. not (bytes_eq s.name name)) t.snapshots;
}

unfoldable pub drop_snapshot : Tree → Cred → List ℕ → Moment → Row
drop_snapshot t cred name now =
    done (need_snapshot t cred name)
    (λ plan. drop_named now name t)
    (λ plan after. Rmdir (change t after SnapshotDirectory))

abbrev pub is_snapshot_directory : Place → Bool
is_snapshot_directory SnapshotDirectory = true
is_snapshot_directory place = false

unfoldable pub mkdir : Tree → Cred → MkdirArgs (List ℕ) → Moment → ℕ → Row
mkdir t cred a now lane = do
  o ← find_object t a.place.directory
  if is_snapshot_directory o.place then take_snapshot t cred a.place.name now else make_directory t cred a now lane o

unfoldable pub rmdir : Tree → Cred → DirOp (List ℕ) → Moment → Row
rmdir t cred a now = do
  o ← find_object t a.directory
  if is_snapshot_directory o.place then drop_snapshot t cred a.name now else remove_directory t cred a.name now o
