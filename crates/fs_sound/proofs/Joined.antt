-- Every call leaves a sound tree sound.
use Rattle.std.proofs.Common.{ℕ, ◌<◌, List}
use Rattle.std.specs.List.{All}
use Rattle.nfs3_types.specs.declared.args.DirOp.{DirOp}
use Rattle.nfs3_types.specs.declared.args.MkdirArgs.{MkdirArgs}
use Rattle.nfs3_types.specs.declared.call.CallOver.TheVariants.{Null, GetAttr, SetAttr, Lookup, Access, ReadLink, Read, Write}
use Rattle.nfs3_types.specs.declared.call.CallOver.TheVariants.{Create, Mkdir, Symlink, Mknod, Remove, Rmdir, Rename, Link}
use Rattle.nfs3_types.specs.declared.call.CallOver.TheVariants.{ReadDir, ReadDirPlus, FsStat, FsInfo, PathConf, Commit}
use Rattle.nfs3_types.specs.declared.cred.Cred.{Cred}
use Rattle.nfs3_types.specs.declared.moment.Moment.{Moment}
use Rattle.nfs3_types.specs.Calls.{Call}
use Rattle.fs_rules.specs.Answers.{Asked, after, row, row_of, tree_by}
use Rattle.fs_rules.specs.Checks.{find_object}
use Rattle.fs_rules.specs.Listing.{read_dir, read_dir_plus}
use Rattle.fs_rules.specs.Looking.{lookup}
use Rattle.fs_rules.specs.Snapshots.{is_snapshot_directory, mkdir, rmdir}
use Rattle.fs_rules.specs.Sound.{HangTogether, HasBounds, IsSound}
use Rattle.fs_rules.specs.Telling.{access, fs_info, fs_stat, get_attr, path_conf, read_link}
use Rattle.fs_rules.specs.Transfers.{commit, read}
use Rattle.fs_rules.specs.Tree.{Snapshot, Tree}
use Rattle.fs_laws.proofs.Copies.{create_kept, either_has, link_kept, make_directory_kept, remove_directory_kept, remove_kept}
use Rattle.fs_laws.proofs.Copies.{rename_kept, set_attr_kept, symlink_kept, then_has, told_has, write_kept}
use Rattle.fs_sound.proofs.Kept.{AllHang, drop_snapshot_hangs, set_attr_hangs, take_snapshot_hangs, write_hangs}
use Rattle.fs_sound.proofs.Linked.{link_hangs}
use Rattle.fs_sound.proofs.Made.{create_hangs, make_directory_hangs, symlink_hangs}
use Rattle.fs_sound.proofs.Moved.{rename_hangs}
use Rattle.fs_sound.proofs.Removed.{remove_directory_hangs, remove_hangs}

abbrev AreHanging : List Snapshot → Type 0
AreHanging snapshots = All (λ s. HangTogether s.nodes) snapshots

mkdir_all : (t : Tree) (cred : Cred) (a : MkdirArgs (List ℕ)) (now : Moment) (lane : ℕ) → lane < 16 → IsSound t → AllHang t
    → AllHang (tree_by t (mkdir t cred a now lane))
unfolding mkdir
mkdir_all t cred a now lane low s h = then_has AllHang t (find_object t a.place.directory) _ h (λ o is.
    either_has AllHang t (is_snapshot_directory o.place) _ _ (λ there. take_snapshot_hangs t cred a.place.name now h)
    (record {
      live = make_directory_hangs t cred a now lane o low s is;
      kept = make_directory_kept AreHanging t cred a now lane
          o s.kept;
    }))

rmdir_all : (t : Tree) (cred : Cred) (a : DirOp (List ℕ)) (now : Moment) → IsSound t → AllHang t
    → AllHang (tree_by t (rmdir t cred a now))
unfolding rmdir
rmdir_all t cred a now s h = then_has AllHang t (find_object t a.directory) _ h (λ o is.
    either_has AllHang t (is_snapshot_directory o.place) _ _ (λ there. drop_snapshot_hangs t cred a.name now h)
    (record {
      live = remove_directory_hangs t cred a.directory a.name now o s is;
      kept = remove_directory_kept AreHanging t cred
          a.name now o s.kept;
    }))

hangs_of : (t : Tree) (cred : Cred) (now : Moment) (lane : ℕ) (call : Call) → lane < 16 → IsSound t → AllHang t
    → AllHang (tree_by t (row_of t cred now lane call))
hangs_of t cred now lane Null low s h = h
hangs_of t cred now lane (GetAttr a) low s h = told_has AllHang t (get_attr t a) h
hangs_of t cred now lane (SetAttr a) low s h =
    record { live = set_attr_hangs t cred a now s.live; kept = set_attr_kept AreHanging t cred a now s.kept }
hangs_of t cred now lane (Lookup a) low s h = told_has AllHang t (lookup t cred a) h
hangs_of t cred now lane (Access a) low s h = told_has AllHang t (access t cred a) h
hangs_of t cred now lane (ReadLink a) low s h = told_has AllHang t (read_link t a) h
hangs_of t cred now lane (Read a) low s h = told_has AllHang t (read t cred a) h
hangs_of t cred now lane (Write a) low s h =
    record { live = write_hangs t cred a now s.live; kept = write_kept AreHanging t cred a now s.kept }
hangs_of t cred now lane (Create a) low s h =
    record { live = create_hangs t cred a now lane low s; kept = create_kept AreHanging t cred a now lane s.kept }
hangs_of t cred now lane (Mkdir a) low s h = mkdir_all t cred a now lane low s h
hangs_of t cred now lane (Symlink a) low s h =
    record { live = symlink_hangs t cred a now lane low s; kept = symlink_kept AreHanging t cred a now lane s.kept }
hangs_of t cred now lane (Mknod a) low s h = h
hangs_of t cred now lane (Remove a) low s h =
    record { live = remove_hangs t cred a now s; kept = remove_kept AreHanging t cred a now s.kept }
hangs_of t cred now lane (Rmdir a) low s h = rmdir_all t cred a now s h
hangs_of t cred now lane (Rename a) low s h =
    record { live = rename_hangs t cred a now s; kept = rename_kept AreHanging t cred a now s.kept }
hangs_of t cred now lane (Link a) low s h =
    record { live = link_hangs t cred a now s; kept = link_kept AreHanging t cred a now s.kept }
hangs_of t cred now lane (ReadDir a) low s h = told_has AllHang t (read_dir t cred a) h
hangs_of t cred now lane (ReadDirPlus a) low s h = told_has AllHang t (read_dir_plus t cred a) h
hangs_of t cred now lane (FsStat a) low s h = told_has AllHang t (fs_stat t a) h
hangs_of t cred now lane (FsInfo a) low s h = told_has AllHang t (fs_info t a) h
hangs_of t cred now lane (PathConf a) low s h = told_has AllHang t (path_conf t a) h
hangs_of t cred now lane (Commit a) low s h = told_has AllHang t (commit t a) h

-- the tree after a call hangs together, and so do its snapshots
pub hangs : (t : Tree) (a : Asked) → a.lane < 16 → IsSound t → AllHang (after t a)
unfolding row
hangs t a low s = hangs_of t a.cred a.now a.lane a.call low s (record { live = s.live; kept = s.kept })

-- with its bounds, it is sound
pub calls_keep : (t : Tree) (a : Asked) → a.lane < 16 → IsSound t → HasBounds (after t a) → IsSound (after t a)
calls_keep t a low s b =
    let h = hangs t a low s in
    record { bounds = b; live = h.live; kept = h.kept }
