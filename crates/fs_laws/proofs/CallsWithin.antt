-- Every call leaves the tree within its bounds.
use Rattle.std.proofs.Common.{◌≡◌, List, refl, ℕ, ◌<◌, Bool, true, false, if◌then◌else◌, Ok, Err}
use Rattle.nfs3_types.specs.declared.args.DirOp.{DirOp}
use Rattle.nfs3_types.specs.declared.args.MkdirArgs.{MkdirArgs}
use Rattle.nfs3_types.specs.declared.body.Body.{Body}
use Rattle.nfs3_types.specs.declared.call.CallOver.TheVariants.{Null, GetAttr, SetAttr, Lookup, Access, ReadLink, Read, Write}
use Rattle.nfs3_types.specs.declared.call.CallOver.TheVariants.{Create, Mkdir, Symlink, Mknod, Remove, Rmdir, Rename, Link}
use Rattle.nfs3_types.specs.declared.call.CallOver.TheVariants.{ReadDir, ReadDirPlus, FsStat, FsInfo, PathConf, Commit}
use Rattle.nfs3_types.specs.declared.cred.Cred.{Cred}
use Rattle.nfs3_types.specs.declared.moment.Moment.{Moment}
use Rattle.nfs3_types.specs.Calls.{Call}
use Rattle.fs_rules.specs.Answers.{Asked, after, row, row_of, tree_by}
use Rattle.fs_rules.specs.Checks.{Check, Row, find_object, told, ◌>>=◌}
use Rattle.fs_rules.specs.Listing.{read_dir, read_dir_plus}
use Rattle.fs_rules.specs.Looking.{lookup}
use Rattle.fs_rules.specs.Places.{Object}
use Rattle.fs_rules.specs.Snapshots.{is_snapshot_directory, mkdir, rmdir}
use Rattle.fs_rules.specs.Sound.{HasBounds}
use Rattle.fs_rules.specs.Telling.{access, fs_info, fs_stat, get_attr, path_conf, read_link}
use Rattle.fs_rules.specs.Transfers.{commit, read}
use Rattle.fs_rules.specs.Tree.{Tree}
use Rattle.fs_laws.proofs.MakingWithin.{create_within, make_directory_within, symlink_within}
use Rattle.fs_laws.proofs.RemovingWithin.{remove_directory_within, remove_within}
use Rattle.fs_laws.proofs.RenamingWithin.{link_within, rename_within}
use Rattle.fs_laws.proofs.SettingWithin.{set_attr_within, write_within}
use Rattle.fs_laws.proofs.SnapshotsWithin.{drop_within, take_within}

-- a call that only reads
told_within : (t : Tree) (c : Check Body) → HasBounds t → HasBounds (tree_by t (told t c))
told_within t (Ok body) h = h
told_within t (Err status) h = h

-- a call whose directory is found first
behind_within : (t : Tree) (c : Check Object) (next : Object → Row) → HasBounds t
    → ((o : Object) → c ≡ Ok o → HasBounds (tree_by t (next o)))
    → HasBounds (tree_by t (c >>= next))
behind_within t (Ok o) next h kept = kept o refl
behind_within t (Err status) next h kept = h

either : (t : Tree) (b : Bool) (x y : Row) → HasBounds (tree_by t x) → HasBounds (tree_by t y)
    → HasBounds (tree_by t (if b then x else y))
either t true x y h k = h
either t false x y h k = k

mkdir_within : (t : Tree) (cred : Cred) (a : MkdirArgs (List ℕ)) (now : Moment) (lane : ℕ) → lane < 16 → HasBounds t
    → HasBounds (tree_by t (mkdir t cred a now lane))
unfolding mkdir
mkdir_within t cred a now lane low h = behind_within t (find_object t a.place.directory) _ h (λ o is.
    either t (is_snapshot_directory o.place) _ _ (take_within t cred a.place.name now h)
    (make_directory_within t cred a now lane o low h is))

rmdir_within : (t : Tree) (cred : Cred) (a : DirOp (List ℕ)) (now : Moment) → HasBounds t
    → HasBounds (tree_by t (rmdir t cred a now))
unfolding rmdir
rmdir_within t cred a now h = behind_within t (find_object t a.directory) _ h (λ o is.
    either t (is_snapshot_directory o.place) _ _ (drop_within t cred a.name now h)
    (remove_directory_within t cred a.name now o h))

call_within : (t : Tree) (cred : Cred) (now : Moment) (lane : ℕ) (call : Call) → lane < 16 → HasBounds t
    → HasBounds (tree_by t (row_of t cred now lane call))
call_within t cred now lane Null low h = h
call_within t cred now lane (GetAttr a) low h = told_within t (get_attr t a) h
call_within t cred now lane (SetAttr a) low h = set_attr_within t cred a now h
call_within t cred now lane (Lookup a) low h = told_within t (lookup t cred a) h
call_within t cred now lane (Access a) low h = told_within t (access t cred a) h
call_within t cred now lane (ReadLink a) low h = told_within t (read_link t a) h
call_within t cred now lane (Read a) low h = told_within t (read t cred a) h
call_within t cred now lane (Write a) low h = write_within t cred a now h
call_within t cred now lane (Create a) low h = create_within t cred a now lane low h
call_within t cred now lane (Mkdir a) low h = mkdir_within t cred a now lane low h
call_within t cred now lane (Symlink a) low h = symlink_within t cred a now lane low h
call_within t cred now lane (Mknod a) low h = h
call_within t cred now lane (Remove a) low h = remove_within t cred a now h
call_within t cred now lane (Rmdir a) low h = rmdir_within t cred a now h
call_within t cred now lane (Rename a) low h = rename_within t cred a now h
call_within t cred now lane (Link a) low h = link_within t cred a now h
call_within t cred now lane (ReadDir a) low h = told_within t (read_dir t cred a) h
call_within t cred now lane (ReadDirPlus a) low h = told_within t (read_dir_plus t cred a) h
call_within t cred now lane (FsStat a) low h = told_within t (fs_stat t a) h
call_within t cred now lane (FsInfo a) low h = told_within t (fs_info t a) h
call_within t cred now lane (PathConf a) low h = told_within t (path_conf t a) h
call_within t cred now lane (Commit a) low h = told_within t (commit t a) h

pub calls_within : (t : Tree) (a : Asked) → a.lane < 16 → HasBounds t → HasBounds (after t a)
unfolding row
calls_within t a low h = call_within t a.cred a.now a.lane a.call low h
