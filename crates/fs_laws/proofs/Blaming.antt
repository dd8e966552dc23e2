-- Which statuses the calls tell: none but OK and those of refusals.
use Rattle.std.proofs.Common.{◌≡◌, ◌≢◌, ℕ, Bool, true, false, List, Option, Some, None, Ok, Err, refl}
use Rattle.nfs3_types.specs.declared.args.AccessArgs.{AccessArgs}
use Rattle.nfs3_types.specs.declared.args.CreateArgs.{CreateArgs}
use Rattle.nfs3_types.specs.declared.args.CreateHow.{CreateHow}
use Rattle.nfs3_types.specs.declared.args.DirOp.{DirOp}
use Rattle.nfs3_types.specs.declared.args.FileRange.{FileRange}
use Rattle.nfs3_types.specs.declared.args.LinkArgs.{LinkArgs}
use Rattle.nfs3_types.specs.declared.args.MkdirArgs.{MkdirArgs}
use Rattle.nfs3_types.specs.declared.args.ReadDirArgs.{ReadDirArgs}
use Rattle.nfs3_types.specs.declared.args.ReadDirPlusArgs.{ReadDirPlusArgs}
use Rattle.nfs3_types.specs.declared.args.RenameArgs.{RenameArgs}
use Rattle.nfs3_types.specs.declared.args.SetAttrArgs.{SetAttrArgs}
use Rattle.nfs3_types.specs.declared.args.SymlinkArgs.{SymlinkArgs}
use Rattle.nfs3_types.specs.declared.args.WriteArgs.{WriteArgs}
use Rattle.nfs3_types.specs.declared.attributes.Fattr.{Fattr}
use Rattle.nfs3_types.specs.declared.attributes.Sattr.{Sattr}
use Rattle.nfs3_types.specs.declared.cred.Cred.{Cred}
use Rattle.nfs3_types.specs.declared.file_type.FileType.{FileType}
use Rattle.nfs3_types.specs.declared.moment.Moment.{Moment}
use Rattle.nfs3_types.specs.declared.status.Status.{Status}
use Rattle.nfs3_types.specs.declared.status.Status.TheVariants.{ServerFault, Jukebox}
use Rattle.nfs3_types.specs.declared.body.Body.{Body}
use Rattle.nfs3_types.specs.declared.call.CallOver.TheVariants.{Null, GetAttr, SetAttr, Lookup, Access, ReadLink, Read, Write}
use Rattle.nfs3_types.specs.declared.call.CallOver.TheVariants.{Create, Mkdir, Symlink, Mknod, Remove, Rmdir, Rename, Link}
use Rattle.nfs3_types.specs.declared.call.CallOver.TheVariants.{ReadDir, ReadDirPlus, FsStat, FsInfo, PathConf, Commit}
use Rattle.nfs3_types.specs.Calls.{Call, procedure_of}
use Rattle.fs_rules.specs.Answers.{Asked, answer, reply_by, row, row_of}
use Rattle.fs_rules.specs.Attributes.{sattr_fault}
use Rattle.fs_rules.specs.Checks.{Check, Done, Row, told, ◌>>=◌}
use Rattle.fs_rules.specs.Listing.{Listed, page, page_behind, page_of, read_dir, read_dir_plus}
use Rattle.fs_rules.specs.Looking.{lookup}
use Rattle.fs_rules.specs.Making.{create, create_plan, make_directory, make_directory_plan, need_free_name, need_new_node}
use Rattle.fs_rules.specs.Making.{new_plan, plan_by, reuse_plan, symlink, symlink_plan}
use Rattle.fs_rules.specs.Places.{Object}
use Rattle.fs_rules.specs.Removing.{find_removable, remove, remove_directory, remove_directory_plan, remove_plan}
use Rattle.fs_rules.specs.Renaming.{Renaming, allow_move, find_renaming, link, link_plan, need_room, rename, rename_plan}
use Rattle.fs_rules.specs.Setting.{set_attr, set_attr_plan}
use Rattle.fs_rules.specs.Snapshots.{drop_snapshot, is_snapshot_directory, mkdir, need_new_snapshot, need_snapshot, rmdir}
use Rattle.fs_rules.specs.Snapshots.{take_snapshot}
use Rattle.fs_rules.specs.Telling.{access, fs_info, fs_stat, get_attr, path_conf, read_link}
use Rattle.fs_rules.specs.Transfers.{commit, read, write, write_plan}
use Rattle.fs_rules.specs.Tree.{Tree}
use Rattle.fs_rules.specs.declared.inode.Inode.{Inode}
use Rattle.fs_rules.specs.declared.name_entry.NameEntry.{NameEntry}
use Rattle.fs_rules.specs.declared.plans.Climb.{Climb}
use Rattle.fs_rules.specs.declared.plans.Climb.TheVariants.{Found, Root, TooDeep}
use Rattle.fs_laws.proofs.Checked.{Any, IsRefusal, Refuses, Shows, checks, either_refuses, either_shows, find_object_shows}
use Rattle.fs_laws.proofs.Checked.{in_turn, no_refuses, some_refuses, target_fault_refuses}

-- ---- of calls that only read

pub get_attr_shows : (t : Tree) (handle : List ℕ) → Shows Any (get_attr t handle)
unfolding get_attr
get_attr_shows t handle = search checks

pub lookup_shows : (t : Tree) (cred : Cred) (a : DirOp (List ℕ)) → Shows Any (lookup t cred a)
unfolding lookup
lookup_shows t cred a = search checks depth 14

pub access_shows : (t : Tree) (cred : Cred) (a : AccessArgs (List ℕ)) → Shows Any (access t cred a)
unfolding access
access_shows t cred a = search checks

pub read_link_shows : (t : Tree) (handle : List ℕ) → Shows Any (read_link t handle)
unfolding read_link
read_link_shows t handle = search checks

pub read_shows : (t : Tree) (cred : Cred) (a : FileRange (List ℕ)) → Shows Any (read t cred a)
unfolding read
read_shows t cred a = search checks

pub page_shows : (t : Tree) (cred : Cred) (size : Listed → ℕ) (a : ReadDirArgs (List ℕ)) → Shows Any (page t cred size a)
unfolding page page_behind page_of
page_shows t cred size a = search checks depth 12

pub read_dir_shows : (t : Tree) (cred : Cred) (a : ReadDirArgs (List ℕ)) → Shows Any (read_dir t cred a)
unfolding read_dir
read_dir_shows t cred a = search (checks, page_shows)

pub read_dir_plus_shows : (t : Tree) (cred : Cred) (a : ReadDirPlusArgs (List ℕ)) → Shows Any (read_dir_plus t cred a)
unfolding read_dir_plus
read_dir_plus_shows t cred a = search (checks, page_shows)

pub fs_stat_shows : (t : Tree) (handle : List ℕ) → Shows Any (fs_stat t handle)
unfolding fs_stat
fs_stat_shows t handle = search checks

pub fs_info_shows : (t : Tree) (handle : List ℕ) → Shows Any (fs_info t handle)
unfolding fs_info
fs_info_shows t handle = search checks

pub path_conf_shows : (t : Tree) (handle : List ℕ) → Shows Any (path_conf t handle)
unfolding path_conf
path_conf_shows t handle = search checks

pub commit_shows : (t : Tree) (a : FileRange (List ℕ)) → Shows Any (commit t a)
unfolding commit
commit_shows t a = search checks

-- ---- SETATTR and WRITE

sattr_fault_refuses : (cred : Cred) (a : Fattr) (s : Sattr) → Refuses (sattr_fault cred a s)
unfolding sattr_fault
sattr_fault_refuses cred a s = search (either_refuses, some_refuses, no_refuses) depth 16

pub set_attr_shows : (t : Tree) (cred : Cred) (a : SetAttrArgs (List ℕ)) (now : Moment) → Shows Any (set_attr_plan t cred a now)
unfolding set_attr_plan
set_attr_shows t cred a now = search (checks, sattr_fault_refuses) depth 12

pub write_shows : (t : Tree) (cred : Cred) (a : WriteArgs (List ℕ)) → Shows Any (write_plan t cred a)
unfolding write_plan
write_shows t cred a = search checks depth 12

-- ---- what is made

need_new_node_shows : (t : Tree) (cred : Cred) (lane : ℕ) (directory : Inode) (kind : FileType) (s : Sattr)
    → Shows Any (need_new_node t cred lane directory kind s)
unfolding need_new_node
need_new_node_shows t cred lane directory kind s = search checks depth 12

need_free_name_shows : (t : Tree) (cred : Cred) (directory : Object) (name : List ℕ)
    → Shows Any (need_free_name t cred directory name)
unfolding need_free_name
need_free_name_shows t cred directory name = search checks

pub make_directory_shows : (t : Tree) (cred : Cred) (a : MkdirArgs (List ℕ)) (lane : ℕ) (o : Object)
    → Shows Any (make_directory_plan t cred a lane o)
unfolding make_directory_plan
make_directory_shows t cred a lane o = search (checks, need_free_name_shows, need_new_node_shows)

pub symlink_shows : (t : Tree) (cred : Cred) (a : SymlinkArgs (List ℕ)) (lane : ℕ) → Shows Any (symlink_plan t cred a lane)
unfolding symlink_plan
symlink_shows t cred a lane = search (checks, need_free_name_shows, need_new_node_shows, target_fault_refuses) depth 14

reuse_shows : (t : Tree) (cred : Cred) (directory : Object) (e : NameEntry) (how : CreateHow)
    → Shows Any (reuse_plan t cred directory e how)
unfolding reuse_plan
reuse_shows t cred directory e how = search checks depth 12

new_shows : (t : Tree) (cred : Cred) (directory : Object) (how : CreateHow) (lane : ℕ)
    → Shows Any (new_plan t cred directory how lane)
unfolding new_plan
new_shows t cred directory how lane = search (checks, need_new_node_shows)

plan_by_shows : (t : Tree) (cred : Cred) (directory : Object) (e : Option NameEntry) (how : CreateHow) (lane : ℕ)
    → Shows Any (plan_by t cred directory e how lane)
plan_by_shows t cred directory (Some e) how lane = reuse_shows t cred directory e how
plan_by_shows t cred directory None how lane = new_shows t cred directory how lane

pub create_shows : (t : Tree) (cred : Cred) (a : CreateArgs (List ℕ)) (lane : ℕ) → Shows Any (create_plan t cred a lane)
unfolding create_plan
create_shows t cred a lane = search (checks, plan_by_shows)

-- ---- REMOVE and RMDIR

find_removable_shows : (t : Tree) (cred : Cred) (directory : Object) (name : List ℕ)
    → Shows Any (find_removable t cred directory name)
unfolding find_removable
find_removable_shows t cred directory name = search checks

pub remove_shows : (t : Tree) (cred : Cred) (a : DirOp (List ℕ)) → Shows Any (remove_plan t cred a)
unfolding remove_plan
remove_shows t cred a = search (checks, find_removable_shows)

pub remove_directory_shows : (t : Tree) (cred : Cred) (name : List ℕ) (o : Object)
    → Shows Any (remove_directory_plan t cred name o)
unfolding remove_directory_plan
remove_directory_shows t cred name o = search (checks, find_removable_shows) depth 14

-- ---- RENAME and LINK

find_renaming_shows : (t : Tree) (cred : Cred) (a : RenameArgs (List ℕ)) → Shows Any (find_renaming t cred a)
unfolding find_renaming
find_renaming_shows t cred a = search checks depth 32

allow_move_shows : (way : Climb) → Shows Any (allow_move way)
allow_move_shows TooDeep = record { is = refl }
allow_move_shows Found = record { is = refl }
allow_move_shows Root = record { is = tt }

need_room_shows : (t : Tree) (r : Renaming) → Shows Any (need_room t r)
unfolding need_room
need_room_shows t r = search (checks, allow_move_shows, either_shows) depth 12

pub rename_shows : (t : Tree) (cred : Cred) (a : RenameArgs (List ℕ)) → Shows Any (rename_plan t cred a)
unfolding rename_plan
rename_shows t cred a = search (checks, find_renaming_shows, need_room_shows, either_shows)

pub link_shows : (t : Tree) (cred : Cred) (a : LinkArgs (List ℕ)) → Shows Any (link_plan t cred a)
unfolding link_plan
link_shows t cred a = search (checks, need_free_name_shows) depth 28

-- ---- snapshots

pub need_new_snapshot_shows : (t : Tree) (cred : Cred) (name : List ℕ) → Shows Any (need_new_snapshot t cred name)
unfolding need_new_snapshot
need_new_snapshot_shows t cred name = search checks depth 12

pub need_snapshot_shows : (t : Tree) (cred : Cred) (name : List ℕ) → Shows Any (need_snapshot t cred name)
unfolding need_snapshot
need_snapshot_shows t cred name = search checks depth 12

-- ---- rows

told_shows : (t : Tree) (c : Check Body) → Shows Any c → Shows Any (told t c)
told_shows t c h = in_turn Any h (λ body. record { is = tt })

done_shows : {Plan : Type 0} (c : Check Plan) (f : Plan → Done) → Shows Any c → Shows Any (c >>= (λ plan. Ok (f plan)))
done_shows c f h = in_turn Any h (λ plan. record { is = tt })

row_shows : (t : Tree) (cred : Cred) (now : Moment) (lane : ℕ) (call : Call) → Shows Any (row_of t cred now lane call)
unfolding set_attr write create mkdir make_directory take_snapshot symlink remove rmdir remove_directory drop_snapshot rename link
row_shows t cred now lane Null = record { is = tt }
row_shows t cred now lane (GetAttr a) = told_shows t _ (get_attr_shows t a)
row_shows t cred now lane (SetAttr a) = done_shows _ _ (set_attr_shows t cred a now)
row_shows t cred now lane (Lookup a) = told_shows t _ (lookup_shows t cred a)
row_shows t cred now lane (Access a) = told_shows t _ (access_shows t cred a)
row_shows t cred now lane (ReadLink a) = told_shows t _ (read_link_shows t a)
row_shows t cred now lane (Read a) = told_shows t _ (read_shows t cred a)
row_shows t cred now lane (Write a) = done_shows _ _ (write_shows t cred a)
row_shows t cred now lane (Create a) = done_shows _ _ (create_shows t cred a lane)
row_shows t cred now lane (Mkdir a) = in_turn Any (find_object_shows t a.place.directory) (λ o.
    either_shows Any (is_snapshot_directory o.place) _ _ (done_shows _ _ (need_new_snapshot_shows t cred a.place.name))
    (done_shows _ _ (make_directory_shows t cred a lane o)))
row_shows t cred now lane (Symlink a) = done_shows _ _ (symlink_shows t cred a lane)
row_shows t cred now lane (Mknod a) = record { is = refl }
row_shows t cred now lane (Remove a) = done_shows _ _ (remove_shows t cred a)
row_shows t cred now lane (Rmdir a) = in_turn Any (find_object_shows t a.directory) (λ o.
    either_shows Any (is_snapshot_directory o.place) _ _ (done_shows _ _ (need_snapshot_shows t cred a.name))
    (done_shows _ _ (remove_directory_shows t cred a.name o)))
row_shows t cred now lane (Rename a) = done_shows _ _ (rename_shows t cred a)
row_shows t cred now lane (Link a) = done_shows _ _ (link_shows t cred a)
row_shows t cred now lane (ReadDir a) = told_shows t _ (read_dir_shows t cred a)
row_shows t cred now lane (ReadDirPlus a) = told_shows t _ (read_dir_plus_shows t cred a)
row_shows t cred now lane (FsStat a) = told_shows t _ (fs_stat_shows t a)
row_shows t cred now lane (FsInfo a) = told_shows t _ (fs_info_shows t a)
row_shows t cred now lane (PathConf a) = told_shows t _ (path_conf_shows t a)
row_shows t cred now lane (Commit a) = told_shows t _ (commit_shows t a)

-- ---- replies

abbrev is_blame : Status → Bool
is_blame ServerFault = true
is_blame Jukebox = true
is_blame status = false

refusal_blames : (status : Status) → IsRefusal status → is_blame status ≡ false
refusal_blames ServerFault h = absurd cc
refusal_blames Jukebox h = absurd cc
refusal_blames status h = refl

-- the reply does not say that the server failed or is to be called again later
reply_blames : (procedure : ℕ) (r : Row) → Shows Any r → is_blame (reply_by procedure r).status ≡ false
reply_blames procedure (Ok d) h = refl
reply_blames procedure (Err status) h = refusal_blames status h.is

answer_blames : (t : Tree) (a : Asked) → is_blame (answer t a).status ≡ false
unfolding row
answer_blames t a = reply_blames (procedure_of a.call) (row_of t a.cred a.now a.lane a.call)
    (row_shows t a.cred a.now a.lane a.call)

pub no_fault_told : (t : Tree) (a : Asked) → (answer t a).status ≢ ServerFault
no_fault_told t a e = let h = rw e at (answer_blames t a) in absurd cc

pub no_jukebox_told : (t : Tree) (a : Asked) → (answer t a).status ≢ Jukebox
no_jukebox_told t a e = let h = rw e at (answer_blames t a) in absurd cc
