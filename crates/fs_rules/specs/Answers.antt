-- The answer table: the reply to each call on each tree, and the tree after it (RFC 1813, section 3.3).
use Rattle.fs_rules.specs.Words.{ℕ, Bool, true, false, not, Ok, Err, NullBody, Nothing, Cred, Moment, Reply, StatusOk, NotSupp}
use Rattle.fs_rules.specs.Words.{Call, procedure_of}
use Rattle.nfs3_types.specs.declared.call.CallOver.TheVariants.{Null, GetAttr, SetAttr, Lookup, Access, ReadLink, Read, Write}
use Rattle.nfs3_types.specs.declared.call.CallOver.TheVariants.{Create, Mkdir, Symlink, Mknod, Remove, Rmdir, Rename, Link}
use Rattle.nfs3_types.specs.declared.call.CallOver.TheVariants.{ReadDir, ReadDirPlus, FsStat, FsInfo, PathConf, Commit}
use Rattle.fs_rules.specs.Shared.{Row, told, Tree}
use Rattle.fs_rules.specs.{Listing.read_dir, Listing.read_dir_plus, Looking.lookup, Making.create, Making.symlink}
use Rattle.fs_rules.specs.{Removing.remove, Renaming.link, Renaming.rename, Setting.set_attr, Snapshots.mkdir, Snapshots.rmdir}
use Rattle.fs_rules.specs.{Telling.access, Telling.fs_info, Telling.fs_stat, Telling.get_attr, Telling.path_conf}
use Rattle.fs_rules.specs.{Telling.read_link, Transfers.commit, Transfers.read, Transfers.write}

-- what of a call counts: who calls, what, at which moment, and the lane of the numbers of new files
pub record Asked : Type 0 where
  pub cred : Cred
  pub call : Call
  pub now : Moment
  pub lane : ℕ

-- a call that can change the tree, and one that looks at the tree alone
abbrev pub is_changing : Call → Bool
is_changing (SetAttr a) = true
is_changing (Write a) = true
is_changing (Create a) = true
is_changing (Mkdir a) = true
is_changing (Symlink a) = true
is_changing (Remove a) = true
is_changing (Rmdir a) = true
is_changing (Rename a) = true
is_changing (Link a) = true
is_changing call = false

abbrev pub only_reads : Call → Bool
only_reads Null = false
only_reads (Mknod a) = false
only_reads call = not (is_changing call)

abbrev pub row_of : Tree → Cred → Moment → ℕ → Call → Row
row_of t cred now lane Null = Ok (record { body = NullBody; tree = t })
row_of t cred now lane (GetAttr a) = told t (get_attr t a)
row_of t cred now lane (SetAttr a) = set_attr t cred a now
row_of t cred now lane (Lookup a) = told t (lookup t cred a)
row_of t cred now lane (Access a) = told t (access t cred a)
row_of t cred now lane (ReadLink a) = told t (read_link t a)
row_of t cred now lane (Read a) = told t (read t cred a)
row_of t cred now lane (Write a) = write t cred a now
row_of t cred now lane (Create a) = create t cred a now lane
row_of t cred now lane (Mkdir a) = mkdir t cred a now lane
row_of t cred now lane (Symlink a) = symlink t cred a now lane
row_of t cred now lane (Mknod a) = Err NotSupp
row_of t cred now lane (Remove a) = remove t cred a now
row_of t cred now lane (Rmdir a) = rmdir t cred a now
row_of t cred now lane (Rename a) = rename t cred a now
row_of t cred now lane (Link a) = link t cred a now
row_of t cred now lane (ReadDir a) = told t (read_dir t cred a)
row_of t cred now lane (ReadDirPlus a) = told t (read_dir_plus t cred a)
row_of t cred now lane (FsStat a) = told t (fs_stat t a)
row_of t cred now lane (FsInfo a) = told t (fs_info t a)
row_of t cred now lane (PathConf a) = told t (path_conf t a)
row_of t cred now lane (Commit a) = told t (commit t a)

unfoldable pub row : Tree → Asked → Row
row t a = row_of t a.cred a.now a.lane a.call

-- a refused call tells nothing but its status, and leaves the tree as it was
abbrev pub reply_by : ℕ → Row → Reply
reply_by procedure (Ok d) = record { procedure = procedure; status = StatusOk; body = d.body }
reply_by procedure (Err status) = record { procedure = procedure; status = status; body = Nothing }

abbrev pub tree_by : Tree → Row → Tree
tree_by t (Ok d) = d.tree
tree_by t (Err status) = t

abbrev pub answer : Tree → Asked → Reply
answer t a = reply_by (procedure_of a.call) (row t a)

abbrev pub after : Tree → Asked → Tree
after t a = tree_by t (row t a)
