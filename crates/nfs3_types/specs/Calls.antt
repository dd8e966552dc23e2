-- What calls take (RFC 1813, section 3.3).
use Rattle.std.specs.Prelude.{ℕ, ◌-◌, ◌^◌, ◌==◌, List, Option, Some, None}
use Rattle.xdr_grammar.specs.Grammar.{Grammar, ◌at◌, ◌>>=◌, done}
use Rattle.xdr_grammar.specs.Items.{word, hyper, pick, fixed, string}
use Rattle.xdr_grammar.specs.Choices.{either, in_case}
use Rattle.nfs3_types.specs.declared.procedure.Procedure.{Procedure}
use Rattle.nfs3_types.specs.declared.procedure.Procedure.TheVariants as procedures
use Rattle.nfs3_types.specs.declared.args.AccessArgs.{AccessArgs}
use Rattle.nfs3_types.specs.declared.args.CreateArgs.{CreateArgs}
use Rattle.nfs3_types.specs.declared.args.CreateHow.{CreateHow}
use Rattle.nfs3_types.specs.declared.args.DeviceData.{DeviceData}
use Rattle.nfs3_types.specs.declared.args.DirOp.{DirOp}
use Rattle.nfs3_types.specs.declared.args.FileRange.{FileRange}
use Rattle.nfs3_types.specs.declared.args.LinkArgs.{LinkArgs}
use Rattle.nfs3_types.specs.declared.args.MkdirArgs.{MkdirArgs}
use Rattle.nfs3_types.specs.declared.args.MknodArgs.{MknodArgs}
use Rattle.nfs3_types.specs.declared.args.MknodData.{MknodData}
use Rattle.nfs3_types.specs.declared.args.ReadDirArgs.{ReadDirArgs}
use Rattle.nfs3_types.specs.declared.args.ReadDirPlusArgs.{ReadDirPlusArgs}
use Rattle.nfs3_types.specs.declared.args.RenameArgs.{RenameArgs}
use Rattle.nfs3_types.specs.declared.args.SetAttrArgs.{SetAttrArgs}
use Rattle.nfs3_types.specs.declared.args.SymlinkArgs.{SymlinkArgs}
use Rattle.nfs3_types.specs.declared.args.WriteArgs.{WriteArgs}
use Rattle.nfs3_types.specs.declared.args.CreateHow.TheVariants.{Unchecked, Guarded, Exclusive}
use Rattle.nfs3_types.specs.declared.args.MknodData.TheVariants.{Chr, Blk, Sock, Fifo, Other}
use Rattle.nfs3_types.specs.declared.attributes.Sattr.{Sattr}
use Rattle.nfs3_types.specs.declared.call.CallOver.{CallOver}
use Rattle.nfs3_types.specs.declared.call.CallOver.TheVariants.{Null, GetAttr, SetAttr, Lookup, Access, ReadLink, Read, Write}
use Rattle.nfs3_types.specs.declared.call.CallOver.TheVariants.{Create, Mkdir, Symlink, Mknod, Remove, Rmdir, Rename, Link}
use Rattle.nfs3_types.specs.declared.call.CallOver.TheVariants.{ReadDir, ReadDirPlus, FsStat, FsInfo, PathConf, Commit}
use Rattle.nfs3_types.specs.declared.file_type.FileType.{FileType}
use Rattle.nfs3_types.specs.declared.file_type.FileType.TheVariants.{Reg, Dir, Lnk}
use Rattle.nfs3_types.specs.declared.file_type.FileType.TheVariants.{Chr as TypeChr, Blk as TypeBlk, Sock as TypeSock}
use Rattle.nfs3_types.specs.declared.file_type.FileType.TheVariants.{Fifo as TypeFifo}
use Rattle.nfs3_types.specs.FileTypes.{file_type}
use Rattle.nfs3_types.specs.Procedures.{procedure_number, procedure_at}
use Rattle.nfs3_types.specs.Stability.{stable_how}
use Rattle.nfs3_types.specs.Handles.{file_handle}
use Rattle.nfs3_types.specs.Attributes.{spec_data, optional_time, sattr}

-- a text with no other bound than its length's word: a name (filename3), a path (nfspath3), content
unfoldable pub text : Grammar (List ℕ)
text = string (2 ^ 32 - 1)

-- eight bytes that a server or a client made up (cookieverf3, createverf3, writeverf3)
unfoldable pub verifier : Grammar (List ℕ)
verifier = fixed 8

-- a name in a directory (section 2.6, diropargs3)
unfoldable pub dir_op : Grammar (DirOp (List ℕ))
dir_op = do
  directory ← file_handle at (λ d. d.directory)
  name ← text at (λ d. d.name)
  done (record { directory = directory; name = name })

-- ---- arguments, by procedure

-- SETATTR (3.3.2)
unfoldable pub set_attr_args : Grammar (SetAttrArgs (List ℕ))
set_attr_args = do
  object ← file_handle at (λ a. a.object)
  attributes ← sattr at (λ a. a.attributes)
  guard ← optional_time at (λ a. a.guard)
  done (record { object = object; attributes = attributes; guard = guard })

-- ACCESS (3.3.4)
unfoldable pub access_args : Grammar (AccessArgs (List ℕ))
access_args = do
  object ← file_handle at (λ a. a.object)
  access ← word at (λ a. a.access)
  done (record { object = object; access = access })

-- READ (3.3.6) and COMMIT (3.3.21)
unfoldable pub file_range : Grammar (FileRange (List ℕ))
file_range = do
  file ← file_handle at (λ a. a.file)
  offset ← hyper at (λ a. a.offset)
  count ← word at (λ a. a.count)
  done (record { file = file; offset = offset; count = count })

-- WRITE (3.3.7)
unfoldable pub write_args : Grammar (WriteArgs (List ℕ))
write_args = do
  file ← file_handle at (λ a. a.file)
  offset ← hyper at (λ a. a.offset)
  count ← word at (λ a. a.count)
  stable ← stable_how at (λ a. a.stable)
  «data» ← text at (λ a. a.«data»)
  done (record { file = file; offset = offset; count = count; stable = stable; «data» = «data» })

-- createmode3: UNCHECKED, GUARDED or EXCLUSIVE
abbrev pub create_mode : CreateHow → ℕ
create_mode (Unchecked s) = 0
create_mode (Guarded s) = 1
create_mode (Exclusive v) = 2

abbrev pub unchecked_of : CreateHow → Option Sattr
unchecked_of (Unchecked s) = Some s
unchecked_of _ = None

abbrev pub guarded_of : CreateHow → Option Sattr
guarded_of (Guarded s) = Some s
guarded_of _ = None

abbrev pub exclusive_of : CreateHow → Option (List ℕ)
exclusive_of (Exclusive v) = Some v
exclusive_of _ = None

-- createhow3
unfoldable pub create_how : Grammar CreateHow
create_how = do
  mode ← pick 0 2 at create_mode
  either (mode == 0) (in_case Unchecked unchecked_of sattr)
      (either (mode == 1) (in_case Guarded guarded_of sattr) (in_case Exclusive exclusive_of verifier))

-- CREATE (3.3.8)
unfoldable pub create_args : Grammar (CreateArgs (List ℕ))
create_args = do
  place ← dir_op at (λ a. a.place)
  how ← create_how at (λ a. a.how)
  done (record { place = place; how = how })

-- MKDIR (3.3.9)
unfoldable pub mkdir_args : Grammar (MkdirArgs (List ℕ))
mkdir_args = do
  place ← dir_op at (λ a. a.place)
  attributes ← sattr at (λ a. a.attributes)
  done (record { place = place; attributes = attributes })

-- SYMLINK (3.3.10)
unfoldable pub symlink_args : Grammar (SymlinkArgs (List ℕ))
symlink_args = do
  place ← dir_op at (λ a. a.place)
  attributes ← sattr at (λ a. a.attributes)
  target ← text at (λ a. a.target)
  done (record { place = place; attributes = attributes; target = target })

-- devicedata3
unfoldable pub device_data : Grammar DeviceData
device_data = do
  attributes ← sattr at (λ d. d.attributes)
  spec ← spec_data at (λ d. d.spec)
  done (record { attributes = attributes; spec = spec })

abbrev pub what_type : MknodData → FileType
what_type (Chr d) = TypeChr
what_type (Blk d) = TypeBlk
what_type (Sock s) = TypeSock
what_type (Fifo s) = TypeFifo
what_type (Other t) = t

abbrev pub chr_of : MknodData → Option DeviceData
chr_of (Chr d) = Some d
chr_of _ = None

abbrev pub blk_of : MknodData → Option DeviceData
blk_of (Blk d) = Some d
blk_of _ = None

abbrev pub sock_of : MknodData → Option Sattr
sock_of (Sock s) = Some s
sock_of _ = None

abbrev pub fifo_of : MknodData → Option Sattr
fifo_of (Fifo s) = Some s
fifo_of _ = None

-- what stands behind the type
unfoldable pub of_type : FileType → Grammar MknodData
of_type TypeChr = in_case Chr chr_of device_data
of_type TypeBlk = in_case Blk blk_of device_data
of_type TypeSock = in_case Sock sock_of sattr
of_type TypeFifo = in_case Fifo fifo_of sattr
of_type Reg = done (Other Reg)
of_type Dir = done (Other Dir)
of_type Lnk = done (Other Lnk)

-- mknoddata3
unfoldable pub mknod_data : Grammar MknodData
mknod_data = do
  kind ← file_type at what_type
  of_type kind

-- MKNOD (3.3.11)
unfoldable pub mknod_args : Grammar (MknodArgs (List ℕ))
mknod_args = do
  place ← dir_op at (λ a. a.place)
  what ← mknod_data at (λ a. a.what)
  done (record { place = place; what = what })

-- RENAME (3.3.14)
unfoldable pub rename_args : Grammar (RenameArgs (List ℕ))
rename_args = do
  from ← dir_op at (λ a. a.from)
  to ← dir_op at (λ a. a.to)
  done (record { from = from; to = to })

-- LINK (3.3.15)
unfoldable pub link_args : Grammar (LinkArgs (List ℕ))
link_args = do
  file ← file_handle at (λ a. a.file)
  link ← dir_op at (λ a. a.link)
  done (record { file = file; link = link })

-- READDIR (3.3.16)
unfoldable pub read_dir_args : Grammar (ReadDirArgs (List ℕ))
read_dir_args = do
  directory ← file_handle at (λ a. a.directory)
  cookie ← hyper at (λ a. a.cookie)
  verifier ← verifier at (λ a. a.verifier)
  count ← word at (λ a. a.count)
  done (record { directory = directory; cookie = cookie; verifier = verifier; count = count })

-- READDIRPLUS (3.3.17)
unfoldable pub read_dir_plus_args : Grammar (ReadDirPlusArgs (List ℕ))
read_dir_plus_args = do
  directory ← file_handle at (λ a. a.directory)
  cookie ← hyper at (λ a. a.cookie)
  verifier ← verifier at (λ a. a.verifier)
  dircount ← word at (λ a. a.dircount)
  maxcount ← word at (λ a. a.maxcount)
  done (record { directory = directory; cookie = cookie; verifier = verifier; dircount = dircount; maxcount = maxcount })

-- ---- a call

-- a call of any procedure, with its arguments
abbrev pub Call : Type 0
Call = CallOver (List ℕ)

-- the procedure that is called
abbrev pub called : {B : Type 0} → CallOver B → Procedure
called Null = procedures.Null
called (GetAttr _) = procedures.GetAttr
called (SetAttr _) = procedures.SetAttr
called (Lookup _) = procedures.Lookup
called (Access _) = procedures.Access
called (ReadLink _) = procedures.ReadLink
called (Read _) = procedures.Read
called (Write _) = procedures.Write
called (Create _) = procedures.Create
called (Mkdir _) = procedures.Mkdir
called (Symlink _) = procedures.Symlink
called (Mknod _) = procedures.Mknod
called (Remove _) = procedures.Remove
called (Rmdir _) = procedures.Rmdir
called (Rename _) = procedures.Rename
called (Link _) = procedures.Link
called (ReadDir _) = procedures.ReadDir
called (ReadDirPlus _) = procedures.ReadDirPlus
called (FsStat _) = procedures.FsStat
called (FsInfo _) = procedures.FsInfo
called (PathConf _) = procedures.PathConf
called (Commit _) = procedures.Commit

abbrev pub procedure_of : {B : Type 0} → CallOver B → ℕ
procedure_of call = procedure_number (called call)

-- what is in each variant

abbrev pub get_attr_in : Call → Option (List ℕ)
get_attr_in (GetAttr a) = Some a
get_attr_in _ = None

abbrev pub set_attr_in : Call → Option (SetAttrArgs (List ℕ))
set_attr_in (SetAttr a) = Some a
set_attr_in _ = None

abbrev pub lookup_in : Call → Option (DirOp (List ℕ))
lookup_in (Lookup a) = Some a
lookup_in _ = None

abbrev pub access_in : Call → Option (AccessArgs (List ℕ))
access_in (Access a) = Some a
access_in _ = None

abbrev pub read_link_in : Call → Option (List ℕ)
read_link_in (ReadLink a) = Some a
read_link_in _ = None

abbrev pub read_in : Call → Option (FileRange (List ℕ))
read_in (Read a) = Some a
read_in _ = None

abbrev pub write_in : Call → Option (WriteArgs (List ℕ))
write_in (Write a) = Some a
write_in _ = None

abbrev pub create_in : Call → Option (CreateArgs (List ℕ))
create_in (Create a) = Some a
create_in _ = None

abbrev pub mkdir_in : Call → Option (MkdirArgs (List ℕ))
mkdir_in (Mkdir a) = Some a
mkdir_in _ = None

abbrev pub symlink_in : Call → Option (SymlinkArgs (List ℕ))
symlink_in (Symlink a) = Some a
symlink_in _ = None

abbrev pub mknod_in : Call → Option (MknodArgs (List ℕ))
mknod_in (Mknod a) = Some a
mknod_in _ = None

abbrev pub remove_in : Call → Option (DirOp (List ℕ))
remove_in (Remove a) = Some a
remove_in _ = None

abbrev pub rmdir_in : Call → Option (DirOp (List ℕ))
rmdir_in (Rmdir a) = Some a
rmdir_in _ = None

abbrev pub rename_in : Call → Option (RenameArgs (List ℕ))
rename_in (Rename a) = Some a
rename_in _ = None

abbrev pub link_in : Call → Option (LinkArgs (List ℕ))
link_in (Link a) = Some a
link_in _ = None

abbrev pub read_dir_in : Call → Option (ReadDirArgs (List ℕ))
read_dir_in (ReadDir a) = Some a
read_dir_in _ = None

abbrev pub read_dir_plus_in : Call → Option (ReadDirPlusArgs (List ℕ))
read_dir_plus_in (ReadDirPlus a) = Some a
read_dir_plus_in _ = None

abbrev pub fs_stat_in : Call → Option (List ℕ)
fs_stat_in (FsStat a) = Some a
fs_stat_in _ = None

abbrev pub fs_info_in : Call → Option (List ℕ)
fs_info_in (FsInfo a) = Some a
fs_info_in _ = None

abbrev pub path_conf_in : Call → Option (List ℕ)
path_conf_in (PathConf a) = Some a
path_conf_in _ = None

abbrev pub commit_in : Call → Option (FileRange (List ℕ))
commit_in (Commit a) = Some a
commit_in _ = None

-- the call of a procedure: NULL takes nothing
unfoldable pub arguments : Procedure → Grammar Call
arguments procedures.Null = done Null
arguments procedures.GetAttr = in_case GetAttr get_attr_in file_handle
arguments procedures.SetAttr = in_case SetAttr set_attr_in set_attr_args
arguments procedures.Lookup = in_case Lookup lookup_in dir_op
arguments procedures.Access = in_case Access access_in access_args
arguments procedures.ReadLink = in_case ReadLink read_link_in file_handle
arguments procedures.Read = in_case Read read_in file_range
arguments procedures.Write = in_case Write write_in write_args
arguments procedures.Create = in_case Create create_in create_args
arguments procedures.Mkdir = in_case Mkdir mkdir_in mkdir_args
arguments procedures.Symlink = in_case Symlink symlink_in symlink_args
arguments procedures.Mknod = in_case Mknod mknod_in mknod_args
arguments procedures.Remove = in_case Remove remove_in dir_op
arguments procedures.Rmdir = in_case Rmdir rmdir_in dir_op
arguments procedures.Rename = in_case Rename rename_in rename_args
arguments procedures.Link = in_case Link link_in link_args
arguments procedures.ReadDir = in_case ReadDir read_dir_in read_dir_args
arguments procedures.ReadDirPlus = in_case ReadDirPlus read_dir_plus_in read_dir_plus_args
arguments procedures.FsStat = in_case FsStat fs_stat_in file_handle
arguments procedures.FsInfo = in_case FsInfo fs_info_in file_handle
arguments procedures.PathConf = in_case PathConf path_conf_in file_handle
arguments procedures.Commit = in_case Commit commit_in file_range

-- the same by the procedure's number: what is no procedure takes nothing
unfoldable pub call_of : ℕ → Grammar Call
call_of n = arguments (procedure_at n)
