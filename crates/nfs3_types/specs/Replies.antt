-- What results say (RFC 1813, section 3.3).
use Rattle.std.specs.Prelude.{ℕ, ◌==◌, if◌then◌else◌, Bool, Option, Some, None}
use Rattle.xdr_grammar.specs.declared.fault.XdrFault.TheVariants.{BadEnum}
use Rattle.xdr_grammar.specs.Grammar.{Grammar, ◌at◌, ◌>>=◌, done}
use Rattle.xdr_grammar.specs.Items.{word, hyper, truth}
use Rattle.xdr_grammar.specs.Choices.{either, never, in_case}
use Rattle.xdr_grammar.specs.Entries.{entries}
use Rattle.nfs3_types.specs.declared.attributes.Fattr.{Fattr}
use Rattle.nfs3_types.specs.declared.attributes.Wcc.{Wcc}
use Rattle.nfs3_types.specs.declared.body.LookupOk.{LookupOk}
use Rattle.nfs3_types.specs.declared.body.AccessOk.{AccessOk}
use Rattle.nfs3_types.specs.declared.body.ReadLinkOk.{ReadLinkOk}
use Rattle.nfs3_types.specs.declared.body.ReadOk.{ReadOk}
use Rattle.nfs3_types.specs.declared.body.WriteOk.{WriteOk}
use Rattle.nfs3_types.specs.declared.body.CreateOk.{CreateOk}
use Rattle.nfs3_types.specs.declared.body.RenameOk.{RenameOk}
use Rattle.nfs3_types.specs.declared.body.LinkOk.{LinkOk}
use Rattle.nfs3_types.specs.declared.body.DirEntry.{DirEntry}
use Rattle.nfs3_types.specs.declared.body.ReadDirOk.{ReadDirOk}
use Rattle.nfs3_types.specs.declared.body.DirEntryPlus.{DirEntryPlus}
use Rattle.nfs3_types.specs.declared.body.ReadDirPlusOk.{ReadDirPlusOk}
use Rattle.nfs3_types.specs.declared.body.FsStatOk.{FsStatOk}
use Rattle.nfs3_types.specs.declared.body.FsInfoOk.{FsInfoOk}
use Rattle.nfs3_types.specs.declared.body.PathConfOk.{PathConfOk}
use Rattle.nfs3_types.specs.declared.body.CommitOk.{CommitOk}
use Rattle.nfs3_types.specs.declared.body.Body.{Body}
use Rattle.nfs3_types.specs.declared.body.Body.TheVariants.{Null, GetAttr, SetAttr, Lookup, Access, ReadLink, Read, Write, Create}
use Rattle.nfs3_types.specs.declared.body.Body.TheVariants.{Mkdir, Symlink, Remove, Rmdir, Rename, Link, ReadDir, ReadDirPlus}
use Rattle.nfs3_types.specs.declared.body.Body.TheVariants.{FsStat, FsInfo, PathConf, Commit, Nothing}
use Rattle.nfs3_types.specs.declared.procedure.Procedure.{Procedure}
use Rattle.nfs3_types.specs.declared.procedure.Procedure.TheVariants as procedures
use Rattle.nfs3_types.specs.declared.reply.Reply.{Reply}
use Rattle.nfs3_types.specs.declared.status.Status.{Status}
use Rattle.nfs3_types.specs.declared.status.Status.TheVariants.{Ok as StatusOk}
use Rattle.nfs3_types.specs.Statuses.{status_number, status}
use Rattle.nfs3_types.specs.Procedures.{procedure_at, has_status}
use Rattle.nfs3_types.specs.Stability.{stable_how}
use Rattle.nfs3_types.specs.Handles.{post_op_handle, file_handle}
use Rattle.nfs3_types.specs.Attributes.{time, fattr, post_op_attr, wcc_data}
use Rattle.nfs3_types.specs.Calls.{text, verifier}

-- ---- results of status OK, by procedure

-- LOOKUP (3.3.3)
unfoldable pub lookup_ok : Grammar LookupOk
lookup_ok = do
  object ← file_handle at (λ r. r.object)
  attributes ← post_op_attr at (λ r. r.attributes)
  directory ← post_op_attr at (λ r. r.directory)
  done (record { object = object; attributes = attributes; directory = directory })

-- ACCESS (3.3.4)
unfoldable pub access_ok : Grammar AccessOk
access_ok = do
  attributes ← post_op_attr at (λ r. r.attributes)
  access ← word at (λ r. r.access)
  done (record { attributes = attributes; access = access })

-- READLINK (3.3.5)
unfoldable pub read_link_ok : Grammar ReadLinkOk
read_link_ok = do
  attributes ← post_op_attr at (λ r. r.attributes)
  target ← text at (λ r. r.target)
  done (record { attributes = attributes; target = target })

-- READ (3.3.6)
unfoldable pub read_ok : Grammar ReadOk
read_ok = do
  attributes ← post_op_attr at (λ r. r.attributes)
  count ← word at (λ r. r.count)
  eof ← truth at (λ r. r.eof)
  «data» ← text at (λ r. r.«data»)
  done (record { attributes = attributes; count = count; eof = eof; «data» = «data» })

-- WRITE (3.3.7)
unfoldable pub write_ok : Grammar WriteOk
write_ok = do
  file ← wcc_data at (λ r. r.file)
  count ← word at (λ r. r.count)
  committed ← stable_how at (λ r. r.committed)
  verifier ← verifier at (λ r. r.verifier)
  done (record { file = file; count = count; committed = committed; verifier = verifier })

-- CREATE, MKDIR and SYMLINK (3.3.8 to 3.3.10)
unfoldable pub create_ok : Grammar CreateOk
create_ok = do
  object ← post_op_handle at (λ r. r.object)
  attributes ← post_op_attr at (λ r. r.attributes)
  directory ← wcc_data at (λ r. r.directory)
  done (record { object = object; attributes = attributes; directory = directory })

-- RENAME (3.3.14), also where it failed
unfoldable pub rename_ok : Grammar RenameOk
rename_ok = do
  from ← wcc_data at (λ r. r.from)
  to ← wcc_data at (λ r. r.to)
  done (record { from = from; to = to })

-- LINK (3.3.15), also where it failed
unfoldable pub link_ok : Grammar LinkOk
link_ok = do
  attributes ← post_op_attr at (λ r. r.attributes)
  directory ← wcc_data at (λ r. r.directory)
  done (record { attributes = attributes; directory = directory })

-- an entry of READDIR (3.3.16)
unfoldable pub dir_entry : Grammar DirEntry
dir_entry = do
  fileid ← hyper at (λ r. r.fileid)
  name ← text at (λ r. r.name)
  cookie ← hyper at (λ r. r.cookie)
  done (record { fileid = fileid; name = name; cookie = cookie })

-- READDIR (3.3.16)
unfoldable pub read_dir_ok : Grammar ReadDirOk
read_dir_ok = do
  attributes ← post_op_attr at (λ r. r.attributes)
  verifier ← verifier at (λ r. r.verifier)
  entries ← entries dir_entry at (λ r. r.entries)
  eof ← truth at (λ r. r.eof)
  done (record { attributes = attributes; verifier = verifier; entries = entries; eof = eof })

-- an entry of READDIRPLUS (3.3.17)
unfoldable pub dir_entry_plus : Grammar DirEntryPlus
dir_entry_plus = do
  fileid ← hyper at (λ r. r.fileid)
  name ← text at (λ r. r.name)
  cookie ← hyper at (λ r. r.cookie)
  attributes ← post_op_attr at (λ r. r.attributes)
  object ← post_op_handle at (λ r. r.object)
  done (record { fileid = fileid; name = name; cookie = cookie; attributes = attributes; object = object })

-- READDIRPLUS (3.3.17)
unfoldable pub read_dir_plus_ok : Grammar ReadDirPlusOk
read_dir_plus_ok = do
  attributes ← post_op_attr at (λ r. r.attributes)
  verifier ← verifier at (λ r. r.verifier)
  entries ← entries dir_entry_plus at (λ r. r.entries)
  eof ← truth at (λ r. r.eof)
  done (record { attributes = attributes; verifier = verifier; entries = entries; eof = eof })

-- FSSTAT (3.3.18)
unfoldable pub fs_stat_ok : Grammar FsStatOk
fs_stat_ok = do
  attributes ← post_op_attr at (λ r. r.attributes)
  tbytes ← hyper at (λ r. r.tbytes)
  fbytes ← hyper at (λ r. r.fbytes)
  abytes ← hyper at (λ r. r.abytes)
  tfiles ← hyper at (λ r. r.tfiles)
  ffiles ← hyper at (λ r. r.ffiles)
  afiles ← hyper at (λ r. r.afiles)
  invarsec ← word at (λ r. r.invarsec)
  done (record {
    attributes = attributes;
    tbytes = tbytes;
    fbytes = fbytes;
    abytes = abytes;
    tfiles = tfiles;
    ffiles = ffiles;
    afiles = afiles;
    invarsec = invarsec;
  })

-- FSINFO (3.3.19)
unfoldable pub fs_info_ok : Grammar FsInfoOk
fs_info_ok = do
  attributes ← post_op_attr at (λ r. r.attributes)
  rtmax ← word at (λ r. r.rtmax)
  rtpref ← word at (λ r. r.rtpref)
  rtmult ← word at (λ r. r.rtmult)
  wtmax ← word at (λ r. r.wtmax)
  wtpref ← word at (λ r. r.wtpref)
  wtmult ← word at (λ r. r.wtmult)
  dtpref ← word at (λ r. r.dtpref)
  maxfilesize ← hyper at (λ r. r.maxfilesize)
  time_delta ← time at (λ r. r.time_delta)
  properties ← word at (λ r. r.properties)
  done (record {
    attributes = attributes;
    rtmax = rtmax;
    rtpref = rtpref;
    rtmult = rtmult;
    wtmax = wtmax;
    wtpref = wtpref;
    wtmult = wtmult;
    dtpref = dtpref;
    maxfilesize = maxfilesize;
    time_delta = time_delta;
    properties = properties;
  })

-- PATHCONF (3.3.20)
unfoldable pub path_conf_ok : Grammar PathConfOk
path_conf_ok = do
  attributes ← post_op_attr at (λ r. r.attributes)
  linkmax ← word at (λ r. r.linkmax)
  name_max ← word at (λ r. r.name_max)
  no_trunc ← truth at (λ r. r.no_trunc)
  chown_restricted ← truth at (λ r. r.chown_restricted)
  case_insensitive ← truth at (λ r. r.case_insensitive)
  case_preserving ← truth at (λ r. r.case_preserving)
  done (record {
    attributes = attributes;
    linkmax = linkmax;
    name_max = name_max;
    no_trunc = no_trunc;
    chown_restricted = chown_restricted;
    case_insensitive = case_insensitive;
    case_preserving = case_preserving;
  })

-- COMMIT (3.3.21)
unfoldable pub commit_ok : Grammar CommitOk
commit_ok = do
  file ← wcc_data at (λ r. r.file)
  verifier ← verifier at (λ r. r.verifier)
  done (record { file = file; verifier = verifier })

-- what is in each variant

abbrev pub get_attr_in : Body → Option Fattr
get_attr_in (GetAttr ok) = Some ok
get_attr_in _ = None

abbrev pub set_attr_in : Body → Option Wcc
set_attr_in (SetAttr ok) = Some ok
set_attr_in _ = None

abbrev pub lookup_in : Body → Option LookupOk
lookup_in (Lookup ok) = Some ok
lookup_in _ = None

abbrev pub access_in : Body → Option AccessOk
access_in (Access ok) = Some ok
access_in _ = None

abbrev pub read_link_in : Body → Option ReadLinkOk
read_link_in (ReadLink ok) = Some ok
read_link_in _ = None

abbrev pub read_in : Body → Option ReadOk
read_in (Read ok) = Some ok
read_in _ = None

abbrev pub write_in : Body → Option WriteOk
write_in (Write ok) = Some ok
write_in _ = None

abbrev pub create_in : Body → Option CreateOk
create_in (Create ok) = Some ok
create_in _ = None

abbrev pub mkdir_in : Body → Option CreateOk
mkdir_in (Mkdir ok) = Some ok
mkdir_in _ = None

abbrev pub symlink_in : Body → Option CreateOk
symlink_in (Symlink ok) = Some ok
symlink_in _ = None

abbrev pub remove_in : Body → Option Wcc
remove_in (Remove ok) = Some ok
remove_in _ = None

abbrev pub rmdir_in : Body → Option Wcc
rmdir_in (Rmdir ok) = Some ok
rmdir_in _ = None

abbrev pub rename_in : Body → Option RenameOk
rename_in (Rename ok) = Some ok
rename_in _ = None

abbrev pub link_in : Body → Option LinkOk
link_in (Link ok) = Some ok
link_in _ = None

abbrev pub read_dir_in : Body → Option ReadDirOk
read_dir_in (ReadDir ok) = Some ok
read_dir_in _ = None

abbrev pub read_dir_plus_in : Body → Option ReadDirPlusOk
read_dir_plus_in (ReadDirPlus ok) = Some ok
read_dir_plus_in _ = None

abbrev pub fs_stat_in : Body → Option FsStatOk
fs_stat_in (FsStat ok) = Some ok
fs_stat_in _ = None

abbrev pub fs_info_in : Body → Option FsInfoOk
fs_info_in (FsInfo ok) = Some ok
fs_info_in _ = None

abbrev pub path_conf_in : Body → Option PathConfOk
path_conf_in (PathConf ok) = Some ok
path_conf_in _ = None

abbrev pub commit_in : Body → Option CommitOk
commit_in (Commit ok) = Some ok
commit_in _ = None

-- what a result of status OK says. NULL's says nothing. MKNOD never succeeds here: OK is no status of its
-- result, so that a text that says so has a number that its enumeration lacks.
unfoldable pub ok_body : Procedure → Grammar Body
ok_body procedures.Null = done Null
ok_body procedures.GetAttr = in_case GetAttr get_attr_in fattr
ok_body procedures.SetAttr = in_case SetAttr set_attr_in wcc_data
ok_body procedures.Lookup = in_case Lookup lookup_in lookup_ok
ok_body procedures.Access = in_case Access access_in access_ok
ok_body procedures.ReadLink = in_case ReadLink read_link_in read_link_ok
ok_body procedures.Read = in_case Read read_in read_ok
ok_body procedures.Write = in_case Write write_in write_ok
ok_body procedures.Create = in_case Create create_in create_ok
ok_body procedures.Mkdir = in_case Mkdir mkdir_in create_ok
ok_body procedures.Symlink = in_case Symlink symlink_in create_ok
ok_body procedures.Mknod = never BadEnum
ok_body procedures.Remove = in_case Remove remove_in wcc_data
ok_body procedures.Rmdir = in_case Rmdir rmdir_in wcc_data
ok_body procedures.Rename = in_case Rename rename_in rename_ok
ok_body procedures.Link = in_case Link link_in link_ok
ok_body procedures.ReadDir = in_case ReadDir read_dir_in read_dir_ok
ok_body procedures.ReadDirPlus = in_case ReadDirPlus read_dir_plus_in read_dir_plus_ok
ok_body procedures.FsStat = in_case FsStat fs_stat_in fs_stat_ok
ok_body procedures.FsInfo = in_case FsInfo fs_info_in fs_info_ok
ok_body procedures.PathConf = in_case PathConf path_conf_in path_conf_ok
ok_body procedures.Commit = in_case Commit commit_in commit_ok

-- the procedure whose result of status OK this is
abbrev pub said_by : Body → Procedure
said_by Null = procedures.Null
said_by Nothing = procedures.Null
said_by (GetAttr _) = procedures.GetAttr
said_by (SetAttr _) = procedures.SetAttr
said_by (Lookup _) = procedures.Lookup
said_by (Access _) = procedures.Access
said_by (ReadLink _) = procedures.ReadLink
said_by (Read _) = procedures.Read
said_by (Write _) = procedures.Write
said_by (Create _) = procedures.Create
said_by (Mkdir _) = procedures.Mkdir
said_by (Symlink _) = procedures.Symlink
said_by (Remove _) = procedures.Remove
said_by (Rmdir _) = procedures.Rmdir
said_by (Rename _) = procedures.Rename
said_by (Link _) = procedures.Link
said_by (ReadDir _) = procedures.ReadDir
said_by (ReadDirPlus _) = procedures.ReadDirPlus
said_by (FsStat _) = procedures.FsStat
said_by (FsInfo _) = procedures.FsInfo
said_by (PathConf _) = procedures.PathConf
said_by (Commit _) = procedures.Commit

-- ---- results of any other status

-- what the result says besides its status
pub data Refusal : Type 0 where
  -- nothing
  Silent : Refusal
  -- the attributes of an object
  Object : Option Fattr → Refusal
  -- the attributes of an object before and after
  Change : Wcc → Refusal
  -- RENAME's: those of both directories
  RenameChange : RenameOk → Refusal
  -- LINK's: those of the file, and of the directory
  LinkChange : LinkOk → Refusal

abbrev pub object_in : Refusal → Option (Option Fattr)
object_in (Object a) = Some a
object_in _ = None

abbrev pub change_in : Refusal → Option Wcc
change_in (Change w) = Some w
change_in _ = None

abbrev pub rename_change_in : Refusal → Option RenameOk
rename_change_in (RenameChange r) = Some r
rename_change_in _ = None

abbrev pub link_change_in : Refusal → Option LinkOk
link_change_in (LinkChange l) = Some l
link_change_in _ = None

-- what a failure tells besides its status
pub data Telling : Type 0 where
  Nought : Telling
  Attributes : Telling
  BeforeAndAfter : Telling
  OfRename : Telling
  OfLink : Telling

abbrev pub telling : Procedure → Telling
telling procedures.Null = Nought
telling procedures.GetAttr = Nought
telling procedures.SetAttr = BeforeAndAfter
telling procedures.Lookup = Attributes
telling procedures.Access = Attributes
telling procedures.ReadLink = Attributes
telling procedures.Read = Attributes
telling procedures.Write = BeforeAndAfter
telling procedures.Create = BeforeAndAfter
telling procedures.Mkdir = BeforeAndAfter
telling procedures.Symlink = BeforeAndAfter
telling procedures.Mknod = BeforeAndAfter
telling procedures.Remove = BeforeAndAfter
telling procedures.Rmdir = BeforeAndAfter
telling procedures.Rename = OfRename
telling procedures.Link = OfLink
telling procedures.ReadDir = Attributes
telling procedures.ReadDirPlus = Attributes
telling procedures.FsStat = Attributes
telling procedures.FsInfo = Attributes
telling procedures.PathConf = Attributes
telling procedures.Commit = BeforeAndAfter

unfoldable pub told : Telling → Grammar Refusal
told Nought = done Silent
told Attributes = in_case Object object_in post_op_attr
told BeforeAndAfter = in_case Change change_in wcc_data
told OfRename = in_case RenameChange rename_change_in rename_ok
told OfLink = in_case LinkChange link_change_in link_ok

-- what a result of any other status says
abbrev pub refusal : Procedure → Grammar Refusal
refusal p = told (telling p)

-- ---- a result

pub data Outcome : Type 0 where
  Success : Body → Outcome
  Failure : Status → Refusal → Outcome

abbrev pub is_ok : Status → Bool
is_ok s = status_number s == 0

abbrev pub status_in : Outcome → Status
status_in (Success b) = StatusOk
status_in (Failure s r) = s

abbrev pub success_in : Outcome → Option Body
success_in (Success b) = Some b
success_in _ = None

abbrev pub failure_in : Outcome → Option Refusal
failure_in (Failure s r) = Some r
failure_in _ = None

-- the result of a procedure that has a status
unfoldable pub result_with_status : Procedure → Grammar Outcome
result_with_status p = do
  s ← status at status_in
  either (is_ok s) (in_case Success success_in (ok_body p)) (in_case (Failure s) failure_in (refusal p))

-- the result of any procedure: NULL's has no status and says nothing
unfoldable pub result : Procedure → Grammar Outcome
result p = either (has_status p) (result_with_status p) (done (Success Null))

-- the same by the procedure's number: that of what is no procedure says nothing
unfoldable pub result_of : ℕ → Grammar Outcome
result_of n = result (procedure_at n)

-- ---- a reply and its result

-- no attributes
abbrev pub absent : Wcc
absent = record { before = None; after = None }

-- what is said where each optional item is absent
abbrev pub nothing_in : Telling → Refusal
nothing_in Nought = Silent
nothing_in Attributes = Object None
nothing_in BeforeAndAfter = Change absent
nothing_in OfRename = RenameChange (record { from = absent; to = absent })
nothing_in OfLink = LinkChange (record { attributes = None; directory = absent })

abbrev pub nothing_told : ℕ → Refusal
nothing_told n = nothing_in (telling (procedure_at n))

-- the result that a reply is written as
abbrev pub outcome_of : Reply → Outcome
outcome_of reply = if is_ok reply.status then Success reply.body else Failure reply.status (nothing_told reply.procedure)

abbrev pub body_told : Outcome → Body
body_told (Success b) = b
body_told (Failure s r) = Nothing

-- the reply that a result is read as: what a failure says besides its status is dropped
abbrev pub reply_of : ℕ → Outcome → Reply
reply_of procedure outcome = record { procedure = procedure; status = status_in outcome; body = body_told outcome }
