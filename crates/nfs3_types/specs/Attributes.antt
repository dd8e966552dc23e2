-- The attributes of files (RFC 1813, section 2.6).
use Rattle.std.specs.Prelude.{ℕ, ◌==◌, if◌then◌else◌, Option, Some, None}
use Rattle.xdr_grammar.specs.Grammar.{Grammar, ◌at◌, ◌>>=◌, done}
use Rattle.xdr_grammar.specs.Items.{word, hyper, pick}
use Rattle.xdr_grammar.specs.Choices.{either, in_case, optional}
use Rattle.nfs3_types.specs.declared.moment.Moment.{Moment}
use Rattle.nfs3_types.specs.declared.attributes.SpecData.{SpecData}
use Rattle.nfs3_types.specs.declared.attributes.Fattr.{Fattr}
use Rattle.nfs3_types.specs.declared.attributes.SetTime.{SetTime}
use Rattle.nfs3_types.specs.declared.attributes.SetTime.TheVariants.{DontChange, ServerTime, ClientTime}
use Rattle.nfs3_types.specs.declared.attributes.Sattr.{Sattr}
use Rattle.nfs3_types.specs.declared.attributes.WccAttr.{WccAttr}
use Rattle.nfs3_types.specs.declared.attributes.Wcc.{Wcc}
use Rattle.nfs3_types.specs.FileTypes.{file_type}

-- a time (nfstime3)
unfoldable pub time : Grammar Moment
time = do
  seconds ← word at (λ t. t.seconds)
  nanos ← word at (λ t. t.nanos)
  done (record { seconds = seconds; nanos = nanos })

-- a device (specdata3)
unfoldable pub spec_data : Grammar SpecData
spec_data = do
  major ← word at (λ s. s.major)
  minor ← word at (λ s. s.minor)
  done (record { major = major; minor = minor })

-- a file's attributes (fattr3)
unfoldable pub fattr : Grammar Fattr
fattr = do
  kind ← file_type at (λ a. a.kind)
  mode ← word at (λ a. a.mode)
  nlink ← word at (λ a. a.nlink)
  uid ← word at (λ a. a.uid)
  gid ← word at (λ a. a.gid)
  size ← hyper at (λ a. a.size)
  used ← hyper at (λ a. a.used)
  rdev ← spec_data at (λ a. a.rdev)
  fsid ← hyper at (λ a. a.fsid)
  fileid ← hyper at (λ a. a.fileid)
  atime ← time at (λ a. a.atime)
  mtime ← time at (λ a. a.mtime)
  ctime ← time at (λ a. a.ctime)
  done (record {
    kind = kind;
    mode = mode;
    nlink = nlink;
    uid = uid;
    gid = gid;
    size = size;
    used = used;
    rdev = rdev;
    fsid = fsid;
    fileid = fileid;
    atime = atime;
    mtime = mtime;
    ctime = ctime;
  })

-- attributes that may be absent (post_op_attr)
unfoldable pub post_op_attr : Grammar (Option Fattr)
post_op_attr = optional fattr

-- ---- what is to be set

-- set_mode3, set_uid3 and set_gid3
unfoldable pub optional_word : Grammar (Option ℕ)
optional_word = optional word

-- set_size3
unfoldable pub optional_hyper : Grammar (Option ℕ)
optional_hyper = optional hyper

-- sattrguard3
unfoldable pub optional_time : Grammar (Option Moment)
optional_time = optional time

-- time_how: DONT_CHANGE, SET_TO_SERVER_TIME or SET_TO_CLIENT_TIME
abbrev pub time_how : SetTime → ℕ
time_how DontChange = 0
time_how ServerTime = 1
time_how (ClientTime t) = 2

abbrev pub client_time : SetTime → Option Moment
client_time (ClientTime t) = Some t
client_time DontChange = None
client_time ServerTime = None

-- set_atime and set_mtime
unfoldable pub set_time : Grammar SetTime
set_time = do
  how ← pick 0 2 at time_how
  either (how == 2) (in_case ClientTime client_time time) (done (if how == 0 then DontChange else ServerTime))

-- attributes that are to be set (sattr3)
unfoldable pub sattr : Grammar Sattr
sattr = do
  mode ← optional_word at (λ s. s.mode)
  uid ← optional_word at (λ s. s.uid)
  gid ← optional_word at (λ s. s.gid)
  size ← optional_hyper at (λ s. s.size)
  atime ← set_time at (λ s. s.atime)
  mtime ← set_time at (λ s. s.mtime)
  done (record { mode = mode; uid = uid; gid = gid; size = size; atime = atime; mtime = mtime })

-- ---- before and after a call

-- wcc_attr
unfoldable pub wcc_attr : Grammar WccAttr
wcc_attr = do
  size ← hyper at (λ w. w.size)
  mtime ← time at (λ w. w.mtime)
  ctime ← time at (λ w. w.ctime)
  done (record { size = size; mtime = mtime; ctime = ctime })

-- pre_op_attr
unfoldable pub pre_op_attr : Grammar (Option WccAttr)
pre_op_attr = optional wcc_attr

-- wcc_data
unfoldable pub wcc_data : Grammar Wcc
wcc_data = do
  before ← pre_op_attr at (λ w. w.before)
  after ← post_op_attr at (λ w. w.after)
  done (record { before = before; after = after })
