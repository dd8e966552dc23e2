-- The attributes of nodes, and how they are set (RFC 1813, sections 2.6 and 3.3.2).
use Rattle.std.specs.Prelude.{◌==◌, ◌%◌, ◌||◌, ◌&&◌, if◌then◌else◌}
use Rattle.fs_rules.specs.Words.{ℕ, nat_lt, Bool, true, false, not, Option, Some, None, unwrap_or, is_some, option_map, Fattr}
use Rattle.fs_rules.specs.Words.{Sattr, SetTime, DontChange, ServerTime, ClientTime, Wcc, WccAttr, Cred, FileType, Moment, Status}
use Rattle.fs_rules.specs.Words.{Perm, Acces, Inval, type_number, Inode}
use Rattle.fs_rules.specs.{Limits.most_size, Rights.may, Rights.owns, Rights.is_in_group}

abbrev pub is_directory : FileType → Bool
is_directory kind = type_number kind == 2

abbrev pub is_file : FileType → Bool
is_file kind = type_number kind == 1

abbrev pub is_link : FileType → Bool
is_link kind = type_number kind == 5

-- the size of a file of so many bytes: a directory has 4,096
unfoldable pub size_of : Inode → ℕ → ℕ
size_of i length = if is_directory i.kind then 4096 else length

-- the attributes of a file of so many bytes, as the file of this number in this file system
unfoldable pub attributes_of : ℕ → ℕ → Inode → ℕ → Fattr
attributes_of fsid fileid i length = record {
  kind = i.kind;
  mode = i.mode;
  nlink = i.nlink;
  uid = i.uid;
  gid = i.gid;
  size = size_of i length;
  used = size_of i length;
  rdev = record { major = 0; minor = 0 };
  fsid = fsid;
  fileid = fileid;
  atime = i.atime;
  mtime = i.mtime;
  ctime = i.ctime;
}

abbrev pub wcc_attr : Fattr → WccAttr
wcc_attr a = record { size = a.size; mtime = a.mtime; ctime = a.ctime }

unfoldable pub wcc_of : Option Fattr → Option Fattr → Wcc
wcc_of before after = record { before = option_map wcc_attr before; after = after }

-- a value is given, and is so
abbrev pub given : {A : Type 0} → Option A → (A → Bool) → Bool
given (Some a) test = test a
given None test = false

abbrev pub is_client_time : SetTime → Bool
is_client_time (ClientTime t) = true
is_client_time how = false

abbrev pub is_server_time : SetTime → Bool
is_server_time ServerTime = true
is_server_time how = false

abbrev pub is_too_large : Option ℕ → Bool
is_too_large size = given size (λ size. nat_lt most_size size)

abbrev pub lacks_write : Cred → Fattr → Bool
lacks_write cred a = not (owns cred a.uid || may cred a.mode a.uid a.gid 2)

-- another than user 0 gives the file to another user than himself; or a file that is not his, to anyone
abbrev pub gives_away : Cred → Fattr → Option ℕ → Bool
gives_away cred a uid = given uid (λ uid. not (cred.uid == 0) && (not (cred.uid == a.uid) || not (uid == cred.uid)))

-- the same of a group: the owner may give the file to its own group, and to those that he is in
abbrev pub regroups : Cred → Fattr → Option ℕ → Bool
regroups cred a gid =
    given gid (λ gid. not (cred.uid == 0) && (not (cred.uid == a.uid) || not ((gid == a.gid) || is_in_group cred gid)))

-- why the caller may not set these attributes: the first that fits
unfoldable pub sattr_fault : Cred → Fattr → Sattr → Option Status
sattr_fault cred a s =
    if is_some s.size && not (is_file a.kind) then Some Inval
    else (if is_some s.mode && not (owns cred a.uid) then Some Perm
    else (if gives_away cred a s.uid then Some Perm
    else (if regroups cred a s.gid then Some Perm
    else (if is_some s.size && lacks_write cred a then Some Acces
    else (if (is_client_time s.atime || is_client_time s.mtime) && not (owns cred a.uid) then Some Perm
    else (if (is_server_time s.atime || is_server_time s.mtime) && lacks_write cred a then Some Acces
    else (if is_too_large s.size then Some Inval
    else None)))))))

abbrev pub time_by : SetTime → Moment → Moment → Moment
time_by DontChange now old = old
time_by ServerTime now old = now
time_by (ClientTime t) now old = t

-- the time of the last change of the content: a new size sets it too
abbrev pub mtime_by : SetTime → Option ℕ → Moment → Moment → Moment
mtime_by DontChange (Some size) now old = now
mtime_by DontChange None now old = old
mtime_by ServerTime size now old = now
mtime_by (ClientTime t) size now old = t

-- the attributes once these are set: of a mode the twelve lowest bits, and the time of the change is now
unfoldable pub apply_sattr : Fattr → Sattr → Moment → Fattr
apply_sattr a s now = record a {
  mode = unwrap_or s.mode a.mode % 4096;
  uid = unwrap_or s.uid a.uid;
  gid = unwrap_or s.gid a.gid;
  size = unwrap_or s.size a.size;
  used = unwrap_or s.size a.used;
  atime = time_by s.atime now a.atime;
  mtime = mtime_by s.mtime s.size now a.mtime;
  ctime = now;
}
