-- What is told of a file and of the file system: GETATTR, ACCESS, READLINK, FSSTAT, FSINFO and PATHCONF (RFC
-- 1813, sections 3.3.1, 3.3.4, 3.3.5 and 3.3.18 to 3.3.20).
use Rattle.std.specs.Prelude.{◌+◌, ◌^◌, ◌&&◌, if◌then◌else◌}
use Rattle.fs_rules.specs.Words.{ℕ, Bool, true, false, not, bit_and, List, Some, Ok, AccessArgs, Body, GetAttr, Access, ReadLink}
use Rattle.fs_rules.specs.Words.{FsStat, FsInfo, PathConf, Cred, Inval, Place, Kept}
use Rattle.fs_rules.specs.Shared.{is_directory, is_link, Check, ◌>>=◌, find_object, need, longest_name, most_links, told_transfer}
use Rattle.fs_rules.specs.Shared.{most_size, told_listing, Object, attributes, content_at, may_read, may_search, may_write, Tree}

unfoldable pub get_attr : Tree → List ℕ → Check Body
get_attr t handle = do
  o ← find_object t handle
  Ok (GetAttr (attributes t o))

-- ACCESS: READ 1, LOOKUP 2, MODIFY 4, EXTEND 8, DELETE 16, EXECUTE 32
abbrev pub bits_if : ℕ → Bool → ℕ
bits_if bits allowed = if allowed then bits else 0

-- nothing in a snapshot is modified, extended or deleted
abbrev pub is_kept : Place → Bool
is_kept (Kept number fileid) = true
is_kept place = false

abbrev pub allowed_in : Cred → Object → ℕ
allowed_in cred o =
    bits_if 1 (may_read cred o.inode) + bits_if 2 (may_search cred o.inode)
    + bits_if 28 (may_write cred o.inode && may_search cred o.inode && not (is_kept o.place))

abbrev pub allowed_of : Cred → Object → ℕ
allowed_of cred o =
    bits_if 1 (may_read cred o.inode) + bits_if 32 (may_search cred o.inode)
    + bits_if 12 (may_write cred o.inode && not (is_kept o.place))

unfoldable pub allowed : Cred → Object → ℕ
allowed cred o = if is_directory o.inode.kind then allowed_in cred o else allowed_of cred o

unfoldable pub access : Tree → Cred → AccessArgs (List ℕ) → Check Body
access t cred a = do
  o ← find_object t a.object
  Ok (Access (record { attributes = Some (attributes t o); access = bit_and a.access (allowed cred o) }))

unfoldable pub read_link : Tree → List ℕ → Check Body
read_link t handle = do
  o ← find_object t handle
  _ ← need (is_link o.inode.kind) Inval
  Ok (ReadLink (record { attributes = Some (attributes t o); target = content_at t o.place }))

-- there is always room for 2^60 bytes and files more
unfoldable pub fs_stat : Tree → List ℕ → Check Body
fs_stat t handle = do
  o ← find_object t handle
  Ok (FsStat (record {
    attributes = Some (attributes t o);
    tbytes = 2 ^ 60;
    fbytes = 2 ^ 60;
    abytes = 2 ^ 60;
    tfiles = 2 ^ 60;
    ffiles = 2 ^ 60;
    afiles = 2 ^ 60;
    invarsec = 0;
  }))

-- transfers are best of 4,096 bytes; times are kept to the nanosecond; there are hard links, 1, and symbolic
-- ones, 2, all files are alike, 8, and times can be set, 16
unfoldable pub fs_info : Tree → List ℕ → Check Body
fs_info t handle = do
  o ← find_object t handle
  Ok (FsInfo (record {
    attributes = Some (attributes t o);
    rtmax = told_transfer;
    rtpref = told_transfer;
    rtmult = 4096;
    wtmax = told_transfer;
    wtpref = told_transfer;
    wtmult = 4096;
    dtpref = told_listing;
    maxfilesize = most_size;
    time_delta = record { seconds = 0; nanos = 1 };
    properties = 27;
  }))

unfoldable pub path_conf : Tree → List ℕ → Check Body
path_conf t handle = do
  o ← find_object t handle
  Ok (PathConf (record {
    attributes = Some (attributes t o);
    linkmax = most_links;
    name_max = longest_name;
    no_trunc = true;
    chown_restricted = true;
    case_insensitive = false;
    case_preserving = true;
  }))
