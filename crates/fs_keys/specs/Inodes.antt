-- The value of an inode's record.
use Rattle.std.specs.Prelude.{ℕ, ◌≡◌, ◌<◌, ◌≤◌, ◌==◌, nat_le, Bool, true, false, if◌then◌else◌, List, ◌++◌, length, replicate}
use Rattle.std.specs.Prelude.{Option, Some, None, is_some, unwrap_or, Result, Ok, Err}
use Rattle.std.specs.Str.{bytes_eq}
use Rattle.xdr_grammar.specs.declared.fault.XdrFault.{XdrFault}
use Rattle.xdr_grammar.specs.declared.fault.XdrFault.TheVariants.{BadBool, BadEnum}
use Rattle.xdr_grammar.specs.Grammar.{Grammar, ◌at◌, ◌>>=◌, done}
use Rattle.xdr_grammar.specs.Items.{number, word, hyper, tested, bool_number, fixed}
use Rattle.xdr_grammar.specs.Choices.{either, in_case}
use Rattle.xdr_grammar.specs.Enumerations.{named, or_else}
use Rattle.nfs3_types.specs.declared.file_type.FileType.{FileType}
use Rattle.nfs3_types.specs.declared.file_type.FileType.TheVariants.{Reg}
use Rattle.nfs3_types.specs.FileTypes.{type_number, file_types}
use Rattle.nfs3_types.specs.Attributes.{time}
use Rattle.fs_rules.specs.declared.inode.Inode.{Inode as Kept}
use Rattle.fs_rules.specs.Limits.{longest_target}
use Rattle.fs_keys.specs.declared.inode.Head.{Head}
use Rattle.fs_keys.specs.declared.inode.Inode.{Inode}

-- ---- items of one byte

unfoldable pub byte : Grammar ℕ
byte = number 1

-- the byte 0 or 1
unfoldable pub flag : Grammar Bool
flag = do
  n ← tested byte (λ n. nat_le n 1) BadBool at bool_number
  done (n == 1)

-- a type of files, by its number
unfoldable pub kind : Grammar FileType
kind = do
  n ← tested byte (λ n. is_some (named type_number file_types n)) BadEnum at type_number
  done (or_else Reg (named type_number file_types n))

-- ---- the verifier of an EXCLUSIVE CREATE: a flag and eight bytes, which are zeros where there is none

abbrev pub zeros : List ℕ
zeros = replicate 8 0

abbrev pub if_other : List ℕ → Option (List ℕ)
if_other bytes = if bytes_eq bytes zeros then None else Some bytes

unfoldable pub no_verifier : Grammar (Option (List ℕ))
no_verifier = do
  bytes ← tested (fixed 8) (λ bytes. bytes_eq bytes zeros) BadEnum at (λ v. unwrap_or v zeros)
  done (if_other bytes)

unfoldable pub verifier : Grammar (Option (List ℕ))
verifier = do
  there ← flag at is_some
  either there (in_case Some (λ v. v) (fixed 8)) no_verifier

-- ---- the row

-- all but a link's target: 90 bytes
unfoldable pub head : Grammar Head
head = do
  kind ← kind at (λ h. h.kept.kind)
  mode ← word at (λ h. h.kept.mode)
  nlink ← word at (λ h. h.kept.nlink)
  uid ← word at (λ h. h.kept.uid)
  gid ← word at (λ h. h.kept.gid)
  size ← hyper at (λ h. h.size)
  atime ← time at (λ h. h.kept.atime)
  mtime ← time at (λ h. h.kept.mtime)
  ctime ← time at (λ h. h.kept.ctime)
  parent ← hyper at (λ h. h.kept.parent)
  next_cookie ← hyper at (λ h. h.kept.next_cookie)
  verifier ← verifier at (λ h. h.kept.verifier)
  cuts ← hyper at (λ h. h.kept.cuts)
  floor ← hyper at (λ h. h.floor)
  done (record {
    kept = record {
      kind = kind;
      mode = mode;
      nlink = nlink;
      uid = uid;
      gid = gid;
      atime = atime;
      mtime = mtime;
      ctime = ctime;
      parent = parent;
      next_cookie = next_cookie;
      verifier = verifier;
      cuts = cuts;
    };
    size = size;
    floor = floor;
  })

-- the bytes of an inode: its head, and a link's target
abbrev pub value_of : Inode → List ℕ
value_of i = head.spelling i.head ++ i.target

-- an inode, from its head and the bytes behind it
abbrev pub with_target : Result (Head × List ℕ) XdrFault → Option Inode
with_target (Ok (head, target)) =
    if nat_le (length target) longest_target then Some (record { head = head; target = target }) else None
with_target (Err fault) = None

-- the inode that these bytes spell, if they do
abbrev pub inode_of : List ℕ → Option Inode
inode_of value = with_target (head.read value)

-- it can be spelled
pub record Fits (i : Inode) : Type 0 where
  pub head : head.Fits i.head
  pub target : length i.target ≤ longest_target
