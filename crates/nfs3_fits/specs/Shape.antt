-- What the types of a reply do not say, and its spelling needs.
use Rattle.std.specs.Prelude.{◌≡◌, ⊤, ℕ, ◌+◌, ◌≤◌, Bool, true, false, All, IfSome, List, length, sum_by}
use Rattle.nfs3_types.specs.declared.body.DirEntry.{DirEntry}
use Rattle.nfs3_types.specs.declared.body.DirEntryPlus.{DirEntryPlus}
use Rattle.nfs3_types.specs.declared.body.CreateOk.{CreateOk}
use Rattle.nfs3_types.specs.declared.body.Body.{Body}
use Rattle.nfs3_types.specs.declared.body.Body.TheVariants.{Lookup, ReadLink, Read, Create, Mkdir, Symlink, ReadDir, ReadDirPlus}
use Rattle.nfs3_types.specs.declared.body.Body.TheVariants.{Nothing}
use Rattle.nfs3_types.specs.declared.reply.Reply.{Reply}
use Rattle.nfs3_types.specs.Replies.{is_ok}
use Rattle.nfs3_res.specs.Spelled.{procedure_in}

-- a handle has at most 64 bytes (RFC 1813, section 2.4, NFS3_FHSIZE)
abbrev pub IsHandle : List ℕ → Type 0
IsHandle handle = length handle ≤ 64

-- the handle of what was made is one, where it is told
abbrev pub HasHandle : CreateOk → Type 0
HasHandle ok = IfSome ok.object IsHandle

-- the entries of READDIR, each counted as 24 bytes and its name, take at most 32,768 bytes
abbrev pub AreShort : List DirEntry → Type 0
AreShort entries = sum_by (λ e. 24 + length e.name) entries ≤ 32768

-- those of READDIRPLUS, each counted as 144 bytes and its name, and the handles that are told are handles
pub record AreShortPlus (entries : List DirEntryPlus) : Type 0 where
  pub short : sum_by (λ e. 144 + length e.name) entries ≤ 32768
  pub handles : All (λ e. IfSome e.object IsHandle) entries

-- what a body says is within its bounds, and it is that of a procedure
abbrev pub IsWithin : Body → Type 0
IsWithin (Lookup ok) = IsHandle ok.object
IsWithin (ReadLink ok) = length ok.target ≤ 32768
IsWithin (Read ok) = length ok.«data» ≤ 32768
IsWithin (Create ok) = HasHandle ok
IsWithin (Mkdir ok) = HasHandle ok
IsWithin (Symlink ok) = HasHandle ok
IsWithin (ReadDir ok) = AreShort ok.entries
IsWithin (ReadDirPlus ok) = AreShortPlus ok.entries
IsWithin Nothing = ⊥
IsWithin _ = ⊤

-- the body of this procedure, within its bounds
pub record IsBodyOf (procedure : ℕ) (body : Body) : Type 0 where
  pub is : procedure ≡ procedure_in body
  pub within : IsWithin body

-- a procedure whose result has a status: each but NULL
pub record HasStatus (procedure : ℕ) : Type 0 where
  pub first : 1 ≤ procedure
  pub last : procedure ≤ 21

-- a failure of such a procedure, which says nothing more
pub record IsFailure (procedure : ℕ) (body : Body) : Type 0 where
  pub status : HasStatus procedure
  pub nothing : body ≡ Nothing

-- what a result says by whether its status is OK
abbrev pub Says : Bool → ℕ → Body → Type 0
Says true procedure body = IsBodyOf procedure body
Says false procedure body = IsFailure procedure body

-- the reply's body is that of its procedure and within bounds, or it failed at a procedure that can fail
abbrev pub HasShape : Reply → Type 0
HasShape reply = Says (is_ok reply.status) reply.procedure reply.body
