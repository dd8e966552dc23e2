-- The checks that procedures share. A procedure's plan is its checks in order: the first that fails decides.
use Rattle.std.specs.Prelude.{◌≡◌}
use Rattle.fs_rules.specs.Words.{ℕ, Bool, true, false, not, List, Option, Some, None, Result, Ok, Err, DirOp, Body, Cred, Status}
use Rattle.fs_rules.specs.Words.{Acces, BadHandle, Stale, NotDir, Inval, Rofs, handle_in, Place, Live}
use Rattle.fs_rules.specs.{Attributes.is_directory, Attributes.is_file, Names.name_fault, Places.Object, Places.object_of}
use Rattle.fs_rules.specs.{Rights.may_search, Tree.Tree}

-- what was found, or the status of the refusal
abbrev pub Check : Type 0 → Type 0
Check A = Result A Status

infixr 10 ◌>>=◌
abbrev pub ◌>>=◌ : {A B : Type 0} → Check A → (A → Check B) → Check B
Ok a >>= next = next a
Err status >>= next = Err status

abbrev pub refuse_if : Bool → Status → Check (Unit {0})
refuse_if true status = Err status
refuse_if false status = Ok tt

abbrev pub need : Bool → Status → Check (Unit {0})
need condition status = refuse_if (not condition) status

abbrev pub some_or : {A : Type 0} → Option A → Status → Check A
some_or (Some a) status = Ok a
some_or None status = Err status

abbrev pub no_fault : Option Status → Check (Unit {0})
no_fault (Some status) = Err status
no_fault None = Ok tt

-- what a call that is not refused tells, and the tree after it
pub record Done : Type 0 where
  pub body : Body
  pub tree : Tree

abbrev pub Row : Type 0
Row = Check Done

-- of a call that changes nothing: it tells what its checks found
abbrev pub told : Tree → Check Body → Row
told t check = do
  body ← check
  Ok (record { body = body; tree = t })

-- of a call that changes the tree: its plan is done, and it tells of the tree after it
abbrev pub done : {Plan : Type 0} → Check Plan → (Plan → Tree) → (Plan → Tree → Body) → Row
done check edit tell = do
  plan ← check
  Ok (record { body = tell plan (edit plan); tree = edit plan })

-- the result is the check's, seen so
abbrev pub Gives : {A B : Type 0} → (A → B) → Check B → Result A Status → Type 0
Gives view check (Ok a) = check ≡ Ok (view a)
Gives view check (Err status) = check ≡ Err status

pub record IsRefused (row : Row) (old new : Tree) (status : Status) : Type 0 where
  pub reply : row ≡ Err status
  pub same : new ≡ old

-- the body and the tree that is there now are the row's
abbrev pub Does : Row → Tree → Tree → Result Body Status → Type 0
Does row old new (Ok body) = row ≡ Ok (record { body = body; tree = new })
Does row old new (Err status) = IsRefused row old new status

-- a handle of another length than 24 is none of this service's, and one that names nothing is stale
unfoldable pub find_object : Tree → List ℕ → Check Object
find_object t bytes = do
  h ← some_or (handle_in bytes) BadHandle
  some_or (object_of t h) Stale

abbrev pub need_directory : Object → Check (Unit {0})
need_directory o = need (is_directory o.inode.kind) NotDir

abbrev pub need_file : Object → Check (Unit {0})
need_file o = need (is_file o.inode.kind) Inval

-- what is in the live tree; nothing else is changed
abbrev pub is_live : Place → Bool
is_live (Live fileid) = true
is_live place = false

abbrev pub need_live : Object → Check (Unit {0})
need_live o = need (is_live o.place) Rofs

abbrev pub need_good_name : List ℕ → Check (Unit {0})
need_good_name name = no_fault (name_fault name)

unfoldable pub need_place_for : Object → List ℕ → Check (Unit {0})
need_place_for o name = do
  _ ← need_directory o
  _ ← need_live o
  need_good_name name

unfoldable pub find_directory : Tree → DirOp (List ℕ) → Check Object
find_directory t a = do
  o ← find_object t a.directory
  _ ← need_place_for o a.name
  Ok o

abbrev pub need_search : Cred → Object → Check (Unit {0})
need_search cred o = need (may_search cred o.inode) Acces
