-- How far a reader of records is, and what that says of the text that comes next.
use Rattle.std.specs.Prelude.{◌≡◌, ℕ, ◌+◌, ◌-◌, ◌*◌, Bool, false, ◌==◌, List, [], ◌∷◌, ◌++◌, length, take, Result, Ok, Err}
use Rattle.std.specs.Prelude.{Option, Some, None, IfOk}
use Rattle.rpc_records.specs.declared.fault.RecordFault.{RecordFault}
use Rattle.rpc_records.specs.declared.limits.TheConstants.{MOST_FRAGMENTS}
use Rattle.rpc_records.specs.Reading.{Reading, fragment_at, record_at}
use Rattle.rpc_records.specs.Reading.Reading.{Whole, Partial, Refused}

pub data Progress : Type 0 where
  -- in a head of which these bytes have come, behind this content, where so many fragments may begin
  InHead : (fragments : ℕ) (content bytes : List ℕ) → Progress
  -- in a fragment, the last or not, of which so many bytes are left, behind this content, where so
  -- many more fragments may begin
  InFragment : (fragments : ℕ) (content : List ℕ) (last : Bool) (left : ℕ) → Progress
  -- a whole record is kept, with this content
  Holding : (content : List ℕ) → Progress
  -- the text is refused
  Refusing : (fault : RecordFault) → Progress

-- between two records
abbrev pub fresh : Progress
fresh = InHead MOST_FRAGMENTS [] []

-- What the present record is, if this text comes next. A record that is kept takes nothing of it.
abbrev pub reading_of : Progress → List ℕ → Reading
reading_of (InHead fragments content bytes) text = record_at fragments content (bytes ++ text)
reading_of (InFragment fragments content last left) text = fragment_at (record_at fragments) last left content text
reading_of (Holding content) text = Whole content text
reading_of (Refusing fault) text = Refused fault

abbrev pub IsUnfinished : Progress → Type 0
IsUnfinished (InHead fragments content bytes) = Unit {0}
IsUnfinished (InFragment fragments content last left) = Unit {0}
IsUnfinished (Holding content) = ⊥
IsUnfinished (Refusing fault) = ⊥

-- how many bytes of an unfinished record were taken, its heads included
abbrev pub taken_of : Progress → ℕ
taken_of (InHead fragments content bytes) = 4 * (MOST_FRAGMENTS - fragments) + length content + length bytes
taken_of (InFragment fragments content last left) = 4 * (MOST_FRAGMENTS - fragments) + length content
taken_of (Holding content) = 0
taken_of (Refusing fault) = 0

-- no byte of an unfinished record was taken
abbrev pub is_at_edge : Progress → Bool
is_at_edge (Refusing fault) = false
is_at_edge progress = taken_of progress == 0

-- the record that is kept, if there is one
abbrev pub kept_by : Progress → List (List ℕ)
kept_by (Holding content) = content ∷ []
kept_by _ = []

abbrev pub refusal_of : Progress → Option RecordFault
refusal_of (Refusing fault) = Some fault
refusal_of _ = None

-- ---- what feeding a piece does, by what the present record is if the piece comes next

-- a record that the piece makes whole is kept, and what stands behind it in the piece is not taken
abbrev pub KeepsWhole : Progress → List ℕ → Result ℕ RecordFault → Progress → Type 0
KeepsWhole old piece result new = (content rest : List ℕ) → reading_of old piece ≡ Whole content rest
    → (result ≡ Ok (length piece - length rest)) × (new ≡ Holding content)

-- a piece that leaves the record unfinished is taken to its end
abbrev pub TakesAll : Progress → List ℕ → Result ℕ RecordFault → Progress → Type 0
TakesAll old piece result new = reading_of old piece ≡ Partial
    → (result ≡ Ok (length piece)) × (taken_of new ≡ taken_of old + length piece)

-- a piece with a head that breaks a limit is refused, and every later one
abbrev pub Refuses : Progress → List ℕ → Result ℕ RecordFault → Progress → Type 0
Refuses old piece result new = (fault : RecordFault) → reading_of old piece ≡ Refused fault
    → (result ≡ Err fault) × (new ≡ Refusing fault)

-- what is taken of the piece belongs to the present record, which goes on behind it
abbrev pub GoesOn : Progress → List ℕ → Result ℕ RecordFault → Progress → Type 0
GoesOn old piece result new = IfOk result (λ n. (more : List ℕ) → reading_of new more ≡ reading_of old (take n piece ++ more))

pub record Feeds (old : Progress) (piece : List ℕ) (result : Result ℕ RecordFault) (new : Progress) : Type 0 where
  pub whole : KeepsWhole old piece result new
  pub partial : TakesAll old piece result new
  pub refused : Refuses old piece result new
  pub goes_on : GoesOn old piece result new

-- dropping the kept record leads to the next one, and without one nothing is done
abbrev pub after_next : Progress → Progress
after_next (Holding content) = fresh
after_next progress = progress
