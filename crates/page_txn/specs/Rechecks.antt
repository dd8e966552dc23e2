-- Whether what a transaction read is still so.
use Rattle.std.specs.Prelude.{◌≡◌, ℕ, ◌<◌, ◌==◌, ◌&&◌, ◌||◌, not, if◌then◌else◌, Bool, true, false, List, [], ◌∷◌, ◌++◌, map}
use Rattle.std.specs.Prelude.{Option, Some, None, Result, Ok, Err, ⊤, ◌⊎◌}
use Rattle.std.specs.List.{list_any, All, Contains}
use Rattle.pair_types.specs.declared.slot.Slot.{Slot}
use Rattle.pair_types.specs.declared.slot.Tid.{Tid}
use Rattle.pair_types.specs.declared.fault.Cross.{Cross}
use Rattle.pair_types.specs.declared.fault.StepFault.{StepFault}
use Rattle.page_types.specs.declared.versions.PageRead.{PageRead}
use Rattle.page_types.specs.declared.command.Command.{Command}
use Rattle.page_types.specs.declared.command.Command.TheVariants.{Look, Write}
use Rattle.page_types.specs.declared.answer.Answer.{Answer}
use Rattle.page_types.specs.declared.answer.Answer.TheVariants.{Versions, Busy}
use Rattle.page_types.specs.declared.journal.JEntry.{JEntry}
use Rattle.page_types.specs.declared.journal.JEntry.TheVariants.{Took, Doubted, Late}
use Rattle.page_types.specs.Accesses.{is_same, read_at, ReadsRise}
use Rattle.page_types.specs.Fair.{seen, IsOfPass, AreKnown}
use Rattle.page_types.specs.Ports.{PortState}
use Rattle.two_phase.specs.declared.parts.Part.{Part}
use Rattle.two_phase.specs.Tries.{Onward, IsCause}
use Rattle.two_phase.specs.Parts.{carries}
use Rattle.two_phase.specs.Commits.{cross_of, FinishedFirst, IsOfOther, Meets}
use Rattle.page_txn.specs.declared.row.Row.{Row}
use Rattle.page_txn.specs.Rows.{Rows, row_at}
use Rattle.page_txn.specs.Since.{WasAnswered}
use Rattle.page_txn.specs.Asking.{AreForeign}
use Rattle.page_txn.specs.Parts.{ArePartsOf}

-- ## What is asked

-- a Look, or a Write of the transaction that writes nothing and serves no call
abbrev pub IsInquiry : Tid → Command → Type 0
IsInquiry tid (Look numbers) = ⊤
IsInquiry tid (Write x) = (is_same x.tid tid ≡ true) × ((x.writes ≡ []) × (x.entry ≡ None))
IsInquiry tid command = ⊥

abbrev pub Inquires : Tid → JEntry → Type 0
Inquires tid (Took pass store command answer) = IsInquiry tid command
Inquires tid (Doubted pass store command) = IsInquiry tid command
Inquires tid (Late store command answer) = ⊥

-- it inquires, or ends a transaction that a Busy named
abbrev pub IsOfRecheck : Tid → JEntry → Type 0
IsOfRecheck tid e = Inquires tid e ⊎ IsOfOther tid e

-- ## What is answered

-- a number's place in a Look was answered by another version
abbrev pub other_looked : List ℕ → List ℕ → ℕ → ℕ → Bool
other_looked (n ∷ ns) (v ∷ vs) number version =
    ((n == number) && not (v == version)) || other_looked ns vs number version
other_looked ns vs number version = false

abbrev pub is_stale_by : ℕ → ℕ → Command → Answer → Bool
is_stale_by number version (Look ns) (Versions vs) = other_looked ns vs number version
is_stale_by number version (Look ns) (Busy held holder home parts) = held == number
is_stale_by number version command answer = false

-- a Look was answered that the slot has another version than this, or a writer's hold
abbrev pub is_stale : Slot → ℕ → JEntry → Bool
is_stale s version (Took pass store command answer) = (store == s.store) && is_stale_by s.number version command answer
is_stale s version e = false

abbrev pub IsStale : Slot → ℕ → List JEntry → Type 0
IsStale s version es = list_any (is_stale s version) es ≡ true

-- a command was answered that this is in the way, and what a Busy names was finished after it, last of all
pub record WasMet (pass : ℕ) (tid : Tid) (crossed : Cross) (part : List JEntry) : Type 0 where
  pub store : ℕ
  pub command : Command
  pub answer : Answer
  pub finishing : List JEntry
  pub before : List JEntry
  pub is : part ≡ finishing ++ (Took pass store command answer ∷ before)
  pub cross_is : crossed ≡ cross_of tid store answer
  pub finished : FinishedFirst pass tid answer finishing

-- ## What comes of it

-- All is unchanged, and nothing was asked for the transaction; or something is stale, and this is in the way.
abbrev pub LooksAs : (Unchanged Stale : List JEntry → Type 0) → PortState → PortState → Tid →
    Result (Option Cross) StepFault → List JEntry → Type 0
LooksAs Unchanged Stale old new tid (Ok None) part = AreForeign tid part × Unchanged part
LooksAs Unchanged Stale old new tid (Ok (Some crossed)) part = WasMet old.pass tid crossed part × Stale part
LooksAs Unchanged Stale old new tid (Err f) part = IsCause old new f part

-- It is looked, and asked who is in the way, and nothing else is asked but to finish that.
pub record Looks (Unchanged Stale : List JEntry → Type 0) (old new : PortState) (tid : Tid)
    (result : Result (Option Cross) StepFault) : Type 0 where
  pub part : List JEntry
  pub onward : Onward old new part
  pub asks : All (IsOfRecheck tid) part
  pub ends : LooksAs Unchanged Stale old new tid result part

-- each slot that was read had its version, and no writer's hold, when looked at
abbrev pub AreUnchanged : Rows → List JEntry → Type 0
AreUnchanged rows part = (s : Slot) (row : Row) → row_at rows s ≡ Some row → WasAnswered s row.version part

-- a slot that was read has another version or a writer's hold
pub record IsAnyStale (rows : Rows) (part : List JEntry) : Type 0 where
  pub slot : Slot
  pub row : Row
  pub known : row_at rows slot ≡ Some row
  pub stale : IsStale slot row.version part

abbrev pub Rechecks : PortState → PortState → Tid → Rows → Result (Option Cross) StepFault → Type 0
Rechecks old new tid rows result = Looks (AreUnchanged rows) (IsAnyStale rows) old new tid result

-- ## Its steps

-- nothing was asked for the transaction yet, and what it read of a store is known
pub record MayLook (p : PortState) (tid : Tid) (part : Part) : Type 0 where
  pub of_pass : IsOfPass p.pass tid
  pub fresh : list_any (carries tid) p.mine ≡ false
  pub below : part.store < p.origin.stores
  pub rise : ReadsRise part.reads
  pub are_known : AreKnown (seen p.mine) part.store part.reads

-- the rows are of slots of the stores, and whatever parts are theirs may be looked at
pub record MayRecheck (p : PortState) (tid : Tid) (rows : Rows) : Type 0 where
  pub within : (s : Slot) (row : Row) → row_at rows s ≡ Some row → s.store < p.origin.stores
  pub look : (parts : List Part) → ArePartsOf p.origin.stores rows parts → (part : Part) → Contains parts part →
      MayLook p tid part

abbrev pub numbers_of : List PageRead → List ℕ
numbers_of reads = map (λ r. r.number) reads

-- the first read of which another version was answered
abbrev pub first_changed : List PageRead → List ℕ → Option PageRead
first_changed (r ∷ rs) (v ∷ vs) = if r.version == v then first_changed rs vs else Some r
first_changed rs vs = None

abbrev pub MeetsSome : PortState → PortState → Tid → ℕ → Answer → Result (Option Cross) StepFault → Type 0
MeetsSome old new tid store answer (Ok None) = ⊥
MeetsSome old new tid store answer (Ok (Some crossed)) = Meets old new tid store answer (Ok crossed)
MeetsSome old new tid store answer (Err f) = Meets old new tid store answer (Err f)

abbrev pub one_read : ℕ → PageRead → Part
one_read store read = record { store = store; reads = read ∷ []; writes = [] }

-- it is asked who is in the way: something is
abbrev pub AsksWriter : PortState → PortState → Tid → Result (Option Cross) StepFault → Type 0
AsksWriter old new tid result = Looks (λ es. ⊥) (λ es. ⊤) old new tid result

-- by the versions that were answered
abbrev pub Compares : PortState → PortState → Tid → Option PageRead → Result (Option Cross) StepFault → Type 0
Compares old new tid changed result =
    Looks (λ es. changed ≡ None) (λ es. (read : PageRead) × (changed ≡ Some read)) old new tid result

-- each page of the part that was read had its version, and no writer's hold
abbrev pub IsUnchanged : Part → List JEntry → Type 0
IsUnchanged part es =
    (number version : ℕ) → read_at part.reads number ≡ Some version →
    WasAnswered (record { store = part.store; number = number }) version es

-- a page of the part that was read has another version or a writer's hold
pub record IsStaleIn (part : Part) (es : List JEntry) : Type 0 where
  pub number : ℕ
  pub version : ℕ
  pub was_read : read_at part.reads number ≡ Some version
  pub stale : IsStale (record { store = part.store; number = number }) version es

abbrev pub RechecksPart : PortState → PortState → Tid → Part → Result (Option Cross) StepFault → Type 0
RechecksPart old new tid part result = Looks (IsUnchanged part) (IsStaleIn part) old new tid result

abbrev pub EachUnchanged : List Part → List JEntry → Type 0
EachUnchanged parts es = (part : Part) → Contains parts part → IsUnchanged part es

abbrev pub SomeStale : List Part → List JEntry → Type 0
SomeStale parts es = (part : Part) × (Contains parts part × IsStaleIn part es)

abbrev pub RechecksParts : PortState → PortState → Tid → List Part → Result (Option Cross) StepFault → Type 0
RechecksParts old new tid parts result = Looks (EachUnchanged parts) (SomeStale parts) old new tid result
