-- What a transaction reads and writes at each of its stores, and when it may be committed.
use Rattle.std.specs.Prelude.{◌≡◌, ℕ, ◌<◌, ◌≤◌, ◌==◌, if◌then◌else◌, Bool, false, List, [], ◌∷◌, length, map, Option}
use Rattle.std.specs.Prelude.{Some, None, IsSome, Result, Ok, Err, ⊤}
use Rattle.std.specs.List.{list_any, All, Contains}
use Rattle.pair_types.specs.declared.slot.Slot.{Slot}
use Rattle.pair_types.specs.declared.slot.Tid.{Tid}
use Rattle.pair_types.specs.declared.fault.StepFault.{StepFault}
use Rattle.pair_types.specs.PageMaps.{PageMap, ReadMap}
use Rattle.nfs3_types.specs.declared.entry.Entry.{Entry}
use Rattle.page_types.specs.declared.command.Part.{Part as AskedPart}
use Rattle.page_types.specs.declared.command.Command.{Command}
use Rattle.page_types.specs.declared.command.Command.TheVariants.{Write, Prepare, Decide, Resolve}
use Rattle.page_types.specs.declared.answer.Answer.{Answer}
use Rattle.page_types.specs.declared.journal.JEntry.{JEntry}
use Rattle.page_types.specs.declared.journal.JEntry.TheVariants.{Took, Doubted, Late}
use Rattle.page_types.specs.Accesses.{is_same, read_at, written_at, AreAccesses}
use Rattle.page_types.specs.Journals.{Origin}
use Rattle.page_types.specs.Asked.{Plan, part_asked, plan_asked, alone_asked, commit_asked, WasPrepared, is_prepared}
use Rattle.page_types.specs.Fair.{Known, seen, read_then, IsOfPass, AreKnown, IsOwnEntry, IsRight}
use Rattle.page_types.specs.Ports.{PortState, IsAnswer}
use Rattle.two_phase.specs.declared.parts.Part.{Part}
use Rattle.two_phase.specs.declared.prepares.Preparation.{Preparation}
use Rattle.two_phase.specs.declared.prepares.Preparation.TheVariants.{Ready, Refused}
use Rattle.two_phase.specs.Tries.{Onward, IsCause}
use Rattle.two_phase.specs.Endings.{Asks}

-- the part at a store
abbrev pub part_at : List Part → ℕ → Option Part
part_at [] store = None
part_at (part ∷ parts) store = if part.store == store then Some part else part_at parts store

abbrev pub stores_of : List Part → List ℕ
stores_of parts = map (λ part. part.store) parts

-- what a part read and what it writes of a slot, and what all parts do
abbrev pub reads_at : Known → Option Part → Slot → Option (Option (List ℕ))
reads_at known None s = None
reads_at known (Some part) s = read_then known s.store s.number (read_at part.reads s.number)

abbrev pub writes_at : Option Part → Slot → Option (List ℕ)
writes_at None s = None
writes_at (Some part) s = written_at part.writes s.number

abbrev pub reads_among : Known → List Part → ReadMap
reads_among known parts s = reads_at known (part_at parts s.store) s

abbrev pub writes_among : List Part → PageMap
writes_among parts s = writes_at (part_at parts s.store) s

-- the stores rise, so that none stands twice
abbrev pub StoresRise : List Part → Type 0
StoresRise [] = ⊤
StoresRise (part ∷ []) = ⊤
StoresRise (part ∷ other ∷ parts) = (part.store < other.store) × StoresRise (other ∷ parts)

abbrev pub is_of_tid : Tid → Command → Bool
is_of_tid tid (Write x) = is_same x.tid tid
is_of_tid tid (Prepare part) = is_same part.tid tid
is_of_tid tid (Decide d) = is_same d.tid tid
is_of_tid tid (Resolve r) = is_same r.tid tid
is_of_tid tid command = false

-- the entry's command is the transaction's
abbrev pub carries : Tid → JEntry → Bool
carries tid (Took pass store command answer) = is_of_tid tid command
carries tid (Doubted pass store command) = is_of_tid tid command
carries tid (Late store command answer) = is_of_tid tid command

-- A new transaction of the pass, with at least one part: what it read is known, and its writes lead where its entry leads.
pub record IsTransaction {S : Type 0} (stands : Origin → PageMap → S → Type 0) (next : S → List ℕ → Entry → S → Type 0)
    (p : PortState) (tid : Tid) (parts : List Part) (served : Option Entry) : Type 0 where
  pub of_pass : IsOfPass p.pass tid
  pub fresh : list_any (carries tid) p.mine ≡ false
  pub some : 1 ≤ length parts
  pub rise : StoresRise parts
  pub below : (part : Part) → Contains parts part → part.store < p.origin.stores
  pub accesses : (part : Part) → Contains parts part → AreAccesses part.reads part.writes
  pub are_known : (part : Part) → Contains parts part → AreKnown (seen p.mine) part.store part.reads
  pub entry : IsOwnEntry tid served
  pub right : IsRight (stands p.origin) next (reads_among (seen p.mine) parts) (writes_among parts) served

-- ## Preparing the parts

-- what is asked of a store for a part
abbrev pub asked_for : Tid → Plan → Part → AskedPart
asked_for tid plan part =
    record { tid = tid; home = plan.home; parts = plan.parts; reads = part.reads; writes = part.writes }

abbrev pub asked_of : Tid → Plan → Option Part → Option AskedPart
asked_of tid plan None = None
asked_of tid plan (Some part) = Some (asked_for tid plan part)

abbrev pub planned_by : Plan → List Part → Option Plan
planned_by plan [] = None
planned_by plan (part ∷ parts) = Some plan

-- These parts of the transaction, and no others, were asked and are prepared, and nothing more was asked for it.
pub record ArePrepared (es : List JEntry) (tid : Tid) (plan : Plan) (parts : List Part) : Type 0 where
  pub asked : (store : ℕ) → part_asked es tid store ≡ asked_of tid plan (part_at parts store)
  pub prepared : (store : ℕ) → IsSome (part_at parts store) → WasPrepared es tid store
  pub planned : plan_asked es tid ≡ planned_by plan parts
  pub not_alone : alone_asked es tid ≡ None
  pub not_decided : commit_asked es tid ≡ None

-- the parts may be prepared by this plan: nothing was asked for the transaction yet
pub record MayPrepare (p : PortState) (tid : Tid) (plan : Plan) (parts : List Part) : Type 0 where
  pub of_pass : IsOfPass p.pass tid
  pub none_yet : ArePrepared p.mine tid plan []
  pub rise : StoresRise parts
  pub accesses : (part : Part) → Contains parts part → AreAccesses part.reads part.writes
  pub listed : (part : Part) → Contains parts part → Contains plan.parts part.store
  pub home : Contains plan.parts plan.home
  pub lowest : (store : ℕ) → Contains plan.parts store → plan.home ≤ store
  pub below : (store : ℕ) → Contains plan.parts store → store < p.origin.stores

-- the entry asks to prepare one of the parts
abbrev pub AsksPart : Tid → Plan → List Part → JEntry → Type 0
AsksPart tid plan parts e =
    (part : Part) × (Contains parts part × Asks (λ store. store ≡ part.store) (Prepare (asked_for tid plan part)) e)

-- a part was refused: it was asked last, and was answered so
pub record WasRefused (old : PortState) (tid : Tid) (plan : Plan) (parts : List Part) (store : ℕ) (answer : Answer)
    (entries : List JEntry) : Type 0 where
  pub part : Part
  pub among : Contains parts part
  pub store_is : store ≡ part.store
  pub before : List JEntry
  pub is : entries ≡ Took old.pass store (Prepare (asked_for tid plan part)) answer ∷ before
  pub given : IsAnswer old.origin.stores (Prepare (asked_for tid plan part)) answer
  pub unprepared : is_prepared answer ≡ false

abbrev pub PreparesAs : PortState → PortState → Tid → Plan → List Part → Result Preparation StepFault → List JEntry → Type 0
PreparesAs old new tid plan parts (Ok Ready) entries = ArePrepared new.mine tid plan parts
PreparesAs old new tid plan parts (Ok (Refused store answer)) entries =
    WasRefused old tid plan parts store answer entries
PreparesAs old new tid plan parts (Err f) entries = IsCause old new f entries

-- Each part is asked to prepare, up to the first that is refused, and nothing else is asked.
pub record Prepares (old new : PortState) (tid : Tid) (plan : Plan) (parts : List Part)
    (result : Result Preparation StepFault) : Type 0 where
  pub part : List JEntry
  pub onward : Onward old new part
  pub asks : All (AsksPart tid plan parts) part
  pub ends : PreparesAs old new tid plan parts result part
