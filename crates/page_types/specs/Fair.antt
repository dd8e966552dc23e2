-- Which commands a pass may ask, by the entries of a journal before it, newest first.
use Rattle.std.specs.Prelude.{◌≡◌, ℕ, ◌<◌, ◌≤◌, ◌==◌, ◌&&◌, if◌then◌else◌, List, [], ◌∷◌, Option, Some, None}
use Rattle.std.specs.Prelude.{IsSome, ⊤}
use Rattle.std.specs.List.{Contains}
use Rattle.pair_types.specs.declared.slot.Slot.{Slot}
use Rattle.pair_types.specs.declared.slot.Tid.{Tid}
use Rattle.pair_types.specs.PageMaps.{PageMap, ReadMap, Agrees, over, page_of}
use Rattle.nfs3_types.specs.declared.entry.Entry.{Entry}
use Rattle.page_types.specs.declared.outcome.Outcome.{Outcome}
use Rattle.page_types.specs.declared.outcome.Outcome.TheVariants.{Commit, Abort}
use Rattle.page_types.specs.declared.versions.PageRead.{PageRead}
use Rattle.page_types.specs.declared.command.Part.{Part}
use Rattle.page_types.specs.declared.command.Resolution.{Resolution}
use Rattle.page_types.specs.declared.command.Command.{Command}
use Rattle.page_types.specs.declared.command.Command.TheVariants.{Fresh, Read, Look, Write, Prepare, Decide, Resolve}
use Rattle.page_types.specs.declared.answer.Answer.{Answer}
use Rattle.page_types.specs.declared.answer.Answer.TheVariants.{Page}
use Rattle.page_types.specs.declared.journal.JEntry.{JEntry}
use Rattle.page_types.specs.declared.journal.JEntry.TheVariants.{Took}
use Rattle.page_types.specs.Accesses.{read_at, written_at, AreAccesses}
use Rattle.page_types.specs.Asked.{Plan, plan_of, Alone, first_of, part_asked, plan_asked, alone_asked, WasPrepared, WasTold}
use Rattle.page_types.specs.Asked.{commit_asked, Names}

-- what a page of a store holds at a version, or that it is absent, as far as it is known
abbrev pub Known : Type 0
Known = ℕ → ℕ → ℕ → Option (Option (List ℕ))

-- what an answer tells of a page at a version
abbrev pub told_by : ℕ → ℕ → ℕ → ℕ → Command → Answer → Option (Option (List ℕ))
told_by here number version store (Read n) (Page v content) =
    if (store == here) && ((n == number) && (v == version)) then Some (Some content) else None
told_by here number version store command answer = None

abbrev pub told_in : ℕ → ℕ → ℕ → JEntry → Option (Option (List ℕ))
told_in here number version (Took pass store command answer) = told_by here number version store command answer
told_in here number version e = None

abbrev pub told_first : ℕ → ℕ → ℕ → List JEntry → Option (Option (List ℕ))
told_first here number version [] = None
told_first here number version (e ∷ es) = first_of (told_first here number version es) (told_in here number version e)

-- what these entries tell of it; at version 0 a page is absent
abbrev pub seen : List JEntry → Known
seen es store number version = if version == 0 then Some None else told_first store number version es

-- what a part read, and what it writes, of a slot of its store
abbrev pub read_then : Known → ℕ → ℕ → Option ℕ → Option (Option (List ℕ))
read_then known store number None = None
read_then known store number (Some version) = known store number version

abbrev pub reads_alone : Known → Alone → ReadMap
reads_alone known a s =
    if s.store == a.store then read_then known s.store s.number (read_at a.transaction.reads s.number) else None

abbrev pub writes_alone : Alone → PageMap
writes_alone a s = if s.store == a.store then written_at a.transaction.writes s.number else None

abbrev pub reads_of_part : Known → Option Part → Slot → Option (Option (List ℕ))
reads_of_part known None s = None
reads_of_part known (Some part) s = read_then known s.store s.number (read_at part.reads s.number)

abbrev pub writes_of_part : Option Part → Slot → Option (List ℕ)
writes_of_part None s = None
writes_of_part (Some part) s = written_at part.writes s.number

-- what all parts of a transaction read, and what they write
abbrev pub reads_of_all : Known → List JEntry → Tid → ReadMap
reads_of_all known es tid s = reads_of_part known (part_asked es tid s.store) s

abbrev pub writes_of_all : List JEntry → Tid → PageMap
writes_of_all es tid s = writes_of_part (part_asked es tid s.store) s

-- where there is an earlier one, it is equal
abbrev pub IsAgain : {A : Type 0} → Option A → A → Type 0
IsAgain None x = ⊤
IsAgain (Some earlier) x = earlier ≡ x

-- the entry, where there is one, is of this pass and serial
abbrev pub IsOwnEntry : Tid → Option Entry → Type 0
IsOwnEntry tid None = ⊤
IsOwnEntry tid (Some e) = (e.pass ≡ tid.pass) × (e.serial ≡ tid.serial)

-- the transaction is one of this pass
pub record IsOfPass (pass : ℕ) (tid : Tid) : Type 0 where
  pub own : tid.pass ≡ pass
  pub serial : 1 ≤ tid.serial

-- what was read is known
abbrev pub AreKnown : Known → ℕ → List PageRead → Type 0
AreKnown known store reads = (number version : ℕ) → read_at reads number ≡ Some version → IsSome (known store number version)

-- a part may be asked of a store, among so many
pub record PartFair (stores : ℕ) (es : List JEntry) (pass store : ℕ) (part : Part) : Type 0 where
  pub of_pass : IsOfPass pass part.tid
  pub accesses : AreAccesses part.reads part.writes
  pub not_alone : alone_asked es part.tid ≡ None
  pub again : IsAgain (part_asked es part.tid store) part
  pub planned : IsAgain (plan_asked es part.tid) (plan_of part)
  pub here : Contains part.parts store
  pub home : Contains part.parts part.home
  pub lowest : (other : ℕ) → Contains part.parts other → part.home ≤ other
  pub below : (other : ℕ) → Contains part.parts other → other < stores

-- an Abort may be asked of the home of a plan that is known
pub record AbortFair (Plans : Tid → Plan → Type 0) (store : ℕ) (tid : Tid) : Type 0 where
  pub plan : Plan
  pub planned : Plans tid plan
  pub home : plan.home ≡ store

-- a part may be resolved as its home was heard to have decided
pub record ResolutionFair (Plans : Tid → Plan → Type 0) (es : List JEntry) (pass store : ℕ) (r : Resolution) : Type 0 where
  pub plan : Plan
  pub planned : Plans r.tid plan
  pub here : Contains plan.parts store
  pub told : WasTold es pass r.tid plan.home r.commit

-- the root page's slot
abbrev pub root : Slot
root = record { store = 0; number = 0 }

-- What maps of pages stand for, a state S; and where an entry leads, from a state with this root page.
module _ {S : Type 0} (stands : PageMap → S → Type 0) (next : S → List ℕ → Entry → S → Type 0) where
  -- where the entry leads there is one with the fact; without an entry nothing moves
  abbrev pub Leads : S → List ℕ → Option Entry → (S → Type 0) → Type 0
  Leads state page None Has = Has state
  Leads state page (Some e) Has = (led : S) × next state page e led × Has led

  -- in whatever map of pages agrees with the reads, the writes lead where the entry leads
  abbrev pub IsRight : ReadMap → PageMap → Option Entry → Type 0
  IsRight reads writes e = (under : PageMap) (state : S) → Agrees reads under → stands under state →
      Leads state (page_of (under root)) e (λ led. stands (over writes under) led)

  -- a transaction may be asked of one store alone
  pub record AloneFair (known : Known) (es : List JEntry) (pass : ℕ) (a : Alone) : Type 0 where
    pub of_pass : IsOfPass pass a.transaction.tid
    pub accesses : AreAccesses a.transaction.reads a.transaction.writes
    pub again : IsAgain (alone_asked es a.transaction.tid) a
    pub not_planned : plan_asked es a.transaction.tid ≡ None
    pub are_known : AreKnown known a.store a.transaction.reads
    pub entry : IsOwnEntry a.transaction.tid a.transaction.entry
    pub right : IsRight (reads_alone known a) (writes_alone a) a.transaction.entry

  -- a Commit may be asked of the home, once all parts are prepared
  pub record CommitFair (known : Known) (es : List JEntry) (pass store : ℕ) (tid : Tid) (e : Option Entry) : Type 0 where
    pub of_pass : IsOfPass pass tid
    pub plan : Plan
    pub planned : plan_asked es tid ≡ Some plan
    pub home : plan.home ≡ store
    pub again : IsAgain (commit_asked es tid) e
    pub prepared : (other : ℕ) → Contains plan.parts other → WasPrepared es tid other
    pub are_known : (other : ℕ) (part : Part) → part_asked es tid other ≡ Some part → AreKnown known other part.reads
    pub entry : IsOwnEntry tid e
    pub right : IsRight (reads_of_all known es tid) (writes_of_all es tid) e

  -- an outcome may be asked of the home
  abbrev pub DecisionFair : Known → (Tid → Plan → Type 0) → List JEntry → ℕ → ℕ → Tid → Outcome → Type 0
  DecisionFair known Plans es pass store tid (Commit e) = CommitFair known es pass store tid e
  DecisionFair known Plans es pass store tid Abort = AbortFair Plans store tid

  -- A command that a pass may ask of a store, one of so many: by what is known of pages, by the plans that are known,
  -- and by the entries before.
  abbrev pub IsFairBy : ℕ → Known → (Tid → Plan → Type 0) → List JEntry → ℕ → ℕ → Command → Type 0
  IsFairBy stores known Plans es pass store Fresh = ⊤
  IsFairBy stores known Plans es pass store (Read number) = ⊤
  IsFairBy stores known Plans es pass store (Look numbers) = ⊤
  IsFairBy stores known Plans es pass store (Write x) = AloneFair known es pass (record { store = store; transaction = x })
  IsFairBy stores known Plans es pass store (Prepare part) = PartFair stores es pass store part
  IsFairBy stores known Plans es pass store (Decide d) = DecisionFair known Plans es pass store d.tid d.outcome
  IsFairBy stores known Plans es pass store (Resolve r) = ResolutionFair Plans es pass store r

  -- by the pass's own entries alone
  abbrev pub IsFair : ℕ → List JEntry → ℕ → ℕ → Command → Type 0
  IsFair stores es pass store command = IsFairBy stores (seen es) (Names es) es pass store command
