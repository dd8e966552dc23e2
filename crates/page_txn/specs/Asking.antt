-- What a transaction asks on the way, and what comes of it.
use Rattle.std.specs.Prelude.{◌≡◌, ◌≢◌, ℕ, ◌==◌, Bool, true, false, if◌then◌else◌, List, Option, Some, None, Result, Ok, Err}
use Rattle.std.specs.List.{list_any}
use Rattle.nfs3_types.specs.Count.{Rose}
use Rattle.pair_types.specs.declared.slot.Slot.{Slot}
use Rattle.pair_types.specs.declared.slot.Tid.{Tid}
use Rattle.pair_types.specs.declared.fault.PageFault.{PageFault}
use Rattle.pair_types.specs.declared.fault.PageFault.TheVariants.{Crossed, Step}
use Rattle.pair_types.specs.PageState.{no_memory}
use Rattle.page_types.specs.declared.answer.Answer.{Answer}
use Rattle.page_types.specs.declared.answer.Answer.TheVariants.{Page, Versions}
use Rattle.page_types.specs.declared.journal.JEntry.{JEntry}
use Rattle.page_types.specs.Fair.{seen}
use Rattle.page_types.specs.Ports.{PortState}
use Rattle.two_phase.specs.Tries.{Onward, IsCause}
use Rattle.two_phase.specs.Parts.{carries}
use Rattle.two_phase.specs.Commits.{cross_of, FinishedFirst}
use Rattle.page_txn.specs.declared.row.Row.{Row}
use Rattle.page_txn.specs.Rows.{Rows, row_at}
use Rattle.page_txn.specs.Causes.{faults_of}
use Rattle.page_txn.specs.Since.{WasAnswered}

-- ## Answers

-- a page of version 0 was never written: it is absent
abbrev pub content_read : ℕ → List ℕ → Option (List ℕ)
content_read version content = if version == 0 then None else Some content

-- the answer is a page, of which this row is known
pub record IsPageAnswer (answer : Answer) (row : Row) : Type 0 where
  pub content : List ℕ
  pub is : answer ≡ Page row.version content
  pub content_is : row.content ≡ content_read row.version content
  pub unwritten : row.written ≡ None

abbrev pub is_page : Answer → Bool
is_page (Page version content) = true
is_page answer = false

abbrev pub is_versions : Answer → Bool
is_versions (Versions versions) = true
is_versions answer = false

-- ## Calls

-- nothing was asked for the transaction
abbrev pub AreForeign : Tid → List JEntry → Type 0
AreForeign tid part = list_any (carries tid) part ≡ false

-- the fault is counted in what was asked, unless it is want of memory
abbrev pub IsCounted : Tid → PortState → PortState → PageFault → Type 0
IsCounted tid old new fault = fault ≢ no_memory → Rose (faults_of tid old fault) (faults_of tid new fault)

abbrev pub AsksAs : {A : Type 0} → (A → List JEntry → Type 0) → Tid → PortState → PortState → Result A PageFault →
    List JEntry → Type 0
AsksAs Given tid old new (Ok x) part = Given x part
AsksAs Given tid old new (Err fault) part = IsCounted tid old new fault

-- Commands were asked for a transaction that are not its own, and an answer is given by them, or why there is none.
pub record Asks {A : Type 0} (Given : A → List JEntry → Type 0) (tid : Tid) (old new : PortState)
    (result : Result A PageFault) : Type 0 where
  pub part : List JEntry
  pub onward : Onward old new part
  pub foreign : AreForeign tid part
  pub ends : AsksAs Given tid old new result part

abbrev pub RefusesAs : PortState → PortState → Tid → ℕ → Answer → PageFault → List JEntry → Type 0
RefusesAs old new tid store answer (Crossed crossed) part =
    (crossed ≡ cross_of tid store answer) × FinishedFirst old.pass tid answer part
RefusesAs old new tid store answer (Step f) part = IsCause old new f part

-- what an answer tells that is in the way is finished, or why it is not
pub record Refuses (old new : PortState) (tid : Tid) (store : ℕ) (answer : Answer) (fault : PageFault) : Type 0 where
  pub part : List JEntry
  pub onward : Onward old new part
  pub foreign : AreForeign tid part
  pub ends : RefusesAs old new tid store answer fault part

-- ## What is given

-- the row is what was answered of the slot, and what is known of it; nothing is written there
pub record IsRead (known : List JEntry) (s : Slot) (row : Row) (part : List JEntry) : Type 0 where
  pub unwritten : row.written ≡ None
  pub answered : WasAnswered s row.version part
  pub known_as : seen known s.store s.number row.version ≡ Some row.content

-- the slot is one of this store, was not known, and was answered to be absent
pub record IsFresh (rows : Rows) (store : ℕ) (s : Slot) (part : List JEntry) : Type 0 where
  pub store_is : s.store ≡ store
  pub unknown : row_at rows s ≡ None
  pub absent : WasAnswered s 0 part
