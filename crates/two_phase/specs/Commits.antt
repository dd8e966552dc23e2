-- What a commit leaves of a pass's own entries, by cases on its answer.
use Rattle.std.specs.Prelude.{◌≡◌, ℕ, ◌==◌, ◌&&◌, not, nat_lt, if◌then◌else◌, Bool, true, false, List, []}
use Rattle.std.specs.Prelude.{◌∷◌, ◌++◌, Option, Some, None, Result, Ok, Err, ⊤, ◌⊎◌, MatchBool}
use Rattle.std.specs.List.{All, Contains}
use Rattle.pair_types.specs.declared.slot.Tid.{Tid}
use Rattle.pair_types.specs.PageMaps.{PageMap}
use Rattle.pair_types.specs.declared.fault.StepFault.{StepFault}
use Rattle.pair_types.specs.declared.fault.Cross.{Cross}
use Rattle.pair_types.specs.declared.fault.Cross.TheVariants as cross
use Rattle.nfs3_types.specs.declared.entry.Entry.{Entry}
use Rattle.page_types.specs.declared.outcome.Outcome.{Outcome}
use Rattle.page_types.specs.declared.outcome.Outcome.TheVariants as outcome
use Rattle.page_types.specs.declared.command.Command.{Command}
use Rattle.page_types.specs.declared.command.Command.TheVariants.{Write, Prepare, Decide}
use Rattle.page_types.specs.declared.answer.Answer.{Answer}
use Rattle.page_types.specs.declared.answer.Answer.TheVariants.{Wrote, Busy, Conflict, Decided, Ended}
use Rattle.page_types.specs.declared.journal.JEntry.{JEntry}
use Rattle.page_types.specs.declared.journal.JEntry.TheVariants.{Took, Doubted, Late}
use Rattle.page_types.specs.Accesses.{is_same}
use Rattle.page_types.specs.Asked.{Plan, entry_of, is_commit}
use Rattle.page_types.specs.Journals.{Origin}
use Rattle.page_types.specs.Ports.{PortState, MayAsk}
use Rattle.two_phase.specs.declared.parts.Part.{Part}
use Rattle.two_phase.specs.declared.closing.Commit.{Commit}
use Rattle.two_phase.specs.declared.closing.Commit.TheVariants.{Done, Crossed, Fault}
use Rattle.two_phase.specs.Tries.{Onward, IsCause}
use Rattle.two_phase.specs.Endings.{IsKnown, IsEnd, Finished, WasEnded, end_of}
use Rattle.two_phase.specs.Parts.{stores_of, carries}

-- ## Whether a transaction took effect, as far as its pass knows

-- the command may make the transaction take effect
abbrev pub asks_effect : Tid → Command → Bool
asks_effect tid (Write x) = is_same x.tid tid
asks_effect tid (Decide d) = is_same d.tid tid && is_commit d.outcome
asks_effect tid command = false

-- the entry with which it took effect, where the answer says that it did
abbrev pub wrote_entry : Option Entry → Answer → Option (Option Entry)
wrote_entry served Wrote = Some served
wrote_entry served answer = None

abbrev pub decided_entry : Outcome → Answer → Option (Option Entry)
decided_entry asked (Decided outcome) = if is_commit outcome then entry_of asked else None
decided_entry asked answer = None

abbrev pub effect_in : Tid → Command → Answer → Option (Option Entry)
effect_in tid (Write x) answer = if is_same x.tid tid then wrote_entry x.entry answer else None
effect_in tid (Decide d) answer = if is_same d.tid tid then decided_entry d.outcome answer else None
effect_in tid command answer = None

abbrev pub told_effect : Tid → JEntry → Option (Option Entry)
told_effect tid (Took pass store command answer) = effect_in tid command answer
told_effect tid e = None

abbrev pub listed : {A : Type 0} → Option A → List A → List A
listed None xs = xs
listed (Some x) xs = x ∷ xs

abbrev pub effects : Tid → List JEntry → List (Option Entry)
effects tid [] = []
effects tid (e ∷ es) = listed (told_effect tid e) (effects tid es)

-- exactly one answer says that it took effect, and it was asked with this entry
abbrev pub AnsweredFor : List JEntry → Tid → Option Entry → Type 0
AnsweredFor es tid served = effects tid es ≡ served ∷ []

-- It was never asked to take effect, or the last time it was answered that it did not.
abbrev pub SettledAgainst : List JEntry → Tid → Type 0
SettledAgainst [] tid = ⊤
SettledAgainst (Took pass store command answer ∷ es) tid =
    MatchBool (asks_effect tid command) (effect_in tid command answer ≡ None) (SettledAgainst es tid)
SettledAgainst (Doubted pass store command ∷ es) tid = MatchBool (asks_effect tid command) ⊥ (SettledAgainst es tid)
SettledAgainst (Late store command answer ∷ es) tid = SettledAgainst es tid

-- ## What was in the way

-- what an answer to a command of the transaction tells of another one that is in the way
abbrev pub cross_of : Tid → ℕ → Answer → Cross
cross_of tid store (Conflict number version by) =
    cross.Conflict (record { store = store; number = number }) version by
cross_of tid store (Busy number holder home parts) = cross.Busy (record { store = store; number = number }) holder
cross_of tid store answer = cross.Aborted tid

-- answers by which a transaction is refused
abbrev pub refuses : Answer → Bool
refuses (Conflict number version by) = true
refuses (Busy number holder home parts) = true
refuses (Decided outcome) = true
refuses Ended = true
refuses answer = false

-- a transaction of the same pass that is not older, which no store names as a holder
abbrev pub is_later : Tid → Tid → Bool
is_later tid holder = (holder.pass == tid.pass) && not (nat_lt holder.serial tid.serial)

-- a transaction that a Busy names was finished in these entries, but for one that no store names
abbrev pub FinishesAs : ℕ → Tid → Tid → Plan → List JEntry → Type 0
FinishesAs pass tid holder plan part =
    MatchBool (is_later tid holder) (part ≡ []) ((commit : Bool) × Finished pass holder plan commit part)

abbrev pub FinishedFirst : ℕ → Tid → Answer → List JEntry → Type 0
FinishedFirst pass tid (Busy number holder home parts) later =
    FinishesAs pass tid holder (record { home = home; parts = parts }) later
FinishedFirst pass tid answer later = later ≡ []

-- the transaction's own holds were ended in these entries: all its parts, where it had some
abbrev pub EndedFirst : ℕ → Tid → List ℕ → List JEntry → Type 0
EndedFirst pass tid (store ∷ []) later = later ≡ []
EndedFirst pass tid stores later =
    (commit : Bool) × ((store : ℕ) → Contains stores store → WasEnded pass (end_of tid commit) later store)

-- the commands by which a transaction goes on: its Write, its Prepares, and the decision to commit it
abbrev pub goes_on : Tid → Command → Bool
goes_on tid (Write x) = is_same x.tid tid
goes_on tid (Prepare part) = is_same part.tid tid
goes_on tid (Decide d) = is_same d.tid tid && is_commit d.outcome
goes_on tid command = false

abbrev pub GoesOn : Tid → JEntry → Type 0
GoesOn tid (Took pass store command answer) = goes_on tid command ≡ true
GoesOn tid (Doubted pass store command) = goes_on tid command ≡ true
GoesOn tid (Late store command answer) = ⊥

-- Why it was crossed: the first command that did not let it go on was answered so; then its own holds were ended, and
-- then what a Busy names.
pub record IsCrossed (pass : ℕ) (tid : Tid) (stores : List ℕ) (crossed : Cross) (part : List JEntry) : Type 0 where
  pub store : ℕ
  pub command : Command
  pub answer : Answer
  pub finishing : List JEntry
  pub ending : List JEntry
  pub before : List JEntry
  pub is : part ≡ finishing ++ (ending ++ (Took pass store command answer ∷ before))
  pub went_on : All (GoesOn tid) before
  pub goes : goes_on tid command ≡ true
  pub refused : refuses answer ≡ true
  pub no_effect : effect_in tid command answer ≡ None
  pub cross_is : crossed ≡ cross_of tid store answer
  pub ended : EndedFirst pass tid stores ending
  pub finished : FinishedFirst pass tid answer finishing

-- ## A commit

-- Done exactly where the transaction took effect and this was answered; crossed where it is settled that it did not; and
-- at a fault the answer is not known.
abbrev pub CommitsAs : PortState → PortState → Tid → List ℕ → Option Entry → Commit → List JEntry → Type 0
CommitsAs old new tid stores served Done part = AnsweredFor new.mine tid served
CommitsAs old new tid stores served (Crossed crossed) part =
    SettledAgainst new.mine tid × ((effects tid new.mine ≡ []) × IsCrossed old.pass tid stores crossed part)
CommitsAs old new tid stores served (Fault f) part = (effects tid new.mine ≡ []) × IsCause old new f part

-- the entry ends a transaction that a Busy named
abbrev pub IsOfOther : Tid → JEntry → Type 0
IsOfOther tid e = (holder : Tid) × (plan : Plan) × ((is_later tid holder ≡ false) × IsEnd holder plan e)

-- it is the transaction's, or ends one that a Busy named
abbrev pub IsOfCommit : Tid → JEntry → Type 0
IsOfCommit tid e = (carries tid e ≡ true) ⊎ IsOfOther tid e

pub record Commits (old new : PortState) (tid : Tid) (parts : List Part) (served : Option Entry) (result : Commit) :
    Type 0 where
  pub part : List JEntry
  pub onward : Onward old new part
  pub asks : All (IsOfCommit tid) part
  pub ends : CommitsAs old new tid (stores_of parts) served result part

-- ## Its steps

abbrev pub as_commit : Result Commit StepFault → Commit
as_commit (Ok commit) = commit
as_commit (Err f) = Fault f

-- where the answer is a Busy, the pass knows the plan that it names
abbrev pub IsMet : PortState → Answer → Type 0
IsMet p (Busy number holder home parts) = IsKnown p holder (record { home = home; parts = parts })
IsMet p answer = ⊤

abbrev pub MeetsAs : PortState → PortState → Tid → ℕ → Answer → Result Cross StepFault → List JEntry → Type 0
MeetsAs old new tid store answer (Ok crossed) part =
    (crossed ≡ cross_of tid store answer) × FinishedFirst old.pass tid answer part
MeetsAs old new tid store answer (Err f) part = IsCause old new f part

abbrev pub FinishesOtherAs : PortState → PortState → Tid → Tid → Plan → Result Unit StepFault → List JEntry → Type 0
FinishesOtherAs old new tid holder plan (Ok done) part = FinishesAs old.pass tid holder plan part
FinishesOtherAs old new tid holder plan (Err f) part = IsCause old new f part

pub record FinishesOther (old new : PortState) (tid holder : Tid) (plan : Plan) (result : Result Unit StepFault) :
    Type 0 where
  pub part : List JEntry
  pub onward : Onward old new part
  pub asks : All (IsOfOther tid) part
  pub ends : FinishesOtherAs old new tid holder plan result part

-- a transaction that a Busy names is finished, and nothing else is asked
pub record Meets (old new : PortState) (tid : Tid) (store : ℕ) (answer : Answer) (result : Result Cross StepFault) :
    Type 0 where
  pub part : List JEntry
  pub onward : Onward old new part
  pub asks : All (IsOfOther tid) part
  pub ends : MeetsAs old new tid store answer result part

-- all parts are prepared, and the transaction has not taken effect: the Commit may be asked of the home
pub record IsReady {S : Type 0} (stands : Origin → PageMap → S → Type 0) (next : S → List ℕ → Entry → S → Type 0)
    (p : PortState) (tid : Tid) (plan : Plan) (served : Option Entry) : Type 0 where
  pub known : IsKnown p tid plan
  pub fair : MayAsk stands next p plan.home (Decide (record { tid = tid; outcome = outcome.Commit served }))
  pub none_yet : effects tid p.mine ≡ []

-- the home decides, and each part is ended as it decided
pub record Concludes (old new : PortState) (tid : Tid) (stores : List ℕ) (served : Option Entry)
    (result : Result Commit StepFault) : Type 0 where
  pub part : List JEntry
  pub onward : Onward old new part
  pub asks : All (λ e. carries tid e ≡ true) part
  pub ends : CommitsAs old new tid stores served (as_commit result) part
