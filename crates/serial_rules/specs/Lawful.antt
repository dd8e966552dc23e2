-- Which journals are lawful: answers are the stores', and each pass asks only what it may.
use Rattle.std.specs.Prelude.{◌≡◌, ℕ, List, [], ◌∷◌, Option, Some, None, ⊤}
use Rattle.pair_types.specs.declared.slot.Tid.{Tid}
use Rattle.pair_types.specs.PageMaps.{PageMap}
use Rattle.nfs3_types.specs.declared.entry.Entry.{Entry}
use Rattle.page_types.specs.declared.command.Command.{Command}
use Rattle.page_types.specs.declared.answer.Answer.{Answer}
use Rattle.page_types.specs.declared.journal.JEntry.{JEntry}
use Rattle.page_types.specs.declared.journal.JEntry.TheVariants.{Took, Doubted, Late}
use Rattle.page_types.specs.Journals.{Origin, own}
use Rattle.page_types.specs.Asked.{Plan, plan_asked, Names}
use Rattle.page_types.specs.Fair.{IsFairBy, IsFair}
use Rattle.page_types.specs.Obeys.{answer_of}
use Rattle.serial_rules.specs.Worlds.{replay, pending}
use Rattle.serial_rules.specs.Contents.{content_at}

-- a command was settled at a store, which answered by its rule, while this was pending there
pub record IsSettled (origin : Origin) (es : List JEntry) (store : ℕ) (command : Command) (answer : Answer)
    (waiting : Option Command) : Type 0 where
  pub given : answer ≡ answer_of (replay origin es store) command
  pub waited : pending es store ≡ waiting

-- Answers are those of the stores. A command is answered where none is pending, and what is settled late was pending.
abbrev pub Answered : Origin → List JEntry → Type 0
Answered origin [] = ⊤
Answered origin (Took pass store command answer ∷ es) =
    Answered origin es × IsSettled origin es store command answer None
Answered origin (Doubted pass store command ∷ es) = Answered origin es
Answered origin (Late store command answer ∷ es) =
    Answered origin es × IsSettled origin es store command answer (Some command)

-- the plan that was asked for a transaction, where a pass has asked it itself or was told of it
pub record IsPlan (es : List JEntry) (pass : ℕ) (tid : Tid) (plan : Plan) : Type 0 where
  pub planned : plan_asked es tid ≡ Some plan
  pub known : Names (own pass es) tid plan

-- What maps of pages stand for, a state S; and where an entry leads, from a state with this root page.
module _ {S : Type 0} (stands : PageMap → S → Type 0) (next : S → List ℕ → Entry → S → Type 0) where
  -- the command may be asked, by what pages held and by the plans that were asked
  abbrev pub IsAllowed : Origin → List JEntry → ℕ → ℕ → Command → Type 0
  IsAllowed origin es pass store command =
      IsFairBy stands next origin.stores (content_at origin es) (IsPlan es pass) es pass store command

  -- an entry, by the entries before it
  abbrev pub IsMet : Origin → List JEntry → JEntry → Type 0
  IsMet origin es (Took pass store command answer) =
      IsSettled origin es store command answer None × IsAllowed origin es pass store command
  IsMet origin es (Doubted pass store command) = IsAllowed origin es pass store command
  IsMet origin es (Late store command answer) = IsSettled origin es store command answer (Some command)

  abbrev pub IsLawful : Origin → List JEntry → Type 0
  IsLawful origin [] = ⊤
  IsLawful origin (e ∷ es) = IsLawful origin es × IsMet origin es e

  -- a pass's own entries, each of a command that it might ask by those before, among so many stores
  abbrev pub FairList : ℕ → List JEntry → Type 0
  FairList stores [] = ⊤
  FairList stores (Took pass store command answer ∷ es) =
      FairList stores es × IsFair stands next stores es pass store command
  FairList stores (Doubted pass store command ∷ es) =
      FairList stores es × IsFair stands next stores es pass store command
  FairList stores (Late store command answer ∷ es) = ⊥
