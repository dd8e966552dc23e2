-- That a transaction takes effect at most once.
use Rattle.std.specs.Prelude.{◌≡◌, List, ◌∷◌, ◌++◌, Option, Some, None, IsSome}
use Rattle.pair_types.specs.declared.slot.Tid.{Tid}
use Rattle.page_types.specs.declared.command.Command.{Command}
use Rattle.page_types.specs.declared.command.Command.TheVariants.{Write, Prepare, Decide, Resolve}
use Rattle.page_types.specs.declared.journal.JEntry.{JEntry}
use Rattle.page_types.specs.declared.journal.JEntry.TheVariants.{Took, Doubted, Late}
use Rattle.page_types.specs.Journals.{Origin}
use Rattle.serial_rules.specs.History.{effect_of}

-- whose command it is, where it is a transaction's
abbrev pub tid_of : Command → Option Tid
tid_of (Write x) = Some x.tid
tid_of (Prepare part) = Some part.tid
tid_of (Decide d) = Some d.tid
tid_of (Resolve r) = Some r.tid
tid_of command = None

abbrev pub tid_in : JEntry → Option Tid
tid_in (Took pass store command answer) = tid_of command
tid_in (Doubted pass store command) = tid_of command
tid_in (Late store command answer) = tid_of command

-- after these entries, this one takes effect, and it is of the transaction
pub record TakesEffect (origin : Origin) (es : List JEntry) (e : JEntry) (tid : Tid) : Type 0 where
  pub of_tid : tid_in e ≡ Some tid
  pub effective : IsSome (effect_of origin es e)

-- no two entries of a journal take effect for one transaction
abbrev pub EachOnce : Origin → List JEntry → Type 0
EachOnce origin es = (later : List JEntry) (e : JEntry) (mid : List JEntry) (first : JEntry) (earlier : List JEntry)
    (tid : Tid) → es ≡ later ++ (e ∷ (mid ++ (first ∷ earlier))) → TakesEffect origin earlier first tid →
    TakesEffect origin (mid ++ (first ∷ earlier)) e tid → ⊥
