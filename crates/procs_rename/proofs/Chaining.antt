-- An edit behind another one.
use Rattle.std.proofs.Common.{◌≡◌, ℕ, Result, subst}
use Rattle.std.specs.Prelude.{OnOk, IfErr}
use Rattle.std.proofs.lemmas.Result.{on_ok_weaker, IfErr-weaker}
use Rattle.fs_rules.specs.Tree.{Tree}
use Rattle.pair_types.specs.declared.fault.PairFault.{PairFault}
use Rattle.pair_types.specs.declared.fault.PairFault.TheVariants.{Odd, HeightFull, Page}
use Rattle.pairs.specs.Told.{PairsTold, Goes}
use Rattle.fs_shows.specs.Steps.{Lies, Edits, EditGivesUp}
use Rattle.fs_shows.proofs.Passing.{edits_both}
use Rattle.procs_object.proofs.Gathering.{edit-up-behind}

module _ {S W : Type 0} (told : PairsTold S W) (old mid new : S) (m n : ℕ) (before : Goes told old mid m)
    (goes : Goes told mid new n)
    (Given Then : Tree → Type 0) (edit next : Tree → Tree) (first : Edits told old mid Given edit)
    (then : (t : Tree) → Given t → Then (edit t)) where
  module _ {A : Type 0} (r : Result A PairFault) where
    pub both-edit : OnOk r (Edits told mid new Then next) → OnOk r (Edits told old new Given (λ t. next (edit t)))
    both-edit second = on_ok_weaker r (edits_both told old mid new n Given Then edit next goes first then) second

    pub both-up : IfErr r (EditGivesUp told mid new Then) → IfErr r (EditGivesUp told old new Given)
    both-up up =
        IfErr-weaker r (EditGivesUp told mid new Then) (EditGivesUp told old new Given)
        (edit-up-behind told old mid new m n Given Then edit before goes first then) up

-- of more that is given
module _ {S W : Type 0} (told : PairsTold S W) (old new : S) (Given Less : Tree → Type 0)
    (less : (t : Tree) → Given t → Less t) where
  pub edits-given : (edit : Tree → Tree) → Edits told old new Less edit → Edits told old new Given edit
  edits-given edit edits = λ w t agrees lies is. edits w t agrees lies (less t is)

  pub edit-up-given : (fault : PairFault) → EditGivesUp told old new Less fault → EditGivesUp told old new Given fault
  edit-up-given Odd up = λ w t agrees lies is. up w t agrees lies (less t is)
  edit-up-given HeightFull up = up
  edit-up-given (Page fault) up = up

-- an edit that is another one, where this much is given
pub edit-same : {S W A : Type 0} (told : PairsTold S W) (old new : S) (Given : Tree → Type 0) (edit change : Tree → Tree)
    (r : Result A PairFault) → ((t : Tree) → edit t ≡ change t) → OnOk r (Edits told old new Given edit)
    → OnOk r (Edits told old new Given change)
edit-same told old new Given edit change r same ok =
    on_ok_weaker r (λ edits w t agrees lies is. subst (Lies told new w) (same t) (edits w t agrees lies is)) ok
