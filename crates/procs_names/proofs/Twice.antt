-- Two edits one behind the other, where each is given a part of what both are given.
use Rattle.std.proofs.Common.{◌≡◌, ℕ, subst}
use Rattle.fs_rules.specs.Tree.{Tree}
use Rattle.pair_types.specs.declared.fault.PairFault.{PairFault}
use Rattle.pair_types.specs.declared.fault.PairFault.TheVariants.{Odd, HeightFull, Page}
use Rattle.pairs.specs.Told.{PairsTold, Goes}
use Rattle.fs_shows.specs.Steps.{Lies, Edits, EditGivesUp}
use Rattle.fs_shows.proofs.Passing.{edits_both}
use Rattle.procs_object.proofs.Gathering.{edit-up-behind}

module _ {S W : Type 0} (told : PairsTold S W) where
  -- an edit of which more is given gives up for no other reasons
  pub edit-up-given : (old new : S) (Given Less : Tree → Type 0) → ((t : Tree) → Given t → Less t) → (fault : PairFault)
      → EditGivesUp told old new Less fault → EditGivesUp told old new Given fault
  edit-up-given old new Given Less less Odd up = λ w t agrees lies is. up w t agrees lies (less t is)
  edit-up-given old new Given Less less HeightFull up = up
  edit-up-given old new Given Less less (Page fault) up = up

  module _ (old mid new : S) (m n : ℕ) (before : Goes told old mid m) (goes : Goes told mid new n)
      (Given Less Then : Tree → Type 0)
      (edit : Tree → Tree) (first : Edits told old mid Less edit) (less : (t : Tree) → Given t → Less t)
      (then : (t : Tree) → Given t → Then (edit t)) where
    first-given : Edits told old mid Given edit
    first-given w t agrees lies is = first w t agrees lies (less t is)

    -- the second gave up
    pub twice-up : (fault : PairFault) → EditGivesUp told mid new Then fault → EditGivesUp told old new Given fault
    twice-up fault up = edit-up-behind told old mid new m n Given Then edit before goes first-given then fault up

    -- both are this one
    pub twice-edits : (next whole : Tree → Tree) → ((t : Tree) → next (edit t) ≡ whole t) → Edits told mid new Then next
        → Edits told old new Given whole
    twice-edits next whole same second w t agrees lies is =
        subst (Lies told new w) (same t)
        (edits_both told old mid new n Given Then edit next goes first-given then second w t agrees lies is)
