-- Why edits give up, by what is given of the versions.
use Rattle.std.proofs.Common.{◌≡◌, ℕ, inl, refl, sym, subst}
use Rattle.pair_types.specs.declared.fault.PairFault.{PairFault}
use Rattle.pair_types.specs.declared.fault.PairFault.TheVariants.{Odd, HeightFull, Page}
use Rattle.pair_types.specs.PageMaps.{PageMap, Agrees, Extends}
use Rattle.pair_types.specs.PageState.{PageState, no_memory}
use Rattle.btree_search.specs.Found.{HasCause}
use Rattle.btree_edit.specs.Edited.{GoesOn, HasPutCause}
use Rattle.pairs.specs.Versions.{Versions}
use Rattle.birth_death.specs.Shows.{Shows, GivesUpIn, PutGivesUpIn}
use Rattle.birth_death.proofs.Finding.{counted, Finding, gives-up-then}
use Rattle.birth_death.proofs.Rooting.{follows-only, full-high}

pub cause-weaker : (old new : PageState) (none none' : Type 0) (fault : PairFault) → (none → none')
    → HasCause old new none fault → HasCause old new none' fault
cause-weaker old new none none' Odd weaker cause = weaker cause
cause-weaker old new none none' HeightFull weaker cause = cause
cause-weaker old new none none' (Page fault) weaker cause = cause

pub put-cause-weaker : (old new : PageState) (none none' : Type 0) (fault : PairFault) → (none → none')
    → HasPutCause old new none fault
    → HasPutCause old new none' fault
put-cause-weaker old new none none' Odd weaker cause = weaker cause
put-cause-weaker old new none none' HeightFull weaker cause = cause
put-cause-weaker old new none none' (Page fault) weaker cause = cause

-- where more is given
pub gives-up-given : (old new : PageState) (Given Given' : Versions → Type 0) (fault : PairFault)
    → ((v : Versions) → Given' v → Given v)
    → GivesUpIn old new Given fault → GivesUpIn old new Given' fault
gives-up-given old new Given Given' Odd more none = λ under v agrees shows given.
    none under v agrees shows (more v given)
gives-up-given old new Given Given' HeightFull more none = none
gives-up-given old new Given Given' (Page fault) more none = none

pub memory-gives-up : (old new : PageState) (Given : Versions → Type 0) (fault : PairFault) → fault ≡ Page no_memory
    → GivesUpIn old new Given fault
memory-gives-up old new Given fault is = subst (GivesUpIn old new Given) (sym is) (inl refl)

-- ---- puts

pub gives-up-put : (old new : PageState) (Given : Versions → Type 0) (fault : PairFault) → GivesUpIn old new Given fault
    → PutGivesUpIn old new Given fault
gives-up-put old new Given Odd none = none
gives-up-put old new Given HeightFull none = absurd none
gives-up-put old new Given (Page fault) none = none

pub put-gives-up : (old new : PageState) (none : Type 0) (Given : Versions → Type 0) (fault : PairFault)
    → GoesOn old new
    → (none → (under : PageMap) (v : Versions) → Agrees new.reads under → Shows old under v → Given v → ⊥)
    → HasPutCause old new none fault → PutGivesUpIn old new Given fault
put-gives-up old new none Given Odd on odd cause = odd cause
put-gives-up old new none Given HeightFull on odd cause = λ puts few follows.
    full-high puts old new few on follows cause
put-gives-up old new none Given (Page fault) on odd cause = counted old new fault cause

pub put-gives-up-then : (a b c : PageState) (Given Given' : Versions → Type 0) (fault : PairFault)
    → Finding a b Given Given' → Extends b.reads c.reads
    → PutGivesUpIn b c Given' fault → PutGivesUpIn a c Given fault
put-gives-up-then a b c Given Given' Odd found extends none = gives-up-then a b c Given Given' Odd found extends none
put-gives-up-then a b c Given Given' HeightFull found extends none = λ puts few follows.
    none puts few (follows-only puts a b found.only follows)
put-gives-up-then a b c Given Given' (Page fault) found extends none =
    gives-up-then a b c Given Given' (Page fault) found extends none
