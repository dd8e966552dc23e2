-- What is found in pages that are only read, and one call behind another.
use Rattle.std.proofs.Common.{◌≡◌, ◌≢◌, inl, inr, ◌⊎◌, ℕ, ◌≤◌, List, Option, Some, None, refl, sym, ◌∙◌, ap, subst}
use Rattle.std.proofs.Common.{arith}
use Rattle.std.specs.Prelude.{option_map}
use Rattle.std.specs.List.{find}
use Rattle.nfs3_types.specs.Count.{Rose}
use Rattle.pair_types.specs.declared.fault.PageFault.{PageFault}
use Rattle.pair_types.specs.declared.fault.PageFault.TheVariants.{Crossed, Step}
use Rattle.pair_types.specs.declared.fault.StepFault.TheVariants.{Doubt, NoMemory, Stopped}
use Rattle.pair_types.specs.declared.fault.PairFault.{PairFault}
use Rattle.pair_types.specs.declared.fault.PairFault.TheVariants.{Odd, HeightFull, Page}
use Rattle.pair_types.specs.declared.quad.Quad.{Quad}
use Rattle.pair_types.specs.PageMaps.{PageMap, Agrees, Extends, over}
use Rattle.pair_types.specs.PageState.{PageState, no_memory}
use Rattle.btree_page.specs.Tree.{IsFormed}
use Rattle.btree_search.specs.Found.{IsFloor, IsFoundIn, HasNoTree, OnlyReads, HasCause}
use Rattle.btree_search.proofs.Walks.{agrees_before}
use Rattle.pairs.specs.declared.at.At.{At}
use Rattle.pairs.specs.declared.at.At.TheVariants.{Live}
use Rattle.pairs.specs.Lives.{Life, sees, seen, born, life_of, AreLives}
use Rattle.pairs.specs.Versions.{Versions, epoch, HasLives}
use Rattle.pairs.proofs.RecordsLaws.{seen-find, born-find}
use Rattle.birth_death.specs.Quads.{lives_of, last_birth, if_seen}
use Rattle.birth_death.specs.Shows.{IsOutside, Shows, FindsIn, MovesIn, GivesUpIn}
use Rattle.birth_death.proofs.Records.{floor-seen}
use Rattle.birth_death.proofs.Rising.{Rises, formed_rises}

-- ---- lists of records

-- records that rise, and tell the lives of each key
pub record Lists (v : Versions) (quads : List Quad) : Type 0 where
  pub rises : Rises quads
  pub lives : (key : List ℕ) → v.lives key ≡ lives_of quads key

pub lists-of : (state : PageState) (under : PageMap) (v : Versions) (s : Shows state under v) → Lists v s.quads
lists-of state under v s =
    record { rises = formed_rises state.stores (over state.writes under) s.quads s.slots s.formed; lives = s.lives }

-- ---- what is only read

unfoldable pub shows-same : (a b : PageState) (under : PageMap) (v : Versions) → b.stores ≡ a.stores
    → b.writes ≡ a.writes → Shows a under v → Shows b under v
shows-same a b under v stores writes s = record {
  stores = s.stores ∙ sym stores;
  quads = s.quads;
  slots = s.slots;
  formed = subst (λ (n : ℕ). IsFormed n (over b.writes under) s.quads s.slots) (sym stores)
      (subst (λ (w : PageMap). IsFormed a.stores (over w under) s.quads s.slots) (sym writes) s.formed);
  lives = s.lives;
  blocks = λ slot block is.
      subst (λ (w : PageMap). IsOutside (over w under) s.slots slot block) (sym writes) (s.blocks slot block is);
}

pub shows-only : (a b : PageState) (under : PageMap) (v : Versions) → OnlyReads a b → Shows a under v → Shows b under v
shows-only a b under v only s = shows-same a b under v only.lasts.stores only.writes s

-- a look-up by one search
pub found-seen : (old new : PageState) (key : List ℕ) (at : At) (found : Option Quad) → OnlyReads old new
    → IsFoundIn (IsFloor (record { key = key; birth = last_birth at })) new found
    → FindsIn old new (λ v. find (sees at) (v.lives key) ≡ option_map life_of (if_seen key at found))
found-seen old new key at found only is = λ under v agrees shows has.
    let s = shows-only old new under v only shows in
    ap (find (sees at)) (s.lives key)
    ∙ floor-seen key at (epoch v) s.quads found (formed_rises new.stores (over new.writes under) s.quads s.slots
    s.formed) has.early
    (subst (AreLives (epoch v) 0) (s.lives key) (has.lives key)) (is under agrees s.quads s.slots s.formed)

pub value-seen : (at : At) (ls : List Life) (found : Option Quad) → find (sees at) ls ≡ option_map life_of found
    → seen at ls ≡ option_map (λ (q : Quad). q.value) found
value-seen at ls found is = seen-find at ls ∙ ap (option_map (λ (l : Life). l.value)) is ∙ by_case found
  where
    by_case : (o : Option Quad) → option_map (λ (l : Life). l.value) (option_map life_of o) ≡ option_map (λ (q : Quad).
        q.value) o
    by_case None = refl
    by_case (Some q) = refl

pub birth-born : (ls : List Life) (found : Option Quad) → find (sees Live) ls ≡ option_map life_of found
    → born ls ≡ option_map (λ (q : Quad). q.birth) found
birth-born ls found is = born-find ls ∙ ap (option_map (λ (l : Life). l.birth)) is ∙ by_case found
  where
    by_case : (o : Option Quad) → option_map (λ (l : Life). l.birth) (option_map life_of o) ≡ option_map (λ (q : Quad).
        q.birth) o
    by_case None = refl
    by_case (Some q) = refl

-- ---- faults

memory_or_not : (fault : PageFault) → (fault ≡ no_memory) ⊎ (fault ≢ no_memory)
memory_or_not (Crossed cross) = inr (λ is. cc)
memory_or_not (Step Doubt) = inr (λ is. cc)
memory_or_not (Step NoMemory) = inl refl
memory_or_not (Step Stopped) = inr (λ is. cc)

pub counted : (old new : PageState) (fault : PageFault) → (fault ≢ no_memory → Rose (old.faults fault)
    (new.faults fault))
    → (fault ≡ no_memory) ⊎ Rose (old.faults fault) (new.faults fault)
counted old new fault rose = by_fault (memory_or_not fault)
  where
    by_fault : (fault ≡ no_memory) ⊎ (fault ≢ no_memory) → (fault ≡ no_memory) ⊎ Rose (old.faults fault) (new.faults
        fault)
    by_fault (inl is) = inl is
    by_fault (inr isnt) = inr (rose isnt)

-- why a call gives up: the cause of what it calls, where none of the trees is given
pub gives-up : (old new : PageState) (none : Type 0) (Given : Versions → Type 0) (fault : PairFault)
    → (none → (under : PageMap) (v : Versions) → Agrees new.reads under → Shows old under v → Given v → ⊥)
    → HasCause old new none fault → GivesUpIn old new Given fault
gives-up old new none Given Odd odd cause = odd cause
gives-up old new none Given HeightFull odd cause = cause
gives-up old new none Given (Page fault) odd cause = counted old new fault cause

pub search-gives-up : (old new : PageState) (Given : Versions → Type 0) (fault : PairFault) → OnlyReads old new
    → HasCause old new (HasNoTree new) fault → GivesUpIn old new Given fault
search-gives-up old new Given fault only cause = gives-up old new (HasNoTree new) Given fault
    (λ no_tree under v agrees shows given.
    let s = shows-only old new under v only shows in no_tree under agrees s.quads s.slots s.formed)
    cause

-- ---- one call behind another

pub finds-later : (a b c : PageState) (IsSo : Versions → Type 0) → Extends b.reads c.reads → FindsIn a b IsSo
    → FindsIn a c IsSo
finds-later a b c IsSo extends finds = λ under v agrees shows has.
    finds under v (agrees_before b.reads c.reads under extends agrees) shows has

pub finds-then : (a b c : PageState) (IsSo : Versions → Type 0) → OnlyReads a b → FindsIn b c IsSo → FindsIn a c IsSo
finds-then a b c IsSo only finds = λ under v agrees shows has.
    finds under v agrees (shows-only a b under v only shows) has

-- what is given behind reads that found something
pub record Finding (a b : PageState) (Given Given' : Versions → Type 0) : Type 0 where
  pub only : OnlyReads a b
  pub finds : (under : PageMap) (v : Versions) → Agrees b.reads under → Shows a under v → Given v → Given' v

pub moves-then : (a b c : PageState) (Given Given' : Versions → Type 0) (edit : Versions → Versions)
    → Finding a b Given Given'
    → Extends b.reads c.reads → MovesIn b c Given' edit → MovesIn a c Given edit
moves-then a b c Given Given' edit found extends moves = λ under v agrees shows given.
    moves under v agrees (shows-only a b under v found.only shows)
    (found.finds under v (agrees_before b.reads c.reads under extends agrees) shows given)

pub rose-later : (a b : PageState) (n : PageFault → ℕ) (fault : PageFault) → OnlyReads a b
    → Rose (b.faults fault) (n fault) → Rose (a.faults fault) (n fault)
rose-later a b n fault only rose = omega (arith, only.lasts.faults fault)

pub gives-up-then : (a b c : PageState) (Given Given' : Versions → Type 0) (fault : PairFault)
    → Finding a b Given Given'
    → Extends b.reads c.reads → GivesUpIn b c Given' fault → GivesUpIn a c Given fault
gives-up-then a b c Given Given' Odd found extends none = λ under v agrees shows given.
    none under v agrees (shows-only a b under v found.only shows)
    (found.finds under v (agrees_before b.reads c.reads under extends agrees) shows given)
gives-up-then a b c Given Given' HeightFull found extends none = none
gives-up-then a b c Given Given' (Page fault) found extends (inl is) = inl is
gives-up-then a b c Given Given' (Page fault) found extends (inr rose) =
    inr (rose-later a b c.faults fault found.only rose)
