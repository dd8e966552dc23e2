-- What a search answers of a list of records, and of every tree that agrees with what was read.
use Rattle.std.specs.Prelude.{◌≡◌, ◌≢◌, Bool, true, false, List, All, Contains, Option, Some, None}
use Rattle.nfs3_types.specs.Count.{Rose}
use Rattle.pair_types.specs.declared.slot.Slot.{Slot}
use Rattle.pair_types.specs.declared.quad.Quad.{Quad}
use Rattle.pair_types.specs.declared.fault.PairFault.{PairFault}
use Rattle.pair_types.specs.declared.fault.PairFault.TheVariants.{Odd, HeightFull, Page}
use Rattle.pair_types.specs.PageMaps.{PageMap, Agrees, Extends, over}
use Rattle.pair_types.specs.PageState.{PageState, Lasts, no_memory}
use Rattle.btree_page.specs.Content.{Bound, bound_cmp, IsBelow}
use Rattle.btree_page.specs.Tree.{quad_bound, IsFormed}
use Rattle.btree_search.specs.declared.aim.Aim.{Aim}
use Rattle.btree_search.specs.declared.aim.Aim.TheVariants.{After}
use Rattle.btree_search.specs.Aim.{is_sought}

-- whether a record is sought beside a key and a birth
abbrev pub takes : Aim → Bound → Quad → Bool
takes aim pair q = is_sought aim (bound_cmp (quad_bound q) pair)

-- it is one of the records, it is sought, and no record that is sought lies below it
pub record IsLeast (aim : Aim) (pair : Bound) (quads : List Quad) (q : Quad) : Type 0 where
  pub among : Contains quads q
  pub sought : takes aim pair q ≡ true
  pub least : All (λ r. takes aim pair r ≡ true → IsBelow (quad_bound r) (quad_bound q) → ⊥) quads

-- the least record that is sought, or none where no record is sought
abbrev pub IsFound : Aim → Bound → List Quad → Option Quad → Type 0
IsFound aim pair quads (Some q) = IsLeast aim pair quads q
IsFound aim pair quads None = All (λ r. takes aim pair r ≡ false) quads

-- it is one of the records, it is at or below a key and a birth, and no record that is lies above it
pub record IsGreatest (pair : Bound) (quads : List Quad) (q : Quad) : Type 0 where
  pub among : Contains quads q
  pub at_or_below : takes After pair q ≡ false
  pub greatest : All (λ r. takes After pair r ≡ false → IsBelow (quad_bound q) (quad_bound r) → ⊥) quads

-- the greatest record at or below them, or none where every record is above
abbrev pub IsFloor : Bound → List Quad → Option Quad → Type 0
IsFloor pair quads (Some q) = IsGreatest pair quads q
IsFloor pair quads None = All (λ r. takes After pair r ≡ true) quads

-- it is so in every tree over pages that agree with what was read, under what was written
abbrev pub IsFoundIn : (List Quad → Option Quad → Type 0) → PageState → Option Quad → Type 0
IsFoundIn Found state found = (under : PageMap) → Agrees state.reads under → (quads : List Quad) (slots : List Slot)
    → IsFormed state.stores (over state.writes under) quads slots → Found quads found

-- no pages that agree with what was read, under what was written, are a tree
abbrev pub HasNoTree : PageState → Type 0
HasNoTree state = (under : PageMap) → Agrees state.reads under → (quads : List Quad) (slots : List Slot)
    → IsFormed state.stores (over state.writes under) quads slots → ⊥

-- what a search leaves: it writes nothing, and what was read before is still known
pub record OnlyReads (old new : PageState) : Type 0 where
  pub lasts : Lasts old new
  pub writes : new.writes ≡ old.writes
  pub extends : Extends old.reads new.reads

-- why a search gives up: the pages are not those of a tree, or a call over pages answered this fault
-- and counted it, unless it is want of memory; the height of a tree is no cause
abbrev pub HasCause : PageState → PageState → Type 0 → PairFault → Type 0
HasCause old new no_tree Odd = no_tree
HasCause old new no_tree HeightFull = ⊥
HasCause old new no_tree (Page fault) = fault ≢ no_memory → Rose (old.faults fault) (new.faults fault)
