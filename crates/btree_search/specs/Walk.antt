-- What the walk below one page answers.
use Rattle.std.specs.Prelude.{ℕ, suc, ◌≡◌, ◌<◌, ◌≤◌, List, length, map, Option, Some, None, Result, Ok, Err, IsSome, slice_get}
use Rattle.pair_types.specs.declared.slot.Slot.{Slot}
use Rattle.pair_types.specs.declared.quad.Quad.{Quad}
use Rattle.pair_types.specs.declared.fault.PairFault.{PairFault}
use Rattle.pair_types.specs.declared.fault.PairFault.TheVariants.{Odd, HeightFull, Page}
use Rattle.pair_types.specs.PageMaps.{PageMap, Agrees, over}
use Rattle.pair_types.specs.PageState.{PageState, Reads, no_memory}
use Rattle.btree_page.specs.Content.{Bound, Entry, Leads, Content, Spells}
use Rattle.btree_page.specs.Tree.{Holds, quad_cell, Subtree}
use Rattle.btree_search.specs.declared.aim.Aim.{Aim}
use Rattle.btree_search.specs.declared.aim.Aim.TheVariants.{After}
use Rattle.btree_search.specs.Find.{BeginsAt}
use Rattle.btree_search.specs.Found.{OnlyReads, HasCause}

-- each page lies in one of the stores
pub record InStores (stores : ℕ) (p : PageMap) : Type 0 where
  pub at : (s : Slot) → IsSome (p s) → s.store < stores

-- a part of a tree whose uppermost page has this content, over pages that agree with what was read
pub record IsPart (state : PageState) (content : Content) (under : PageMap) (quads : List Quad) : Type 0 where
  pub agrees : Agrees state.reads under
  pub in_stores : InStores state.stores (over state.writes under)
  pub slot : Slot
  pub low : Bound
  pub high : Option Bound
  pub slots : List Slot
  pub held : Holds (over state.writes under) slot content
  pub tree : Subtree (over state.writes under) content.level slot low high quads slots

-- the answer is right of every such part
abbrev pub IsFoundBelow : (List Quad → Option Quad → Type 0) → PageState → Content → Option Quad → Type 0
IsFoundBelow Found state content found = (under : PageMap) (quads : List Quad) → IsPart state content under quads
    → Found quads found

-- there is no such part
abbrev pub HasNoPart : PageState → Content → Type 0
HasNoPart state content = (under : PageMap) (quads : List Quad) → IsPart state content under quads → ⊥

-- a page of a level within these bounds has these bytes
pub record IsShown (least most : ℕ) (bytes : List ℕ) (content : Content) : Type 0 where
  pub spelled : Spells content bytes
  pub from : least ≤ content.level
  pub to : content.level ≤ most

-- the cell at an index leads to this slot
pub record LeadsAt (cells : List Entry) (i : ℕ) (slot : Slot) : Type 0 where
  pub cell : Entry
  pub there : slice_get cells i ≡ Some cell
  pub leads : cell.body ≡ Leads slot

-- the first sought cell of a leaf is this record, or no cell is sought
abbrev pub IsFirst : Aim → Bound → List Entry → Option Quad → Type 0
IsFirst aim pair cells (Some q) = (n : ℕ) × BeginsAt aim pair cells n × (slice_get cells n ≡ Some (quad_cell q))
IsFirst aim pair cells None = (n : ℕ) × BeginsAt aim pair cells n × (length cells ≤ n)

-- the last cell of a leaf at or below the pair is this record, or every cell is above
abbrev pub IsFinal : Bound → List Entry → Option Quad → Type 0
IsFinal pair cells (Some q) = (n : ℕ) × BeginsAt After pair cells (suc n) × (slice_get cells n ≡ Some (quad_cell q))
IsFinal pair cells None = BeginsAt After pair cells 0

-- why the first cell is not answered: it is none of a leaf, or memory ran out
abbrev pub IsLeafFault : List Entry → PairFault → Type 0
IsLeafFault cells Odd = (quads : List Quad) → cells ≡ map quad_cell quads → ⊥
IsLeafFault cells HeightFull = ⊥
IsLeafFault cells (Page fault) = fault ≡ no_memory

-- no child stands at this index
abbrev pub HasNoChild : List Entry → ℕ → Type 0
HasNoChild cells i = (child : Slot) → LeadsAt cells i child → ⊥

-- a page was read in the slot of the child at this index
pub record IsChildPage (old new : PageState) (cells : List Entry) (i : ℕ) (page : List ℕ) : Type 0 where
  pub slot : Slot
  pub leads : LeadsAt cells i slot
  pub reads : Reads old new slot page

-- the answer of a walk is right, or it has a cause
abbrev pub IsAnswer : (List Quad → Option Quad → Type 0) → PageState → PageState → Content → Result (Option Quad) PairFault
    → Type 0
IsAnswer Found old new content (Ok found) = IsFoundBelow Found new content found
IsAnswer Found old new content (Err fault) = HasCause old new (HasNoPart new content) fault

-- what a walk below a page answers and leaves
pub record Walks (Found : List Quad → Option Quad → Type 0) (old new : PageState) (content : Content)
    (result : Result (Option Quad) PairFault) : Type 0 where
  pub only : OnlyReads old new
  pub answer : IsAnswer Found old new content result
