-- The way of a key and a birth down the pages of a map, whatever the map is: in each inner page to the
-- child behind the last cell at or below them, down to a leaf. Of other pages it knows nothing.
use Rattle.std.specs.Prelude.{ℕ, zero, suc, ◌≡◌, ◌-◌, List, Contains, Option, Some, slice_get}
use Rattle.pair_types.specs.declared.slot.Slot.{Slot}
use Rattle.pair_types.specs.declared.quad.Quad.{Quad}
use Rattle.pair_types.specs.PageMaps.{PageMap, Agrees, over}
use Rattle.pair_types.specs.PageState.{PageState}
use Rattle.btree_page.specs.Content.{Bound, Entry, Content}
use Rattle.btree_page.specs.Tree.{Holds, quad_bound, quad_cell, root, IsFormed}
use Rattle.btree_search.specs.declared.aim.Aim.{Aim}
use Rattle.btree_search.specs.declared.aim.Aim.TheVariants.{AtOrAfter, After}
use Rattle.btree_search.specs.Find.{BeginsAt}
use Rattle.btree_search.specs.Walk.{LeadsAt}

-- among the cells of a leaf the record stands, at the pair
pub record EndsAt (pair : Bound) (cells : List Entry) (q : Quad) : Type 0 where
  pub place : quad_bound q ≡ pair
  pub at : ℕ
  pub there : slice_get cells at ≡ Some (quad_cell q)

-- the way goes on in the child behind the last cell at or below the pair, whose page is of this level
pub record GoesDown (Goes : List Entry → Quad → Type 0) (p : PageMap) (level : ℕ) (pair : Bound) (cells : List Entry)
    (q : Quad) : Type 0 where
  pub past : ℕ
  pub begins : BeginsAt After pair cells past
  pub child : Slot
  pub leads : LeadsAt cells (past - 1) child
  pub below : List Entry
  pub page : Holds p child (record { level = level; cells = below })
  pub goes : Goes below q

-- from a page of a level with these cells the way leads to this record
abbrev pub Goes : PageMap → Bound → ℕ → List Entry → Quad → Type 0
Goes p pair zero = EndsAt pair
Goes p pair (suc level) = GoesDown (Goes p pair level) p level pair

-- from the root of the map it does
pub record Meets (p : PageMap) (pair : Bound) (q : Quad) : Type 0 where
  pub top : Content
  pub held : Holds p root top
  pub goes : Goes p pair top.level top.cells q

-- where the way leads to a record, over a map that agrees with what was read, that record was found
abbrev pub FindsMet : Bound → PageState → Option Quad → Type 0
FindsMet pair state found = (under : PageMap) → Agrees state.reads under → (q : Quad) → Meets (over state.writes under) pair q
    → found ≡ Some q

-- it is so from one page on, in a search for the places at or after the pair
abbrev pub FindsFrom : Aim → Bound → PageState → Content → Option Quad → Type 0
FindsFrom AtOrAfter pair state content found = (under : PageMap) → Agrees state.reads under → (q : Quad)
    → Goes (over state.writes under) pair content.level content.cells q → found ≡ Some q
FindsFrom After pair state content found = Unit {0}

-- ---- a law

-- in a tree the way leads to a record of the tree
abbrev pub MeetsRecords : Type 0
MeetsRecords = (stores : ℕ) (p : PageMap) (quads : List Quad) (slots : List Slot) → IsFormed stores p quads slots
    → (pair : Bound) (q : Quad) → Meets p pair q → (quad_bound q ≡ pair) × Contains quads q
