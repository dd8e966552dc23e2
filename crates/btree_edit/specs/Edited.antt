-- What an edit does to every tree that agrees with what was read.
use Rattle.std.specs.Prelude.{ℕ, ◌≡◌, ◌≢◌, ◌⊎◌, ◌+◌, ◌≤◌, Bool, true, false, List, length, Option, Some, None}
use Rattle.nfs3_types.specs.Count.{Rose}
use Rattle.pair_types.specs.declared.slot.Slot.{Slot}
use Rattle.pair_types.specs.declared.quad.Quad.{Quad}
use Rattle.pair_types.specs.PageMaps.{PageMap, ReadMap, Agrees, Extends, over, latest}
use Rattle.pair_types.specs.PageState.{PageState, Lasts, no_memory}
use Rattle.pair_types.specs.declared.fault.PairFault.{PairFault}
use Rattle.pair_types.specs.declared.fault.PairFault.TheVariants.{Odd, HeightFull, Page}
use Rattle.btree_page.specs.Content.{Bound, Content, Spells}
use Rattle.btree_page.specs.Tree.{Among, quad_bound, root, IsFormed}
use Rattle.btree_search.specs.Way.{Meets}
use Rattle.btree_edit.specs.Edits.{Lacks}

-- where new pages may go: a store, and what was read before
pub record Room : Type 0 where
  pub store : ℕ
  pub reads : ReadMap

abbrev pub room_in : Option ℕ → PageState → Option Room
room_in None state = None
room_in (Some store) state = Some (record { store = store; reads = state.reads })

-- which slots may come to a tree: none, or absent ones of one store that were not read before
abbrev pub IsOpen : Option Room → PageMap → Slot → Type 0
IsOpen None p s = ⊥
IsOpen (Some room) p s = (p s ≡ None) × ((s.store ≡ room.store) × (room.reads s ≡ None))

-- an edit of a part of a tree that reached the slots before and reaches those after: it takes no
-- slot but open ones, and changes no page but those of the tree
pub record Frame (room : Option Room) (p q : PageMap) (before after : List Slot) : Type 0 where
  pub within : (s : Slot) → Among s after → Among s before ⊎ IsOpen room p s
  pub others : (s : Slot) → (Among s before → ⊥) → (Among s after → ⊥) → q s ≡ p s

-- the tree of these records, which reached these slots, is a tree of edited ones
pub record EditsTree (Edit : List Quad → List Quad → Type 0) (room : Option Room) (stores : ℕ) (p q : PageMap) (quads : List Quad)
    (slots : List Slot) : Type 0 where
  pub after : List Quad
  pub reached : List Slot
  pub edit : Edit quads after
  pub formed : IsFormed stores q after reached
  pub frame : Frame room p q slots reached

-- it is so in every tree over pages that agree with what is read, under what was written before, if
-- this much is given of its records
abbrev pub EditsIn : (List Quad → List Quad → Type 0) → (List Quad → Type 0) → Option ℕ → PageState → PageState → Type 0
EditsIn Edit Given store old new = (under : PageMap) → Agrees new.reads under → (quads : List Quad) (slots : List Slot)
    → IsFormed new.stores (over old.writes under) quads slots → Given quads
    → EditsTree Edit (room_in store old) new.stores (over old.writes under) (over new.writes under) quads slots

-- no such tree has a record at this key and birth, and nothing was written
pub record LacksIn (pair : Bound) (old new : PageState) : Type 0 where
  pub writes : new.writes ≡ old.writes
  pub lacks : (under : PageMap) → Agrees new.reads under → (quads : List Quad) (slots : List Slot)
      → IsFormed new.stores (over old.writes under) quads slots → Lacks pair quads

-- no pages that agree with what is read, under what was written before, were a tree of which this
-- much is given
abbrev pub HadNoTree : (List Quad → Type 0) → PageState → PageState → Type 0
HadNoTree Given old new = (under : PageMap) → Agrees new.reads under → (quads : List Quad) (slots : List Slot)
    → IsFormed new.stores (over old.writes under) quads slots → Given quads → ⊥

-- what every edit leaves: what was read before is still known
pub record GoesOn (old new : PageState) : Type 0 where
  pub lasts : Lasts old new
  pub extends : Extends old.reads new.reads

-- ---- the root page

-- as it read before and as it reads now, it is a page, and moved so
pub record RootMoves (Moves : Content → Content → Type 0) (old new : PageState) : Type 0 where
  pub before : Content
  pub after : Content
  pub was : Spells before (latest old.writes new.reads root)
  pub is : Spells after (latest new.writes new.reads root)
  pub moves : Moves before after

-- it keeps its level, and has no cell more
abbrev pub RootStays : PageState → PageState → Type 0
RootStays = RootMoves (λ before after. (after.level ≡ before.level) × (length after.cells ≤ length before.cells))

-- it keeps its level with at most one cell more, or is one level higher with two cells
abbrev pub RootGrows : PageState → PageState → Type 0
RootGrows = RootMoves (λ before after.
    ((after.level ≡ before.level) × (length after.cells ≤ length before.cells + 1))
    ⊎ ((after.level ≡ before.level + 1) × (length after.cells ≡ 2)))

-- over every map that agrees with what is read, under what was written before, the way of the key and
-- the birth led to this record
pub record WasMet (pair : Bound) (old new : PageState) : Type 0 where
  pub gone : Quad
  pub place : quad_bound gone ≡ pair
  pub meets : (under : PageMap) → Agrees new.reads under → Meets (over old.writes under) pair gone

-- a record came in the place of the one to which the way led: where its value is no longer, the root
-- page stays; and where none was there, it stays in any case
pub record KeepsSize (q : Quad) (old new : PageState) : Type 0 where
  pub met : WasMet (quad_bound q) old new
  pub stays : length q.value ≤ length met.gone.value → RootStays old new

abbrev pub StaysWhere : Quad → PageState → PageState → Bool → Type 0
StaysWhere q old new true = KeepsSize q old new
StaysWhere q old new false = RootStays old new

-- it was of the highest level, and had many cells
pub record IsFull (old new : PageState) : Type 0 where
  pub content : Content
  pub spelled : Spells content (latest old.writes new.reads root)
  pub highest : content.level ≡ 64
  pub many : 27 ≤ length content.cells

-- ---- causes

-- why an edit that may let the tree grow gives up: the pages were not those of a tree, or its root
-- is full, or a call over pages answered this fault and counted it, unless it is want of memory
abbrev pub HasPutCause : PageState → PageState → Type 0 → PairFault → Type 0
HasPutCause old new no_tree Odd = no_tree
HasPutCause old new no_tree HeightFull = IsFull old new
HasPutCause old new no_tree (Page fault) = fault ≢ no_memory → Rose (old.faults fault) (new.faults fault)
