-- What an edit makes of a page, and of what lies below it.
use Rattle.std.specs.Prelude.{ℕ, zero, suc, ◌≡◌, ◌≢◌, ◌⊎◌, ◌+◌, ◌<◌, ◌≤◌, List, [], ◌∷◌, ◌++◌, length, map, Option, Some, None}
use Rattle.std.specs.Prelude.{Result, Ok, Err}
use Rattle.std.specs.List.{insert}
use Rattle.nfs3_types.specs.Count.{Rose}
use Rattle.pair_types.specs.declared.slot.Slot.{Slot}
use Rattle.pair_types.specs.declared.quad.Quad.{Quad}
use Rattle.pair_types.specs.declared.fault.PageFault.{PageFault}
use Rattle.pair_types.specs.declared.fault.PairFault.{PairFault}
use Rattle.pair_types.specs.declared.fault.PairFault.TheVariants.{Odd, HeightFull, Page as PageGave}
use Rattle.pair_types.specs.PageMaps.{PageMap, Agrees, over, latest}
use Rattle.pair_types.specs.PageState.{PageState, no_memory}
use Rattle.btree_page.specs.Content.{Bound, IsBelow, Entry, Content, Spells, IsPage, inner_entry}
use Rattle.btree_page.specs.Tree.{IsIn, AllIn, Among, quad_bound, quad_cell, Child, child_cell, Kids, Subtree, least}
use Rattle.btree_search.specs.declared.aim.Aim.TheVariants.{AtOrAfter, After}
use Rattle.btree_search.specs.Find.{BeginsAt}
use Rattle.btree_search.specs.Found.{HasCause}
use Rattle.btree_search.specs.Walk.{InStores}
use Rattle.btree_search.specs.Way.{Goes}
use Rattle.btree_edit.specs.declared.change.Change.{Change}
use Rattle.btree_edit.specs.declared.change.Change.TheVariants.{Remove, End, Replace, Insert}
use Rattle.btree_edit.specs.declared.outcome.Edited.{Edited}
use Rattle.btree_edit.specs.declared.outcome.Edited.TheVariants.{Missing, Below, Page, Two}
use Rattle.btree_edit.specs.Edits.{bound_at, Lacks}
use Rattle.btree_edit.specs.Edited.{Room, room_in, Frame, GoesOn}
use Rattle.btree_edit.specs.Changes.{pair_of, edit_of, given_of, open_of, AreMade}

-- ---- what lies below a page

pub record BearsRecords (cells : List Entry) (low : Bound) (high : Option Bound) (quads : List Quad)
    (below : List Slot) : Type 0 where
  pub records : cells ≡ map quad_cell quads
  pub within : AllIn low high (map quad_bound quads)
  pub nothing : below ≡ []

pub record BearsKids (Sub : Slot → Bound → Option Bound → List Quad → List Slot → Type 0) (cells : List Entry) (low : Bound)
    (high : Option Bound) (quads : List Quad) (below : List Slot) : Type 0 where
  pub first : Slot
  pub rest : List Child
  pub children : cells ≡ inner_entry [] 0 first ∷ map child_cell rest
  pub within : AllIn low high (map (λ c. c.bound) rest)
  pub kids : Kids Sub first low rest high quads below

-- a page of a level with these cells, wherever it lies, has these records of this range, and reaches
-- these slots below it
abbrev pub Bears : PageMap → ℕ → List Entry → Bound → Option Bound → List Quad → List Slot → Type 0
Bears p zero = BearsRecords
Bears p (suc level) = BearsKids (Subtree p level)

-- ---- an edit below a page

-- the page has these records before the edit, over pages that agree with what is read after it, and
-- the key and the birth fall into its range; of the records this much is given
pub record IsMet (Given : List Quad → Type 0) (pair : Bound) (old new : PageState) (content : Content) (under : PageMap)
    (low : Bound) (high : Option Bound) (quads : List Quad) (below : List Slot) : Type 0 where
  pub rules : IsPage content
  pub agrees : Agrees new.reads under
  pub in_stores : InStores new.stores (over old.writes under)
  pub bears : Bears (over old.writes under) content.level content.cells low high quads below
  pub falls : IsIn low high pair
  pub given : Given quads

-- with these cells, the page has edited records afterwards
pub record Changed (Edit : List Quad → List Quad → Type 0) (room : Option Room) (stores : ℕ) (p q : PageMap) (level : ℕ)
    (cells : List Entry)
    (low : Bound) (high : Option Bound) (quads : List Quad) (below : List Slot) : Type 0 where
  pub after : List Quad
  pub reached : List Slot
  pub edit : Edit quads after
  pub in_stores : InStores stores q
  pub bears : Bears q level cells low high after reached
  pub frame : Frame room p q below reached

abbrev pub ChangesTo : (List Quad → List Quad → Type 0) → (List Quad → Type 0) → Option ℕ → Bound → PageState → PageState
    → Content → List Entry → Type 0
ChangesTo Edit Given store pair old new content cells =
    (under : PageMap) (low : Bound) (high : Option Bound) (quads : List Quad) (below : List Slot)
    → IsMet Given pair old new content under low high quads below
    → Changed Edit (room_in store old) new.stores (over old.writes under) (over new.writes under) content.level cells low high
    quads below

abbrev pub LacksBelow : (List Quad → Type 0) → Bound → PageState → PageState → Content → Type 0
LacksBelow Given pair old new content =
    (under : PageMap) (low : Bound) (high : Option Bound) (quads : List Quad) (below : List Slot)
    → IsMet Given pair old new content under low high quads below
    → Lacks pair quads

abbrev pub IsNotMet : (List Quad → Type 0) → Bound → PageState → PageState → Content → Type 0
IsNotMet Given pair old new content =
    (under : PageMap) (low : Bound) (high : Option Bound) (quads : List Quad) (below : List Slot)
    → IsMet Given pair old new content under low high quads below → ⊥

-- what was written lay on a lower level
abbrev pub StaysFrom : ℕ → PageState → PageState → Type 0
StaysFrom level old new = (s : Slot) (c : Content) → Spells c (latest old.writes new.reads s) → level ≤ c.level
    → new.writes s ≡ old.writes s

-- why a page may have more cells: a record came in, or one longer than that to which the way leads
abbrev pub Grows : Change → PageState → PageState → Content → Type 0
Grows (Remove key birth) old new content = ⊥
Grows (End key birth death) old new content = ⊥
Grows (Replace q) old new content = (under : PageMap) → Agrees new.reads under → (gone : Quad)
    → Goes (over old.writes under) (quad_bound q.now) content.level content.cells gone → length gone.value < length q.now.value
Grows (Insert q) old new content = Unit {0}

-- the way leads to a record, which is the same over all that agrees with what was read
pub record Gone (pair : Bound) (old new : PageState) (content : Content) : Type 0 where
  pub gone : Quad
  pub goes : (under : PageMap) → Agrees new.reads under → Goes (over old.writes under) pair content.level content.cells gone

-- what was found by an edit that puts a record in the place of another
abbrev pub Finds : Change → PageState → PageState → Content → Type 0
Finds (Remove key birth) old new content = Unit {0}
Finds (End key birth death) old new content = Unit {0}
Finds (Replace q) old new content = Gone (quad_bound q.now) old new content
Finds (Insert q) old new content = Unit {0}

abbrev pub FindsBelow : Change → PageState → PageState → Content → Result Edited PairFault → Type 0
FindsBelow change old new content (Ok Missing) = Unit {0}
FindsBelow change old new content (Ok Below) = Finds change old new content
FindsBelow change old new content (Ok (Page page)) = Finds change old new content
FindsBelow change old new content (Ok (Two left key birth right)) = Finds change old new content
FindsBelow change old new content (Err fault) = Unit {0}

-- the page becomes this one
pub record Becomes (change : Change) (store : ℕ) (old new : PageState) (content : Content) (page : List ℕ) : Type 0 where
  pub cells : List Entry
  pub spelled : Spells (record { level = content.level; cells = cells }) page
  pub few : (length cells ≤ length content.cells) ⊎ (Grows change old new content × (length cells ≤ length content.cells + 1))
  pub changes : ChangesTo (edit_of change) (given_of change) (open_of change store) (pair_of change) old new content cells

-- with these cells, two pages have edited records, the second one from this bound on
pub record Parted (Edit : List Quad → List Quad → Type 0) (room : Option Room) (stores : ℕ) (p q : PageMap) (level : ℕ)
    (front : List Entry) (bound : Bound) (back : List Entry)
    (low : Bound) (high : Option Bound) (quads : List Quad) (below : List Slot) : Type 0 where
  pub after_left : List Quad
  pub after_right : List Quad
  pub reached_left : List Slot
  pub reached_right : List Slot
  pub edit : Edit quads (after_left ++ after_right)
  pub in_stores : InStores stores q
  pub above : IsBelow low bound
  pub inside : IsIn low high bound
  pub left : Bears q level front low (Some bound) after_left reached_left
  pub right : Bears q level back bound high after_right reached_right
  pub apart : (s : Slot) → Among s reached_left → Among s reached_right → ⊥
  pub frame : Frame room p q below (reached_left ++ reached_right)

abbrev pub PartsTo : (List Quad → List Quad → Type 0) → (List Quad → Type 0) → Option ℕ → Bound → PageState → PageState → Content
    → List Entry → Bound → List Entry → Type 0
PartsTo Edit Given store pair old new content front bound back =
    (under : PageMap) (low : Bound) (high : Option Bound) (quads : List Quad) (below : List Slot)
    → IsMet Given pair old new content under low high quads below
    → Parted Edit (room_in store old) new.stores (over old.writes under) (over new.writes under) content.level front bound back
    low high quads below

-- the page becomes two, the second one from this bound on
pub record Divides (change : Change) (store : ℕ) (old new : PageState) (content : Content) (left : List ℕ) (bound : Bound)
    (right : List ℕ) : Type 0 where
  pub front : List Entry
  pub back : List Entry
  pub left_page : Spells (record { level = content.level; cells = front }) left
  pub right_page : Spells (record { level = content.level; cells = back }) right
  pub key : length bound.key ≤ 264
  pub above : IsBelow least bound
  pub many : 0 < content.level → 27 ≤ length content.cells
  pub grows : Grows change old new content
  pub parts : PartsTo (edit_of change) (given_of change) (open_of change store) (pair_of change) old new content front bound back

-- a change that may find nothing
abbrev pub MayMiss : Change → Type 0
MayMiss (Remove key birth) = Unit {0}
MayMiss (End key birth death) = Unit {0}
MayMiss (Replace q) = Unit {0}
MayMiss (Insert q) = ⊥

abbrev pub IsEdited : Change → ℕ → PageState → PageState → Content → Result Edited PairFault → Type 0
IsEdited change store old new content (Ok Missing) =
    MayMiss change × (new.writes ≡ old.writes) × LacksBelow (given_of change) (pair_of change) old new content
IsEdited change store old new content (Ok Below) =
    StaysFrom content.level old new × ChangesTo (edit_of change) (given_of change) (open_of change store) (pair_of change) old new
    content content.cells
IsEdited change store old new content (Ok (Page page)) =
    StaysFrom content.level old new × Becomes change store old new content page
IsEdited change store old new content (Ok (Two left key birth right)) =
    StaysFrom content.level old new × Divides change store old new content left (bound_at key birth) right
IsEdited change store old new content (Err fault) = HasCause old new (IsNotMet (given_of change) (pair_of change) old new content)
    fault

-- what an edit below a page answers and leaves
pub record EditsBelow (change : Change) (store : ℕ) (old new : PageState) (content : Content)
    (result : Result Edited PairFault) : Type 0 where
  pub goes_on : GoesOn old new
  pub answer : IsEdited change store old new content result
  pub finds : FindsBelow change old new content result

-- ---- the parts of a page that was divided

-- the left page lies in this slot, and the right one in a fresh slot of the store
pub record PutsTwo (old new : PageState) (slot : Slot) (left : List ℕ) (store : ℕ) (fresh : Slot) (right : List ℕ) : Type 0 where
  pub goes_on : GoesOn old new
  pub in_store : fresh.store ≡ store
  pub unwritten : old.writes fresh ≡ None
  pub unread : old.reads fresh ≡ None
  pub absent : new.reads fresh ≡ Some None
  pub left_put : new.writes slot ≡ Some left
  pub right_put : slot ≢ fresh → new.writes fresh ≡ Some right
  pub others : (t : Slot) → t ≢ slot → t ≢ fresh → new.writes t ≡ old.writes t
  pub other_reads : (t : Slot) → t ≢ slot → t ≢ fresh → new.reads t ≡ old.reads t

-- a call over pages answered this fault, and what was read before is still known
pub record GaveUp (old new : PageState) (fault : PageFault) : Type 0 where
  pub goes_on : GoesOn old new
  pub counted : fault ≢ no_memory → Rose (old.faults fault) (new.faults fault)

-- the cells with a child more at this index, in one page or two
abbrev pub Grafts : Content → ℕ → Bound → Slot → Edited → Type 0
Grafts content at bound child edited =
    AreMade content.level (λ cells. cells ≡ insert content.cells at (inner_entry bound.key bound.birth child)) edited

-- the bound does not fall there between the cells, or memory ran out
abbrev pub IsNoGraft : Content → ℕ → Bound → PairFault → Type 0
IsNoGraft content at bound Odd = ((n : ℕ) → BeginsAt AtOrAfter bound content.cells n → n ≡ at)
    → ((n : ℕ) → BeginsAt After bound content.cells n → n ≡ at) → ⊥
IsNoGraft content at bound HeightFull = ⊥
IsNoGraft content at bound (PageGave fault) = fault ≡ no_memory
