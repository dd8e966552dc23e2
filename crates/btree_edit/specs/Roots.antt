-- What an edit makes of the root, and of the tree.
use Rattle.std.specs.Prelude.{ℕ, ◌≡◌, ◌≢◌, ◌⊎◌, Bool, true, false, ◌<◌, List, [], ◌∷◌, length, Some, None, Result, Ok, Err}
use Rattle.pair_types.specs.declared.slot.Slot.{Slot}
use Rattle.pair_types.specs.declared.quad.Quad.{Quad}
use Rattle.pair_types.specs.declared.fault.PairFault.{PairFault}
use Rattle.pair_types.specs.PageMaps.{PageMap, Agrees, over}
use Rattle.pair_types.specs.PageState.{PageState}
use Rattle.btree_page.specs.Content.{Bound, Spells, inner_entry}
use Rattle.btree_page.specs.Tree.{quad_bound, root}
use Rattle.btree_search.specs.Found.{HasCause}
use Rattle.btree_search.specs.Way.{Meets}
use Rattle.btree_edit.specs.declared.change.Change.{Change}
use Rattle.btree_edit.specs.declared.change.Change.TheVariants.{Remove, End, Replace, Insert}
use Rattle.btree_edit.specs.Edits.{bound_at}
use Rattle.btree_edit.specs.Edited.{WasMet, StaysWhere, EditsIn, LacksIn, HadNoTree, GoesOn, RootStays, RootGrows, HasPutCause}
use Rattle.btree_edit.specs.Changes.{edit_of, given_of, open_of}

-- the parts of the root lie in fresh slots of the store, and the root leads to both
pub record Raises (old new : PageState) (level : ℕ) (left : List ℕ) (bound : Bound) (right : List ℕ) (store : ℕ) : Type 0 where
  pub first : Slot
  pub second : Slot
  pub page : List ℕ
  pub goes_on : GoesOn old new
  pub spelled : Spells (record { level = level; cells = inner_entry [] 0 first ∷ inner_entry bound.key bound.birth second ∷ [] })
      page
  pub root_put : new.writes root ≡ Some page
  pub first_put : first ≢ root → new.writes first ≡ Some left
  pub second_put : second ≢ root → new.writes second ≡ Some right
  pub first_unwritten : old.writes first ≡ None
  pub second_unwritten : old.writes second ≡ None
  pub first_unread : old.reads first ≡ None
  pub second_unread : old.reads second ≡ None
  pub first_absent : new.reads first ≡ Some None
  pub second_absent : new.reads second ≡ Some None
  pub first_store : first.store ≡ store
  pub second_store : second.store ≡ store
  pub two : first ≢ second
  pub others : (t : Slot) → t ≢ root → t ≢ first → t ≢ second → new.writes t ≡ old.writes t

-- a call gives up by the fault of a call over pages
pub record FailsSo (old new : PageState) (fault : PairFault) : Type 0 where
  pub goes_on : GoesOn old new
  pub cause : HasCause old new ⊥ fault

-- why a tree may grow: a record came in, or one longer than that to which the way leads
abbrev pub TreeGrows : Change → PageState → PageState → Type 0
TreeGrows (Remove key birth) old new = ⊥
TreeGrows (End key birth death) old new = ⊥
TreeGrows (Replace q) old new = (under : PageMap) → Agrees new.reads under → (gone : Quad)
    → Meets (over old.writes under) (quad_bound q.now) gone → length gone.value < length q.now.value
TreeGrows (Insert q) old new = Unit {0}

-- a change that lets nothing grow
abbrev pub NeverGrows : Change → Type 0
NeverGrows (Remove key birth) = Unit {0}
NeverGrows (End key birth death) = Unit {0}
NeverGrows (Replace q) = ⊥
NeverGrows (Insert q) = ⊥

-- an edit that found nothing
abbrev pub MissesIn : Change → PageState → PageState → Type 0
MissesIn (Remove key birth) old new = LacksIn (bound_at key.now birth) old new
MissesIn (End key birth death) old new = LacksIn (bound_at key.now birth) old new
MissesIn (Replace q) old new = LacksIn (quad_bound q.now) old new
MissesIn (Insert q) old new = ⊥

-- what an edit answers of the tree
abbrev pub IsPut : Change → ℕ → PageState → PageState → Result Bool PairFault → Type 0
IsPut change store old new (Ok true) =
    EditsIn (edit_of change) (given_of change) (open_of change store) old new
    × (RootStays old new ⊎ (TreeGrows change old new × RootGrows old new))
IsPut change store old new (Ok false) = MissesIn change old new × RootStays old new
IsPut change store old new (Err fault) = HasPutCause old new (HadNoTree (given_of change) old new) fault

-- what was found by an edit that puts a record in the place of another
abbrev pub TreeMet : Change → PageState → PageState → Type 0
TreeMet (Remove key birth) old new = Unit {0}
TreeMet (End key birth death) old new = Unit {0}
TreeMet (Replace q) old new = WasMet (quad_bound q.now) old new
TreeMet (Insert q) old new = Unit {0}

abbrev pub TreeFinds : Change → PageState → PageState → Result Bool PairFault → Type 0
TreeFinds change old new (Ok true) = TreeMet change old new
TreeFinds change old new (Ok false) = Unit {0}
TreeFinds change old new (Err fault) = Unit {0}

pub record PutsIn (change : Change) (store : ℕ) (old new : PageState) (result : Result Bool PairFault) : Type 0 where
  pub goes_on : GoesOn old new
  pub answer : IsPut change store old new result
  pub finds : TreeFinds change old new result

-- how far the root page stays
abbrev pub TreeStays : Change → PageState → PageState → Bool → Type 0
TreeStays (Remove key birth) old new found = Unit {0}
TreeStays (End key birth death) old new found = Unit {0}
TreeStays (Replace q) old new found = StaysWhere q.now old new found
TreeStays (Insert q) old new found = Unit {0}
