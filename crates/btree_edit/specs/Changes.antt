-- What each change is of a list of records, and of the cells of a leaf.
use Rattle.std.specs.Prelude.{ℕ, ◌≡◌, ◌≢◌, ◌<◌, ◌≤◌, ◌^◌, true, List, length, Option, Some, None, Result, MatchResult, All}
use Rattle.std.specs.Prelude.{slice_get, slice_set}
use Rattle.std.specs.List.{remove, insert}
use Rattle.pair_types.specs.declared.quad.Quad.{Quad}
use Rattle.pair_types.specs.declared.fault.PairFault.{PairFault}
use Rattle.pair_types.specs.declared.fault.PairFault.TheVariants.{Odd, HeightFull, Page as PageGave}
use Rattle.pair_types.specs.PageState.{no_memory}
use Rattle.btree_page.specs.Content.{Bound, Body, Carries, Leads, Entry, AreCells, bound_of}
use Rattle.btree_page.specs.Tree.{IsRecord, quad_bound, quad_cell}
use Rattle.btree_edit.specs.declared.change.Change.{Change}
use Rattle.btree_edit.specs.declared.change.Change.TheVariants.{Remove, End, Replace, Insert}
use Rattle.btree_edit.specs.declared.outcome.Edited.{Edited}
use Rattle.btree_edit.specs.declared.outcome.Edited.TheVariants.{Missing, Below, Page, Two}
use Rattle.btree_edit.specs.Edits.{bound_at, Nothing, Lacks, Removes, Ends, Replaces, Inserts}
use Rattle.btree_edit.specs.Made.{size, IsNearly, IsMadeOf}

-- where it edits
abbrev pub pair_of : Change → Bound
pair_of (Remove key birth) = bound_at key.now birth
pair_of (End key birth death) = bound_at key.now birth
pair_of (Replace q) = quad_bound q.now
pair_of (Insert q) = quad_bound q.now

-- the edit of the list
abbrev pub edit_of : Change → List Quad → List Quad → Type 0
edit_of (Remove key birth) = Removes (bound_at key.now birth)
edit_of (End key birth death) = Ends (bound_at key.now birth) death
edit_of (Replace q) = Replaces q.now
edit_of (Insert q) = Inserts q.now

-- what is given of the list
abbrev pub given_of : Change → List Quad → Type 0
given_of (Remove key birth) = Nothing
given_of (End key birth death) = Nothing
given_of (Replace q) = Nothing
given_of (Insert q) = Lacks (quad_bound q.now)

-- which slots may come to the tree, where new pages go to this store
abbrev pub open_of : Change → ℕ → Option ℕ
open_of (Remove key birth) store = None
open_of (End key birth death) store = None
open_of (Replace q) store = Some store
open_of (Insert q) store = Some store

-- its record is within the limits of a page
abbrev pub FitsChange : Change → Type 0
FitsChange (Remove key birth) = Unit {0}
FitsChange (End key birth death) = death < 2 ^ 64
FitsChange (Replace q) = IsRecord q.now
FitsChange (Insert q) = IsRecord q.now

-- ---- the cells of a leaf

pub record RemovesCell (pair : Bound) (cells new : List Entry) : Type 0 where
  pub at : ℕ
  pub within : at < length cells
  pub place : (e : Entry) → slice_get cells at ≡ Some e → bound_of e ≡ pair
  pub now : new ≡ remove cells at
  pub small : size new ≤ 8188

-- a cell of a leaf with another death
abbrev pub ended_body : ℕ → Body → Body
ended_body death (Carries old value) = Carries death value
ended_body death (Leads child) = Leads child

abbrev pub ended : ℕ → Entry → Entry
ended death e = record e { body = ended_body death e.body }

pub record EndsCell (pair : Bound) (death : ℕ) (cells new : List Entry) : Type 0 where
  pub at : ℕ
  pub within : at < length cells
  pub place : (e : Entry) → slice_get cells at ≡ Some e → bound_of e ≡ pair
  pub now : (e : Entry) → slice_get cells at ≡ Some e → new ≡ slice_set cells at (ended death e)
  pub small : size new ≤ 8188

pub record ReplacesCell (q : Quad) (cells new : List Entry) : Type 0 where
  pub rules : AreCells true None cells
  pub fitted : size cells ≤ 8188
  pub at : ℕ
  pub within : at < length cells
  pub place : (e : Entry) → slice_get cells at ≡ Some e → bound_of e ≡ quad_bound q
  pub now : new ≡ slice_set cells at (quad_cell q)

pub record InsertsCell (q : Quad) (cells new : List Entry) : Type 0 where
  pub at : ℕ
  pub within : at ≤ length cells
  pub now : new ≡ insert cells at (quad_cell q)

-- no cell stands at the pair
abbrev pub IsMissing : Bound → List Entry → Type 0
IsMissing pair cells = All (λ e. bound_of e ≢ pair) cells

-- a cell stands at the pair, or memory ran out
abbrev pub IsRefused : Bound → List Entry → PairFault → Type 0
IsRefused pair cells Odd = IsMissing pair cells → ⊥
IsRefused pair cells HeightFull = ⊥
IsRefused pair cells (PageGave fault) = fault ≡ no_memory

-- edited cells in one page or two
pub record AreMade (level : ℕ) (Edit : List Entry → Type 0) (edited : Edited) : Type 0 where
  pub cells : List Entry
  pub edit : Edit cells
  pub nearly : IsNearly level cells
  pub made : IsMadeOf level cells edited

abbrev pub Answers : (List Entry → Type 0) → Type 0 → Edited → Type 0
Answers Edit Missed Missing = Missed
Answers Edit Missed Below = ⊥
Answers Edit Missed (Page page) = AreMade 0 Edit (Page page)
Answers Edit Missed (Two left key birth right) = AreMade 0 Edit (Two left key birth right)

abbrev pub cells_edit : Change → List Entry → List Entry → Type 0
cells_edit (Remove key birth) = RemovesCell (bound_at key.now birth)
cells_edit (End key birth death) = EndsCell (bound_at key.now birth) death
cells_edit (Replace q) = ReplacesCell q.now
cells_edit (Insert q) = InsertsCell q.now

-- when a change may find nothing
abbrev pub misses_of : Change → List Entry → Type 0
misses_of (Remove key birth) cells = IsMissing (bound_at key.now birth) cells
misses_of (End key birth death) cells = IsMissing (bound_at key.now birth) cells
misses_of (Replace q) cells = IsMissing (quad_bound q.now) cells
misses_of (Insert q) cells = ⊥

-- when a change may be refused at a leaf
abbrev pub refusal_of : Change → List Entry → PairFault → Type 0
refusal_of (Remove key birth) cells fault = fault ≡ PageGave no_memory
refusal_of (End key birth death) cells fault = fault ≡ PageGave no_memory
refusal_of (Replace q) cells fault = fault ≡ PageGave no_memory
refusal_of (Insert q) cells fault = IsRefused (quad_bound q.now) cells fault

abbrev pub EditsLeaf : Change → List Entry → Result Edited PairFault → Type 0
EditsLeaf change cells result =
    MatchResult result (λ edited. Answers (cells_edit change cells) (misses_of change cells) edited)
    (λ fault. refusal_of change cells fault)
