-- Pages made of cells: one, or two where one has no room for them.
use Rattle.std.specs.Prelude.{ℕ, ◌≡◌, ◌<◌, ◌≤◌, ◌==◌, List, [], ◌∷◌, ◌++◌, length, take, drop, Some, None, slice_get}
use Rattle.std.specs.List.{flat_map}
use Rattle.btree_page.specs.Content.{Bound, Body, Carries, Leads, Entry, Spells, AreCells, bound_of, entry_spelling, inner_entry}
use Rattle.btree_edit.specs.declared.outcome.Edited.{Edited}
use Rattle.btree_edit.specs.declared.outcome.Edited.TheVariants.{Missing, Below, Page, Two}
use Rattle.btree_edit.specs.Edits.{bound_at}

-- how many bytes cells take
abbrev pub size : List Entry → ℕ
size cells = length (flat_map entry_spelling cells)

-- cells in which one stands in the place of those from one index up to another
abbrev pub with_one : List Entry → ℕ → ℕ → Entry → List Entry
with_one cells at past e = take at cells ++ (e ∷ drop past cells)

-- a cell has no more bytes than the longest record
abbrev pub IsShort : Entry → Type 0
IsShort e = length (entry_spelling e) ≤ 1484

-- a cell as the first one of its page: a child has no bound there
abbrev pub headed_as : Entry → Body → Entry
headed_as e (Carries death value) = e
headed_as e (Leads child) = inner_entry [] 0 child

abbrev pub headed : Entry → Entry
headed e = headed_as e e.body

-- cells as all of a page
abbrev pub behind : List Entry → List Entry
behind [] = []
behind (e ∷ es) = headed e ∷ es

-- cells that are those of a page but for their size, which one cell more may have passed
pub record IsNearly (level : ℕ) (cells : List Entry) : Type 0 where
  pub byte : level < 256
  pub rules : AreCells (level == 0) None cells
  pub least : 0 < level → 2 ≤ length cells
  pub few : size cells ≤ 9672

-- the first so many cells take about half of a page
pub record IsMiddle (cells : List Entry) (n : ℕ) : Type 0 where
  pub within : n ≤ length cells
  pub enough : 4096 ≤ size cells → 4096 ≤ size (take n cells)
  pub short : size (take n cells) < 5580

-- these two pages, the second one with the bound of this cell
abbrev pub IsTwo : List ℕ → Entry → List ℕ → Edited → Type 0
IsTwo left edge right Missing = ⊥
IsTwo left edge right Below = ⊥
IsTwo left edge right (Page page) = ⊥
IsTwo left edge right (Two l key birth r) = (l ≡ left) × (bound_at key birth ≡ bound_of edge) × (r ≡ right)

-- the cells have no room in one page: they are those of two pages, and the second one begins at this bound
pub record IsSplit (level : ℕ) (cells : List Entry) (left : List ℕ) (bound : Bound) (right : List ℕ) : Type 0 where
  pub at : ℕ
  pub some : 0 < at
  pub within : at < length cells
  pub edge : (e : Entry) → slice_get cells at ≡ Some e → bound_of e ≡ bound
  pub left_page : Spells (record { level = level; cells = take at cells }) left
  pub right_page : Spells (record { level = level; cells = behind (drop at cells) }) right
  pub full : 8188 < size cells

abbrev pub IsMadeOf : ℕ → List Entry → Edited → Type 0
IsMadeOf level cells Missing = ⊥
IsMadeOf level cells Below = ⊥
IsMadeOf level cells (Page page) = Spells (record { level = level; cells = cells }) page
IsMadeOf level cells (Two left key birth right) = IsSplit level cells left (bound_at key birth) right
