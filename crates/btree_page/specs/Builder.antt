-- What a page that is being built stands for: its level, and the cells that its bytes spell.
use Rattle.std.specs.Prelude.{ℕ, ◌≡◌, ◌<◌, ◌≤◌, ◌+◌, ◌==◌, List, [], ◌∷◌, length, slice_set, slice_index, None, Result, Ok, Err}
use Rattle.std.specs.List.{flat_map}
use Rattle.std.specs.Int.{w16, to_be_bytes}
use Rattle.btree_page.specs.declared.format.PageFormat.{PageFormat}
use Rattle.btree_page.specs.Content.{Entry, entry_spelling, AreCells}
use Rattle.btree_page.specs.Reading.{Ahead, cells_at, from_place}

abbrev pub cells_in : Result (List Entry × Ahead) PageFormat → List Entry
cells_in (Ok x) = x.0
cells_in (Err fault) = []

-- the cells so far, behind the four bytes of the head
abbrev pub built : ℕ → ℕ → List ℕ → List Entry
built level count bytes = cells_in (cells_at (level == 0) count None (from_place bytes 4))

-- the bytes are a head without its count, and the cells; there is room for the longest page
pub record IsBuilt (level count : ℕ) (bytes : List ℕ) (spare : ℕ) : Type 0 where
  pub byte : level < 256
  pub spelled : bytes ≡ 1 ∷ level ∷ 0 ∷ 0 ∷ flat_map entry_spelling (built level count bytes)
  pub rules : AreCells (level == 0) None (built level count bytes)
  pub counted : length (built level count bytes) ≡ count
  pub short : length bytes ≤ 8192
  pub room : 8192 ≤ length bytes + spare

-- the bytes with the number of cells in the head
abbrev pub with_count : List ℕ → ℕ → List ℕ
with_count bytes count =
    slice_set (slice_set bytes 2 (slice_index (to_be_bytes w16 count) 0)) 3 (slice_index (to_be_bytes w16 count) 1)
