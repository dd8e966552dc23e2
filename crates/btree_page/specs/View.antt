-- What a view of a page stands for, and the table of its cells' places.
use Rattle.std.specs.Prelude.{ℕ, ◌≡◌, ◌+◌, ◌<◌, ◌≤◌, ◌==◌, Bool, List, [], length, take, Option, None, Result, Ok, Err, slice_get}
use Rattle.std.specs.Prelude.{slice_index}
use Rattle.std.specs.List.{flat_map}
use Rattle.btree_page.specs.declared.format.PageFormat.{PageFormat}
use Rattle.cursor.specs.Position.{Position}
use Rattle.btree_page.specs.Content.{Entry, Content, IsPage, spelling, entry_spelling}
use Rattle.btree_page.specs.Reading.{Ahead, ahead, cells_at, cell_in, page_at}

-- how many bytes the first so many cells take
abbrev pub size_to : ℕ → List Entry → ℕ
size_to k cells = length (flat_map entry_spelling (take k cells))

-- what stands at a place of a text is this cell, if there is one
pub record StandsAt (is_leaf : Bool) (text : List ℕ) (place : ℕ) (cell : Option Entry) : Type 0 where
  pub within : place ≤ length text
  pub reads : cell_in is_leaf text place ≡ cell

-- the first n cells read so, up to what is ahead, and the table has the place of each
pub record IsIndex (is_leaf : Bool) (n : ℕ) (text : List ℕ) (from now : Ahead) (table : List ℕ)
    (cells : List Entry) : Type 0 where
  pub few : n ≤ 410
  pub read : cells_at is_leaf n None from ≡ Ok (cells, now)
  pub places : (k : ℕ) → k < n → StandsAt is_leaf text (slice_index table k) (slice_get cells k)
  pub tiles : (k : ℕ) → k < n → slice_index table k ≡ from.place + size_to k cells

-- a table of the places of n cells, for some cells that read so
abbrev pub IsTable : Bool → ℕ → Position → Position → List ℕ → Type 0
IsTable is_leaf n old new table = (cells : List Entry) × IsIndex is_leaf n old.text (ahead old) (ahead new) table cells

-- the content of a text that is a page
abbrev pub content_in : Result Content PageFormat → Content
content_in (Ok content) = content
content_in (Err fault) = record { level = 0; cells = [] }

abbrev pub content_of : List ℕ → Content
content_of text = content_in (page_at text)

-- the text is a page of this level and with this many cells, whose places the table has
pub record IsIndexed (text : List ℕ) (on cells : ℕ) (table : List ℕ) : Type 0 where
  pub read : page_at text ≡ Ok (content_of text)
  pub rules : IsPage (content_of text)
  pub spelled : spelling (content_of text) ≡ text
  pub level : (content_of text).level ≡ on
  pub count : length (content_of text).cells ≡ cells
  pub few : cells ≤ 410
  pub places : (k : ℕ) → k < cells → StandsAt (on == 0) text (slice_index table k) (slice_get (content_of text).cells k)
  pub tiles : (k : ℕ) → k < cells → slice_index table k ≡ 4 + size_to k (content_of text).cells
