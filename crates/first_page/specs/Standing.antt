-- When a page by itself stands for a tree: it is the whole of a B-tree, and what its records tell stands for the tree.
use Rattle.std.specs.Prelude.{ℕ, ◌≤◌, List, Some, None, if◌then◌else◌}
use Rattle.pair_types.specs.declared.quad.Quad.{Quad}
use Rattle.pair_types.specs.declared.slot.Slot.{Slot}
use Rattle.pair_types.specs.PageMaps.{PageMap}
use Rattle.btree_page.specs.Tree.{root, IsFormed}
use Rattle.pairs.specs.Lives.{lives_of}
use Rattle.pairs.specs.Versions.{Versions, is_same_slot}
use Rattle.fs_rules.specs.Tree.{Tree}
use Rattle.fs_shows.specs.Shows.{Stands}

-- the map that has this page alone, in the slot of the root
abbrev pub only_page : List ℕ → PageMap
only_page page slot = if is_same_slot slot root then Some page else None

-- what records tell, over so many stores and with no block
abbrev pub versions_of : ℕ → List Quad → Versions
versions_of stores quads = record { stores = stores; lives = lives_of quads; blocks = λ slot. None }

-- over so many stores the page alone is a B-tree of records, and what these tell stands for the tree
pub record StandsAlone (page : List ℕ) (t : Tree) (stores : ℕ) : Type 0 where
  pub quads : List Quad
  pub slots : List Slot
  pub formed : IsFormed stores (only_page page) quads slots
  pub stands : Stands (versions_of stores quads) t

-- over any number of stores, from 1 on
abbrev pub IsFirstPage : List ℕ → Tree → Type 0
IsFirstPage page t = (stores : ℕ) → 1 ≤ stores → StandsAlone page t stores
