-- The smallest trees of the levels 0 and 1, so that what is said of every tree is said of something.
use Rattle.std.specs.Prelude.{ℕ, zero, suc, List, [], ◌∷◌, Option, Some, None, map}
use Rattle.pair_types.specs.declared.slot.Slot.{Slot}
use Rattle.pair_types.specs.declared.quad.Quad.{Quad}
use Rattle.pair_types.specs.PageMaps.{PageMap}
use Rattle.btree_page.specs.Content.{spelling, inner_entry}
use Rattle.btree_page.specs.Tree.{quad_cell, root, IsFormed}

-- a slot of store 0
abbrev pub slot : ℕ → Slot
slot number = record { store = 0; number = number }

-- the record at a key of one byte, of birth 1, never dead, with no value
abbrev pub record_at : ℕ → Quad
record_at byte = record { key = byte ∷ []; birth = 1; death = 18446744073709551615; value = [] }

-- a leaf of these records, spelled
abbrev pub leaf_of : List Quad → List ℕ
leaf_of quads = spelling (record { level = 0; cells = map quad_cell quads })

-- pages that lie in store 0
abbrev pub in_store : (ℕ → Option (List ℕ)) → ℕ → ℕ → Option (List ℕ)
in_store pages zero number = pages number
in_store pages (suc store) number = None

abbrev pub in_first : (ℕ → Option (List ℕ)) → PageMap
in_first pages s = in_store pages s.store s.number

-- an empty leaf as the root
abbrev pub one_leaf : ℕ → Option (List ℕ)
one_leaf zero = Some (leaf_of [])
one_leaf (suc n) = None

-- a root of level 1 over two leaves of one record each
abbrev pub two_leaves : ℕ → Option (List ℕ)
two_leaves zero = Some (spelling (record {
  level = 1;
  cells = inner_entry [] 0 (slot 1)
      ∷ (inner_entry (98 ∷ []) 0 (slot 2) ∷ []);
}))
two_leaves (suc zero) = Some (leaf_of (record_at 97 ∷ []))
two_leaves (suc (suc zero)) = Some (leaf_of (record_at 98 ∷ []))
two_leaves (suc (suc (suc n))) = None

pub record AreTrees : Type 0 where
  pub one : IsFormed 1 (in_first one_leaf) [] (root ∷ [])
  pub two : IsFormed 1 (in_first two_leaves) (record_at 97 ∷ (record_at 98 ∷ [])) (root ∷ (slot 1 ∷ (slot 2 ∷ [])))
