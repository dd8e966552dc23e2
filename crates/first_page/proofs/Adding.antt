-- Pages that are made record by record: which record may come next, and how long the page is then.
use Rattle.std.proofs.Common.{◌≡◌, ℕ, ◌+◌, ◌≤◌, true, List, [], ◌∷◌, ◌++◌, map, length, Option, Some, None, refl, sym, ap, subst}
use Rattle.std.proofs.Common.{◌∙◌, arith}
use Rattle.std.specs.List.{flat_map}
use Rattle.std.proofs.lemmas.List.{length-append, map-append}
use Rattle.pair_types.specs.declared.quad.Quad.{Quad}
use Rattle.btree_page.specs.Content.{Bound, IsBelow, Entry, Content, head, spelling, entry_spelling, Fits, Follows, last_bound}
use Rattle.btree_page.specs.Content.{with_cell}
use Rattle.btree_page.specs.Tree.{quad_bound, quad_cell}
use Rattle.btree_page.proofs.Built.{leaf_size}
use Rattle.btree_page.proofs.Cells.{last_bound-push}
use Rattle.fs_keys.specs.Keys.{Parts, HasBounds}
use Rattle.fs_keys.proofs.KeyLaws.{key-short}
use Rattle.first_page.specs.Records.{newborn, MayFollow}

-- a leaf of these records
abbrev pub page_of : List Quad → Content
page_of quads = record { level = 0; cells = map quad_cell quads }

with_quad : (quads : List Quad) (q : Quad) → with_cell (page_of quads) (quad_cell q) ≡ page_of (quads ++ q ∷ [])
with_quad quads q =
    ap (λ (cells : List Entry). let made : Content = record { level = 0; cells = cells } in made)
    (sym (map-append quad_cell quads (q ∷ [])))

-- a page of records, with one more
pub one_more : (page page' : Content) (quads : List Quad) (q : Quad) → page ≡ page_of quads → page' ≡ with_cell page (quad_cell q)
    → page' ≡ page_of (quads ++ q ∷ [])
one_more page page' quads q before is = is ∙ (ap (λ (p : Content). with_cell p (quad_cell q)) before ∙ with_quad quads q)

-- ---- how long pages are

-- how many bytes records take
abbrev pub bytes_of : List Quad → ℕ
bytes_of [] = 0
bytes_of (q ∷ qs) = (20 + length q.key + length q.value) + bytes_of qs

pub bytes_of-append : (a b : List Quad) → bytes_of (a ++ b) ≡ bytes_of a + bytes_of b
bytes_of-append [] b = omega arith
bytes_of-append (q ∷ a) b = omega (arith, bytes_of-append a b)

cells_size : (quads : List Quad) → length (flat_map entry_spelling (map quad_cell quads)) ≡ bytes_of quads
cells_size [] = refl
cells_size (q ∷ qs) =
    omega (
      arith,
      length-append (entry_spelling (quad_cell q)) (flat_map entry_spelling (map quad_cell qs)),
      leaf_size q.key q.birth q.death q.value,
      cells_size qs,
    )

page_size : (quads : List Quad) → length (spelling (page_of quads)) ≡ 4 + bytes_of quads
page_size quads =
    omega (
      arith,
      length-append (head 0 (length (map quad_cell quads))) (flat_map entry_spelling (map quad_cell quads)),
      cells_size quads,
    )

-- ---- which record may come next

newborn_fits : (parts : Parts) (value : List ℕ) → HasBounds parts → length value ≤ 1200
    → Fits true (quad_cell (newborn parts value))
newborn_fits parts value bounds short = record {
  key = key-short parts bounds;
  birth = omega arith;
  body = (omega arith, short);
}

room_for : (quads : List Quad) (parts : Parts) (value : List ℕ) → HasBounds parts → length value ≤ 1200 → bytes_of quads ≤ 6000
    → length (spelling (with_cell (page_of quads) (quad_cell (newborn parts value)))) ≤ 8192
room_for quads parts value bounds short few =
    let q = newborn parts value in
    omega (
      arith,
      ap (λ (p : Content). length (spelling p)) (with_quad quads q),
      page_size (quads ++ q ∷ []),
      bytes_of-append quads (q ∷ []),
      key-short parts bounds,
      short,
      few,
    )

-- the first record of a page
pub first_follows : (page : Content) (parts : Parts) (value : List ℕ) → page ≡ record { level = 0; cells = [] } → HasBounds parts
    → length value ≤ 1200 → MayFollow page (newborn parts value)
first_follows page parts value is bounds short = subst (λ (p : Content). MayFollow p (newborn parts value)) (sym is) (record {
  next = record { fits = newborn_fits parts value bounds short; follows = tt };
  room = room_for [] parts value bounds short (omega arith);
})

-- a record above the last one
pub next_follows : (page : Content) (quads : List Quad) (last : Quad) (parts : Parts) (value : List ℕ)
    → page ≡ page_of (quads ++ last ∷ []) → HasBounds parts → length value ≤ 1200 → bytes_of (quads ++ last ∷ []) ≤ 6000
    → IsBelow (quad_bound last) (quad_bound (newborn parts value))
    → MayFollow page (newborn parts value)
next_follows page quads last parts value is bounds short few below =
    let ends : last_bound None (map quad_cell (quads ++ last ∷ [])) ≡ Some (quad_bound last) =
    ap (λ (cells : List Entry). last_bound None cells) (map-append quad_cell quads (last ∷ []))
    ∙ last_bound-push None (map quad_cell quads) (quad_cell last) in
    subst (λ (p : Content). MayFollow p (newborn parts value)) (sym is) (record {
      next = record {
        fits = newborn_fits parts value bounds short;
        follows =
            subst (λ (b : Option Bound). Follows true b (quad_cell (newborn parts value))) (sym ends) below;
      };
      room = room_for (quads ++ last ∷ []) parts value bounds short few;
    })
