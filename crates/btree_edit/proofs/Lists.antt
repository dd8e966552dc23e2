-- Lists of cells: their parts, how long they are spelled, and what is left without one.
use Rattle.std.proofs.Common.{◌≡◌, ℕ, zero, suc, ◌+◌, ◌<◌, ◌≤◌, Bool, true, List, [], ◌∷◌, ◌++◌, map, length, take, drop, Option}
use Rattle.std.proofs.Common.{Some, None, get_or, refl, sym, ap, subst, ◌∙◌, arith}
use Rattle.std.specs.Prelude.{◌==◌, slice_get}
use Rattle.std.specs.List.{flat_map, remove}
use Rattle.std.proofs.lemmas.List.{length-append, map-append}
use Rattle.btree_page.specs.Content.{Bound, Entry, Content, bound_of, head, spelling, entry_spelling, Follows, AreCells}
use Rattle.btree_page.specs.Content.{last_bound, IsPage, IsNext, with_cell}
use Rattle.btree_page.specs.declared.cell.Cell.{Cell}
use Rattle.btree_page.specs.Cells.{entry_of}
use Rattle.btree_page.proofs.Cells.{cells_many}
use Rattle.btree_search.proofs.Order.{bound_total}
use Rattle.btree_edit.specs.Made.{size}

pub size_of_page : (level : ℕ) (cells : List Entry) → length (spelling (record { level = level; cells = cells })) ≡ 4 + size cells
size_of_page level cells = omega (arith, length-append (head level (length cells)) (flat_map entry_spelling cells))

pub size-append : (xs ys : List Entry) → size (xs ++ ys) ≡ size xs + size ys
size-append [] ys = omega arith
size-append (x ∷ xs) ys =
    omega (
      arith,
      size-append xs ys,
      length-append (entry_spelling x) (flat_map entry_spelling (xs ++ ys)),
      length-append
          (entry_spelling x) (flat_map entry_spelling xs),
    )

-- a page has few cells
pub few_cells : (content : Content) → IsPage content → length content.cells ≤ 8192
few_cells content rules =
    omega (
      arith,
      cells_many (content.level == 0) None content.cells rules.cells,
      rules.size,
      size_of_page content.level
          content.cells,
    )

-- ---- parts

pub parts_of_cells : (is_leaf : Bool) (before : Option Bound) (xs ys : List Entry) → AreCells is_leaf before (xs ++ ys)
    → AreCells is_leaf before xs × AreCells is_leaf (last_bound before xs) ys
parts_of_cells is_leaf before [] ys h = (tt, h)
parts_of_cells is_leaf before (x ∷ xs) ys h =
    let more = parts_of_cells is_leaf (Some (bound_of x)) xs ys h.1.1 in ((h.0, (h.1.0, more.0)), more.1)

pub joined_cells : (is_leaf : Bool) (before : Option Bound) (xs ys : List Entry) → AreCells is_leaf before xs
    → AreCells is_leaf (last_bound before xs) ys
    → AreCells is_leaf before (xs ++ ys)
joined_cells is_leaf before [] ys h k = k
joined_cells is_leaf before (x ∷ xs) ys h k = (h.0, (h.1.0, joined_cells is_leaf (Some (bound_of x)) xs ys h.1.1 k))

-- the list before a place, what stands there, and the list behind it
pub at_place : {A : Type 0} (xs : List A) (i : ℕ) → i < length xs → (x : A) × (slice_get xs i ≡ Some x)
    × (xs ≡ take i xs ++ (x ∷ drop (suc i) xs))
at_place [] i lt = absurd (omega arith)
at_place (x ∷ xs) zero lt = (x, refl, refl)
at_place (x ∷ xs) (suc i) lt =
    let more = at_place xs i (omega arith) in (more.0, more.1, ap (λ (ys : List _). x ∷ ys) more.2)

pub map_remove : {A B : Type 0} (f : A → B) (xs : List A) (i : ℕ) → map f (remove xs i) ≡ remove (map f xs) i
map_remove f [] zero = refl
map_remove f [] (suc i) = refl
map_remove f (x ∷ xs) zero = refl
map_remove f (x ∷ xs) (suc i) = ap (λ (ys : List _). f x ∷ ys) (map_remove f xs i)

-- ---- a leaf without one cell

-- cells above a cell are above what stood before it
pub above_before : (before : Option Bound) (e : Entry) (ys : List Entry) → Follows true before e
    → AreCells true (Some (bound_of e)) ys → AreCells true before ys
above_before before e [] h k = tt
above_before None e (y ∷ ys) h k = (k.0, (tt, k.1.1))
above_before (Some b) e (y ∷ ys) h k = (k.0, (bound_total.trans b (bound_of e) (bound_of y) h k.1.0, k.1.1))

-- ---- cells that are put into a page one by one

pub take_next : {A : Type 0} (xs : List A) (i : ℕ) (x : A) → slice_get xs i ≡ Some x → take (suc i) xs ≡ take i xs ++ (x ∷ [])
take_next [] i x at = absurd cc
take_next (y ∷ ys) zero x at =
    let same : y ≡ x = cc in ap (λ (z : _). z ∷ []) same
take_next (y ∷ ys) (suc i) x at = ap (λ (zs : List _). y ∷ zs) (take_next ys i x at)

pub there : {A : Type 0} (xs : List A) (k : ℕ) (d : A) → k < length xs → slice_get xs k ≡ Some (get_or xs k d)
there [] k d lt = absurd (omega arith)
there (x ∷ xs) zero d lt = refl
there (x ∷ xs) (suc k) d lt = there xs k d (omega arith)

mapped_at : {A B : Type 0} (f : A → B) (xs : List A) (i : ℕ) (d : A) → i < length xs
    → map f xs ≡ map f (take i xs) ++ (f (get_or xs i d) ∷ map f (drop (suc i) xs))
mapped_at f [] i d lt = absurd (omega arith)
mapped_at f (x ∷ xs) zero d lt = refl
mapped_at f (x ∷ xs) (suc i) d lt = ap (λ (ys : List _). f x ∷ ys) (mapped_at f xs i d (omega arith))

-- the next of these cells may be added, and there is room for it
pub next_cell : (level : ℕ) (cells : List Cell) (i : ℕ) (d : Cell) (built : Content) → i < length cells
    → IsPage (record { level = level; cells = map entry_of cells }) → built ≡ record {
      level = level;
      cells =
          map entry_of (take i cells);
    }
    → IsNext built (entry_of (get_or cells i d)) × (length (spelling (with_cell built (entry_of (get_or cells i d)))) ≤ 8192)
next_cell level cells i d built lt rules is =
    let e = entry_of (get_or cells i d) in
    let front = map entry_of (take i cells) in
    let back = map entry_of (drop (suc i) cells) in
    let split : map entry_of cells ≡ front ++ (e ∷ back) = mapped_at entry_of cells i d lt in
    let parts = parts_of_cells (level == 0) None front (e ∷ back) (subst (λ (cs : List Entry). AreCells (level == 0) None cs)
    split rules.cells) in
    let here : Content = record { level = level; cells = front } in
    let next : IsNext here e = record { fits = parts.1.0; follows = parts.1.1.0 } in
    let room : length (spelling (with_cell here e)) ≤ 8192 =
    omega (
      arith,
      rules.size,
      size_of_page level (map entry_of cells),
      size_of_page level (front ++ (e ∷ [])),
      ap size split,
      size-append front (e ∷ back),
      size-append front (e ∷ []),
      length-append (entry_spelling e) (flat_map entry_spelling back),
      length-append (entry_spelling e) (flat_map entry_spelling []),
    ) in
    subst (λ (c : Content). IsNext c e × (length (spelling (with_cell c e)) ≤ 8192)) (sym is) (next, room)

-- one cell more was built
pub built_next : (level : ℕ) (cells : List Cell) (i : ℕ) (d : Cell) (built more : Content) → i < length cells
    → built ≡ record { level = level; cells = map entry_of (take i cells) } → more ≡ with_cell built (entry_of (get_or cells i d))
    → more ≡ record { level = level; cells = map entry_of (take (suc i) cells) }
built_next level cells i d built more lt is with =
    let e = entry_of (get_or cells i d) in
    let grown : map entry_of (take (suc i) cells) ≡ map entry_of (take i cells) ++ (e ∷ []) =
    ap (λ (xs : List Cell). map entry_of xs) (take_next cells i (get_or cells i d) (there cells i d lt))
    ∙ map-append entry_of (take i cells) (get_or cells i d ∷ []) in
    with
    ∙ (ap (λ (c : Content). with_cell c e) is
    ∙ ap (λ (cs : List Entry). let made : Content = record { level = level; cells = cs } in made) (sym grown))

-- one cell more was taken from a page
pub taken_next : (entries : List Entry) (xs ys : List Cell) (i : ℕ) (x : Cell) → map entry_of xs ≡ take i entries
    → slice_get entries i ≡ Some (entry_of x)
    → ys ≡ xs ++ (x ∷ []) → map entry_of ys ≡ take (suc i) entries
taken_next entries xs ys i x so_far at is =
    ap (λ (cs : List Cell). map entry_of cs) is
    ∙ (map-append entry_of xs (x ∷ [])
    ∙ (ap (λ (es : List Entry). es ++ (entry_of x ∷ [])) so_far ∙ sym (take_next entries i (entry_of x) at)))
