-- How cells are parted into two pages.
use Rattle.std.proofs.Common.{◌≡◌, ◌⊎◌, ⊎_elim, inl, inr, ◌-◌, ℕ, zero, suc, ◌+◌, ◌*◌, ◌<◌, ◌≤◌, Bool, true, false, List, [], ◌∷◌}
use Rattle.std.proofs.Common.{◌++◌, map, length, take, drop, get_or, Option, Some, None, Result, Ok, Err, refl, sym, ap, subst}
use Rattle.std.proofs.Common.{◌∙◌, arith}
use Rattle.std.specs.Prelude.{◌==◌, All, slice_get, IfOk}
use Rattle.std.specs.List.{flat_map}
use Rattle.std.proofs.lemmas.Bool.{cases_lt}
use Rattle.std.proofs.lemmas.List.{length-append, take-append-drop, length-take-le, take_all, length-map}
use Rattle.std.proofs.lemmas.List.Elements.{All-nil, All-cons}
use Rattle.pair_types.specs.declared.slot.Slot.{Slot}
use Rattle.btree_page.specs.declared.cell.Cell.{Cell}
use Rattle.btree_page.specs.Cells.{entry_of}
use Rattle.btree_page.specs.Content.{Bound, IsBelow, Body, Carries, Leads, Entry, FitsBody, bound_of, entry_spelling, AreCells}
use Rattle.btree_page.specs.Content.{last_bound, IsPage, Spells, inner_entry}
use Rattle.btree_page.specs.Tree.{least}
use Rattle.btree_page.proofs.Built.{leaf_size, inner_size}
use Rattle.btree_search.proofs.Order.{bound_total, cells_above}
use Rattle.btree_search.proofs.Ranges.{is_inner}
use Rattle.nfs3_types.specs.declared.memory.NoMemory.{NoMemory}
use Rattle.btree_edit.specs.declared.outcome.Edited.{Edited}
use Rattle.btree_edit.specs.declared.outcome.Edited.TheVariants.{Missing, Below, Page, Two}
use Rattle.btree_edit.specs.Made.{size, headed, headed_as, behind, IsShort, IsNearly, IsMiddle, IsTwo, IsMadeOf}
use Rattle.btree_edit.proofs.Lists.{size_of_page, size-append, parts_of_cells, at_place}
use Rattle.btree_edit.proofs.Least.{least_first, up_to}

-- ---- sizes of cells

pub short_body : (is_leaf : Bool) (key : List ℕ) (birth : ℕ) (body : Body) → length key ≤ 264 → FitsBody is_leaf body
    → IsShort (record { key = key; birth = birth; body = body })
short_body true key birth (Carries death value) k h = omega (arith, leaf_size key birth death value, h.1)
short_body true key birth (Leads child) k h = absurd h
short_body false key birth (Carries death value) k h = absurd h
short_body false key birth (Leads child) k h = omega (arith, inner_size key birth child)

pub short_cells : (is_leaf : Bool) (before : Option Bound) (cells : List Entry) → AreCells is_leaf before cells
    → All IsShort cells
short_cells is_leaf before [] h = All-nil IsShort
short_cells is_leaf before (e ∷ es) h =
    All-cons IsShort e es (short_body is_leaf e.key e.birth e.body h.0.key h.0.body)
    (short_cells is_leaf (Some (bound_of e)) es h.1.1)

small_body : (key : List ℕ) (birth : ℕ) (body : Body) → length key ≤ 264 → FitsBody false body
    → length (entry_spelling (record { key = key; birth = birth; body = body })) ≤ 286
small_body key birth (Carries death value) k h = absurd h
small_body key birth (Leads child) k h = omega (arith, inner_size key birth child)

-- the cells of an inner page are small
pub small_cells : (before : Option Bound) (cells : List Entry) → AreCells false before cells → size cells ≤ 286 * length cells
small_cells before [] h = omega arith
small_cells before (e ∷ es) h =
    omega (
      arith,
      small_body e.key e.birth e.body h.0.key h.0.body,
      small_cells (Some (bound_of e)) es h.1.1,
      length-append
          (entry_spelling e) (flat_map entry_spelling es),
    )

headed_small : (key : List ℕ) (birth : ℕ) (body : Body)
    → length (entry_spelling (headed (record { key = key; birth = birth; body = body }))) ≤ length
    (entry_spelling (record { key = key; birth = birth; body = body }))
headed_small key birth (Carries death value) = omega arith
headed_small key birth (Leads child) = omega (arith, inner_size key birth child, inner_size [] 0 child)

behind_small : (cells : List Entry) → size (behind cells) ≤ size cells
behind_small [] = omega arith
behind_small (e ∷ es) =
    omega (
      arith,
      headed_small e.key e.birth e.body,
      length-append (entry_spelling e) (flat_map entry_spelling es),
      length-append
          (entry_spelling (headed e)) (flat_map entry_spelling es),
    )

pub size_parts : (cells : List Entry) (m : ℕ) → size (take m cells) + size (drop m cells) ≡ size cells
size_parts cells m = sym (size-append (take m cells) (drop m cells)) ∙ ap size (take-append-drop m cells)

-- ---- the parts

follows_least : (es : List Entry) (b : Bound) → IsBelow least b → AreCells false (Some b) es → AreCells false (Some least) es
follows_least [] b up h = tt
follows_least (e ∷ es) b up h = (h.0, (bound_total.trans least b (bound_of e) up h.1.0, h.1.1))

leads_body : (key : List ℕ) (birth : ℕ) (body : Body) → FitsBody false body → (child : Slot) × (body ≡ Leads child)
leads_body key birth (Carries death value) h = absurd h
leads_body key birth (Leads child) h = (child, refl)

-- cells of an inner page behind a place are those of a page of their own
behind_inner : (e : Entry) (es : List Entry) (before : Option Bound) → IsBelow least (bound_of e) → AreCells false before (e ∷ es)
    → AreCells false None (behind (e ∷ es))
behind_inner e es before up h = by_body e.body refl h.0.body
  where
    by_body : (body : Body) → e.body ≡ body → FitsBody false body → AreCells false None (behind (e ∷ es))
    by_body (Carries death value) is fits = absurd fits
    by_body (Leads child) is fits =
        let first : headed e ≡ inner_entry [] 0 child = ap (λ (b : Body). headed_as e b) is in
        subst (λ (x : Entry). AreCells false None (x ∷ es)) (sym first)
        (record { key = omega arith; birth = omega arith; body = fits }, ((refl, refl), follows_least es (bound_of e) up h.1.1))

behind_leaf : (cells : List Entry) (before : Option Bound) → AreCells true before cells → AreCells true None (behind cells)
behind_leaf [] before h = tt
behind_leaf (e ∷ es) before h = by_body e.body refl h.0.body
  where
    by_body : (body : Body) → e.body ≡ body → FitsBody true body → AreCells true None (headed e ∷ es)
    by_body (Carries death value) is fits =
        let same : headed e ≡ e = ap (λ (b : Body). headed_as e b) is in
        subst (λ (x : Entry). AreCells true None (x ∷ es)) (sym same) (h.0, (tt, h.1.1))
    by_body (Leads child) is fits = absurd fits

pub length_behind : (cells : List Entry) → length (behind cells) ≡ length cells
length_behind [] = refl
length_behind (e ∷ es) = refl

-- a cell behind the first one is above the least place
pub above_least : (is_leaf : Bool) (cells : List Entry) (m : ℕ) (e : Entry) → AreCells is_leaf None cells → 0 < m
    → slice_get cells m ≡ Some e → IsBelow least (bound_of e)
above_least is_leaf [] m e h lt at = absurd cc
above_least is_leaf (c ∷ cells) zero e h lt at = absurd (omega arith)
above_least is_leaf (c ∷ cells) (suc m) e h lt at =
    below_from_least (bound_of c) (bound_of e) (cells_above is_leaf cells (bound_of c) m e h.1.1 at)
  where
    below_from_least : (a b : Bound) → IsBelow a b → IsBelow least b
    below_from_least a b below = up_to least a b (least_first a) below

pub drop_there : {A : Type 0} (cs : List A) (i : ℕ) (e : A) → slice_get cs i ≡ Some e → drop i cs ≡ e ∷ drop (suc i) cs
drop_there [] i e h = absurd cc
drop_there (c ∷ cs) zero e h =
    let same : c ≡ e = cc in ap (λ (x : _). x ∷ cs) same
drop_there (c ∷ cs) (suc i) e h = drop_there cs i e h

-- both halves of cells that have no room in one page are pages
pub halves : (level : ℕ) (cells : List Entry) (m : ℕ) → IsNearly level cells → IsMiddle cells m → 8188 < size cells
    → IsPage (record { level = level; cells = take m cells }) × (IsPage (record { level = level; cells = behind (drop m cells) })
    × ((0 < m) × (m < length cells)))
halves level cells m near middle full =
    let parts = parts_of_cells (level == 0) None (take m cells) (drop m cells)
    (subst (λ (cs : List Entry). AreCells (level == 0) None cs) (sym (take-append-drop m cells)) near.rules) in
    let sizes = size_parts cells m in
    let enough : 4096 ≤ size (take m cells) = middle.enough (omega arith) in
    let front : length (take m cells) ≡ m = length-take-le m cells middle.within in
    let some : 0 < m = ⊎_elim (λ e. absurd (none e enough)) (λ lt. lt) (zero_or m) in
    let within : m < length cells = ⊎_elim (λ e. absurd (whole e sizes middle.short)) (λ lt. lt) (end_or m middle.within) in
    let x = at_place cells m within in (
      record {
        level = near.byte;
        cells = parts.0;
        least = λ up. inner_many up (take m cells) None parts.0 (omega arith);
        size = omega (arith, size_of_page level (take m cells), middle.short);
      },
      (
        record {
          level = near.byte;
          cells = behind_cells x some parts.1;
          least = λ up. omega (
            arith,
            length_behind (drop m cells),
            inner_many up (drop m cells) (last_bound None (take m cells))
                parts.1 (omega (arith, middle.short)),
          );
          size = omega (arith, size_of_page level (behind (drop m cells)), behind_small (drop m cells), near.few);
        },
        (some, within),
      ),
    )
  where
    inner_many : 0 < level → (es : List Entry) (before : Option Bound) → AreCells (level == 0) before es → 286 < size es
        → 2 ≤ length es
    inner_many up es before h big =
        omega (arith, small_cells before es (subst (λ (t : Bool). AreCells t before es) (inner up) h))
      where
        inner : 0 < level → (level == 0) ≡ false
        inner up =
            let is : level ≡ suc (level - 1) = omega arith in ap (λ (n : ℕ). n == 0) is ∙ is_inner (level - 1)

    zero_or : (n : ℕ) → (n ≡ 0) ⊎ (0 < n)
    zero_or zero = inl refl
    zero_or (suc n) = inr (omega arith)

    none : m ≡ 0 → 4096 ≤ size (take m cells) → ⊥
    none e h =
        let nothing : size (take m cells) ≡ 0 = ap (λ (n : ℕ). size (take n cells)) e in omega arith

    end_or : (n : ℕ) → n ≤ length cells → (n ≡ length cells) ⊎ (n < length cells)
    end_or n h = ⊎_elim (λ lt. inr lt) (λ le. inl (omega arith)) (cases_lt n (length cells))

    whole : m ≡ length cells → size (take m cells) + size (drop m cells) ≡ size cells → size (take m cells) < 5580 → ⊥
    whole e sizes short =
        let all : take m cells ≡ cells = take_all m cells (omega arith) in
        let same : size (take m cells) ≡ size cells = ap size all in omega (arith, full)

    behind_cells : (e : Entry) × (slice_get cells m ≡ Some e) × (cells ≡ take m cells ++ (e ∷ drop (suc m) cells)) → 0 < m
        → AreCells (level == 0) (last_bound None (take m cells)) (drop m cells)
        → AreCells (level == 0) None (behind (drop m cells))
    behind_cells x some h = by_level (level == 0) refl
      where
        by_level : (t : Bool) → (level == 0) ≡ t → AreCells (level == 0) None (behind (drop m cells))
        by_level true is =
            subst (λ (t : Bool). AreCells t None (behind (drop m cells))) (sym is)
            (behind_leaf (drop m cells) (last_bound None (take m cells))
            (subst (λ (t : Bool). AreCells t (last_bound None (take m cells)) (drop m cells)) is h))
        by_level false is =
            let head : drop m cells ≡ x.0 ∷ drop (suc m) cells = drop_there cells m x.0 x.1 in
            let here : AreCells false (last_bound None (take m cells)) (x.0 ∷ drop (suc m) cells) =
            subst (λ (cs : List Entry). AreCells false (last_bound None (take m cells)) cs) head
            (subst (λ (t : Bool). AreCells t (last_bound None (take m cells)) (drop m cells)) is h) in
            subst (λ (t : Bool). AreCells t None (behind (drop m cells))) (sym is)
            (subst (λ (cs : List Entry). AreCells false None (behind cs)) (sym head)
            (behind_inner x.0 (drop (suc m) cells) (last_bound None (take m cells))
            (above_least (level == 0) cells m x.0 near.rules some x.1) here))

-- ---- sizes summed up cell by cell

pub map_take : {A B : Type 0} (f : A → B) (n : ℕ) (xs : List A) → map f (take n xs) ≡ take n (map f xs)
map_take f zero xs = refl
map_take f (suc n) [] = refl
map_take f (suc n) (x ∷ xs) = ap (λ (ys : List _). f x ∷ ys) (map_take f n xs)

pub map_drop : {A B : Type 0} (f : A → B) (n : ℕ) (xs : List A) → map f (drop n xs) ≡ drop n (map f xs)
map_drop f zero xs = refl
map_drop f (suc n) [] = refl
map_drop f (suc n) (x ∷ xs) = map_drop f n xs

pub short_there : (cells : List Cell) (i : ℕ) (d : Cell) → All IsShort (map entry_of cells) → i < length cells
    → IsShort (entry_of (get_or cells i d))
short_there [] i d h lt = absurd (omega arith)
short_there (c ∷ cells) zero d h lt = h 0 (entry_of c) (omega arith)
short_there (c ∷ cells) (suc i) d h lt = short_there cells i d (λ k e k_lt. h (suc k) e (omega arith)) (omega arith)

pub taken_more : (cells : List Cell) (i : ℕ) (d : Cell) → i < length cells
    → size (map entry_of (take (suc i) cells)) ≡ size (map entry_of (take i cells)) + length
    (entry_spelling (entry_of (get_or cells i d)))
taken_more [] i d lt = absurd (omega arith)
taken_more (c ∷ cells) zero d lt = omega (arith, length-append (entry_spelling (entry_of c)) [])
taken_more (c ∷ cells) (suc i) d lt =
    omega (
      arith,
      taken_more cells i d (omega arith),
      length-append (entry_spelling (entry_of c)) (flat_map entry_spelling (map entry_of (take (suc i) cells))),
      length-append (entry_spelling (entry_of c)) (flat_map entry_spelling (map entry_of (take i cells))),
    )

pub taken_within : (cells : List Cell) (i : ℕ) → size (map entry_of (take i cells)) ≤ size (map entry_of cells)
taken_within cells i =
    omega (arith, size_parts (map entry_of cells) i, ap size (map_take entry_of i cells))

pub middle_so : (cells : List Cell) (i taken : ℕ) → i ≤ length cells → taken ≡ size (map entry_of (take i cells)) → taken < 5580
    → (4096 ≤ size (map entry_of cells) → 4096 ≤ taken) → IsMiddle (map entry_of cells) i
middle_so cells i taken le is short enough =
    let same : size (map entry_of (take i cells)) ≡ size (take i (map entry_of cells)) = ap size (map_take entry_of i cells) in
    record {
      within = omega (arith, length-map cells entry_of);
      enough = λ all. omega (arith, enough all);
      short = omega arith;
    }

pub middle_end : (cells : List Cell) (i taken : ℕ) → length cells ≤ i → i ≤ length cells
    → taken ≡ size (map entry_of (take i cells)) → taken < 5580
    → IsMiddle (map entry_of cells) (length cells)
middle_end cells i taken le ge is short =
    let same : i ≡ length cells = omega arith in
    let all : take i cells ≡ cells = take_all i cells le in
    let whole : taken ≡ size (map entry_of cells) = is ∙ ap (λ (cs : List Cell). size (map entry_of cs)) all in
    subst (λ (n : ℕ). IsMiddle (map entry_of cells) n) same (middle_so cells i taken ge is short (λ h. omega arith))

pub step_total : (cells : List Cell) (i : ℕ) (d : Cell) (taken r : ℕ) → i < length cells
    → taken ≡ size (map entry_of (take i cells))
    → r ≡ length (entry_spelling (entry_of (get_or cells i d))) → taken + r ≡ size (map entry_of (take (suc i) cells))
step_total cells i d taken r lt is more = omega (arith, taken_more cells i d lt)

pub step_short : (cells : List Cell) (i : ℕ) (d : Cell) (r : ℕ) → All IsShort (map entry_of cells) → i < length cells
    → r ≡ length (entry_spelling (entry_of (get_or cells i d))) → r ≤ 1484
step_short cells i d r h lt is = omega (arith, short_there cells i d h lt)

-- two halves, of which the second one begins with this cell
pub split_so : (level : ℕ) (cells front back : List Cell) (m : ℕ) (d : Cell) (left right : List ℕ) (edited : Edited)
    → IsNearly level (map entry_of cells) → IsMiddle (map entry_of cells) m
    → 8188 < size (map entry_of cells) → front ≡ take m cells → back ≡ drop m cells
    → Spells (record { level = level; cells = map entry_of front }) left
    → Spells (record { level = level; cells = behind (map entry_of back) }) right
    → IsTwo left (entry_of (get_or back 0 d)) right edited → IsMadeOf level (map entry_of cells) edited
split_so level cells front back m d left right Missing near middle full f b l r h = absurd h
split_so level cells front back m d left right Below near middle full f b l r h = absurd h
split_so level cells front back m d left right (Page page) near middle full f b l r h = absurd h
split_so level cells front back m d left right (Two x key birth y) near middle full f b l r h =
    let half = halves level (map entry_of cells) m near middle full in
    let within : m < length (map entry_of cells) = half.1.1.1 in
    let fs : map entry_of front ≡ take m (map entry_of cells) = ap (λ (cs : List Cell). map entry_of cs) f
    ∙ map_take entry_of m cells in
    let bs : map entry_of back ≡ drop m (map entry_of cells) = ap (λ (cs : List Cell). map entry_of cs) b
    ∙ map_drop entry_of m cells in
    record {
      at = m;
      some = half.1.1.0;
      within = within;
      edge = λ e at. ap (λ (z : Entry). bound_of z) (first_of back (drop m (map entry_of cells)) e bs
          (drop_there (map entry_of cells) m e at)) ∙ sym h.1;
      left_page = subst (λ (xs : List ℕ). Spells (record { level = level; cells = take m (map entry_of cells) }) xs) (sym h.0)
          (subst (λ (es : List Entry). Spells (record { level = level; cells = es }) left) fs l);
      right_page = subst (λ (xs : List ℕ). Spells (record { level = level; cells = behind (drop m (map entry_of cells)) }) xs)
          (sym h.2)
          (subst (λ (es : List Entry). Spells (record { level = level; cells = behind es }) right) bs r);
      full = full;
    }
  where
    first_of : (xs : List Cell) (es : List Entry) (e : Entry) → map entry_of xs ≡ es → es ≡ e ∷ drop (suc m) (map entry_of cells)
        → e ≡ entry_of (get_or xs 0 d)
    first_of [] es e is head = absurd (no_cons e _ (is ∙ head))
      where
        no_cons : (z : Entry) (zs : List Entry) → [] ≡ z ∷ zs → ⊥
        no_cons z zs is = cc
    first_of (z ∷ zs) es e is head =
        let whole : entry_of z ∷ map entry_of zs ≡ e ∷ drop (suc m) (map entry_of cells) = is ∙ head in cc

pub split_any : (level : ℕ) (cells front back : List Cell) (m : ℕ) (d : Cell) (left right : List ℕ)
    (result : Result Edited NoMemory) → IsNearly level (map entry_of cells) → IsMiddle (map entry_of cells) m
    → 8188 < size (map entry_of cells) → front ≡ take m cells → back ≡ drop m cells
    → Spells (record { level = level; cells = map entry_of front }) left
    → Spells (record { level = level; cells = behind (map entry_of back) }) right
    → IfOk result (λ edited. IsTwo left (entry_of (get_or back 0 d)) right edited)
    → IfOk result (λ edited. IsMadeOf level (map entry_of cells) edited)
split_any level cells front back m d left right (Ok edited) near middle full f b l r h =
    split_so level cells front back m d left right edited near middle full f b l r h
split_any level cells front back m d left right (Err fault) near middle full f b l r h = tt

pub halves_of : (level : ℕ) (cells front back : List Cell) (m : ℕ) → IsNearly level (map entry_of cells)
    → IsMiddle (map entry_of cells) m
    → 8188 < size (map entry_of cells) → front ≡ take m cells → back ≡ drop m cells
    → IsPage (record { level = level; cells = map entry_of front })
    × IsPage (record { level = level; cells = behind (map entry_of back) })
halves_of level cells front back m near middle full f b =
    let half = halves level (map entry_of cells) m near middle full in
    let fs : map entry_of front ≡ take m (map entry_of cells) = ap (λ (cs : List Cell). map entry_of cs) f
    ∙ map_take entry_of m cells in
    let bs : map entry_of back ≡ drop m (map entry_of cells) = ap (λ (cs : List Cell). map entry_of cs) b
    ∙ map_drop entry_of m cells in (
      subst (λ (es : List Entry). IsPage (record { level = level; cells = es })) (sym fs) half.0,
      subst (λ (es : List Entry). IsPage (record { level = level; cells = behind es })) (sym bs) half.1.0,
    )

pub whole_page : (level : ℕ) (cells : List Entry) → IsNearly level cells → size cells ≤ 8188
    → IsPage (record { level = level; cells = cells })
whole_page level cells near le = record {
  level = near.byte;
  cells = near.rules;
  least = near.least;
  size =
      omega (arith, size_of_page level cells);
}
