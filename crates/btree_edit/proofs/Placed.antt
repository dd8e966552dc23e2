-- Cells of a page with one removed, put in the place of another, or put in between.
use Rattle.std.proofs.Common.{◌≡◌, ◌≢◌, ℕ, zero, suc, ◌+◌, ◌-◌, ◌^◌, ◌<◌, ◌≤◌, Bool, true, false, List, [], ◌∷◌, map, length}
use Rattle.std.proofs.Common.{take, drop, get_or, set, add-one, Option, Some, None, Result, Ok, Err, refl, sym, ap, subst, ◌∙◌}
use Rattle.std.proofs.Common.{arith}
use Rattle.std.specs.Prelude.{◌==◌, ◌↔◌, All, slice_get, IfOk, IsNone, IsSome}
use Rattle.std.specs.List.{flat_map, remove, insert}
use Rattle.std.specs.declared.cmp.Ordering.{Ordering}
use Rattle.std.specs.declared.cmp.Ordering.TheVariants.{Less, Equal, Greater}
use Rattle.std.proofs.lemmas.List.{length-append, set_split}
use Rattle.std.proofs.lemmas.List.Edits.{length-insert}
use Rattle.nfs3_types.specs.declared.memory.NoMemory.{NoMemory}
use Rattle.pair_types.specs.declared.slot.Slot.{Slot}
use Rattle.pair_types.specs.declared.quad.Quad.{Quad}
use Rattle.btree_page.specs.declared.cell.Cell.{Cell}
use Rattle.btree_page.specs.Content.{Bound, IsBelow, Body, Carries, Leads, Entry, Content, bound_of, entry_spelling, Fits}
use Rattle.btree_page.specs.Content.{FitsBody, Follows, AreCells, IsPage, Spells, inner_entry}
use Rattle.btree_page.specs.Tree.{quad_bound, quad_cell}
use Rattle.btree_page.proofs.Built.{leaf_size}
use Rattle.btree_search.specs.declared.aim.Aim.TheVariants.{AtOrAfter, After}
use Rattle.btree_search.specs.Aim.{is_sought}
use Rattle.btree_search.specs.Find.{BeginsAt}
use Rattle.btree_search.proofs.Order.{turned}
use Rattle.btree_search.proofs.Ranges.{is_inner}
use Rattle.btree_edit.specs.declared.outcome.Edited.{Edited}
use Rattle.btree_edit.specs.declared.outcome.Edited.TheVariants.{Missing, Below, Page, Two}
use Rattle.btree_edit.specs.Made.{size, with_one, IsNearly, IsMadeOf}
use Rattle.btree_edit.specs.Changes.{ended_body, ended, RemovesCell, EndsCell, ReplacesCell, InsertsCell, IsMissing, AreMade}
use Rattle.btree_edit.specs.Changes.{Answers}
use Rattle.btree_edit.proofs.Lists.{size_of_page, size-append, parts_of_cells, joined_cells, at_place, above_before}
use Rattle.btree_edit.proofs.Parting.{short_body, size_parts}
use Rattle.btree_edit.proofs.Leaves.{found_at}

-- ---- the order

below_follows : (is_leaf : Bool) (b : Bound) (e : Entry) → IsBelow b (bound_of e) → Follows is_leaf (Some b) e
below_follows true b e h = h
below_follows false b e h = h

pub inserted_cells : (is_leaf : Bool) (before : Option Bound) (cells : List Entry) (at : ℕ) (e : Entry)
    → AreCells is_leaf before cells → at ≤ length cells → Fits is_leaf e
    → (at ≡ 0 → Follows is_leaf before e)
    → ((k : ℕ) (x : Entry) → k < at → slice_get cells k ≡ Some x → IsBelow (bound_of x) (bound_of e))
    → ((k : ℕ) (x : Entry) → at ≤ k → slice_get cells k ≡ Some x → IsBelow (bound_of e) (bound_of x))
    → AreCells is_leaf before (insert cells at e)
inserted_cells is_leaf before [] zero e h le fits first low high = (fits, (first refl, tt))
inserted_cells is_leaf before [] (suc at) e h le fits first low high = absurd (omega arith)
inserted_cells is_leaf before (c ∷ cells) zero e h le fits first low high =
    (fits, (first refl, (h.0, (below_follows is_leaf (bound_of e) c (high 0 c (omega arith) refl), h.1.1))))
inserted_cells is_leaf before (c ∷ cells) (suc at) e h le fits first low high = (
  h.0,
  (
    h.1.0,
    inserted_cells is_leaf (Some (bound_of c)) cells at e h.1.1 (omega arith) fits
        (λ is. below_follows is_leaf (bound_of c) e (low 0 c (omega arith) refl))
        (λ k x lt there. low (suc k) x (omega arith) there)
        (λ k x up there. high (suc k) x (omega arith) there),
  ),
)

-- a cell in the place of one at the same bound
set_cells : (before : Option Bound) (cells : List Entry) (at : ℕ) (e : Entry) → AreCells true before cells → at < length cells
    → Fits true e
    → ((x : Entry) → slice_get cells at ≡ Some x → bound_of x ≡ bound_of e) → AreCells true before (set cells at e)
set_cells before [] at e h lt fits same = absurd (omega arith)
set_cells None (c ∷ cells) zero e h lt fits same =
    (fits, (tt, subst (λ (b : Bound). AreCells true (Some b) cells) (same c refl) h.1.1))
set_cells (Some before) (c ∷ cells) zero e h lt fits same = (
  fits,
  (
    subst (λ (b : Bound). IsBelow before b) (same c refl) h.1.0,
    subst (λ (b : Bound). AreCells true (Some b) cells)
        (same c refl) h.1.1,
  ),
)
set_cells before (c ∷ cells) (suc at) e h lt fits same =
    (h.0, (h.1.0, set_cells (Some (bound_of c)) cells at e h.1.1 (omega arith) fits same))

removed_cells : (cells : List Entry) (at : ℕ) → at < length cells → AreCells true None cells
    → AreCells true None (remove cells at)
removed_cells cells at lt h =
    let x = at_place cells at lt in
    let parts = parts_of_cells true None (take at cells) (x.0 ∷ drop (suc at) cells)
    (subst (λ (cs : List Entry). AreCells true None cs) x.2 h) in
    joined_cells true None (take at cells) (drop (suc at) cells) parts.0 (above_before _ x.0 (drop (suc at) cells) parts.1.1.0
    parts.1.1.1)

-- ---- the size

pub size_set : (cells : List Entry) (at : ℕ) (e : Entry) → size (set cells at e) ≤ size cells + length (entry_spelling e)
size_set [] at e = omega arith
size_set (c ∷ cells) zero e = omega (
  arith,
  length-append (entry_spelling c) (flat_map entry_spelling cells),
  length-append
      (entry_spelling e) (flat_map entry_spelling cells),
)
size_set (c ∷ cells) (suc at) e =
    omega (
      arith,
      size_set cells at e,
      length-append (entry_spelling c) (flat_map entry_spelling cells),
      length-append
          (entry_spelling c) (flat_map entry_spelling (set cells at e)),
    )

pub size_insert : (cells : List Entry) (at : ℕ) (e : Entry) → size (insert cells at e) ≡ size cells + length (entry_spelling e)
size_insert cells at e =
    omega (
      arith,
      size_parts cells at,
      size-append (take at cells) (e ∷ drop at cells),
      length-append (entry_spelling e)
          (flat_map entry_spelling (drop at cells)),
    )

pub size_remove : (cells : List Entry) (at : ℕ) → at < length cells → size (remove cells at) ≤ size cells
size_remove cells at lt =
    let x = at_place cells at lt in
    omega (
      arith,
      ap size x.2,
      size-append (take at cells) (x.0 ∷ drop (suc at) cells),
      size-append (take at cells) (drop (suc at) cells),
      length-append (entry_spelling x.0) (flat_map entry_spelling (drop (suc at) cells)),
    )

-- the size of a list with one cell for another
pub size_swap : (cells : List Entry) (at : ℕ) (old new : Entry) → slice_get cells at ≡ Some old
    → size (set cells at new) + length (entry_spelling old) ≡ size cells + length (entry_spelling new)
size_swap [] at old new h = absurd cc
size_swap (c ∷ cells) zero old new h =
    let same : c ≡ old = cc in
    let len : length (entry_spelling c) ≡ length (entry_spelling old) = ap (λ (e : Entry). length (entry_spelling e)) same in
    omega (
      arith,
      length-append (entry_spelling c) (flat_map entry_spelling cells),
      length-append (entry_spelling new)
          (flat_map entry_spelling cells),
    )
size_swap (c ∷ cells) (suc at) old new h =
    omega (
      arith,
      size_swap cells at old new h,
      length-append (entry_spelling c) (flat_map entry_spelling cells),
      length-append
          (entry_spelling c) (flat_map entry_spelling (set cells at new)),
    )

-- another death takes as many bytes
ended_size : (death : ℕ) (e : Entry) → length (entry_spelling (ended death e)) ≡ length (entry_spelling e)
ended_size death e = of_body e.key e.birth e.body
  where
    of_body : (key : List ℕ) (birth : ℕ) (body : Body)
        → length (entry_spelling (ended death (record { key = key; birth = birth; body = body }))) ≡ length
        (entry_spelling (record { key = key; birth = birth; body = body }))
    of_body key birth (Carries old value) = omega (arith, leaf_size key birth death value, leaf_size key birth old value)
    of_body key birth (Leads child) = refl

ended_fits : (death : ℕ) → death < 2 ^ 64 → (e : Entry) → Fits true e → Fits true (ended death e)
ended_fits death lt e h = record { key = h.key; birth = h.birth; body = of_body e.body h.body }
  where
    of_body : (body : Body) → FitsBody true body → FitsBody true (ended_body death body)
    of_body (Carries old value) b = (lt, b.1)
    of_body (Leads child) b = absurd b

-- ---- a leaf

pub leaf_rules : (content : Content) → content.level ≡ 0 → IsPage content → AreCells true None content.cells
    × (size content.cells ≤ 8188)
leaf_rules content leaf rules =
    let whole : content ≡ record { level = 0; cells = content.cells } =
    ap (λ (n : ℕ). let made : Content = record { level = n; cells = content.cells } in made) leaf in
    let there : IsPage (record { level = 0; cells = content.cells }) = subst (λ (c : Content). IsPage c) whole rules in
    (there.cells, omega (arith, there.size, size_of_page 0 content.cells))

near : (content : Content) (cells : List Entry) → content.level ≡ 0 → AreCells true None cells → size cells ≤ 9672
    → IsNearly content.level cells
near content cells leaf rules few =
    subst (λ (n : ℕ). IsNearly n cells) (sym leaf) (record {
      byte = omega arith;
      rules = rules;
      least =
          λ up. absurd (omega arith);
      few = few;
    })

whole : (content : Content) (cells : List Entry) → content.level ≡ 0 → AreCells true None cells → size cells ≤ 8188
    → IsPage (record { level = content.level; cells = cells })
whole content cells leaf rules small =
    subst (λ (n : ℕ). IsPage (record { level = n; cells = cells })) (sym leaf)
    (record {
      level = omega arith;
      cells = rules;
      least = λ up. absurd (omega arith);
      size =
          omega (arith, small, size_of_page 0 cells);
    })

-- one cell for another
pub set_one : (cells : List Entry) (at : ℕ) (e : Entry) → at < length cells → with_one cells at (at + 1) e ≡ set cells at e
set_one cells at e lt = ap (λ (n : ℕ). with_one cells at n e) (add-one at) ∙ sym (set_split cells at e lt)

pub removed_leaf : (pair : Bound) (content : Content) (at past : ℕ) → content.level ≡ 0 → IsPage content
    → BeginsAt AtOrAfter pair content.cells at → BeginsAt After pair content.cells past → at ≢ past
    → RemovesCell pair content.cells (remove content.cells at)
    × IsPage (record { level = content.level; cells = remove content.cells at })
removed_leaf pair content at past leaf rules h k isnt =
    let found = found_at pair content.cells at past h k isnt in
    let page = leaf_rules content leaf rules in
    let small : size (remove content.cells at) ≤ 8188 = omega (arith, page.1, size_remove content.cells at found.0) in (
      record { at = at; within = found.0; place = found.1; now = refl; small = small },
      whole content (remove content.cells at) leaf (removed_cells content.cells at found.0 page.0) small,
    )

pub replaced_leaf : (q : Quad) (content : Content) (e : Entry) (at past : ℕ) → content.level ≡ 0 → IsPage content
    → BeginsAt AtOrAfter (quad_bound q) content.cells at → BeginsAt After (quad_bound q) content.cells past → at ≢ past
    → e ≡ quad_cell q → Fits true (quad_cell q)
    → ReplacesCell q content.cells (with_one content.cells at (at + 1) e)
    × IsNearly content.level (with_one content.cells at (at + 1) e)
replaced_leaf q content e at past leaf rules h k isnt is fits =
    let found = found_at (quad_bound q) content.cells at past h k isnt in
    let left : with_one content.cells at (at + 1) e ≡ set content.cells at (quad_cell q) =
    set_one content.cells at e found.0 ∙ ap (λ (x : Entry). set content.cells at x) is in
    let page = leaf_rules content leaf rules in (
      record { rules = page.0; fitted = page.1; at = at; within = found.0; place = found.1; now = left },
      subst (λ (es : List Entry). IsNearly content.level es) (sym left)
          (near content (set content.cells at (quad_cell q)) leaf (set_cells None content.cells at (quad_cell q) page.0 found.0
          fits found.1)
          (omega (
            arith,
            page.1,
            size_set content.cells at (quad_cell q),
            short_body true q.key q.birth (quad_cell q).body
                fits.key fits.body,
          ))),
    )

pub fits_there : (before : Option Bound) (cells : List Entry) (at : ℕ) (e : Entry) → AreCells true before cells
    → slice_get cells at ≡ Some e → Fits true e
fits_there before [] at e h there = absurd cc
fits_there before (c ∷ cells) zero e h there =
    let same : c ≡ e = cc in subst (λ (x : Entry). Fits true x) same h.0
fits_there before (c ∷ cells) (suc at) e h there = fits_there (Some (bound_of c)) cells at e h.1.1 there

pub one_there : (cells : List Entry) (at : ℕ) (x y : Entry) → slice_get cells at ≡ Some x → slice_get cells at ≡ Some y → x ≡ y
one_there cells at x y h k = cc

pub ended_leaf : (pair : Bound) (death : ℕ) (content : Content) (x : Entry) (at past : ℕ) → content.level ≡ 0 → IsPage content
    → BeginsAt AtOrAfter pair content.cells at → BeginsAt After pair content.cells past → at ≢ past → death < 2 ^ 64
    → ((e : Entry) → slice_get content.cells at ≡ Some e → x ≡ ended death e)
    → EndsCell pair death content.cells (with_one content.cells at (at + 1) x)
    × IsNearly content.level (with_one content.cells at (at + 1) x)
ended_leaf pair death content x at past leaf rules h k isnt lt is =
    let found = found_at pair content.cells at past h k isnt in
    let page = leaf_rules content leaf rules in
    let e = at_place content.cells at found.0 in
    let new = ended death e.0 in
    let left : with_one content.cells at (at + 1) x ≡ set content.cells at new =
    set_one content.cells at x found.0 ∙ ap (λ (y : Entry). set content.cells at y) (is e.0 e.1) in
    let small : size (set content.cells at new) ≤ 8188 =
    omega (arith, page.1, size_swap content.cells at e.0 new e.1, ended_size death e.0) in
    let near_new = near content (set content.cells at new) leaf
    (set_cells None content.cells at new page.0 found.0
    (ended_fits death lt e.0 (fits_there None content.cells at e.0 page.0 e.1)) (λ y there. ap (λ (z : Entry). bound_of z)
    (one_there content.cells at y e.0 there e.1)))
    (omega (arith, small)) in (
      record {
        at = at;
        within = found.0;
        place = found.1;
        now = λ y there. left ∙ ap (λ (z : Entry). set content.cells at (ended death z))
            (one_there content.cells at e.0 y e.1 there);
        small = omega (arith, small, ap size left);
      },
      subst (λ (es : List Entry). IsNearly content.level es) (sym left) near_new,
    )

-- a cell that is not missing is there
pub some_there : (r : Option Cell) (P : Type 0) → (IsNone r ↔ P) → (P → ⊥) → IsSome r
some_there (Some x) P none away = refl
some_there None P none away = absurd (away (none.0 refl))

-- what lies before and behind a place where none stands at the pair
low_so : (o : Ordering) → is_sought AtOrAfter o ≡ false → o ≡ Less
low_so Less h = refl
low_so Equal h = absurd cc
low_so Greater h = absurd cc

high_so : (o : Ordering) → is_sought After o ≡ true → o ≡ Greater
high_so Less h = absurd cc
high_so Equal h = absurd cc
high_so Greater h = refl

pub placed_cells : (is_leaf : Bool) (pair : Bound) (cells : List Entry) (at : ℕ) (e : Entry) → AreCells is_leaf None cells
    → BeginsAt AtOrAfter pair cells at → BeginsAt After pair cells at
    → Fits is_leaf e → bound_of e ≡ pair → (at ≡ 0 → Follows is_leaf None e) → AreCells is_leaf None (insert cells at e)
placed_cells is_leaf pair cells at e rules h k fits is first =
    inserted_cells is_leaf None cells at e rules h.within fits first
    (λ i x lt there. subst (λ (b : Bound). IsBelow (bound_of x) b) (sym is) (low_so _ (h.before i lt x there)))
    (λ i x up there. subst (λ (b : Bound). IsBelow b (bound_of x)) (sym is)
    (turned (bound_of x) pair Greater (high_so _ (k.after i up x there))))

pub inserted_leaf : (q : Quad) (content : Content) (e : Entry) (at past : ℕ) → content.level ≡ 0 → IsPage content
    → BeginsAt AtOrAfter (quad_bound q) content.cells at → BeginsAt After (quad_bound q) content.cells past → at ≡ past
    → e ≡ quad_cell q → Fits true (quad_cell q)
    → InsertsCell q content.cells (with_one content.cells at at e) × IsNearly content.level (with_one content.cells at at e)
inserted_leaf q content e at past leaf rules h k same_place is fits =
    let left : with_one content.cells at at e ≡ insert content.cells at (quad_cell q) =
    ap (λ (x : Entry). insert content.cells at x) is in
    let page = leaf_rules content leaf rules in
    let there : BeginsAt After (quad_bound q) content.cells at = subst (λ (n : ℕ). BeginsAt After (quad_bound q) content.cells n)
    (sym same_place) k in (
      record { at = at; within = h.within; now = left },
      subst (λ (es : List Entry). IsNearly content.level es) (sym left)
          (near content (insert content.cells at (quad_cell q)) leaf (placed_cells true (quad_bound q) content.cells at
          (quad_cell q) page.0 h there fits refl (λ z. tt))
          (omega (
            arith,
            page.1,
            size_insert content.cells at (quad_cell q),
            short_body true q.key q.birth (quad_cell q).body
                fits.key fits.body,
          ))),
    )

-- ---- the answer

answered_so : (Edit : List Entry → Type 0) (Missed : Type 0) (cells : List Entry) (edited : Edited) → Edit cells
    → IsNearly 0 cells → IsMadeOf 0 cells edited → Answers Edit Missed edited
answered_so Edit Missed cells Missing edit nearly made = absurd made
answered_so Edit Missed cells Below edit nearly made = absurd made
answered_so Edit Missed cells (Page page) edit nearly made = record { cells = cells; edit = edit; nearly = nearly; made = made }
answered_so Edit Missed cells (Two left key birth right) edit nearly made = record {
  cells = cells;
  edit = edit;
  nearly = nearly;
  made = made;
}

pub answered_at : (Edit : List Entry → Type 0) (Missed : Type 0) (content : Content) (cells : List Entry) (edited : Edited)
    → content.level ≡ 0 → Edit cells → IsNearly content.level cells → IsMadeOf content.level cells edited
    → Answers Edit Missed edited
answered_at Edit Missed content cells edited leaf edit nearly made =
    answered_so Edit Missed cells edited edit (subst (λ (n : ℕ). IsNearly n cells) leaf nearly)
    (subst (λ (n : ℕ). IsMadeOf n cells edited) leaf made)

pub answered : (Edit : List Entry → Type 0) (Missed : Type 0) (content : Content) (cells : List Entry)
    (result : Result Edited NoMemory) → content.level ≡ 0 → Edit cells → IsNearly content.level cells
    → IfOk result (λ edited. IsMadeOf content.level cells edited) → IfOk result (λ edited. Answers Edit Missed edited)
answered Edit Missed content cells (Ok edited) leaf edit nearly made = answered_at Edit Missed content cells edited leaf edit
    nearly made
answered Edit Missed content cells (Err fault) leaf edit nearly made = tt

pub removed_answer : (pair : Bound) (content : Content) (at past : ℕ) (page : List ℕ) → content.level ≡ 0 → IsPage content
    → BeginsAt AtOrAfter pair content.cells at → BeginsAt After pair content.cells past → at ≢ past
    → Spells (record { level = content.level; cells = remove content.cells at }) page
    → Answers (RemovesCell pair content.cells) (IsMissing pair content.cells) (Page page)
removed_answer pair content at past page leaf rules h k isnt made =
    let done = removed_leaf pair content at past leaf rules h k isnt in
    answered_at (RemovesCell pair content.cells) (IsMissing pair content.cells) content (remove content.cells at) (Page page) leaf
    done.0
    (near content (remove content.cells at) leaf
    (subst (λ (n : ℕ). IsPage (record { level = n; cells = remove content.cells at })) leaf done.1).cells
    (omega (arith, done.0.small))) made

-- a child more in an inner page
pub grafted : (content : Content) (x : Entry) (at here past : ℕ) (bound : Bound) (child : Slot) → 0 < content.level → 0 < at
    → IsPage content
    → BeginsAt AtOrAfter bound content.cells here → BeginsAt After bound content.cells past → here ≡ at → past ≡ at
    → x ≡ inner_entry bound.key bound.birth child → Fits false (inner_entry bound.key bound.birth child)
    → (with_one content.cells at at x ≡ insert content.cells at (inner_entry bound.key bound.birth child))
    × IsNearly content.level (with_one content.cells at at x)
grafted content x at here past bound child up behind rules h k is_here is_past is fits =
    let e = inner_entry bound.key bound.birth child in
    let left : with_one content.cells at at x ≡ insert content.cells at e = ap (λ (y : Entry). insert content.cells at y) is in
    let inner : (content.level == 0) ≡ false = not_leaf content.level up in
    let cells : AreCells false None content.cells = subst (λ (t : Bool). AreCells t None content.cells) inner rules.cells in
    let low : BeginsAt AtOrAfter bound content.cells at = subst (λ (n : ℕ). BeginsAt AtOrAfter bound content.cells n) is_here h in
    let high : BeginsAt After bound content.cells at = subst (λ (n : ℕ). BeginsAt After bound content.cells n) is_past k in
    let placed = placed_cells false bound content.cells at e cells low high fits refl (λ z. absurd (omega arith)) in (
      left,
      subst (λ (es : List Entry). IsNearly content.level es) (sym left) (record {
        byte = rules.level;
        rules = subst (λ (t : Bool). AreCells t None (insert content.cells at e)) (sym inner) placed;
        least = λ more. omega (arith, rules.least more, length-insert content.cells at e low.within);
        few = omega (
          arith,
          rules.size,
          size_of_page content.level content.cells,
          size_insert content.cells at e,
          short_body false bound.key bound.birth (inner_entry bound.key bound.birth child).body fits.key fits.body,
        );
      }),
    )
  where
    not_leaf : (n : ℕ) → 0 < n → (n == 0) ≡ false
    not_leaf n lt =
        let is : n ≡ suc (n - 1) = omega arith in ap (λ (m : ℕ). m == 0) is ∙ is_inner (n - 1)

pub made_any : (level : ℕ) (Edit : List Entry → Type 0) (cells : List Entry) (edited : Edited) → Edit cells → IsNearly level cells
    → IsMadeOf level cells edited → AreMade level Edit edited
made_any level Edit cells edited edit nearly made = record { cells = cells; edit = edit; nearly = nearly; made = made }

-- one that is put where another stands
pub refused_so : (pair : Bound) (cells : List Entry) (at past : ℕ) → BeginsAt AtOrAfter pair cells at
    → BeginsAt After pair cells past → at ≢ past → All (λ e. bound_of e ≢ pair) cells → ⊥
refused_so pair cells at past h k isnt none =
    let found = found_at pair cells at past h k isnt in
    let x = at_place cells at found.0 in
    none at x.0 found.0 (ap (λ (e : Entry). bound_of e) (get_there cells at x.0 x.1) ∙ found.1 x.0 x.1)
  where
    get_there : (es : List Entry) (i : ℕ) (e : Entry) → slice_get es i ≡ Some e → get_or es i e ≡ e
    get_there [] i e h = refl
    get_there (c ∷ es) zero e h = cc
    get_there (c ∷ es) (suc i) e h = get_there es i e h
