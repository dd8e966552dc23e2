-- A page made of runs of another's cells, and of one cell between them.
use Rattle.std.proofs.Common.{◌≡◌, ℕ, zero, suc, ◌+◌, ◌-◌, ◌<◌, ◌≤◌, Bool, List, [], ◌∷◌, ◌++◌, map, length, take, drop, None}
use Rattle.std.proofs.Common.{refl, sym, ap, subst, ◌∙◌, arith, append_assoc}
use Rattle.std.specs.Prelude.{◌==◌}
use Rattle.std.specs.List.{flat_map}
use Rattle.std.proofs.lemmas.List.{length-append, length-drop, map-append, take_all}
use Rattle.btree_page.specs.declared.cell.Cell.{Cell}
use Rattle.btree_page.specs.Cells.{entry_of}
use Rattle.btree_page.specs.Content.{Entry, Content, spelling, entry_spelling, AreCells, IsPage, IsNext, with_cell, with_run}
use Rattle.btree_edit.specs.Made.{size, with_one}
use Rattle.btree_edit.proofs.Lists.{size_of_page, size-append, parts_of_cells}

-- a page that is being made has these cells of a page that keeps the rules, with some behind them
pub record Begun (built content : Content) (cells rest : List Entry) : Type 0 where
  pub is : built ≡ record { level = content.level; cells = cells }
  pub rules : IsPage (record { level = content.level; cells = cells ++ rest })

cells_begun : (built content : Content) (cells rest : List Entry) → Begun built content cells rest
    → AreCells (built.level == 0) None built.cells
cells_begun built content cells rest h =
    subst (λ (p : Content). AreCells (p.level == 0) None p.cells) (sym h.is) (parts_of_cells (content.level == 0) None cells rest
    h.rules.cells).0

size_begun : (built content : Content) (cells rest : List Entry) → Begun built content cells rest → length (spelling built) ≤ 8192
size_begun built content cells rest h =
    subst (λ (p : Content). length (spelling p) ≤ 8192) (sym h.is)
    (omega (
      arith,
      size_of_page content.level cells,
      size_of_page content.level (cells ++ rest),
      size-append cells rest,
      h.rules.size,
    ))

-- what a builder wants of a run, and what it then has
pub record Runs (built content more : Content) (cells rest : List Entry) : Type 0 where
  pub begun : Begun more content cells rest
  pub rules : AreCells (more.level == 0) None more.cells
  pub room : length (spelling more) ≤ 8192

runs : (built content more : Content) (cells rest : List Entry) → Begun more content cells rest
    → Runs built content more cells rest
runs built content more cells rest h = record {
  begun = h;
  rules = cells_begun more content cells rest h;
  room =
      size_begun more content cells rest h;
}

-- from the first cell up to one
pub first_run : (built content : Content) (level at : ℕ) (rest : List Entry) → built ≡ record { level = level; cells = [] }
    → level ≡ content.level
    → IsPage (record { level = content.level; cells = take at content.cells ++ rest })
    → Runs built content (with_run built content 0 at) (take at content.cells) rest
first_run built content level at rest is on rules =
    let less : at - 0 ≡ at = omega arith in
    runs built content (with_run built content 0 at) (take at content.cells) rest (record {
      is = ap (λ (p : Content). with_run p content 0 at) is
          ∙ (ap (λ (n : ℕ). let made : Content = record { level = n; cells = take (at - 0) content.cells } in made) on
          ∙ ap (λ (n : ℕ). let made : Content = record { level = content.level; cells = take n content.cells } in made) less);
      rules = rules;
    })

-- one cell
pub next_one : (built content : Content) (cells : List Entry) (e : Entry) (rest : List Entry)
    → Begun built content cells (e ∷ rest)
    → IsNext built e × (length (spelling (with_cell built e)) ≤ 8192) × Begun (with_cell built e) content (cells ++ (e ∷ [])) rest
next_one built content cells e rest h =
    let parts = parts_of_cells (content.level == 0) None cells (e ∷ rest) h.rules.cells in
    let here : Content = record { level = content.level; cells = cells } in
    let next : IsNext here e = record { fits = parts.1.0; follows = parts.1.1.0 } in
    let all : cells ++ (e ∷ rest) ≡ (cells ++ (e ∷ [])) ++ rest = sym (append_assoc cells (e ∷ []) rest) in
    let more : Begun (with_cell built e) content (cells ++ (e ∷ [])) rest = record {
      is = ap (λ (p : Content). with_cell p e) h.is;
      rules = subst (λ (es : List Entry). IsPage (record { level = content.level; cells = es })) all h.rules;
    } in (
      subst (λ (p : Content). IsNext p e) (sym h.is) next,
      size_begun (with_cell built e) content (cells ++ (e ∷ [])) rest more,
      more,
    )

-- from a cell up to the last
pub last_run : (built content : Content) (cells : List Entry) (past count : ℕ)
    → Begun built content cells (drop past content.cells) → count ≡ length content.cells
    → Runs built content (with_run built content past count) (cells ++ drop past content.cells) []
last_run built content cells past count h all =
    let run : take (count - past) (drop past content.cells) ≡ drop past content.cells =
    take_all (count - past) (drop past content.cells) (omega (arith, all, length-drop past content.cells)) in
    runs built content (with_run built content past count) (cells ++ drop past content.cells) [] (record {
      is = ap (λ (p : Content). with_run p content past count) h.is ∙ ap (λ (es : List Entry). let made : Content =
          record { level = content.level; cells = cells ++ es } in made) run;
      rules = subst (λ (es : List Entry). IsPage (record { level = content.level; cells = es }))
          (sym (nothing (cells ++ drop past content.cells))) h.rules;
    })
  where
    nothing : (es : List Entry) → es ++ [] ≡ es
    nothing [] = refl
    nothing (e ∷ es) = ap (λ (xs : List Entry). e ∷ xs) (nothing es)

-- ---- the code's list

map_take : (xs : List Cell) (n : ℕ) → map entry_of (take n xs) ≡ take n (map entry_of xs)
map_take [] zero = refl
map_take [] (suc n) = refl
map_take (x ∷ xs) zero = refl
map_take (x ∷ xs) (suc n) = ap (λ (es : List Entry). entry_of x ∷ es) (map_take xs n)

map_drop : (xs : List Cell) (n : ℕ) → map entry_of (drop n xs) ≡ drop n (map entry_of xs)
map_drop [] zero = refl
map_drop [] (suc n) = refl
map_drop (x ∷ xs) zero = refl
map_drop (x ∷ xs) (suc n) = map_drop xs n

-- one cell between the front and the back of a list
pub spliced_is : (old s0 s1 s2 s3 : List Cell) (entries : List Entry) (at past : ℕ) (x : Cell) → map entry_of old ≡ entries
    → s0 ≡ [] → s1 ≡ s0 ++ take at old → s2 ≡ s1 ++ (x ∷ [])
    → s3 ≡ s2 ++ take (length old - past) (drop past old) → map entry_of s3 ≡ with_one entries at past (entry_of x)
spliced_is old s0 s1 s2 s3 entries at past x all none first second third =
    let back : take (length old - past) (drop past old) ≡ drop past old = take_all (length old - past) (drop past old)
    (omega (arith, length-drop past old)) in
    let whole : s3 ≡ (take at old ++ (x ∷ [])) ++ drop past old =
    third
    ∙ (ap (λ (cs : List Cell). cs ++ take (length old - past) (drop past old)) (second ∙ ap (λ (cs : List Cell). cs ++ (x ∷ []))
    (first ∙ ap (λ (cs : List Cell). cs ++ take at old) none))
    ∙ ap (λ (cs : List Cell). (take at old ++ (x ∷ [])) ++ cs) back) in
    ap (λ (cs : List Cell). map entry_of cs) (whole ∙ append_assoc (take at old) (x ∷ []) (drop past old))
    ∙ (map-append entry_of (take at old) (x ∷ drop past old)
    ∙ (ap (λ (es : List Entry). es ++ (entry_of x ∷ map entry_of (drop past old))) (map_take old at
    ∙ ap (λ (es : List Entry). take at es) all)
    ∙ ap (λ (es : List Entry). take at entries ++ (entry_of x ∷ es)) (map_drop old past
    ∙ ap (λ (es : List Entry). drop past es) all)))
