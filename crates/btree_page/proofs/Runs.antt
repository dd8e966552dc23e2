-- The cells of a page from one index up to another, as bytes of the page.
use Rattle.std.proofs.Common.{◌≡◌, ℕ, zero, suc, ◌+◌, ◌-◌, ◌≤◌, List, [], ◌∷◌, ◌++◌, length, take, drop, refl, sym, ap, ◌∙◌}
use Rattle.std.proofs.Common.{arith, append_assoc}
use Rattle.std.specs.Prelude.{◌==◌}
use Rattle.std.specs.List.{flat_map}
use Rattle.std.proofs.lemmas.List.{length-append, append-nil, take_all, take-append-drop}
use Rattle.btree_page.specs.Content.{Entry, Content, head, spelling, entry_spelling}
use Rattle.btree_page.specs.View.{size_to, content_of, IsIndexed}

pub flat_append : (xs ys : List Entry) → flat_map entry_spelling (xs ++ ys) ≡ flat_map entry_spelling xs
    ++ flat_map entry_spelling ys
flat_append [] ys = refl
flat_append (x ∷ xs) ys =
    ap (λ (bs : List ℕ). entry_spelling x ++ bs) (flat_append xs ys)
    ∙ sym (append_assoc (entry_spelling x) (flat_map entry_spelling xs) (flat_map entry_spelling ys))

drop_append : (xs ys : List ℕ) (n : ℕ) → n ≡ length xs → drop n (xs ++ ys) ≡ ys
drop_append [] ys zero is = refl
drop_append [] ys (suc n) is = absurd (omega (arith, is))
drop_append (x ∷ xs) ys zero is = absurd (omega (arith, is))
drop_append (x ∷ xs) ys (suc n) is = drop_append xs ys n (omega (arith, is))

take_append : (xs ys : List ℕ) (n : ℕ) → n ≡ length xs → take n (xs ++ ys) ≡ xs
take_append [] ys zero is = refl
take_append [] ys (suc n) is = absurd (omega (arith, is))
take_append (x ∷ xs) ys zero is = absurd (omega (arith, is))
take_append (x ∷ xs) ys (suc n) is = ap (λ (zs : List ℕ). x ∷ zs) (take_append xs ys n (omega (arith, is)))

-- the first so many cells, and those from there up to another index
take_nil : (n : ℕ) → take {A = Entry} n [] ≡ []
take_nil zero = refl
take_nil (suc n) = refl

drop_nil : (n : ℕ) → drop {A = Entry} n [] ≡ []
drop_nil zero = refl
drop_nil (suc n) = refl

take_more : (cells : List Entry) (from to : ℕ) → from ≤ to → take to cells ≡ take from cells ++ take (to - from) (drop from cells)
take_more [] from to le =
    take_nil to
    ∙ sym (ap (λ (es : List Entry). es ++ take (to - from) (drop from [])) (take_nil from)
    ∙ (ap (λ (es : List Entry). take (to - from) es) (drop_nil from) ∙ take_nil (to - from)))
take_more (c ∷ cells) zero to le =
    let same : to ≡ to - 0 = omega arith in ap (λ (n : ℕ). take n (c ∷ cells)) same
take_more (c ∷ cells) (suc from) zero le = absurd (omega arith)
take_more (c ∷ cells) (suc from) (suc to) le =
    let less : to - from ≡ suc to - suc from = omega arith in
    ap (λ (es : List Entry). c ∷ es) (take_more cells from to (omega arith))
    ∙ ap (λ (n : ℕ). c ∷ (take from cells ++ take n (drop from cells))) less

-- the place behind the last cell is the end
pub end_place : (text : List ℕ) (level count : ℕ) (table : List ℕ) (i : ℕ) → IsIndexed text level count table → count ≤ i
    → length text ≡ 4 + size_to i (content_of text).cells
end_place text level count table i h le =
    let content = content_of text in
    omega (
      arith,
      ap (λ (xs : List ℕ). length xs) h.spelled,
      length-append (head content.level (length content.cells)) (flat_map entry_spelling content.cells),
      ap (λ (es : List Entry). length (flat_map entry_spelling es)) (take_all i content.cells (omega (arith, h.count))),
    )

-- what stands between two places
pub run_is : (text : List ℕ) (level count : ℕ) (table : List ℕ) (from to a b : ℕ) → IsIndexed text level count table → from ≤ to
    → a ≡ 4 + size_to from (content_of text).cells → b ≡ 4 + size_to to (content_of text).cells
    → (a ≤ b) × (b ≤ length text)
    × (take (b - a) (drop a text) ≡ flat_map entry_spelling (take (to - from) (drop from (content_of text).cells)))
run_is text level count table from to a b h le at_a at_b =
    let content = content_of text in
    let cells = content.cells in
    let first = head content.level (length cells) ++ flat_map entry_spelling (take from cells) in
    let run = flat_map entry_spelling (take (to - from) (drop from cells)) in
    let rest = flat_map entry_spelling (drop to cells) in
    let upto : flat_map entry_spelling (take to cells) ≡ flat_map entry_spelling (take from cells) ++ run =
    ap (λ (es : List Entry). flat_map entry_spelling es) (take_more cells from to le)
    ∙ flat_append (take from cells) (take (to - from) (drop from cells)) in
    let all : flat_map entry_spelling cells ≡ (flat_map entry_spelling (take from cells) ++ run) ++ rest =
    ap (λ (es : List Entry). flat_map entry_spelling es) (sym (take-append-drop to cells))
    ∙ (flat_append (take to cells) (drop to cells) ∙ ap (λ (bs : List ℕ). bs ++ rest) upto) in
    let whole : text ≡ first ++ (run ++ rest) =
    sym h.spelled
    ∙ (ap (λ (bs : List ℕ). head content.level (length cells) ++ bs) (all
    ∙ append_assoc (flat_map entry_spelling (take from cells)) run rest)
    ∙ sym (append_assoc (head content.level (length cells)) (flat_map entry_spelling (take from cells)) (run ++ rest))) in
    let len_first : length first ≡ a =
    omega (arith, at_a, length-append (head content.level (length cells)) (flat_map entry_spelling (take from cells))) in
    let len_to = ap (λ (bs : List ℕ). length bs) upto in
    let len_run : b ≡ a + length run = omega (
      arith,
      at_a,
      at_b,
      len_to,
      length-append (flat_map entry_spelling (take from cells))
          run,
    ) in
    let len_text = ap (λ (bs : List ℕ). length bs) whole in (
      omega (arith, len_run),
      omega (arith, len_run, len_first, len_text, length-append first (run ++ rest), length-append run rest),
      ap (λ (bs : List ℕ). take (b - a) (drop a bs)) whole
          ∙ (ap (λ (bs : List ℕ). take (b - a) bs) (drop_append first (run ++ rest) a (sym len_first))
          ∙ take_append run rest (b - a) (omega (arith, len_run))),
    )
