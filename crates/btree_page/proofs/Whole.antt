-- A whole page: how it is read step by step, and that it reads exactly where it is spelled so.
use Rattle.std.proofs.Common.{◌≡◌, ◌≢◌, ℕ, zero, suc, ◌+◌, ◌^◌, ◌<◌, ◌≤◌, ◌||◌, Bool, true, false, cond, List, [], ◌∷◌, ◌++◌}
use Rattle.std.proofs.Common.{length, take, Option, Some, None, Result, Ok, Err, refl, sym, ap, subst, ◌∙◌, arith, inl, inr, min}
use Rattle.std.proofs.Common.{⊎_elim}
use Rattle.std.specs.Prelude.{◌==◌, is_some, OnSome, nat_le, slice_get, slice_index}
use Rattle.std.specs.List.{flat_map}
use Rattle.std.specs.Int.{w8, w16, to_be_bytes}
use Rattle.std.proofs.lemmas.Bool.{eq-eqb, eqb-true, cases_lt, or_cases, leb-true, le-leb}
use Rattle.std.proofs.lemmas.Bool.Decides.{eqb_tells}
use Rattle.std.proofs.lemmas.List.{length-append, length-take, take_all, append-nil}
use Rattle.cursor.specs.Position.{Position}
use Rattle.btree_page.specs.declared.format.PageFormat.{PageFormat}
use Rattle.btree_page.specs.declared.format.PageFormat.TheVariants.{Malformed}
use Rattle.btree_page.specs.Content.{Entry, Content, head, spelling, entry_spelling, IsPage, Spells}
use Rattle.btree_page.specs.Reading.{◌>>=◌, Ahead, ahead, fails, number_at, head_at, cells_at, plain_at, page_at, from_place}
use Rattle.btree_page.specs.Reading.{value_of, cell_in}
use Rattle.btree_page.specs.View.{size_to, StandsAt, IsIndex, IsTable, content_in, content_of, IsIndexed}
use Rattle.btree_page.proofs.Fields.{IsBytes, IsBytes-take, small, bind_ok, bind_by, bind_err, test_ok, ok_is, Takes, Takes-then}
use Rattle.btree_page.proofs.Fields.{past, wide8, wide16, number_takes, number_again}
use Rattle.btree_page.proofs.Cells.{cells_take, cells_again, cells_many}
use Rattle.btree_page.proofs.Index.{cells_count_of, number_moves}

abbrev pub start : List ℕ → Ahead
start text = record { place = 0; bytes = take 8192 text }

-- the part of a text in which fields may end
pub front_is : (n : ℕ) (xs : List ℕ) → n ≡ min (length xs) 8192 → take n xs ≡ take 8192 xs
front_is n xs e = ⊎_elim cut whole (cases_lt 8192 (length xs))
  where
    cut : 8192 < length xs → take n xs ≡ take 8192 xs
    cut lt = ap (λ (k : ℕ). take k xs) {y = 8192} (omega arith)

    whole : length xs ≤ 8192 → take n xs ≡ take 8192 xs
    whole le = take_all n xs (omega arith) ∙ sym (take_all 8192 xs le)

pub start_is : (p : Position) (text front : List ℕ) → p ≡ record { text = front; place = 0 } → front ≡ take 8192 text
    → ahead p ≡ start text
start_is p text front is cut =
    ap (λ (q : Position). ahead q) is ∙ ap (λ (xs : List ℕ). let made : Ahead = record { place = 0; bytes = xs } in made) cut

-- the head of a page was read
pub record Opened (text : List ℕ) (level count : ℕ) (now : Position) : Type 0 where
  pub cut : now.text ≡ take 8192 text
  pub read : head_at (start text) ≡ Ok ((level, count), ahead now)

pub opened : (text front : List ℕ) (level count : ℕ) (first now : Position) → first ≡ record { text = front; place = 0 }
    → front ≡ take 8192 text
    → head_at (ahead first) ≡ Ok ((level, count), ahead now) → now.text ≡ first.text → Opened text level count now
opened text front level count first now is cut e kept = record {
  cut = kept ∙ ap (λ (q : Position). q.text) is ∙ cut;
  read = subst (λ (a : Ahead). head_at a ≡ Ok ((level, count), ahead now)) (start_is first text front is cut) e;
}

pub opened-short : (text : List ℕ) (level count : ℕ) (now : Position) → Opened text level count now → length now.text ≤ 8192
opened-short text level count now h = omega (arith, length-take 8192 text, ap (λ (xs : List ℕ). length xs) h.cut)

abbrev after_cells : List ℕ → ℕ → List Entry × Ahead → Result Content PageFormat
after_cells text level cells =
    cond (cells.1.place == length text) (let made : Content = record { level = level; cells = cells.0 } in Ok made)
    (fails cells.1)

abbrev after_head : List ℕ → (ℕ × ℕ) × Ahead → Result Content PageFormat
after_head text h = cells_at (h.0.0 == 0) h.0.1 None h.1 >>= after_cells text h.0.0

pub head_fails : (text : List ℕ) (fault : PageFormat) → head_at (start text) ≡ Err fault → page_at text ≡ Err fault
unfolding page_at
head_fails text fault e = bind_err (head_at (start text)) (after_head text) fault e

pub cells_fail : (text : List ℕ) (h : (ℕ × ℕ) × Ahead) (fault : PageFormat) → head_at (start text) ≡ Ok h
    → cells_at (h.0.0 == 0) h.0.1 None h.1 ≡ Err fault → page_at text ≡ Err fault
unfolding page_at
cells_fail text h fault e f =
    bind_by (head_at (start text)) (after_head text) h (Err fault) e (bind_err (cells_at (h.0.0 == 0) h.0.1 None h.1)
    (after_cells text h.0.0) fault f)

-- a test of equality that does not hold
apart_test : (m n : ℕ) → m ≢ n → (m == n) ≡ false
apart_test m n apart = elim (eqb_tells m n) [ inl p ↦ absurd (apart p.1) | inr p ↦ p.0 ]

pub end_fails : (text : List ℕ) (h : (ℕ × ℕ) × Ahead) (cells : List Entry × Ahead) → head_at (start text) ≡ Ok h
    → cells_at (h.0.0 == 0) h.0.1 None h.1 ≡ Ok cells → cells.1.place ≢ length text → page_at text ≡ Err (Malformed cells.1.place)
unfolding page_at
end_fails text h cells e f apart =
    bind_by (head_at (start text)) (after_head text) h (fails cells.1) e
    (bind_by (cells_at (h.0.0 == 0) h.0.1 None h.1) (after_cells text h.0.0) cells (fails cells.1) f
    (rw (apart_test cells.1.place (length text) apart) refl))

pub page_reads : (text : List ℕ) (h : (ℕ × ℕ) × Ahead) (cells : List Entry × Ahead) → head_at (start text) ≡ Ok h
    → cells_at (h.0.0 == 0) h.0.1 None h.1 ≡ Ok cells → cells.1.place ≡ length text
    → page_at text ≡ Ok (record { level = h.0.0; cells = cells.0 })
unfolding page_at
page_reads text h cells e f same =
    bind_by (head_at (start text)) (after_head text) h (Ok (record { level = h.0.0; cells = cells.0 })) e
    (bind_by (cells_at (h.0.0 == 0) h.0.1 None h.1) (after_cells text h.0.0) cells
    (Ok (record { level = h.0.0; cells = cells.0 })) f
    (rw (eq-eqb cells.1.place (length text) same) refl))

-- a text that is read to its end is not cut
pub whole_text : (text : List ℕ) (n : ℕ) → n ≤ length (take 8192 text) → n ≡ length text → take 8192 text ≡ text
whole_text text n le same = take_all 8192 text (omega (arith, length-take 8192 text))

abbrev after_count : ℕ × Ahead → ℕ × Ahead → Result ((ℕ × ℕ) × Ahead) PageFormat
after_count level count = cond (level.0 == 0 || nat_le 2 count.0) (Ok ((level.0, count.0), count.1)) (fails level.1)

head_moves : (a : Ahead) (h : (ℕ × ℕ) × Ahead) → head_at a ≡ Ok h → h.1.place ≡ a.place + 4
unfolding head_at
head_moves a h e =
    let f = bind_ok (number_at w8 a) (λ format. cond (format.0 == 1) (number_at w8 format.1 >>= λ level. number_at w16 level.1 >>=
    λ count. after_count level count) (fails a)) h e in
    let t = test_ok (f.0.0 == 1) (Malformed a.place) (number_at w8 f.0.1 >>= λ level. number_at w16 level.1 >>= λ count.
    after_count level count) h f.2 in
    let l = bind_ok (number_at w8 f.0.1) (λ level. number_at w16 level.1 >>= λ count. after_count level count) h t.1 in
    let n = bind_ok (number_at w16 l.0.1) (λ count. after_count l.0 count) h l.2 in
    let g = test_ok (l.0.0 == 0 || nat_le 2 n.0.0) (Malformed l.0.1.place) (Ok ((l.0.0, n.0.0), n.0.1)) h n.2 in
    omega (
      arith,
      number_moves w8 a f.0 f.1,
      number_moves w8 f.0.1 l.0 l.1,
      number_moves w16 l.0.1 n.0 n.1,
      ap (λ (p : (ℕ × ℕ) × Ahead). p.1.place) (ok_is ((l.0.0, n.0.0), n.0.1) h g.1),
    )

-- what a table of places becomes when the page was read to its end
pub indexed_so : (text : List ℕ) (level count : ℕ) (table : List ℕ) (from now : Position) → from.text ≡ take 8192 text
    → now.text ≡ from.text → now.place ≤ length now.text → now.place ≡ length text
    → head_at (start text) ≡ Ok ((level, count), ahead from) → IsTable (level == 0) count from now table
    → (page_at text ≡ Ok (content_of text) → Spells (content_of text) text)
    → IsIndexed text level count table
indexed_so text level count table from now cut kept within end e made spells =
    let index : IsIndex (level == 0) count from.text (ahead from) (ahead now) table made.0 = made.1 in
    let read : page_at text ≡ Ok (record { level = level; cells = made.0 }) =
    page_reads text ((level, count), ahead from) (made.0, ahead now) e index.read end in
    let is : content_of text ≡ record { level = level; cells = made.0 } = ap (λ (r : Result Content PageFormat). content_in r)
    read in
    let whole : from.text ≡ text =
    cut ∙ whole_text text now.place (omega (
      arith,
      within,
      ap (λ (xs : List ℕ). length xs) kept,
      ap (λ (xs : List ℕ). length xs)
          cut,
    )) end in
    let spelled = spells (read ∙ ap (λ (c : Content). Ok c) (sym is)) in
    record {
      read = read ∙ ap (λ (c : Content). Ok c) (sym is);
      rules = spelled.rules;
      spelled = spelled.text;
      level = ap (λ (c : Content). c.level) is;
      count = ap (λ (c : Content). length c.cells) is ∙ cells_count_of (level == 0) count from.text (ahead from) (ahead now) table
          made.0 index;
      few = index.few;
      places = λ k lt.
          subst (λ (c : Content). StandsAt (level == 0) text (slice_index table k) (slice_get c.cells k)) (sym is)
          (subst (λ (xs : List ℕ). StandsAt (level == 0) xs (slice_index table k) (slice_get made.0 k)) whole
          (index.places k lt));
      tiles = λ k lt. omega (
        arith,
        index.tiles k lt,
        head_moves (start text) ((level, count), ahead from) e,
        ap (λ (c : Content). size_to k c.cells) is,
      );
    }

-- ---- one cell of a page

slice_get-within : (xs : List Entry) (i : ℕ) → i < length xs → slice_get xs i ≡ None → ⊥
slice_get-within [] i lt e = omega arith
slice_get-within (x ∷ xs) zero lt e = cc
slice_get-within (x ∷ xs) (suc i) lt e = slice_get-within xs i (omega arith) e

at_place : (text : List ℕ) (place : ℕ) (p : Position) → p.text ≡ text → p.place ≡ place → ahead p ≡ from_place text place
at_place text place p t e =
    ap (λ (xs : List ℕ). from_place xs p.place) t ∙ ap (λ (n : ℕ). from_place text n) e

pub cell_is : (text : List ℕ) (level count i : ℕ) (table : List ℕ) (p : Position) (x : Entry × Ahead)
    → IsIndexed text level count table
    → i < count → p.text ≡ text → p.place ≡ slice_index table i → plain_at (level == 0) (ahead p) ≡ Ok x
    → slice_get (content_of text).cells i ≡ Some x.0
cell_is text level count i table p x h lt t e read =
    let stands : cell_in (level == 0) text (slice_index table i) ≡ slice_get (content_of text).cells i = (h.places i lt).reads in
    sym stands ∙ ap (λ (a : Ahead). value_of (plain_at (level == 0) a)) (sym (at_place text (slice_index table i) p t e))
    ∙ ap (λ (r : Result (Entry × Ahead) PageFormat). value_of r) read

pub cell_reads : (text : List ℕ) (level count i : ℕ) (table : List ℕ) (p : Position) (fault : PageFormat)
    → IsIndexed text level count table
    → i < count → p.text ≡ text → p.place ≡ slice_index table i → plain_at (level == 0) (ahead p) ≡ Err fault → ⊥
cell_reads text level count i table p fault h lt t e read =
    let stands : cell_in (level == 0) text (slice_index table i) ≡ slice_get (content_of text).cells i = (h.places i lt).reads in
    let none : slice_get (content_of text).cells i ≡ None =
    sym stands ∙ ap (λ (a : Ahead). value_of (plain_at (level == 0) a)) (sym (at_place text (slice_index table i) p t e))
    ∙ ap (λ (r : Result (Entry × Ahead) PageFormat). value_of r) read in
    slice_get-within (content_of text).cells i (omega (arith, h.count)) none

pub end_failed : (text : List ℕ) (level count : ℕ) (from now : Position) (table : List ℕ) (place : ℕ)
    → Opened text level count from
    → IsTable (level == 0) count from now table → place ≡ now.place → place ≢ length text → page_at text ≡ Err (Malformed place)
end_failed text level count from now table place h made is apart =
    let index : IsIndex (level == 0) count from.text (ahead from) (ahead now) table made.0 = made.1 in
    end_fails text ((level, count), ahead from) (made.0, ahead now) h.read index.read (λ same. apart (is ∙ same))
    ∙ ap (λ (n : ℕ). Err (Malformed n)) (sym is)

-- where a part was found, the cursor moved past it
pub moved : {A : Type 0} (r : Option A) (P : Type 0) → is_some r ≡ true → OnSome r P → P
moved (Some x) P is h = h
moved None P is h = absurd cc

-- ---- the grammar

-- the head that is read is the head that was written
pub record HeadTakes (a : Ahead) (h : (ℕ × ℕ) × Ahead) : Type 0 where
  pub takes : Takes a (head h.0.0 h.0.1) h.1
  pub level : h.0.0 < 256
  pub least : 0 < h.0.0 → 2 ≤ h.0.1

byte_is : (n : ℕ) → n < 256 → to_be_bytes w8 n ≡ n ∷ []
byte_is n lt = ap (λ (x : ℕ). x ∷ []) (small n lt)

least_from_test : (level count : ℕ) → (level == 0 || nat_le 2 count) ≡ true → 0 < level → 2 ≤ count
least_from_test level count test more =
    elim (or_cases (level == 0) (nat_le 2 count) test) [
      | inl zero_level ↦ absurd (omega (arith, eqb-true level 0 zero_level))
      | inr enough ↦ leb-true 2 count enough
    ]

pub head_takes : (a : Ahead) (h : (ℕ × ℕ) × Ahead) → IsBytes a.bytes → head_at a ≡ Ok h → HeadTakes a h
unfolding head_at
head_takes a h fits e =
    let f = bind_ok (number_at w8 a) (λ format. cond (format.0 == 1) (number_at w8 format.1 >>= λ level. number_at w16 level.1 >>=
    λ count. after_count level count) (fails a)) h e in
    let t = test_ok (f.0.0 == 1) (Malformed a.place) (number_at w8 f.0.1 >>= λ level. number_at w16 level.1 >>= λ count.
    after_count level count) h f.2 in
    let l = bind_ok (number_at w8 f.0.1) (λ level. number_at w16 level.1 >>= λ count. after_count level count) h t.1 in
    let n = bind_ok (number_at w16 l.0.1) (λ count. after_count l.0 count) h l.2 in
    let g = test_ok (l.0.0 == 0 || nat_le 2 n.0.0) (Malformed l.0.1.place) (Ok ((l.0.0, n.0.0), n.0.1)) h n.2 in
    let format = number_takes w8 (2 ^ 8) wide8 a f.0.0 f.0.1 fits f.1 in
    let level = number_takes w8 (2 ^ 8) wide8 f.0.1 l.0.0 l.0.1 format.0.rest_fits l.1 in
    let count = number_takes w16 (2 ^ 16) wide16 l.0.1 n.0.0 n.0.1 level.0.rest_fits n.1 in
    let one : Takes a (1 ∷ []) f.0.1 =
    subst (λ (xs : List ℕ). Takes a xs f.0.1) (byte_is f.0.0 format.1 ∙ ap (λ (x : ℕ). x ∷ []) (eqb-true f.0.0 1 t.0)) format.0 in
    let two : Takes f.0.1 (l.0.0 ∷ []) l.0.1 = subst (λ (xs : List ℕ). Takes f.0.1 xs l.0.1) (byte_is l.0.0 level.1) level.0 in
    let both = Takes-then f.0.1 (l.0.0 ∷ []) l.0.1 (to_be_bytes w16 n.0.0) n.0.1 two count.0 in
    let whole = Takes-then a (1 ∷ []) f.0.1 (l.0.0 ∷ to_be_bytes w16 n.0.0) n.0.1 one both in
    let made : HeadTakes a ((l.0.0, n.0.0), n.0.1) = record {
      takes = whole;
      level = level.1;
      least =
          least_from_test l.0.0 n.0.0 g.0;
    } in
    subst (λ (x : (ℕ × ℕ) × Ahead). HeadTakes a x) (ok_is ((l.0.0, n.0.0), n.0.1) h g.1) made

-- a text that reads as a page is spelled so
pub page_found : (text : List ℕ) (content : Content) → IsBytes text → page_at text ≡ Ok content → Spells content text
unfolding page_at
page_found text content fits e =
    let h = bind_ok (head_at (start text)) (after_head text) content e in
    let k = bind_ok (cells_at (h.0.0.0 == 0) h.0.0.1 None h.0.1) (after_cells text h.0.0.0) content h.2 in
    let made : Content = record { level = h.0.0.0; cells = k.0.0 } in
    let t = test_ok (k.0.1.place == length text) (Malformed k.0.1.place) (Ok made) content k.2 in
    let front = head_takes (start text) h.0 (IsBytes-take 8192 text fits) h.1 in
    let back = cells_take (h.0.0.0 == 0) h.0.0.1 None h.0.1 k.0.0 k.0.1 front.takes.rest_fits k.1 in
    let both = Takes-then (start text) (head h.0.0.0 h.0.0.1) h.0.1 (flat_map entry_spelling k.0.0) k.0.1 front.takes back.0 in
    let end : k.0.1.place ≡ length text = eqb-true k.0.1.place (length text) t.0 in
    let spelled : spelling made ≡ head h.0.0.0 h.0.0.1 ++ flat_map entry_spelling k.0.0 =
    ap (λ (n : ℕ). head h.0.0.0 n ++ flat_map entry_spelling k.0.0) back.1.1 in
    let len : length (spelling made) ≡ length text = ap (λ (xs : List ℕ). length xs) spelled
    ∙ (omega (arith, both.place) ∙ end) in
    let cut : length (take 8192 text) ≡ length (spelling made) + length k.0.1.bytes =
    ap (λ (xs : List ℕ). length xs) both.parts
    ∙ (length-append (head h.0.0.0 h.0.0.1 ++ flat_map entry_spelling k.0.0) k.0.1.bytes
    ∙ ap (λ (n : ℕ). n + length k.0.1.bytes) (sym (ap (λ (xs : List ℕ). length xs) spelled))) in
    let short : length text ≤ 8192 = omega (arith, length-take 8192 text) in
    let nothing : k.0.1.bytes ≡ [] = no_bytes k.0.1.bytes (omega (arith, length-take 8192 text)) in
    let is : spelling made ≡ text =
    spelled ∙ (sym (append-nil (head h.0.0.0 h.0.0.1 ++ flat_map entry_spelling k.0.0))
    ∙ (ap (λ (xs : List ℕ). (head h.0.0.0 h.0.0.1 ++ flat_map entry_spelling k.0.0) ++ xs) (sym nothing)
    ∙ (sym both.parts ∙ take_all 8192 text short))) in
    let spells : Spells made text = record {
      rules = record {
        level = front.level;
        cells = back.1.0;
        least = λ more. omega (arith, front.least more, back.1.1);
        size =
            omega (arith, len);
      };
      text = is;
    } in
    subst (λ (c : Content). Spells c text) (ok_is made content t.1) spells
  where
    no_bytes : (xs : List ℕ) → length xs ≤ 0 → xs ≡ []
    no_bytes [] le = refl
    no_bytes (x ∷ xs) le = absurd (omega arith)

test_from_least : (level count : ℕ) → (0 < level → 2 ≤ count) → (level == 0 || nat_le 2 count) ≡ true
test_from_least zero count least = refl
test_from_least (suc level) count least =
    ap (λ (b : Bool). b || nat_le 2 count) (apart_test (suc level) 0 (λ same. absurd (omega arith)))
    ∙ le-leb 2 count (least (omega arith))

-- the head that was written is read again
head_again : (level count : ℕ) (a : Ahead) (rest : List ℕ) → level < 256 → count < 2 ^ 16 → (0 < level → 2 ≤ count)
    → a.bytes ≡ head level count ++ rest → head_at a ≡ Ok ((level, count), past a (head level count) rest)
unfolding head_at
head_again level count a rest lt small_count least e =
    let rest2 = to_be_bytes w16 count ++ rest in
    let a1 = past a (to_be_bytes w8 1) (level ∷ rest2) in
    let a2 = past a1 (to_be_bytes w8 level) rest2 in
    let a3 = past a2 (to_be_bytes w16 count) rest in
    let f = number_again w8 (2 ^ 8) wide8 1 a (level ∷ rest2) (omega arith) e in
    let l = number_again w8 (2 ^ 8) wide8 level a1 rest2 lt (ap (λ (xs : List ℕ). xs ++ rest2) (sym (byte_is level lt))) in
    let n = number_again w16 (2 ^ 16) wide16 count a2 rest small_count refl in
    let place : a3 ≡ past a (head level count) rest =
    ap (λ (k : ℕ). let made : Ahead = record { place = k; bytes = rest } in made) (omega arith) in
    let result : Result ((ℕ × ℕ) × Ahead) PageFormat = Ok ((level, count), past a (head level count) rest) in
    bind_by (number_at w8 a) (λ format. cond (format.0 == 1) (number_at w8 format.1 >>= λ level. number_at w16 level.1 >>=
    λ count. after_count level count) (fails a)) (1, a1) result f
    (bind_by (number_at w8 a1) (λ level. number_at w16 level.1 >>= λ count. after_count level count) (level, a2) result l
    (bind_by (number_at w16 a2) (λ count. after_count (level, a2) count) (count, a3) result n
    (rw (test_from_least level count least) (ap (λ (b : Ahead). Ok ((level, count), b)) place))))

-- a text that is spelled so reads as that page
pub page_only : (text : List ℕ) (content : Content) → Spells content text → page_at text ≡ Ok content
page_only text content h =
    let len : length (spelling content) ≡ length text = ap (λ (xs : List ℕ). length xs) h.text in
    let short : length text ≤ 8192 = omega (arith, h.rules.size) in
    let body = flat_map entry_spelling content.cells in
    let count : length content.cells < 2 ^ 16 =
    omega (
      arith,
      h.rules.size,
      length-append (head content.level (length content.cells)) body,
      cells_many (content.level == 0) None content.cells h.rules.cells,
    ) in
    let whole : (start text).bytes ≡ head content.level (length content.cells) ++ body = take_all 8192 text short ∙ sym h.text in
    let front = head_again content.level (length content.cells) (start text) body h.rules.level count h.rules.least whole in
    let cells = cells_again (content.level == 0) None content.cells (past (start text) (head content.level (length content.cells))
    body) [] h.rules.cells (sym (append-nil body)) in
    page_reads text ((content.level, length content.cells), past (start text) (head content.level (length content.cells)) body)
    (content.cells, past (past (start text) (head content.level (length content.cells)) body) body []) front cells
    (omega (arith, length-append (head content.level (length content.cells)) body))

-- a text that does not read is spelled by no page
pub only_fails : (text : List ℕ) (fault : PageFormat) → page_at text ≡ Err fault → (content : Content) → Spells content text → ⊥
only_fails text fault e content spells = ok_is_not_err content fault (sym (page_only text content spells) ∙ e)
  where
    ok_is_not_err : (content : Content) (fault : PageFormat) → Ok content ≡ Err fault → ⊥
    ok_is_not_err content fault e = cc

pub only_reads : (text : List ℕ) (content : Content) → Spells content text → content_of text ≡ content
only_reads text content spells = ap (λ (r : Result Content PageFormat). content_in r) (page_only text content spells)

-- a text is the spelling of one page at most
pub one_content : (text : List ℕ) (a b : Content) → Spells a text → Spells b text → a ≡ b
one_content text a b p q = sym (only_reads text a p) ∙ only_reads text b q
