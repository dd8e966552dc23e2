-- A cell that is read is the cell that was written, and what was written is read again; so are lists of cells.
use Rattle.std.proofs.Common.{◌≡◌, ℕ, zero, suc, ◌+◌, ◌^◌, ◌<◌, ◌≤◌, Bool, true, false, cond, List, [], ◌∷◌, ◌++◌, length, Option}
use Rattle.std.proofs.Common.{Some, None, Ok, Err, refl, sym, ap, subst, ◌∙◌, append_assoc, arith}
use Rattle.std.specs.List.{flat_map}
use Rattle.std.specs.Int.{w16, w32, w64, to_be_bytes}
use Rattle.std.specs.Ordering.{is_lt}
use Rattle.std.specs.declared.cmp.Ordering.{Ordering}
use Rattle.std.specs.declared.cmp.Ordering.TheVariants.{Less, Equal, Greater}
use Rattle.std.proofs.lemmas.List.{length-append}
use Rattle.std.proofs.lemmas.Bool.{eqb-true, eq-eqb}
use Rattle.pair_types.specs.declared.slot.Slot.{Slot}
use Rattle.btree_page.specs.declared.format.PageFormat.{PageFormat}
use Rattle.btree_page.specs.declared.format.PageFormat.TheVariants.{Malformed}
use Rattle.btree_page.specs.Content.{Bound, Body, Carries, Leads, Entry, bound_of, string, body_spelling, entry_spelling, Fits}
use Rattle.btree_page.specs.Content.{FitsBody, Follows, AreCells, last_bound}
use Rattle.btree_page.specs.Reading.{◌>>=◌, Ahead, fails, number_at, string_at, body_at, rest_at, entry_at, cells_at, key_limit}
use Rattle.btree_page.specs.Reading.{may_follow}
use Rattle.btree_page.proofs.Fields.{IsBytes, bind_ok, bind_by, bind_err, test_ok, ok_is, Takes, Takes-then, past, past-then}
use Rattle.btree_page.proofs.Fields.{wide32, wide64, number_takes, number_again, string_takes, string_again}

-- ---- what follows the key and the birth

pub body_takes : (is_leaf : Bool) (a : Ahead) (body : Body) (b : Ahead) → IsBytes a.bytes → body_at is_leaf a ≡ Ok (body, b)
    → Takes a (body_spelling body) b × FitsBody is_leaf body
unfolding body_at
body_takes true a body b fits e =
    let d = bind_ok (number_at w64 a) (λ death. string_at 1200 death.1 >>= λ value. Ok (Carries death.0 value.0, value.1))
    (body, b) e in
    let v = bind_ok (string_at 1200 d.0.1) (λ value. Ok (Carries d.0.0 value.0, value.1)) (body, b) d.2 in
    let death = number_takes w64 (2 ^ 64) wide64 a d.0.0 d.0.1 fits d.1 in
    let value = string_takes 1200 d.0.1 v.0.0 v.0.1 death.0.rest_fits v.1 in
    let whole = Takes-then a (to_be_bytes w64 d.0.0) d.0.1 (string v.0.0) v.0.1 death.0 value.0 in
    subst (λ (p : Body × Ahead). Takes a (body_spelling p.0) p.1 × FitsBody true p.0)
    (ok_is (Carries d.0.0 v.0.0, v.0.1) (body, b) v.2) (whole, (death.1, value.1))
body_takes false a body b fits e =
    let s = bind_ok (number_at w32 a) (λ store. number_at w64 store.1 >>= λ number. Ok
    (Leads (record { store = store.0; number = number.0 }), number.1)) (body, b) e in
    let n = bind_ok (number_at w64 s.0.1) (λ number. Ok (Leads (record { store = s.0.0; number = number.0 }), number.1))
    (body, b) s.2 in
    let store = number_takes w32 (2 ^ 32) wide32 a s.0.0 s.0.1 fits s.1 in
    let number = number_takes w64 (2 ^ 64) wide64 s.0.1 n.0.0 n.0.1 store.0.rest_fits n.1 in
    let whole = Takes-then a (to_be_bytes w32 s.0.0) s.0.1 (to_be_bytes w64 n.0.0) n.0.1 store.0 number.0 in
    let child : Slot = record { store = s.0.0; number = n.0.0 } in
    subst (λ (p : Body × Ahead). Takes a (body_spelling p.0) p.1 × FitsBody false p.0)
    (ok_is (Leads child, n.0.1) (body, b) n.2) (whole, (store.1, number.1))

pub body_again : (is_leaf : Bool) (body : Body) (a : Ahead) (rest : List ℕ) → FitsBody is_leaf body
    → a.bytes ≡ body_spelling body ++ rest → body_at is_leaf a ≡ Ok (body, past a (body_spelling body) rest)
unfolding body_at
body_again true (Carries death value) a rest fits e =
    let front = to_be_bytes w64 death in
    let d = number_again w64 (2 ^ 64) wide64 death a (string value ++ rest) fits.0 (e ∙ append_assoc front (string value) rest) in
    let v = string_again 1200 value (past a front (string value ++ rest)) rest fits.1 (omega arith) refl in
    rw (d, v) (ap (λ (b : Ahead). Ok (Carries death value, b)) (past-then a front (string value) rest))
body_again true (Leads child) a rest fits e = absurd fits
body_again false (Carries death value) a rest fits e = absurd fits
body_again false (Leads child) a rest fits e =
    let front = to_be_bytes w32 child.store in
    let back = to_be_bytes w64 child.number in
    let s = number_again w32 (2 ^ 32) wide32 child.store a (back ++ rest) fits.0 (e ∙ append_assoc front back rest) in
    let n = number_again w64 (2 ^ 64) wide64 child.number (past a front (back ++ rest)) rest fits.1 refl in
    rw (s, n) (ap (λ (b : Ahead). Ok (Leads child, b)) (past-then a front back rest))

-- ---- one cell

less_from_test : (o : Ordering) → is_lt o ≡ true → o ≡ Less
less_from_test Less h = refl
less_from_test Equal h = absurd cc
less_from_test Greater h = absurd cc

empty_from_length : (xs : List ℕ) → length xs ≤ 0 → xs ≡ []
empty_from_length [] h = refl
empty_from_length (x ∷ xs) h = absurd (omega arith)

-- the tests of a cell say what may follow
follows_from_tests : (is_leaf : Bool) (before : Option Bound) (e : Entry) → length e.key ≤ key_limit is_leaf before
    → may_follow is_leaf before e.key e.birth ≡ true → Follows is_leaf before e
follows_from_tests true None e len test = tt
follows_from_tests false None e len test = (empty_from_length e.key len, eqb-true e.birth 0 test)
follows_from_tests true (Some before) e len test = less_from_test _ test
follows_from_tests false (Some before) e len test = less_from_test _ test

test_from_less : (o : Ordering) → o ≡ Less → is_lt o ≡ true
test_from_less o e = rw e refl

tests_from_follows : (is_leaf : Bool) (before : Option Bound) (e : Entry) → length e.key ≤ 264 → Follows is_leaf before e
    → (length e.key ≤ key_limit is_leaf before) × (may_follow is_leaf before e.key e.birth ≡ true)
tests_from_follows true None e len follows = (len, refl)
tests_from_follows false None e len follows = (rw follows.0 (omega arith), eq-eqb e.birth 0 follows.1)
tests_from_follows true (Some before) e len follows = (len, test_from_less _ follows)
tests_from_follows false (Some before) e len follows = (len, test_from_less _ follows)

pub key_limit-le : (is_leaf : Bool) (before : Option Bound) → key_limit is_leaf before ≤ 264
key_limit-le true None = omega arith
key_limit-le true (Some before) = omega arith
key_limit-le false None = omega arith
key_limit-le false (Some before) = omega arith

pub entry_takes : (is_leaf : Bool) (before : Option Bound) (a : Ahead) (entry : Entry) (b : Ahead) → IsBytes a.bytes
    → entry_at is_leaf before a ≡ Ok (entry, b)
    → Takes a (entry_spelling entry) b × (Fits is_leaf entry × Follows is_leaf before entry)
unfolding entry_at rest_at
entry_takes is_leaf before a entry b fits e =
    let after_birth = λ (key : List ℕ) (birth : ℕ × Ahead). body_at is_leaf birth.1 >>= λ body. let made : Entry =
    record { key = key; birth = birth.0; body = body.0 } in Ok (made, body.1) in
    let k = bind_ok (string_at (key_limit is_leaf before) a) (λ key. number_at w64 key.1 >>= λ birth. cond
    (may_follow is_leaf before key.0 birth.0) (after_birth key.0 birth) (fails key.1)) (entry, b) e in
    let n = bind_ok (number_at w64 k.0.1) (λ birth. cond (may_follow is_leaf before k.0.0 birth.0) (after_birth k.0.0 birth)
    (fails k.0.1)) (entry, b) k.2 in
    let t = test_ok (may_follow is_leaf before k.0.0 n.0.0) (Malformed k.0.1.place) (after_birth k.0.0 n.0) (entry, b) n.2 in
    let y = bind_ok (body_at is_leaf n.0.1) (λ body. let made : Entry = record { key = k.0.0; birth = n.0.0; body = body.0 } in
    Ok (made, body.1)) (entry, b) t.1 in
    let key = string_takes (key_limit is_leaf before) a k.0.0 k.0.1 fits k.1 in
    let birth = number_takes w64 (2 ^ 64) wide64 k.0.1 n.0.0 n.0.1 key.0.rest_fits n.1 in
    let body = body_takes is_leaf n.0.1 y.0.0 y.0.1 birth.0.rest_fits y.1 in
    let made : Entry = record { key = k.0.0; birth = n.0.0; body = y.0.0 } in
    let back = Takes-then k.0.1 (to_be_bytes w64 n.0.0) n.0.1 (body_spelling y.0.0) y.0.1 birth.0 body.0 in
    let whole = Takes-then a (string k.0.0) k.0.1 (to_be_bytes w64 n.0.0 ++ body_spelling y.0.0) y.0.1 key.0 back in
    let rules : Fits is_leaf made = record {
      key = omega (arith, key.1, key_limit-le is_leaf before);
      birth = birth.1;
      body =
          body.1;
    } in
    subst (λ (p : Entry × Ahead). Takes a (entry_spelling p.0) p.1 × (Fits is_leaf p.0 × Follows is_leaf before p.0))
    (ok_is (made, y.0.1) (entry, b) y.2)
    (whole, (rules, follows_from_tests is_leaf before made key.1 t.0))

pub entry_again : (is_leaf : Bool) (before : Option Bound) (e : Entry) (a : Ahead) (rest : List ℕ) → Fits is_leaf e
    → Follows is_leaf before e
    → a.bytes ≡ entry_spelling e ++ rest → entry_at is_leaf before a ≡ Ok (e, past a (entry_spelling e) rest)
unfolding entry_at rest_at
entry_again is_leaf before e a rest fits follows is =
    let tests = tests_from_follows is_leaf before e fits.key follows in
    let front = string e.key in
    let middle = to_be_bytes w64 e.birth in
    let back = body_spelling e.body in
    let regroup : (front ++ (middle ++ back)) ++ rest ≡ front ++ (middle ++ (back ++ rest)) = simp append_assoc in
    let k = string_again (key_limit is_leaf before) e.key a (middle ++ (back ++ rest)) tests.0
    (omega (arith, key_limit-le is_leaf before)) (is ∙ regroup) in
    let n = number_again w64 (2 ^ 64) wide64 e.birth (past a front (middle ++ (back ++ rest))) (back ++ rest) fits.birth refl in
    let b = body_again is_leaf e.body (past (past a front (middle ++ (back ++ rest))) middle (back ++ rest)) rest fits.body refl
    in
    let place : past (past (past a front (middle ++ (back ++ rest))) middle (back ++ rest)) back rest ≡ past a
    (front ++ (middle ++ back)) rest =
    ap (λ (x : ℕ). let made : Ahead = record { place = x; bytes = rest } in made)
    (omega (arith, length-append front (middle ++ back), length-append middle back)) in
    rw (k, n, tests.1, b) (ap (λ (x : Ahead). Ok (e, x)) place)

-- a cell has at least twenty bytes
pub entry_spelling-long : (is_leaf : Bool) (e : Entry) → Fits is_leaf e → 20 ≤ length (entry_spelling e)
entry_spelling-long is_leaf e fits =
    omega (
      arith,
      length-append (string e.key) (to_be_bytes w64 e.birth ++ body_spelling e.body),
      length-append
          (to_be_bytes w64 e.birth) (body_spelling e.body),
      length-append (to_be_bytes w16 (length e.key)) e.key,
      body_long is_leaf e.body fits.body,
    )
  where
    body_long : (is_leaf : Bool) (body : Body) → FitsBody is_leaf body → 10 ≤ length (body_spelling body)
    body_long true (Carries death value) h = omega (
      arith,
      length-append (to_be_bytes w64 death) (string value),
      length-append
          (to_be_bytes w16 (length value)) value,
    )
    body_long true (Leads child) h = absurd h
    body_long false (Carries death value) h = absurd h
    body_long false (Leads child) h = omega (arith, length-append (to_be_bytes w32 child.store) (to_be_bytes w64 child.number))

-- ---- lists of cells

pub cells_take : (is_leaf : Bool) (n : ℕ) (before : Option Bound) (a : Ahead) (cells : List Entry) (b : Ahead) → IsBytes a.bytes
    → cells_at is_leaf n before a ≡ Ok (cells, b)
    → Takes a (flat_map entry_spelling cells) b × (AreCells is_leaf before cells × (length cells ≡ n))
unfolding cells_at
cells_take is_leaf zero before a cells b fits e =
    subst (λ (p : List Entry × Ahead). Takes a (flat_map entry_spelling p.0) p.1
    × (AreCells is_leaf before p.0 × (length p.0 ≡ 0)))
    (ok_is ([], a) (cells, b) e)
    (record { parts = refl; place = omega arith; rest_fits = fits }, (tt, refl))
cells_take is_leaf (suc n) before a cells b fits e =
    let f = bind_ok (entry_at is_leaf before a) (λ first. cells_at is_leaf n (Some (bound_of first.0)) first.1 >>= λ others. Ok
    (first.0 ∷ others.0, others.1)) (cells, b) e in
    let o = bind_ok (cells_at is_leaf n (Some (bound_of f.0.0)) f.0.1) (λ others. Ok (f.0.0 ∷ others.0, others.1)) (cells, b) f.2
    in
    let first = entry_takes is_leaf before a f.0.0 f.0.1 fits f.1 in
    let others = cells_take is_leaf n (Some (bound_of f.0.0)) f.0.1 o.0.0 o.0.1 first.0.rest_fits o.1 in
    let whole = Takes-then a (entry_spelling f.0.0) f.0.1 (flat_map entry_spelling o.0.0) o.0.1 first.0 others.0 in
    subst (λ (p : List Entry × Ahead). Takes a (flat_map entry_spelling p.0) p.1
    × (AreCells is_leaf before p.0 × (length p.0 ≡ suc n)))
    (ok_is (f.0.0 ∷ o.0.0, o.0.1) (cells, b) o.2)
    (whole, ((first.1.0, (first.1.1, others.1.0)), ap suc others.1.1))

pub past_nothing : (a : Ahead) (rest : List ℕ) → a.bytes ≡ rest → a ≡ past a [] rest
past_nothing a rest e =
    let place : a.place ≡ a.place + 0 = omega arith in
    let first : a ≡ record { place = a.place + 0; bytes = a.bytes } =
    ap (λ (n : ℕ). let made : Ahead = record { place = n; bytes = a.bytes } in made) place in
    first ∙ ap (λ (xs : List ℕ). let made : Ahead = record { place = a.place + 0; bytes = xs } in made) e

pub cells_again : (is_leaf : Bool) (before : Option Bound) (cells : List Entry) (a : Ahead) (rest : List ℕ)
    → AreCells is_leaf before cells
    → a.bytes ≡ flat_map entry_spelling cells ++ rest
    → cells_at is_leaf (length cells) before a ≡ Ok (cells, past a (flat_map entry_spelling cells) rest)
unfolding cells_at
cells_again is_leaf before [] a rest fits e = ap (λ (b : Ahead). Ok ([], b)) (past_nothing a rest e)
cells_again is_leaf before (c ∷ cells) a rest fits e =
    let front = entry_spelling c in
    let back = flat_map entry_spelling cells in
    let first = entry_again is_leaf before c a (back ++ rest) fits.0 fits.1.0 (e ∙ append_assoc front back rest) in
    let others = cells_again is_leaf (Some (bound_of c)) cells (past a front (back ++ rest)) rest fits.1.1 refl in
    rw (first, others) (ap (λ (b : Ahead). Ok (c ∷ cells, b)) (past-then a front back rest))

-- ---- one cell more

pub cells_more : (is_leaf : Bool) (n : ℕ) (before : Option Bound) (a : Ahead) (cells : List Entry) (b : Ahead) (e : Entry)
    (c : Ahead)
    → cells_at is_leaf n before a ≡ Ok (cells, b) → entry_at is_leaf (last_bound before cells) b ≡ Ok (e, c)
    → cells_at is_leaf (suc n) before a ≡ Ok (cells ++ e ∷ [], c)
unfolding cells_at
cells_more is_leaf zero before a cells b e c h next =
    let same = ok_is ([], a) (cells, b) h in
    let at_start : entry_at is_leaf before a ≡ Ok (e, c) =
    subst (λ (p : List Entry × Ahead). entry_at is_leaf (last_bound before p.0) p.1 ≡ Ok (e, c)) (sym same) next in
    let one : cells_at is_leaf 1 before a ≡ Ok (e ∷ [], c) =
    bind_by (entry_at is_leaf before a) (λ first. cells_at is_leaf 0 (Some (bound_of first.0)) first.1 >>= λ others. Ok
    (first.0 ∷ others.0, others.1)) (e, c) (Ok (e ∷ [], c)) at_start refl in
    subst (λ (p : List Entry × Ahead). cells_at is_leaf 1 before a ≡ Ok (p.0 ++ e ∷ [], c)) same one
cells_more is_leaf (suc n) before a cells b e c h next =
    let f = bind_ok (entry_at is_leaf before a) (λ first. cells_at is_leaf n (Some (bound_of first.0)) first.1 >>= λ others. Ok
    (first.0 ∷ others.0, others.1)) (cells, b) h in
    let o = bind_ok (cells_at is_leaf n (Some (bound_of f.0.0)) f.0.1) (λ others. Ok (f.0.0 ∷ others.0, others.1)) (cells, b) f.2
    in
    let same = ok_is (f.0.0 ∷ o.0.0, o.0.1) (cells, b) o.2 in
    let next_here : entry_at is_leaf (last_bound (Some (bound_of f.0.0)) o.0.0) o.0.1 ≡ Ok (e, c) =
    subst (λ (p : List Entry × Ahead). entry_at is_leaf (last_bound before p.0) p.1 ≡ Ok (e, c)) (sym same) next in
    let more = cells_more is_leaf n (Some (bound_of f.0.0)) f.0.1 o.0.0 o.0.1 e c o.1 next_here in
    let whole : cells_at is_leaf (suc (suc n)) before a ≡ Ok (f.0.0 ∷ (o.0.0 ++ e ∷ []), c) =
    bind_by (entry_at is_leaf before a) (λ first. cells_at is_leaf (suc n) (Some (bound_of first.0)) first.1 >>= λ others. Ok
    (first.0 ∷ others.0, others.1)) f.0 (Ok (f.0.0 ∷ (o.0.0 ++ e ∷ []), c)) f.1
    (bind_by (cells_at is_leaf (suc n) (Some (bound_of f.0.0)) f.0.1) (λ others. Ok (f.0.0 ∷ others.0, others.1))
    (o.0.0 ++ e ∷ [], c) (Ok (f.0.0 ∷ (o.0.0 ++ e ∷ []), c)) more refl) in
    subst (λ (p : List Entry × Ahead). cells_at is_leaf (suc (suc n)) before a ≡ Ok (p.0 ++ e ∷ [], c)) same whole

-- a cell that does not read after n of them: no longer list reads
pub cells_end : (is_leaf : Bool) (n m : ℕ) (before : Option Bound) (a : Ahead) (cells : List Entry) (b : Ahead)
    (fault : PageFormat)
    → cells_at is_leaf n before a ≡ Ok (cells, b) → entry_at is_leaf (last_bound before cells) b ≡ Err fault → n < m
    → cells_at is_leaf m before a ≡ Err fault
unfolding cells_at
cells_end is_leaf n zero before a cells b fault h next lt = absurd (omega arith)
cells_end is_leaf zero (suc m) before a cells b fault h next lt =
    let same = ok_is ([], a) (cells, b) h in
    let at_start : entry_at is_leaf before a ≡ Err fault =
    subst (λ (p : List Entry × Ahead). entry_at is_leaf (last_bound before p.0) p.1 ≡ Err fault) (sym same) next in
    bind_err (entry_at is_leaf before a) (λ first. cells_at is_leaf m (Some (bound_of first.0)) first.1 >>= λ others. Ok
    (first.0 ∷ others.0, others.1)) fault at_start
cells_end is_leaf (suc n) (suc m) before a cells b fault h next lt =
    let f = bind_ok (entry_at is_leaf before a) (λ first. cells_at is_leaf n (Some (bound_of first.0)) first.1 >>= λ others. Ok
    (first.0 ∷ others.0, others.1)) (cells, b) h in
    let o = bind_ok (cells_at is_leaf n (Some (bound_of f.0.0)) f.0.1) (λ others. Ok (f.0.0 ∷ others.0, others.1)) (cells, b) f.2
    in
    let same = ok_is (f.0.0 ∷ o.0.0, o.0.1) (cells, b) o.2 in
    let next_here : entry_at is_leaf (last_bound (Some (bound_of f.0.0)) o.0.0) o.0.1 ≡ Err fault =
    subst (λ (p : List Entry × Ahead). entry_at is_leaf (last_bound before p.0) p.1 ≡ Err fault) (sym same) next in
    bind_by (entry_at is_leaf before a) (λ first. cells_at is_leaf m (Some (bound_of first.0)) first.1 >>= λ others. Ok
    (first.0 ∷ others.0, others.1)) f.0 (Err fault) f.1
    (bind_err (cells_at is_leaf m (Some (bound_of f.0.0)) f.0.1) (λ others. Ok (f.0.0 ∷ others.0, others.1)) fault
    (cells_end is_leaf n m (Some (bound_of f.0.0)) f.0.1 o.0.0 o.0.1 fault o.1 next_here (omega arith)))

pub last_bound-push : (before : Option Bound) (cells : List Entry) (e : Entry) → last_bound before (cells ++ e ∷ []) ≡ Some
    (bound_of e)
last_bound-push before [] e = refl
last_bound-push before (c ∷ cells) e = last_bound-push (Some (bound_of c)) cells e

-- there are at least as many bytes as cells
pub cells_many : (is_leaf : Bool) (before : Option Bound) (cells : List Entry) → AreCells is_leaf before cells
    → length cells ≤ length (flat_map entry_spelling cells)
cells_many is_leaf before [] h = omega arith
cells_many is_leaf before (e ∷ es) h =
    omega (
      arith,
      cells_many is_leaf (Some (bound_of e)) es h.1.1,
      entry_spelling-long is_leaf e h.0,
      length-append
          (entry_spelling e) (flat_map entry_spelling es),
    )

pub AreCells-push : (is_leaf : Bool) (before : Option Bound) (cells : List Entry) (e : Entry) → AreCells is_leaf before cells
    → Fits is_leaf e → Follows is_leaf (last_bound before cells) e → AreCells is_leaf before (cells ++ e ∷ [])
AreCells-push is_leaf before [] e h fits follows = (fits, (follows, tt))
AreCells-push is_leaf before (c ∷ cells) e h fits follows =
    (h.0, (h.1.0, AreCells-push is_leaf (Some (bound_of c)) cells e h.1.1 fits follows))
