-- The parts, store by store, are what the rows say.
use Rattle.std.proofs.Common.{◌≡◌, ℕ, zero, suc, ◌<◌, ◌≤◌, ◌==◌, ◌&&◌, Bool, true, false, cond, List, [], ◌∷◌, ◌++◌}
use Rattle.std.proofs.Common.{length, Option, Some, None, IsSome, ◌⊎◌, inl, inr, refl, ap, sym, ◌∙◌, subst, arith}
use Rattle.std.specs.Prelude.{Contains}
use Rattle.std.specs.Map.{lookup, keys_of}
use Rattle.std.specs.BTreeMap.{is_at, IsOrdered}
use Rattle.std.specs.List.{AllByRecursion}
use Rattle.std.specs.List.Sorted.{IsStrictlySortedBy}
use Rattle.std.specs.Cmp.{tied_then, unsigned_tied, ranks}
use Rattle.std.specs.Ordering.{is_eq, nat_cmp, ordering_then, MatchOrdering}
use Rattle.std.specs.declared.cmp.Ordering.{Ordering}
use Rattle.std.specs.declared.cmp.Ordering.TheVariants.{Less, Equal, Greater}
use Rattle.std.proofs.lemmas.Bool.{cases_eq, cases_lt}
use Rattle.std.proofs.lemmas.Bool.Decides.{nat_tests}
use Rattle.std.proofs.lemmas.List.Elements.{Contains-append_cases, Contains-append_right, Contains-push, Contains-push_cases}
use Rattle.pair_types.specs.declared.slot.Slot.{Slot}
use Rattle.pair_types.specs.MemPages.{place_cmp}
use Rattle.page_types.specs.declared.versions.PageRead.{PageRead}
use Rattle.page_types.specs.declared.versions.PageWrite.{PageWrite}
use Rattle.page_types.specs.Accesses.{read_at, written_at, ReadsRise, WritesRise, AreAccesses}
use Rattle.page_types.specs.Asked.{first_of}
use Rattle.two_phase.specs.declared.parts.Part.{Part}
use Rattle.two_phase.specs.Parts.{StoresRise, part_at}
use Rattle.two_phase.proofs.Basics.{eq_self, eq_true}
use Rattle.page_txn.specs.declared.row.Row.{Row}
use Rattle.page_txn.specs.Rows.{Rows, row_at, version_of, written_of}
use Rattle.page_txn.specs.Parts.{Entries, reads_in, with_write, writes_in, part_in, where_read, parts_below, or_nothing}
use Rattle.page_txn.specs.Parts.{version_at, content_at, nothing_handed, ArePartsOf}

-- ## Places

turned : (a b : ℕ) → (a == b) ≡ (b == a)
turned a b = grind (arith, nat_tests)

found_at : (q n a b : ℕ) → is_at (place_cmp (q, n)) (a, b) ≡ ((a == q) && (b == n))
found_at q n a b =
    sym (tied_then (nat_cmp q a) (nat_cmp n b))
    ∙ (ap (λ (x : Bool). x && is_eq (nat_cmp n b)) (unsigned_tied q a ∙ turned q a)
    ∙ ap (λ (y : Bool). (a == q) && y) (unsigned_tied n b ∙ turned n b))

less_is : (a b : ℕ) → nat_cmp a b ≡ Less → a < b
less_is a b h = let r = ranks a b in subst (λ (o : Ordering). MatchOrdering o (a < b) (a ≡ b) (b < a)) h r

-- of two places of one store in order, the number rises
rises_in : (q a b : ℕ) → place_cmp (q, a) (q, b) ≡ Less → a < b
rises_in q a b h = less_is a b (same_store (nat_cmp q q) (nat_cmp a b) (unsigned_tied q q ∙ eq_self q) h)
  where
    same_store : (x y : Ordering) → is_eq x ≡ true → ordering_then x y ≡ Less → y ≡ Less
    same_store Less y is h = absurd cc
    same_store Equal y is h = h
    same_store Greater y is h = absurd cc

pub lookup_of : ℕ → ℕ → Entries → Option Row
lookup_of q n es = lookup (is_at (place_cmp (q, n))) es

-- ## Reads

cond_and : (x y : Bool) (o r : Option Row) → cond (x && y) o r ≡ cond x (cond y o r) r
cond_and true y o r = refl
cond_and false y o r = refl

looked_in : (q n : ℕ) (e : (ℕ × ℕ) × Row) (es : Entries) →
    lookup_of q n (e ∷ es) ≡ cond (e.0.0 == q) (cond (e.0.1 == n) (Some e.1) (lookup_of q n es)) (lookup_of q n es)
unfolding lookup_of
looked_in q n e es =
    ap (λ (b : Bool). cond b (Some e.1) (lookup (is_at (place_cmp (q, n))) es)) (found_at q n e.0.0 e.0.1)
    ∙ cond_and (e.0.0 == q) (e.0.1 == n) (Some e.1) (lookup (is_at (place_cmp (q, n))) es)

pub read_found : (q n : ℕ) (es : Entries) → read_at (reads_in q es) n ≡ version_of (lookup_of q n es)
unfolding lookup_of
read_found q n [] = refl
read_found q n (e ∷ es) =
    at (e.0.0 == q) (e.0.1 == n) (read_found q n es)
    ∙ sym (ap (λ (o : Option Row). version_of o) (looked_in q n e es))
  where
    at : (x y : Bool) → read_at (reads_in q es) n ≡ version_of (lookup_of q n es) →
        read_at (cond x (let r : PageRead = record { number = e.0.1; version = e.1.version } in r ∷ reads_in q es)
        (reads_in q es)) n
        ≡ version_of (cond x (cond (e.0.1 == n) (Some e.1) (lookup_of q n es)) (lookup_of q n es))
    at true y ih = by_number (e.0.1 == n) ih
      where
        by_number : (y : Bool) → read_at (reads_in q es) n ≡ version_of (lookup_of q n es) →
            cond y (Some e.1.version) (read_at (reads_in q es) n) ≡ version_of (cond y (Some e.1) (lookup_of q n es))
        by_number true ih = refl
        by_number false ih = ih
    at false y ih = ih

-- ## Order

-- each number of these is above
abbrev ReadsAbove : ℕ → List PageRead → Type 0
ReadsAbove n rs = AllByRecursion (λ r. n < r.number) rs

abbrev WritesAbove : ℕ → List PageWrite → Type 0
WritesAbove n ws = AllByRecursion (λ w. n < w.number) ws

abbrev KeysAbove : ℕ → ℕ → Entries → Type 0
KeysAbove q n es = AllByRecursion (λ k. place_cmp (q, n) k ≡ Less) (keys_of es)

reads_above : (q n : ℕ) (es : Entries) → KeysAbove q n es → ReadsAbove n (reads_in q es)
reads_above q n [] h = tt
reads_above q n (e ∷ es) h = at (e.0.0 == q) refl (reads_above q n es h.1)
  where
    at : (x : Bool) → (e.0.0 == q) ≡ x → ReadsAbove n (reads_in q es) →
        ReadsAbove n (cond x (let r : PageRead = record { number = e.0.1; version = e.1.version } in r ∷ reads_in q es)
        (reads_in q es))
    at true is rest = (
      rises_in q n e.0.1 (subst (λ (s : ℕ). place_cmp (q, n) (s, e.0.1) ≡ Less) (eq_true e.0.0 q is) h.0),
      rest,
    )
    at false is rest = rest

writes_above : (q n : ℕ) (es : Entries) → KeysAbove q n es → WritesAbove n (writes_in q es)
writes_above q n [] h = tt
writes_above q n (e ∷ es) h = at (e.0.0 == q) refl (writes_above q n es h.1)
  where
    one : (o : Option (List ℕ)) → n < e.0.1 → WritesAbove n (writes_in q es) → WritesAbove n (with_write e.0.1 o (writes_in q es))
    one None up rest = rest
    one (Some page) up rest = (up, rest)

    at : (x : Bool) → (e.0.0 == q) ≡ x → WritesAbove n (writes_in q es) →
        WritesAbove n (cond x (with_write e.0.1 e.1.written (writes_in q es)) (writes_in q es))
    at true is rest = one e.1.written
        (rises_in q n e.0.1 (subst (λ (s : ℕ). place_cmp (q, n) (s, e.0.1) ≡ Less) (eq_true e.0.0 q is) h.0)) rest
    at false is rest = rest

reads_rise : (r : PageRead) (rs : List PageRead) → ReadsAbove r.number rs → ReadsRise rs → ReadsRise (r ∷ rs)
reads_rise r [] up rise = tt
reads_rise r (s ∷ rs) up rise = (up.0, rise)

writes_rise : (w : PageWrite) (ws : List PageWrite) → WritesAbove w.number ws → WritesRise ws → WritesRise (w ∷ ws)
writes_rise w [] up rise = tt
writes_rise w (v ∷ ws) up rise = (up.0, rise)

abbrev InOrder : Entries → Type 0
InOrder es = IsStrictlySortedBy place_cmp (keys_of es)

order_head : (e : (ℕ × ℕ) × Row) (es : Entries) → InOrder (e ∷ es) → KeysAbove e.0.0 e.0.1 es
unfolding IsStrictlySortedBy
order_head e es h = h.0

order_tail : (e : (ℕ × ℕ) × Row) (es : Entries) → InOrder (e ∷ es) → InOrder es
unfolding IsStrictlySortedBy
order_tail e es h = h.1

pub reads_in_order : (q : ℕ) (es : Entries) → InOrder es → ReadsRise (reads_in q es)
reads_in_order q [] h = tt
reads_in_order q (e ∷ es) h = at (e.0.0 == q) refl (reads_in_order q es (order_tail e es h))
  where
    at : (x : Bool) → (e.0.0 == q) ≡ x → ReadsRise (reads_in q es) →
        ReadsRise (cond x (let r : PageRead = record { number = e.0.1; version = e.1.version } in r ∷ reads_in q es)
        (reads_in q es))
    at true is rest = reads_rise (record { number = e.0.1; version = e.1.version }) (reads_in q es)
        (reads_above q e.0.1 es (subst (λ (s : ℕ). KeysAbove s e.0.1 es) (eq_true e.0.0 q is) (order_head e es h))) rest
    at false is rest = rest

pub writes_in_order : (q : ℕ) (es : Entries) → InOrder es → WritesRise (writes_in q es)
writes_in_order q [] h = tt
writes_in_order q (e ∷ es) h = at (e.0.0 == q) refl (writes_in_order q es (order_tail e es h))
  where
    one : (o : Option (List ℕ)) → WritesAbove e.0.1 (writes_in q es) → WritesRise (writes_in q es) →
        WritesRise (with_write e.0.1 o (writes_in q es))
    one None up rise = rise
    one (Some page) up rise = writes_rise (record { number = e.0.1; content = page }) (writes_in q es) up rise

    at : (x : Bool) → (e.0.0 == q) ≡ x → WritesRise (writes_in q es) →
        WritesRise (cond x (with_write e.0.1 e.1.written (writes_in q es)) (writes_in q es))
    at true is rest = one e.1.written
        (writes_above q e.0.1 es (subst (λ (s : ℕ). KeysAbove s e.0.1 es) (eq_true e.0.0 q is) (order_head e es h))) rest
    at false is rest = rest

-- ## Writes

-- nothing is written to a number that is not above another, where all numbers are
unwritten : (n m : ℕ) (ws : List PageWrite) → m ≤ n → WritesAbove n ws → written_at ws m ≡ None
unwritten n m [] le h = refl
unwritten n m (w ∷ ws) le h = at (w.number == m) refl (unwritten n m ws le h.1)
  where
    at : (b : Bool) → (w.number == m) ≡ b → written_at ws m ≡ None → cond b (Some w.content) (written_at ws m) ≡ None
    at true is rest = absurd (let same = eq_true w.number m is in let up = h.0 in omega (arith, same, up, le))
    at false is rest = rest

pub written_found : (q n : ℕ) (es : Entries) → InOrder es → written_at (writes_in q es) n ≡ written_of (lookup_of q n es)
unfolding lookup_of
written_found q n [] h = refl
written_found q n (e ∷ es) h =
    at (e.0.0 == q) refl (written_found q n es (order_tail e es h))
    ∙ sym (ap (λ (o : Option Row). written_of o) (looked_in q n e es))
  where
    at : (x : Bool) → (e.0.0 == q) ≡ x → written_at (writes_in q es) n ≡ written_of (lookup_of q n es) →
        written_at (cond x (with_write e.0.1 e.1.written (writes_in q es)) (writes_in q es)) n
        ≡ written_of (cond x (cond (e.0.1 == n) (Some e.1) (lookup_of q n es)) (lookup_of q n es))
    at false is ih = ih
    at true is ih = by_number (e.0.1 == n) refl e.1.written refl
      where
        above : WritesAbove e.0.1 (writes_in q es)
        above = writes_above q e.0.1 es (subst (λ (s : ℕ). KeysAbove s e.0.1 es) (eq_true e.0.0 q is) (order_head e es h))

        by_number : (y : Bool) → (e.0.1 == n) ≡ y → (o : Option (List ℕ)) → e.1.written ≡ o →
            written_at (with_write e.0.1 o (writes_in q es)) n ≡ written_of (cond y (Some e.1) (lookup_of q n es))
        by_number true here None none =
            let same = eq_true e.0.1 n here in
            unwritten e.0.1 n (writes_in q es) (omega (arith, same)) above ∙ sym none
        by_number true here (Some page) some = rw here (sym some)
        by_number false here None none = ih
        by_number false here (Some page) some = rw here ih

-- ## Parts of stores

-- the part, where it reads something
part_or : Part → List PageRead → Option Part
part_or part [] = None
part_or part (r ∷ rs) = Some part

joined_at : (xs ys : List Part) (q : ℕ) → part_at (xs ++ ys) q ≡ first_of (part_at xs q) (part_at ys q)
joined_at [] ys q = refl
joined_at (x ∷ xs) ys q = at (x.store == q) (joined_at xs ys q)
  where
    at : (b : Bool) → part_at (xs ++ ys) q ≡ first_of (part_at xs q) (part_at ys q) →
        cond b (Some x) (part_at (xs ++ ys) q) ≡ first_of (cond b (Some x) (part_at xs q)) (part_at ys q)
    at true ih = refl
    at false ih = ih

none_other : (part : Part) (rs : List PageRead) (q : ℕ) → (part.store == q) ≡ false → part_at (where_read part rs) q ≡ None
none_other part [] q apart = refl
none_other part (r ∷ rs) q apart = rw apart refl

itself : (part : Part) (rs : List PageRead) → part_at (where_read part rs) part.store ≡ part_or part rs
unfolding part_or
itself part [] = refl
itself part (r ∷ rs) = rw (eq_self part.store) refl

apart_test : (a b : ℕ) → (a ≡ b → ⊥) → (a == b) ≡ false
apart_test a b h = at (a == b) refl
  where
    at : (x : Bool) → (a == b) ≡ x → (a == b) ≡ false
    at true is = absurd (h (eq_true a b is))
    at false is = is

first_none : (o p : Option Part) → o ≡ None → first_of o p ≡ p
first_none o p is = rw is refl

second_none : (o p : Option Part) → p ≡ None → first_of o p ≡ o
second_none None p is = is
second_none (Some x) p is = refl

outside : (es : Entries) (m q : ℕ) → m ≤ q → part_at (parts_below es m) q ≡ None
outside es zero q le = refl
outside es (suc m) q le =
    joined_at (parts_below es m) (where_read (part_in es m) (reads_in m es)) q
    ∙ (first_none (part_at (parts_below es m) q) (part_at (where_read (part_in es m) (reads_in m es)) q)
    (outside es m q (omega (arith, le)))
    ∙ none_other (part_in es m) (reads_in m es) q (apart_test m q (λ same. omega (arith, same, le))))

inside : (es : Entries) (m q : ℕ) → q < m → part_at (parts_below es m) q ≡ part_or (part_in es q) (reads_in q es)
inside es zero q lt = absurd (omega (arith, lt))
inside es (suc m) q lt =
    joined_at (parts_below es m) (where_read (part_in es m) (reads_in m es)) q
    ∙ at (cases_eq m q) (λ less. inside es m q less)
  where
    at : (m ≡ q) ⊎ (m ≡ q → ⊥) → (q < m → part_at (parts_below es m) q ≡ part_or (part_in es q) (reads_in q es)) →
        first_of (part_at (parts_below es m) q) (part_at (where_read (part_in es m) (reads_in m es)) q)
        ≡ part_or (part_in es q) (reads_in q es)
    at (inl same) rest =
        first_none (part_at (parts_below es m) q) (part_at (where_read (part_in es m) (reads_in m es)) q)
        (outside es m q (omega (arith, same)))
        ∙ subst (λ (k : ℕ). part_at (where_read (part_in es k) (reads_in k es)) q ≡ part_or (part_in es q) (reads_in q es))
        (sym same) (itself (part_in es q) (reads_in q es))
    at (inr apart) rest =
        second_none (part_at (parts_below es m) q) (part_at (where_read (part_in es m) (reads_in m es)) q)
        (none_other (part_in es m) (reads_in m es) q (apart_test m q apart))
        ∙ rest (omega (arith, lt, apart))

-- ## What is among them

-- the part is that of a store below, which reads something
record IsOneOf (es : Entries) (m : ℕ) (part : Part) : Type 0 where
  pub store : ℕ
  pub below : store < m
  pub is : part ≡ part_in es store
  pub reads : 1 ≤ length (reads_in store es)

not_in_none : (part : Part) → Contains {X = Part} [] part → ⊥
not_in_none part c = let lt = c.1 in omega (arith, lt)

one_of : (es : Entries) (m : ℕ) (part : Part) → Contains (parts_below es m) part → IsOneOf es m part
one_of es zero part c = absurd (not_in_none part c)
one_of es (suc m) part c =
    at (Contains-append_cases (parts_below es m) (where_read (part_in es m) (reads_in m es)) part c)
    (λ before. one_of es m part before)
  where
    last : (rs : List PageRead) → reads_in m es ≡ rs → Contains (where_read (part_in es m) rs) part → IsOneOf es (suc m) part
    last [] is c = absurd (not_in_none part c)
    last (r ∷ rs) is c = by_case (Contains-push_cases [] (part_in es m) part c)
      where
        by_case : Contains {X = Part} [] part ⊎ (part_in es m ≡ part) → IsOneOf es (suc m) part
        by_case (inl none) = absurd (not_in_none part none)
        by_case (inr same) =
            record {
              store = m;
              below = omega arith;
              is = sym same;
              reads = subst (λ (l : List PageRead). 1 ≤ length l) (sym is) (omega arith);
            }

    at : Contains (parts_below es m) part ⊎ Contains (where_read (part_in es m) (reads_in m es)) part →
        (Contains (parts_below es m) part → IsOneOf es m part) → IsOneOf es (suc m) part
    at (inl c) rest =
        let o = rest c in
        record { store = o.store; below = (let b = o.below in omega (arith, b)); is = o.is; reads = o.reads }
    at (inr c) rest = last (reads_in m es) refl c

append_nil : (xs : List Part) → xs ++ [] ≡ xs
append_nil [] = refl
append_nil (x ∷ xs) = ap (λ (l : List Part). x ∷ l) (append_nil xs)

rise_push : (xs : List Part) (p : Part) → StoresRise xs → ((x : Part) → Contains xs x → x.store < p.store) →
    StoresRise (xs ++ p ∷ [])
rise_push [] p h below = tt
rise_push (x ∷ []) p h below = (below x (Contains-push [] x), tt)
rise_push (x ∷ y ∷ xs) p h below =
    (h.0, rise_push (y ∷ xs) p h.1 (λ z c. below z (Contains-append_right (x ∷ []) (y ∷ xs) z c)))

rise_below : (es : Entries) (m : ℕ) → StoresRise (parts_below es m)
rise_below es zero = tt
rise_below es (suc m) = at (reads_in m es) (rise_below es m)
  where
    at : (rs : List PageRead) → StoresRise (parts_below es m) → StoresRise (parts_below es m ++ where_read (part_in es m) rs)
    at [] rest = subst (λ (l : List Part). StoresRise l) (sym (append_nil (parts_below es m))) rest
    at (r ∷ rs) rest = rise_push (parts_below es m) (part_in es m) rest (λ x c.
        let o = one_of es m x c in
        let b = o.below in
        let same : x.store ≡ o.store = ap (λ (y : Part). y.store) o.is in omega (arith, b, same))

-- ## All of them

version_or : (part : Part) (rs : List PageRead) (n : ℕ) → part.reads ≡ rs → version_at (part_or part rs) n ≡ read_at rs n
unfolding part_or
version_or part [] n is = refl
version_or part (r ∷ rs) n is = ap (λ (l : List PageRead). read_at l n) is

none_version : (o : Option Row) → None ≡ version_of o → written_of o ≡ None
none_version None h = refl
none_version (Some row) h = absurd cc

module _ (stores : ℕ) (rows : Rows) (order : IsOrdered place_cmp rows)
    (within : (s : Slot) (row : Row) → row_at rows s ≡ Some row → s.store < stores) where
  beyond : (s : Slot) → stores ≤ s.store → row_at rows s ≡ None
  beyond s over = at (row_at rows s) refl
    where
      at : (o : Option Row) → row_at rows s ≡ o → row_at rows s ≡ None
      at None is = is
      at (Some row) is = absurd (let lt = within s row is in omega (arith, lt, over))

  content_or : (q n : ℕ) (rs : List PageRead) → reads_in q rows.entries ≡ rs →
      content_at (part_or (part_in rows.entries q) rs) n ≡ written_at (writes_in q rows.entries) n
  unfolding part_or
  content_or q n [] is =
      let none : None ≡ version_of (lookup_of q n rows.entries) =
      ap (λ (l : List PageRead). read_at l n) (sym is) ∙ read_found q n rows.entries in
      sym (written_found q n rows.entries order ∙ none_version (lookup_of q n rows.entries) none)
  content_or q n (r ∷ rs) is = refl

  versions_below : (s : Slot) →
      version_at (part_at (parts_below rows.entries stores) s.store) s.number ≡ version_of (row_at rows s)
  unfolding lookup_of
  versions_below s = at (cases_lt s.store stores)
    where
      at : (s.store < stores) ⊎ (stores ≤ s.store) →
          version_at (part_at (parts_below rows.entries stores) s.store) s.number ≡ version_of (row_at rows s)
      at (inl lt) =
          ap (λ (o : Option Part). version_at o s.number) (inside rows.entries stores s.store lt)
          ∙ (version_or (part_in rows.entries s.store) (reads_in s.store rows.entries) s.number refl
          ∙ read_found s.store s.number rows.entries)
      at (inr over) =
          ap (λ (o : Option Part). version_at o s.number) (outside rows.entries stores s.store over)
          ∙ sym (ap (λ (o : Option Row). version_of o) (beyond s over))

  contents_below : (s : Slot) →
      content_at (part_at (parts_below rows.entries stores) s.store) s.number ≡ written_of (row_at rows s)
  unfolding lookup_of
  contents_below s = at (cases_lt s.store stores)
    where
      at : (s.store < stores) ⊎ (stores ≤ s.store) →
          content_at (part_at (parts_below rows.entries stores) s.store) s.number ≡ written_of (row_at rows s)
      at (inl lt) =
          ap (λ (o : Option Part). content_at o s.number) (inside rows.entries stores s.store lt)
          ∙ (content_or s.store s.number (reads_in s.store rows.entries) refl
          ∙ written_found s.store s.number rows.entries order)
      at (inr over) =
          ap (λ (o : Option Part). content_at o s.number) (outside rows.entries stores s.store over)
          ∙ sym (ap (λ (o : Option Row). written_of o) (beyond s over))

  are_read : (q n : ℕ) → IsSome (written_at (writes_in q rows.entries) n) → IsSome (read_at (reads_in q rows.entries) n)
  are_read q n h = some_version (lookup_of q n rows.entries) (sym (read_found q n rows.entries))
      (subst (λ (o : Option (List ℕ)). IsSome o) (written_found q n rows.entries order) h)
    where
      some_version : (o : Option Row) → version_of o ≡ read_at (reads_in q rows.entries) n → IsSome (written_of o) →
          IsSome (read_at (reads_in q rows.entries) n)
      some_version None is h = absurd cc
      some_version (Some row) is h = subst (λ (o : Option ℕ). IsSome o) is refl

  accesses_of : (part : Part) → Contains (parts_below rows.entries stores) part → AreAccesses part.reads part.writes
  accesses_of part c =
      let o = one_of rows.entries stores part c in
      subst (λ (p : Part). AreAccesses p.reads p.writes) (sym o.is)
      (record {
        reads_rise = reads_in_order o.store rows.entries order;
        writes_rise = writes_in_order o.store rows.entries order;
        are_read = are_read o.store;
      })

  pub are_parts : 1 ≤ stores → ArePartsOf stores rows (or_nothing (parts_below rows.entries stores))
  are_parts some = at (parts_below rows.entries stores) refl
    where
      only_nothing : (part : Part) → Contains nothing_handed part →
          (let p : Part = record { store = 0; reads = []; writes = [] } in p ≡ part)
      only_nothing part c = by_case (Contains-push_cases [] (record { store = 0; reads = []; writes = [] }) part c)
        where
          by_case : Contains {X = Part} [] part ⊎ (let p : Part = record { store = 0; reads = []; writes = [] } in p ≡ part) →
              (let p : Part = record { store = 0; reads = []; writes = [] } in p ≡ part)
          by_case (inl none) = absurd (not_in_none part none)
          by_case (inr same) = same

      no_version : (b : Bool) (n : ℕ) → version_at (cond b (Some (record { store = 0; reads = []; writes = [] })) None) n ≡ None
      no_version true n = refl
      no_version false n = refl

      no_content : (b : Bool) (n : ℕ) → content_at (cond b (Some (record { store = 0; reads = []; writes = [] })) None) n ≡ None
      no_content true n = refl
      no_content false n = refl

      at : (ps : List Part) → parts_below rows.entries stores ≡ ps → ArePartsOf stores rows (or_nothing ps)
      at [] is = record {
        some = omega arith;
        rise = tt;
        below = λ part c. subst (λ (p : Part). p.store < stores) (only_nothing part c) (omega (arith, some));
        accesses = λ part c. subst (λ (p : Part). AreAccesses p.reads p.writes) (only_nothing part c)
            (record { reads_rise = tt; writes_rise = tt; are_read = λ number h. absurd cc });
        versions = λ s. no_version (0 == s.store) s.number
            ∙ subst (λ (l : List Part). version_at (part_at l s.store) s.number ≡ version_of (row_at rows s)) is
            (versions_below s);
        writes = λ s. no_content (0 == s.store) s.number
            ∙ subst (λ (l : List Part). content_at (part_at l s.store) s.number ≡ written_of (row_at rows s)) is
            (contents_below s);
        read_some = inl refl;
      }
      at (p ∷ ps) is = record {
        some = omega arith;
        rise = subst (λ (l : List Part). StoresRise l) is (rise_below rows.entries stores);
        below = λ part c. below_of part (subst (λ (l : List Part). Contains l part) (sym is) c);
        accesses = λ part c. accesses_of part (subst (λ (l : List Part). Contains l part) (sym is) c);
        versions = λ s.
            subst (λ (l : List Part). version_at (part_at l s.store) s.number ≡ version_of (row_at rows s)) is
            (versions_below s);
        writes = λ s.
            subst (λ (l : List Part). content_at (part_at l s.store) s.number ≡ written_of (row_at rows s)) is
            (contents_below s);
        read_some = inr (λ part c. reads_of_part part (subst (λ (l : List Part). Contains l part) (sym is) c));
      }
        where
          below_of : (part : Part) → Contains (parts_below rows.entries stores) part → part.store < stores
          below_of part c =
              let o = one_of rows.entries stores part c in
              let b = o.below in
              let same : part.store ≡ o.store = ap (λ (y : Part). y.store) o.is in omega (arith, b, same)

          reads_of_part : (part : Part) → Contains (parts_below rows.entries stores) part → 1 ≤ length part.reads
          reads_of_part part c =
              let o = one_of rows.entries stores part c in
              subst (λ (y : Part). 1 ≤ length y.reads) (sym o.is) o.reads
