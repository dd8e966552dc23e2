-- Where each count of bad fates stands, and what one more in a place does to the counts.
use Rattle.std.proofs.Common.{◌≡◌, ◌≢◌, ℕ, ◌+◌, ◌*◌, ◌<◌, ◌≤◌, true, false, cond, List, length, get_or, set, refl, sym, ◌∙◌, ap}
use Rattle.std.proofs.Common.{arith, ⊎_elim}
use Rattle.std.proofs.lemmas.List.{get_or-set_same, get_or-set_other, get_or-replicate}
use Rattle.std.proofs.lemmas.Bool.{cases_lt, cases_eq, lt-ltb, le-ltb, eq-eqb, ne_eqb}
use Rattle.outside.specs.declared.weather.Fate.{Fate}
use Rattle.outside.specs.declared.weather.MessageName.{MessageName}
use Rattle.outside.specs.BadFates.{place_of, counts_at, no_counts, counted}
use Rattle.nfs3_types.specs.Count.{one_more}
use Rattle.outside.specs.Weather.{Counts, is_bad, concerns}

apart : (s r : ℕ) → s < 16 → r < 5 → place_of s r ≡ s * 5 + r
unfolding place_of
apart s r h k = rw (lt-ltb s 16 h, lt-ltb r 5 k) refl

high_store : (s r : ℕ) → 16 ≤ s → place_of s r ≡ 80
unfolding place_of
high_store s r h = rw (le-ltb s 16 h) refl

high_replica : (s r : ℕ) → s < 16 → 5 ≤ r → place_of s r ≡ 80
unfolding place_of
high_replica s r h k = rw (lt-ltb s 16 h, le-ltb r 5 k) refl

pub place-within : (s r : ℕ) → place_of s r < 81
place-within s r =
    ⊎_elim (λ (h : s < 16).
    ⊎_elim (λ (k : r < 5). let e = apart s r h k in omega arith)
    (λ (k : 5 ≤ r). let e = high_replica s r h k in omega arith)
    (cases_lt r 5))
    (λ (h : 16 ≤ s). let e = high_store s r h in omega arith)
    (cases_lt s 16)

-- a store and a replica below the limits have their place alone
place-alone : (m n s r : ℕ) → s < 16 → r < 5 → place_of s r ≡ place_of m n → (m ≡ s) × (n ≡ r)
place-alone m n s r h k e =
    let here : place_of s r ≡ s * 5 + r = apart s r h k in
    ⊎_elim (λ (i : m < 16).
    ⊎_elim (λ (j : n < 5). let there : place_of m n ≡ m * 5 + n = apart m n i j in (omega arith, omega arith))
    (λ (j : 5 ≤ n). let there : place_of m n ≡ 80 = high_replica m n i j in absurd (omega arith))
    (cases_lt n 5))
    (λ (i : 16 ≤ m). let there : place_of m n ≡ 80 = high_store m n i in absurd (omega arith))
    (cases_lt m 16)

pub count-none : (s r : ℕ) → counts_at no_counts s r ≡ 0
unfolding counts_at no_counts
count-none s r = get_or-replicate 81 (place_of s r) 0 0 (place-within s r)

count-same : (counts : List ℕ) (p v s r : ℕ) → p < length counts → place_of s r ≡ p → counts_at (set counts p v) s r ≡ v
unfolding counts_at
count-same counts p v s r h e = ap (λ k. get_or (set counts p v) k 0) e ∙ get_or-set_same counts p v 0 h

count-other : (counts : List ℕ) (p v s r : ℕ) → place_of s r ≢ p → counts_at (set counts p v) s r ≡ counts_at counts s r
unfolding counts_at
count-other counts p v s r ne = get_or-set_other counts p (place_of s r) v 0 ne

pub count-here : (counts : List ℕ) (p s r : ℕ) → place_of s r ≡ p → counts_at counts s r ≡ get_or counts p 0
unfolding counts_at
count-here counts p s r e = ap (λ k. get_or counts k 0) e

-- the message concerns a store and a replica exactly where it is of both
concerns-eq : (message : MessageName) (s r : ℕ) → message.store ≡ s → message.replica ≡ r → concerns message s r ≡ true
concerns-eq message s r e f = rw (eq-eqb message.store s e, eq-eqb message.replica r f) refl

concerns-ne_store : (message : MessageName) (s r : ℕ) → message.store ≢ s → concerns message s r ≡ false
concerns-ne_store message s r e = rw (ne_eqb message.store s e) refl

concerns-ne_replica : (message : MessageName) (s r : ℕ) → message.store ≡ s → message.replica ≢ r → concerns message s r ≡ false
concerns-ne_replica message s r e f = rw (eq-eqb message.store s e, ne_eqb message.replica r f) refl

-- the count of a store and a replica below the limits after one more at the message's place
exact-one : (counts : List ℕ) (message : MessageName) (s r : ℕ) → place_of message.store message.replica < length counts
    → s < 16 → r < 5 → counts_at (set counts (place_of message.store message.replica) (one_more (get_or counts (place_of
    message.store message.replica) 0))) s r ≡ cond (concerns message s r) (one_more (counts_at counts s r)) (counts_at counts s r)
exact-one counts message s r fits h k =
    let p = place_of message.store message.replica in
    let v = one_more (get_or counts p 0) in
    ⊎_elim (λ (e : place_of s r ≡ p).
    let same = place-alone message.store message.replica s r h k e in
    count-same counts p v s r fits e ∙ sym (ap one_more (count-here counts p s r e)) ∙
    sym (ap (λ b. cond b (one_more (counts_at counts s r)) (counts_at counts s r)) (concerns-eq message s r same.0 same.1)))
    (λ (ne : place_of s r ≡ p → ⊥).
    count-other counts p v s r ne ∙ sym (ap (λ b. cond b (one_more (counts_at counts s r)) (counts_at counts s r)) (
    ⊎_elim (λ (e : message.store ≡ s).
    concerns-ne_replica message s r e (λ (f : message.replica ≡ r). ne (ap (λ x. place_of x r) (sym e) ∙
    ap (λ y. place_of message.store y) (sym f))))
    (λ (e : message.store ≡ s → ⊥). concerns-ne_store message s r e)
    (cases_eq message.store s))))
    (cases_eq (place_of s r) p)

-- a bad fate is counted at the message's place
pub counts-bad : (counts : List ℕ) (message : MessageName) (fate : Fate) → length counts ≡ 81
    → get_or counts (place_of message.store message.replica) 0 ≤ one_more
    (get_or counts (place_of message.store message.replica) 0) → is_bad fate ≡ true
    → Counts (counts_at counts) (counts_at (set counts (place_of message.store message.replica) (one_more (get_or counts
    (place_of message.store message.replica) 0)))) message fate
counts-bad counts message fate long small bad =
    let p = place_of message.store message.replica in
    let v = one_more (get_or counts p 0) in
    let fits : p < length counts = omega (arith, place-within message.store message.replica) in
    record {
      rose = λ _.
          let now : counts_at (set counts p v) message.store message.replica ≡ v =
          count-same counts p v message.store message.replica fits refl in
          let before : counts_at counts message.store message.replica ≡ get_or counts p 0 =
          count-here counts p message.store message.replica refl in
          rw (now, before) (omega arith);
      never_falls = λ s r.
          ⊎_elim (λ (e : place_of s r ≡ p).
          let now : counts_at (set counts p v) s r ≡ v = count-same counts p v s r fits e in
          let before : counts_at counts s r ≡ get_or counts p 0 = count-here counts p s r e in
          rw (now, before) (omega arith))
          (λ (ne : place_of s r ≡ p → ⊥).
          let now : counts_at (set counts p v) s r ≡ counts_at counts s r = count-other counts p v s r ne in
          omega arith)
          (cases_eq (place_of s r) p);
      exact = λ s r h k. rw bad (exact-one counts message s r fits h k);
    }

-- a good fate is not counted
pub counts-good : (counts : ℕ → ℕ → ℕ) (message : MessageName) (fate : Fate) → is_bad fate ≡ false
    → Counts counts counts message fate
counts-good counts message fate good = record {
  rose = λ bad. cc;
  never_falls = λ s r. omega arith;
  exact = λ s r h k. rw good refl;
}

pub counted-bad : (counts : List ℕ) (message : MessageName) (fate : Fate) → is_bad fate ≡ true
    → counted counts message fate ≡ set counts (place_of message.store message.replica)
    (one_more (get_or counts (place_of message.store message.replica) 0))
unfolding counted
counted-bad counts message fate bad = rw bad refl

pub counted-good : (counts : List ℕ) (message : MessageName) (fate : Fate) → is_bad fate ≡ false
    → counted counts message fate ≡ counts
unfolding counted
counted-good counts message fate good = rw good refl
