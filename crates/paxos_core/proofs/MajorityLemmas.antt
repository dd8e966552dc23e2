-- Two majorities share a replica.
use Rattle.std.proofs.Common.{◌≡◌, ℕ, zero, suc, ◌+◌, ◌*◌, ◌<◌, ◌≤◌, Bool, true, false, cond, List, [], ◌∷◌, length, refl}
use Rattle.std.proofs.Common.{arith, replicate, ◌⊎◌, inl, inr}
use Rattle.std.specs.Prelude.{slice_get, Some, slice_set}
use Rattle.std.specs.List.{count_by}
use Rattle.std.proofs.lemmas.Bool.Decides.{nat_tests}
use Rattle.std.proofs.lemmas.List.Sums.{sum_by-cons}
use Rattle.paxos_core.specs.Majority.{is_majority, IsMajority}

abbrev pub yes_count : List Bool → ℕ
yes_count marks = count_by (λ mark. mark) marks

pub yes_true : (xs : List Bool) → yes_count (true ∷ xs) ≡ 1 + yes_count xs
yes_true xs = sum_by-cons (λ mark. cond mark 1 0) true xs

pub yes_false : (xs : List Bool) → yes_count (false ∷ xs) ≡ yes_count xs
yes_false xs = grind arith

-- where two lists of as many marks have more true ones than places, one place is true in both
pub shared : (xs ys : List Bool) → length xs ≡ length ys → length xs < yes_count xs + yes_count ys →
    (r : ℕ) × (slice_get xs r ≡ Some true) × (slice_get ys r ≡ Some true)
shared [] [] e h = absurd (omega arith)
shared [] (y ∷ ys) e h = absurd (omega arith)
shared (x ∷ xs) [] e h = absurd (omega arith)
shared (true ∷ xs) (true ∷ ys) e h = (0, refl, refl)
shared (true ∷ xs) (false ∷ ys) e h = let k = shared xs ys (omega arith) (omega (arith, yes_true xs, yes_false ys)) in
    (suc k.0, k.1, k.2)
shared (false ∷ xs) (true ∷ ys) e h = let k = shared xs ys (omega arith) (omega (arith, yes_false xs, yes_true ys)) in
    (suc k.0, k.1, k.2)
shared (false ∷ xs) (false ∷ ys) e h = let k = shared xs ys (omega arith) (omega (arith, yes_false xs, yes_false ys)) in
    (suc k.0, k.1, k.2)

-- a majority is more than half
pub more_than_half : (marks : List Bool) → is_majority marks ≡ true → length marks < 2 * yes_count marks
more_than_half marks h = grind (arith, nat_tests)

-- two majorities share a replica
pub meet : {P Q : ℕ → Type 0} (n : ℕ) → IsMajority n P → IsMajority n Q → (r : ℕ) × P r × Q r
meet n p q =
    let hp = more_than_half p.marks p.most in
    let hq = more_than_half q.marks q.most in
    let k = shared p.marks q.marks (omega (arith, p.count, q.count)) (omega (arith, p.count, q.count)) in
    (k.0, p.each k.0 k.1, q.each k.0 k.2)

-- a majority has what each that has the one has too
pub IsMajority-map : {P Q : ℕ → Type 0} (n : ℕ) → ((r : ℕ) → P r → Q r) → IsMajority n P → IsMajority n Q
IsMajority-map n f p = record { marks = p.marks; count = p.count; most = p.most; each = λ r h. f r (p.each r h) }

-- more marks are true where each that was true still is
pub yes_count-mono : (xs ys : List Bool) → length xs ≡ length ys →
    ((r : ℕ) → slice_get xs r ≡ Some true → slice_get ys r ≡ Some true) → yes_count xs ≤ yes_count ys
yes_count-mono [] [] e h = omega arith
yes_count-mono [] (y ∷ ys) e h = omega arith
yes_count-mono (x ∷ xs) [] e h = absurd (omega arith)
yes_count-mono (true ∷ xs) (true ∷ ys) e h = let k = yes_count-mono xs ys (omega arith) (λ r. h (suc r)) in
    omega (arith, yes_true xs, yes_true ys)
yes_count-mono (false ∷ xs) (true ∷ ys) e h = let k = yes_count-mono xs ys (omega arith) (λ r. h (suc r)) in
    omega (arith, yes_false xs, yes_true ys)
yes_count-mono (true ∷ xs) (false ∷ ys) e h = let k : Some false ≡ Some true = h 0 refl in cc
yes_count-mono (false ∷ xs) (false ∷ ys) e h = let k = yes_count-mono xs ys (omega arith) (λ r. h (suc r)) in
    omega (arith, yes_false xs, yes_false ys)

-- marks are a majority where all those of a majority are among them
pub majority-mono : (xs ys : List Bool) → length xs ≡ length ys →
    ((r : ℕ) → slice_get xs r ≡ Some true → slice_get ys r ≡ Some true) → is_majority xs ≡ true → is_majority ys ≡ true
majority-mono xs ys e h most =
    let k = yes_count-mono xs ys e h in
    let l = more_than_half xs most in
    let more : length ys < 2 * yes_count ys = omega arith in
    grind (arith, nat_tests)

-- what is true in a list with one more true mark
pub true_in_set : (xs : List Bool) (i r : ℕ) → slice_get (slice_set xs i true) r ≡ Some true →
    (r ≡ i) ⊎ (slice_get xs r ≡ Some true)
true_in_set [] i r h = inr h
true_in_set (x ∷ xs) zero zero h = inl refl
true_in_set (x ∷ xs) zero (suc r) h = inr h
true_in_set (x ∷ xs) (suc i) zero h = inr h
true_in_set (x ∷ xs) (suc i) (suc r) h = elim (true_in_set xs i r h) [ inl e ↦ inl (omega arith) | inr k ↦ inr k ]

-- no mark is true at first
pub none_at_first : (n r : ℕ) → slice_get (replicate n false) r ≡ Some true → ⊥
none_at_first zero r h = cc
none_at_first (suc n) zero h = let k : Some false ≡ Some true = h in cc
none_at_first (suc n) (suc r) h = none_at_first n r h
