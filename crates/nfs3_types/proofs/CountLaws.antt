-- Counts that rise, and sums of them.
use Rattle.std.proofs.Common.{◌≡◌, ℕ, zero, suc, ◌+◌, ◌-◌, ◌^◌, ◌<◌, ◌≤◌, min, ap, arith, ⊎_elim}
use Rattle.std.proofs.lemmas.Bool.{cases_lt}
use Rattle.nfs3_types.specs.Count.{RoseBy, Counted, sum_below}

pub rose-in_a_row : (m n before mid now : ℕ) → RoseBy m before mid → RoseBy n mid now → RoseBy (m + n) before now
rose-in_a_row m n before mid now first then = omega arith

pub counted-nil : (count : ℕ) → Counted 0 count count
counted-nil count = record { rose = omega arith; most = omega arith }

pub counted-in_a_row : (m n before mid now : ℕ) → Counted m before mid → Counted n mid now → Counted (m + n) before now
counted-in_a_row m n before mid now first then = record {
  rose = rose-in_a_row m n before mid now first.rose then.rose;
  most = omega (arith, first.most, then.most);
}

pub rose-still : (n before now : ℕ) → RoseBy n before now → RoseBy n (min before (2 ^ 64 - 1)) (min now (2 ^ 64 - 1))
rose-still n before now rose = omega arith

-- a sum of two rises with its parts
rose-pair : (m n a b c d : ℕ) → RoseBy m a c → RoseBy n b d → RoseBy (m + n) (a + b) (c + d)
rose-pair m n a b c d first then = omega arith

rose-left : (n a b c d : ℕ) → RoseBy n a c → b ≤ d → RoseBy n (a + b) (c + d)
rose-left n a b c d rose le = omega arith

rose-right : (n a b c d : ℕ) → a ≤ c → RoseBy n b d → RoseBy n (a + b) (c + d)
rose-right n a b c d le rose = omega arith

-- a sum does not fall where no term falls
pub sum_below-le : (many : ℕ) (f g : ℕ → ℕ) → ((k : ℕ) → k < many → f k ≤ g k) → sum_below many f ≤ sum_below many g
sum_below-le zero f g le = omega arith
sum_below-le (suc n) f g le =
    let rest : sum_below n f ≤ sum_below n g = sum_below-le n f g (λ k h. le k (omega arith)) in
    let last : f n ≤ g n = le n (omega arith) in
    omega arith

pub sum_below-one : (many i n : ℕ) (f g : ℕ → ℕ) → i < many → ((k : ℕ) → k < many → f k ≤ g k) → RoseBy n (f i) (g i)
    → RoseBy n (sum_below many f) (sum_below many g)
sum_below-one zero i n f g h le rose = absurd (omega arith)
sum_below-one (suc many) i n f g h le rose =
    ⊎_elim (λ (lt : i < many).
    rose-left n _ (f many) _ (g many) (sum_below-one many i n f g lt (λ k h. le k (omega arith)) rose) (le many (omega arith)))
    (λ (ge : many ≤ i).
    let e : i ≡ many = omega arith in
    let rest : sum_below many f ≤ sum_below many g = sum_below-le many f g (λ k h. le k (omega arith)) in
    rose-right n (sum_below many f) _ (sum_below many g) _ rest (rw e at rose))
    (cases_lt i many)

pub sum_below-all : (many : ℕ) (by f g : ℕ → ℕ) → ((k : ℕ) → k < many → RoseBy (by k) (f k) (g k))
    → RoseBy (sum_below many by) (sum_below many f) (sum_below many g)
sum_below-all zero by f g rose = omega arith
sum_below-all (suc many) by f g rose =
    rose-pair (sum_below many by) (by many) (sum_below many f) (f many) (sum_below many g) (g many)
    (sum_below-all many by f g (λ k h. rose k (omega arith)))
    (rose many (omega arith))
