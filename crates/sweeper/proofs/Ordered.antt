-- Keys of one front stand in the order of their numbers; keys lie before one another or do not.
use Rattle.std.proofs.Common.{◌≡◌, ◌⊎◌, inl, inr, ℕ, suc, ◌+◌, ◌^◌, ◌<◌, List, [], ◌∷◌, ◌++◌, length, drop, None}
use Rattle.std.proofs.Common.{refl, sym, ◌∙◌, ap, subst, arith}
use Rattle.std.specs.Ordering.{nat_cmp, ordering_reverse}
use Rattle.std.specs.Cmp.Lexicographic.{slice_cmp}
use Rattle.std.specs.declared.cmp.Ordering.{Ordering}
use Rattle.std.specs.declared.cmp.Ordering.TheVariants.{Less, Equal, Greater}
use Rattle.std.proofs.lemmas.Bool.{cases_order}
use Rattle.std.proofs.lemmas.Cmp.{nat_list_cmp_total}
use Rattle.std.proofs.lemmas.List.{length-append}
use Rattle.byteorder.specs.Endian.{big_number, big_bytes}
use Rattle.xdr_grammar.specs.Laws.{AreBytes}
use Rattle.pairs.specs.Found.{IsBefore, IsFrom}
use Rattle.fs_keys.proofs.KeyLaws.{bytes-back}
use Rattle.dir_ops.proofs.Cookies.{behind-common, cookie-order}
use Rattle.sweeper.specs.Rows.{numbered, IsAfter, IsSooner}

-- ---- any keys

equal-less : Equal ≡ Less → ⊥
equal-less e = cc

greater-less : Greater ≡ Less → ⊥
greater-less e = cc

less-greater : Less ≡ Greater → ⊥
less-greater e = cc

equal-greater : Equal ≡ Greater → ⊥
equal-greater e = cc

pub before-or : (a b : List ℕ) → IsBefore a b ⊎ (IsBefore a b → ⊥)
before-or a b = by_order (slice_cmp nat_cmp a b) refl
  where
    by_order : (o : Ordering) → slice_cmp nat_cmp a b ≡ o → IsBefore a b ⊎ (IsBefore a b → ⊥)
    by_order Less is = inl is
    by_order Equal is = inr (λ before. equal-less (sym is ∙ before))
    by_order Greater is = inr (λ before. greater-less (sym is ∙ before))

pub from-or : (a b : List ℕ) → IsFrom a b ⊎ IsBefore b a
from-or a b = by_order (slice_cmp nat_cmp a b) refl
  where
    by_order : (o : Ordering) → slice_cmp nat_cmp a b ≡ o → IsFrom a b ⊎ IsBefore b a
    by_order Less is = inl (λ more. less-greater (sym is ∙ more))
    by_order Equal is = inl (λ more. equal-greater (sym is ∙ more))
    by_order Greater is = inr (nat_list_cmp_total.antisymm b a ∙ ap ordering_reverse is)

-- every key lies at the first one or behind it, and none before it
pub from-first : (k : List ℕ) → IsFrom [] k
from-first [] = equal-greater
from-first (x ∷ k) = less-greater

pub none-before : (k : List ℕ) → IsBefore k [] → ⊥
none-before [] before = equal-less before
none-before (x ∷ k) before = greater-less before

same-key : (k : List ℕ) → slice_cmp nat_cmp k k ≡ Equal
same-key k = by_order (slice_cmp nat_cmp k k) refl
  where
    reversed-less : Less ≡ ordering_reverse Less → ⊥
    reversed-less e = cc

    reversed-greater : Greater ≡ ordering_reverse Greater → ⊥
    reversed-greater e = cc

    by_order : (o : Ordering) → slice_cmp nat_cmp k k ≡ o → slice_cmp nat_cmp k k ≡ Equal
    by_order Less is = absurd (reversed-less (sym is ∙ nat_list_cmp_total.antisymm k k ∙ ap ordering_reverse is))
    by_order Equal is = is
    by_order Greater is = absurd (reversed-greater (sym is ∙ nat_list_cmp_total.antisymm k k ∙ ap ordering_reverse is))

-- no key lies before itself
pub not-before-itself : (k : List ℕ) → IsBefore k k → ⊥
not-before-itself k before = equal-less (sym (same-key k) ∙ before)

-- ---- keys of one front

abbrev stem : List ℕ
stem = 6 ∷ big_bytes 8 0

-- a lower number has an earlier key
pub sooner : (front : List ℕ) (a b : ℕ) → a < b → b < 2 ^ 64 → IsSooner front a b
sooner front a b less fits =
    behind-common front (big_bytes 8 a) (big_bytes 8 b)
    ∙ sym (behind-common stem (big_bytes 8 a) (big_bytes 8 b))
    ∙ cookie-order 0 a b less fits

-- and an earlier key a lower number
pub sooner-less : (front : List ℕ) (a b : ℕ) → a < 2 ^ 64 → b < 2 ^ 64 → IsSooner front a b → a < b
sooner-less front a b fits fits' before = by_order (cases_order a b)
  where
    turned : IsSooner front b a → ⊥
    turned more = greater-less (sym (nat_list_cmp_total.antisymm (numbered front a) (numbered front b) ∙ ap ordering_reverse more)
        ∙ before)

    by_order : (a ≡ b) ⊎ ((a < b) ⊎ (b < a)) → a < b
    by_order (inl same) = absurd (not-before-itself (numbered front b)
        (subst (λ (n : ℕ). IsSooner front n b) same before))
    by_order (inr (inl less)) = less
    by_order (inr (inr more)) = absurd (turned (sooner front b a more fits))

-- of two numbers one is lower, or they are one
pub order-of : (front : List ℕ) (a b : ℕ) → a < 2 ^ 64 → b < 2 ^ 64 → (a ≡ b) ⊎ (IsSooner front a b ⊎ IsSooner front b a)
order-of front a b fits fits' = by_order (cases_order a b)
  where
    by_order : (a ≡ b) ⊎ ((a < b) ⊎ (b < a)) → (a ≡ b) ⊎ (IsSooner front a b ⊎ IsSooner front b a)
    by_order (inl same) = inl same
    by_order (inr (inl less)) = inr (inl (sooner front a b less fits'))
    by_order (inr (inr more)) = inr (inr (sooner front b a more fits))

-- every number lies behind the beginning
pub all-after : (front : List ℕ) (n : ℕ) → IsAfter front None n
all-after front n = behind-common front [] (big_bytes 8 n)

-- ---- a number that stands behind a front

-- the bytes behind the front are those of their number
pub number-there : (front key rest : List ℕ) (n : ℕ) → AreBytes key → length key ≡ length front + 8 → key ≡ front ++ rest
    → n ≡ big_number 8 (drop (length front) key) → key ≡ numbered front n
number-there front key rest n are long is said =
    let behind : drop (length front) key ≡ rest = ap (drop (length front)) is ∙ drop-front front rest in
    let eight : length rest ≡ 8 = omega (arith, long, ap length is, length-append front rest) in
    let bytes : AreBytes rest = rest-bytes front rest (subst AreBytes is are) in
    is
    ∙ ap (λ (t : List ℕ). front ++ t)
    (sym (ap (big_bytes 8) (said ∙ ap (big_number 8) behind) ∙ bytes-back 8 rest eight bytes))
  where
    drop-front : (f r : List ℕ) → drop (length f) (f ++ r) ≡ r
    drop-front [] r = refl
    drop-front (x ∷ f) r = drop-front f r

    rest-bytes : (f r : List ℕ) → AreBytes (f ++ r) → AreBytes r
    rest-bytes [] r bytes = bytes
    rest-bytes (x ∷ f) r bytes = rest-bytes f r (λ i. bytes (suc i))
