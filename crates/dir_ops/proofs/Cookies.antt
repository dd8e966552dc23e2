-- Cookies of a directory stand in the order of their keys: what follows a key says which entry follows a cookie.
use Rattle.std.proofs.Common.{◌≡◌, ◌≢◌, ◌⊎◌, inl, inr, ℕ, zero, suc, ◌+◌, ◌*◌, ◌^◌, ◌<◌, ◌≤◌, ◌==◌, Bool, true, false}
use Rattle.std.proofs.Common.{if◌then◌else◌}
use Rattle.std.proofs.Common.{List, [], ◌∷◌, ◌++◌, length, Some, refl, sym, ◌∙◌, ap, subst}
use Rattle.std.proofs.Common.{arith}
use Rattle.std.specs.Prelude.{nat_lt, find, All}
use Rattle.std.specs.Ordering.{nat_cmp, ordering_then, ordering_reverse}
use Rattle.std.specs.Cmp.Lexicographic.{slice_cmp}
use Rattle.std.specs.declared.cmp.Ordering.{Ordering}
use Rattle.std.specs.declared.cmp.Ordering.TheVariants.{Less, Equal, Greater}
use Rattle.std.specs.Int.{byte_at, bytes_high_first}
use Rattle.std.proofs.lemmas.Bool.{eqb-true, eqb-false, eq-eqb, ltb-true, ltb-false, le-ltb, cases_order}
use Rattle.std.proofs.lemmas.Cmp.{nat_list_cmp_total}
use Rattle.std.proofs.Math.Nat.{mul-le-mul_left}
use Rattle.byteorder.specs.Endian.{big_from, big_number, big_bytes}
use Rattle.byteorder.specs.Numbers.{big_from-cons, big_from-lt, big_number-reads_back, length-bytes_high_first}
use Rattle.xdr_grammar.specs.Laws.{AreBytes}
use Rattle.pairs.specs.Found.{IsBefore}
use Rattle.fs_rules.specs.declared.name_entry.NameEntry.{NameEntry}
use Rattle.fs_rules.specs.Sound.{Rise}
use Rattle.fs_keys.specs.declared.key_parts.KeyParts.TheVariants.{Cookie}
use Rattle.fs_keys.specs.Keys.{key_of}
use Rattle.fs_shows.specs.Nodes.{numbered}
use Rattle.fs_shows.proofs.NameLists.{rise-above, all-tail}
use Rattle.dir_ops.specs.Listing.{next_entry}

-- ---- numbers as bytes, in order

number-same : (c : ℕ) → nat_cmp c c ≡ Equal
number-same c = rw (le-ltb c c (omega arith), eq-eqb c c refl) refl

-- behind what is common, the rest decides
pub behind-common : (p x y : List ℕ) → slice_cmp nat_cmp (p ++ x) (p ++ y) ≡ slice_cmp nat_cmp x y
behind-common [] x y = refl
behind-common (c ∷ p) x y = rw (number-same c) (behind-common p x y)

lower-place : (x y b m n : ℕ) → m < b → n < b → x * b + m < y * b + n → y < x → ⊥
lower-place x y b m n low low' less more = let h = mul-le-mul_left b more in omega (arith, h, low, low', less)

-- fewer as numbers, earlier as bytes
bytes-order : (n : ℕ) (xs ys : List ℕ) → length xs ≡ n → length ys ≡ n → AreBytes xs → AreBytes ys
    → big_number n xs < big_number n ys
    → slice_cmp nat_cmp xs ys ≡ Less
bytes-order zero xs ys long long' are are' less = absurd (omega (arith, less))
bytes-order (suc n) [] ys long long' are are' less = absurd (omega (arith, long))
bytes-order (suc n) (x ∷ xs) [] long long' are are' less = absurd (omega (arith, long'))
bytes-order (suc n) (x ∷ xs) (y ∷ ys) long long' are are' less =
    by_first (nat_lt x y) refl (x == y) refl
    (λ fewer. bytes-order n xs ys (omega (arith, long)) (omega (arith, long')) (λ i. are (suc i)) (λ i. are' (suc i)) fewer)
  where
    low : big_number n xs < 256 ^ n
    low = big_from-lt 0 n xs (λ i. are (suc i))

    low' : big_number n ys < 256 ^ n
    low' = big_from-lt 0 n ys (λ i. are' (suc i))

    places : x * 256 ^ n + big_number n xs < y * 256 ^ n + big_number n ys
    places =
        subst (λ (m : ℕ). x * 256 ^ n + m < y * 256 ^ n + big_number n ys) (big_from-cons 0 n x xs)
        (subst (λ (m : ℕ). x * 256 ^ n + big_from 1 n (x ∷ xs) < y * 256 ^ n + m) (big_from-cons 0 n y ys) less)

    fewer-rest : x ≡ y → big_number n xs < big_number n ys
    fewer-rest same =
        let h = subst (λ (z : ℕ). z * 256 ^ n + big_number n xs < y * 256 ^ n + big_number n ys) same places in omega (arith, h)

    by_first : (u : Bool) → nat_lt x y ≡ u → (w : Bool) → (x == y) ≡ w
        → (big_number n xs < big_number n ys → slice_cmp nat_cmp xs ys ≡ Less)
        → ordering_then (if u then Less else (if w then Equal else Greater)) (slice_cmp nat_cmp xs ys) ≡ Less
    by_first true is w at rest = refl
    by_first false is true at rest = rest (fewer-rest (eqb-true x y at))
    by_first false is false at rest =
        absurd (lower-place x y (256 ^ n) (big_number n xs) (big_number n ys) low low' places
        (strictly (ltb-false x y is) (eqb-false x y at)))
      where
        strictly : y ≤ x → (x ≡ y → ⊥) → y < x
        strictly up other = let ne : x ≢ y = other in omega (arith, up, ne)

is-byte : (k x : ℕ) → byte_at k x < 256
is-byte zero x = omega arith
is-byte (suc k) x = omega arith

are-bytes : (n x : ℕ) → AreBytes (bytes_high_first n x)
are-bytes zero x i = omega arith
are-bytes (suc n) x zero = is-byte n x
are-bytes (suc n) x (suc i) = are-bytes n x i

number-back : (n : ℕ) → n < 2 ^ 64 → big_number 8 (big_bytes 8 n) ≡ n
number-back n fits = big_number-reads_back 8 n [] fits

abbrev stem : ℕ → List ℕ
stem directory = 6 ∷ big_bytes 8 directory

-- a lower cookie has an earlier key
pub cookie-order : (directory a b : ℕ) → a < b → b < 2 ^ 64 → IsBefore (key_of (Cookie directory a)) (key_of (Cookie directory b))
cookie-order directory a b less fits =
    behind-common (stem directory) (big_bytes 8 a) (big_bytes 8 b)
    ∙ bytes-order 8 (big_bytes 8 a) (big_bytes 8 b) (length-bytes_high_first 8 a) (length-bytes_high_first 8 b) (are-bytes 8 a)
    (are-bytes 8 b)
    (subst (λ (m : ℕ). m < big_number 8 (big_bytes 8 b)) (sym (number-back a (omega (arith, less, fits))))
    (subst (λ (m : ℕ). a < m) (sym (number-back b fits)) less))

same-key : (k : List ℕ) → slice_cmp nat_cmp k k ≡ Equal
same-key [] = refl
same-key (c ∷ k) = rw (number-same c) (same-key k)

-- and an earlier key a lower cookie
pub order-cookie : (directory a b : ℕ) → a < 2 ^ 64 → b < 2 ^ 64
    → IsBefore (key_of (Cookie directory a)) (key_of (Cookie directory b)) → a < b
order-cookie directory a b fits fits' before = by_order (cases_order a b)
  where
    differs : (o : Ordering) → o ≡ Less → o ≡ Equal → ⊥
    differs o p q = cc

    turned : (o : Ordering) → o ≡ ordering_reverse Less → o ≡ Less → ⊥
    turned o p q = cc

    by_order : (a ≡ b) ⊎ ((a < b) ⊎ (b < a)) → a < b
    by_order (inl same) =
        absurd (differs (slice_cmp nat_cmp (key_of (Cookie directory a)) (key_of (Cookie directory b))) before
        (subst (λ (c : ℕ). slice_cmp nat_cmp (key_of (Cookie directory a)) (key_of (Cookie directory c)) ≡ Equal) same
        (same-key (key_of (Cookie directory a)))))
    by_order (inr (inl less)) = less
    by_order (inr (inr more)) =
        absurd (turned (slice_cmp nat_cmp (key_of (Cookie directory a)) (key_of (Cookie directory b)))
        (nat_list_cmp_total.antisymm (key_of (Cookie directory a)) (key_of (Cookie directory b))
        ∙ ap ordering_reverse (cookie-order directory b a more fits))
        before)

-- what stands between two keys with a common front has that front
pub between : (p x y k : List ℕ) → slice_cmp nat_cmp (p ++ x) k ≡ Less → (slice_cmp nat_cmp (p ++ y) k ≡ Less → ⊥)
    → (rest : List ℕ) × (k ≡ p ++ rest)
between [] x y k after early = (k, refl)
between (c ∷ p) x y [] after early = absurd (differs after)
  where
    differs : Greater ≡ Less → ⊥
    differs e = cc
between (c ∷ p) x y (e ∷ k) after early =
    by_first (nat_lt c e) (c == e) refl after early (λ more less. between p x y k more less)
  where
    differs : Greater ≡ Less → ⊥
    differs e = cc

    by_first : (u w : Bool) → (c == e) ≡ w → ordering_then (if u then Less else (if w then Equal else Greater))
        (slice_cmp nat_cmp (p ++ x) k) ≡ Less
        → (ordering_then (if u then Less else (if w then Equal else Greater)) (slice_cmp nat_cmp (p ++ y) k) ≡ Less → ⊥)
        → (slice_cmp nat_cmp (p ++ x) k ≡ Less → (slice_cmp nat_cmp (p ++ y) k ≡ Less → ⊥) → (rest : List ℕ) × (k ≡ p ++ rest))
        → (rest : List ℕ) × (e ∷ k ≡ c ∷ (p ++ rest))
    by_first true w at after early more = absurd (early refl)
    by_first false true at after early more =
        let r = more after early in
        (r.0, ap (λ (z : ℕ). z ∷ k) (sym (eqb-true c e at)) ∙ ap (λ (t : List ℕ). c ∷ t) r.1)
    by_first false false at after early more = absurd (differs after)

-- ---- the entry behind a cookie

pub numbered-cookie : (cookie : ℕ) (names : List NameEntry) (e : NameEntry) → numbered cookie names ≡ Some e → e.cookie ≡ cookie
unfolding numbered
numbered-cookie cookie [] e is = absurd (cc)
numbered-cookie cookie (x ∷ names) e is = by_test (x.cookie == cookie) refl is (λ more. numbered-cookie cookie names e more)
  where
    by_test : (u : Bool) → (x.cookie == cookie) ≡ u → (if u then Some x else find (λ e. e.cookie == cookie) names) ≡ Some e
        → (find (λ e. e.cookie == cookie) names ≡ Some e → e.cookie ≡ cookie) → e.cookie ≡ cookie
    by_test true at is more = let same : x ≡ e = cc in subst (λ (f : NameEntry). f.cookie ≡ cookie) same
        (eqb-true x.cookie cookie at)
    by_test false at is more = more is

-- the next entry lies behind, and is the first of its cookie
pub next-numbered : (cookie : ℕ) (names : List NameEntry) (e : NameEntry) → next_entry cookie names ≡ Some e
    → (cookie < e.cookie) × (numbered e.cookie names ≡ Some e)
unfolding numbered
next-numbered cookie [] e is = absurd (cc)
next-numbered cookie (x ∷ names) e is = by_test (nat_lt cookie x.cookie) refl is (λ more. next-numbered cookie names e more)
  where
    by_test : (u : Bool) → nat_lt cookie x.cookie ≡ u → (if u then Some x else find (λ e. nat_lt cookie e.cookie) names) ≡ Some e
        → (find (λ e. nat_lt cookie e.cookie) names ≡ Some e → (cookie < e.cookie)
        × (find (λ f. f.cookie == e.cookie) names ≡ Some e))
        → (cookie < e.cookie) × ((if x.cookie == e.cookie then Some x else find (λ f. f.cookie == e.cookie) names) ≡ Some e)
    by_test true at is more =
        let same : x ≡ e = cc in
        subst (λ (f : NameEntry). (cookie < f.cookie) × ((if x.cookie == f.cookie then Some x else find
        (λ g. g.cookie == f.cookie) names) ≡ Some f)) same
        (ltb-true cookie x.cookie at, rw (eq-eqb x.cookie x.cookie refl) refl)
    by_test false at is more =
        let m = more is in
        let early : x.cookie ≤ cookie = ltb-false cookie x.cookie at in
        (m.0, rw (other x.cookie e.cookie (omega (arith, early, m.0))) m.1)
      where
        other : (a b : ℕ) → a < b → (a == b) ≡ false
        other a b less = by_equal (a == b) refl
          where
            by_equal : (u : Bool) → (a == b) ≡ u → (a == b) ≡ false
            by_equal true is = absurd (omega (arith, less, eqb-true a b is))
            by_equal false is = is

-- where an entry lies behind, the next is no later
pub next-least : (cookie least next other : ℕ) (names : List NameEntry) (f : NameEntry) → Rise least next names
    → numbered other names ≡ Some f
    → cookie < other → (e : NameEntry) × (next_entry cookie names ≡ Some e) × (e.cookie ≤ other)
unfolding numbered Rise
next-least cookie least next other [] f rise is less = absurd (cc)
next-least cookie least next other (x ∷ names) f rise is less =
    by_test (nat_lt cookie x.cookie) refl (x.cookie == other) refl is
    (λ more. next-least cookie (x.cookie + 1) next other names f rise.1 more less)
  where
    later : find (λ e. e.cookie == other) names ≡ Some f → x.cookie ≤ other
    later found = at-least names (rise-above (x.cookie + 1) next names rise.1) found
      where
        at-least : (names : List NameEntry) → All (λ e. x.cookie + 1 ≤ e.cookie) names
            → find (λ e. e.cookie == other) names ≡ Some f → x.cookie ≤ other
        at-least [] all found = absurd (cc)
        at-least (y ∷ names) all found =
            by_equal (y.cookie == other) refl found (λ more. at-least names
            (all-tail (λ e. x.cookie + 1 ≤ e.cookie) y names all) more)
          where
            by_equal : (u : Bool) → (y.cookie == other) ≡ u → (if u then Some y else find (λ e. e.cookie == other) names) ≡ Some f
                → (find (λ e. e.cookie == other) names ≡ Some f → x.cookie ≤ other) → x.cookie ≤ other
            by_equal true at found more = let up : x.cookie + 1 ≤ y.cookie = all 0 y (omega arith) in omega
                (arith, up, eqb-true y.cookie other at)
            by_equal false at found more = more found

    by_test : (u : Bool) → nat_lt cookie x.cookie ≡ u → (w : Bool) → (x.cookie == other) ≡ w
        → (if w then Some x else find (λ e. e.cookie == other) names) ≡ Some f
        → (find (λ e. e.cookie == other) names ≡ Some f
        → (e : NameEntry) × (find (λ e. nat_lt cookie e.cookie) names ≡ Some e) × (e.cookie ≤ other))
        → (e : NameEntry) × ((if u then Some x else find (λ e. nat_lt cookie e.cookie) names) ≡ Some e) × (e.cookie ≤ other)
    by_test true is true at found more = (x, refl, omega (arith, eqb-true x.cookie other at))
    by_test true is false at found more = (x, refl, later found)
    by_test false is true at found more = absurd (let early : x.cookie ≤ cookie = ltb-false cookie x.cookie is in omega
        (arith, early, eqb-true x.cookie other at, less))
    by_test false is false at found more = more found
