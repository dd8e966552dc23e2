-- Keys and what they say undo one another.
use Rattle.std.proofs.Common.{◌≡◌, ℕ, zero, suc, ◌+◌, ◌*◌, ◌/◌, ◌%◌, ◌^◌, ◌<◌, ◌≤◌, ◌==◌, Bool, true, false, ◌&&◌, if◌then◌else◌}
use Rattle.std.proofs.Common.{List, [], ◌∷◌, ◌++◌, length, take, drop, slice_index, slice_index_or, Option, Some, None, refl, sym}
use Rattle.std.proofs.Common.{◌∙◌, ap, subst, arith}
use Rattle.std.specs.Prelude.{nat_le}
use Rattle.std.proofs.lemmas.Bool.{eqb-true, leb-true, le-leb}
use Rattle.std.proofs.lemmas.List.{take-append-drop, length-take, length-drop, take_all}
use Rattle.std.proofs.Math.Nat.{div-one, mul-add-div_right, mul-add-mod_self_right, mod-eq_of_lt, div-eq_of_lt, one-le-pow}
use Rattle.std.proofs.Math.Nat.{pow-succ', mul_assoc}
use Rattle.std.specs.Int.{byte_at, bytes_high_first}
use Rattle.byteorder.specs.Endian.{big_from, big_number, big_bytes}
use Rattle.byteorder.specs.Numbers.{big_from-cons, big_from-lt, big_number-reads_back, length-bytes_high_first}
use Rattle.xdr_grammar.specs.Laws.{AreBytes}
use Rattle.fs_keys.specs.declared.key_parts.KeyParts.TheVariants.{First, Lane, Snapshot, Inode, Name, Cookie, Extent, Stale}
use Rattle.fs_keys.specs.declared.key_parts.KeyParts.TheVariants.{Times}
use Rattle.fs_keys.specs.Keys.{Parts, key_of, HasBounds, only, first_number, second_number, Row, rows, said, parts_of}

-- ---- numbers and their bytes

pow_above : (n : ℕ) → zero < 256 ^ n
pow_above n = let h = one-le-pow n 256 (omega arith) in omega arith

byte_is : (k x : ℕ) → byte_at k x ≡ x / 256 ^ k % 256
byte_is zero x = ap (λ (y : ℕ). y % 256) (sym (div-one x))
byte_is (suc k) x = refl

-- what stands above does not show in the lower bytes
shifted : (m k x : ℕ) → m * 256 ^ suc k + x ≡ m * 256 * 256 ^ k + x
shifted m k x = ap (λ (y : ℕ). m * y + x) (pow-succ' 256 k) ∙ ap (λ (y : ℕ). y + x) (sym (mul_assoc m 256 (256 ^ k)))

byte-above : (m k x : ℕ) → byte_at k (m * 256 ^ suc k + x) ≡ byte_at k x
byte-above m k x =
    byte_is k (m * 256 ^ suc k + x)
    ∙ ap (λ (y : ℕ). y / 256 ^ k % 256) (shifted m k x)
    ∙ ap (λ (y : ℕ). y % 256) (mul-add-div_right (pow_above k) (m * 256) x)
    ∙ mul-add-mod_self_right m 256 (x / 256 ^ k)
    ∙ sym (byte_is k x)

bytes-above : (m k x : ℕ) → bytes_high_first k (m * 256 ^ k + x) ≡ bytes_high_first k x
bytes-above m zero x = refl
bytes-above m (suc k) x =
    ap (λ (b : ℕ). b ∷ bytes_high_first k (m * 256 ^ suc k + x)) (byte-above m k x)
    ∙ ap (λ (bs : List ℕ). byte_at k x ∷ bs) (ap (bytes_high_first k) (shifted m k x) ∙ bytes-above (m * 256) k x)

-- the byte that stands above
byte-top : (a k x : ℕ) → a < 256 → x < 256 ^ k → byte_at k (a * 256 ^ k + x) ≡ a
byte-top a k x small low =
    byte_is k (a * 256 ^ k + x)
    ∙ ap (λ (y : ℕ). y % 256) (mul-add-div_right (pow_above k) a x)
    ∙ ap (λ (y : ℕ). (a + y) % 256) (div-eq_of_lt low)
    ∙ ap (λ (y : ℕ). y % 256) (omega arith)
    ∙ mod-eq_of_lt small

-- bytes are those of their number
pub bytes-back : (n : ℕ) (xs : List ℕ) → length xs ≡ n → AreBytes xs → big_bytes n (big_number n xs) ≡ xs
bytes-back zero [] long are = refl
bytes-back zero (a ∷ xs) long are = absurd (omega (arith, long))
bytes-back (suc n) [] long are = absurd (omega (arith, long))
bytes-back (suc n) (a ∷ xs) long are =
    let low : big_number n xs < 256 ^ n = big_from-lt 0 n xs (λ i. are (suc i)) in
    let split : big_number (suc n) (a ∷ xs) ≡ a * 256 ^ n + big_number n xs =
    ap (λ (y : ℕ). a * 256 ^ n + y) (big_from-cons 0 n a xs) in
    ap (big_bytes (suc n)) split
    ∙ ap (λ (b : ℕ). b ∷ bytes_high_first n (a * 256 ^ n + big_number n xs)) (byte-top a n (big_number n xs) (are 0) low)
    ∙ ap (λ (bs : List ℕ). a ∷ bs) (bytes-above a n (big_number n xs) ∙ bytes-back n xs (omega (arith, long)) (λ i. are (suc i)))

-- ---- what a key says of its parts

only-true : {A : Type 0} (b : Bool) (a : A) → b ≡ true → only b a ≡ Some a
only-true true a is = refl
only-true false a is = absurd (cc)

both : {a b : Bool} → a ≡ true → b ≡ true → (a && b) ≡ true
both is is' = rw (is, is') refl

abbrev number_back : (n : ℕ) → n < 2 ^ 64 → big_number 8 (big_bytes 8 n) ≡ n
number_back n fits = big_number-reads_back 8 n [] fits

pub said-again : (parts : Parts) → HasBounds parts → parts_of (key_of parts) ≡ Some parts
said-again First fits = refl
said-again (Lane lane) fits = refl
said-again (Snapshot number) fits = ap (λ (n : ℕ). Some (Snapshot n)) (number_back number fits)
said-again (Inode id) fits = ap (λ (n : ℕ). Some (Inode n)) (number_back id fits)
said-again (Name directory name) (fits, short) =
    let rest = big_bytes 8 directory ++ name in
    let long : length rest ≡ 8 + length name = omega arith in
    only-true _ _ (both (le-leb 8 (length rest) (omega (arith, long))) (le-leb (length rest) 263 (omega (arith, long, short))))
    ∙ ap (λ (n : ℕ). Some (Name n name)) (number_back directory fits)
said-again (Cookie directory cookie) (fits, fits') =
    ap (λ (n : ℕ). Some (Cookie n (big_number 8 (big_bytes 8 cookie)))) (number_back directory fits)
    ∙ ap (λ (n : ℕ). Some (Cookie directory n)) (number_back cookie fits')
said-again (Extent file index) (fits, fits') =
    ap (λ (n : ℕ). Some (Extent n (big_number 8 (big_bytes 8 index)))) (number_back file fits)
    ∙ ap (λ (n : ℕ). Some (Extent file n)) (number_back index fits')
said-again (Stale file) fits = ap (λ (n : ℕ). Some (Stale n)) (number_back file fits)
said-again Times fits = refl

pub key-short : (parts : Parts) → HasBounds parts → length (key_of parts) ≤ 264
key-short First fits = omega arith
key-short (Lane lane) fits = omega arith
key-short (Snapshot number) fits = omega arith
key-short (Inode id) fits = omega arith
key-short (Name directory name) (fits, short) = omega (arith, short)
key-short (Cookie directory cookie) fits = omega arith
key-short (Extent file index) fits = omega arith
key-short (Stale file) fits = omega arith
key-short Times fits = omega arith

-- ---- what the parts say of their key

take-bytes : (n : ℕ) (xs : List ℕ) → AreBytes xs → AreBytes (take n xs)
take-bytes zero xs are i = omega arith
take-bytes (suc n) [] are i = are i
take-bytes (suc n) (x ∷ xs) are zero = are 0
take-bytes (suc n) (x ∷ xs) are (suc i) = take-bytes n xs (λ j. are (suc j)) i

drop-bytes : (n : ℕ) (xs : List ℕ) → AreBytes xs → AreBytes (drop n xs)
drop-bytes zero xs are = are
drop-bytes (suc n) [] are = are
drop-bytes (suc n) (x ∷ xs) are = drop-bytes n xs (λ j. are (suc j))

first-back : (rest : List ℕ) → 8 ≤ length rest → AreBytes rest → big_bytes 8 (first_number rest) ≡ take 8 rest
first-back rest long are = bytes-back 8 (take 8 rest) (omega (arith, length-take 8 rest)) (take-bytes 8 rest are)

second-back : (rest : List ℕ) → length rest ≡ 16 → AreBytes rest → big_bytes 8 (second_number rest) ≡ drop 8 rest
second-back rest long are = bytes-back 8 (drop 8 rest) (omega (arith, length-drop 8 rest)) (drop-bytes 8 rest are)

only-back : (rest : List ℕ) → length rest ≡ 8 → AreBytes rest → big_bytes 8 (first_number rest) ≡ rest
only-back rest long are = first-back rest (omega (arith, long)) are ∙ take_all 8 rest (omega (arith, long))

two-back : (rest : List ℕ) → length rest ≡ 16 → AreBytes rest → big_bytes 8 (first_number rest)
    ++ big_bytes 8 (second_number rest) ≡ rest
two-back rest long are =
    ap (λ (t : List ℕ). t ++ big_bytes 8 (second_number rest)) (first-back rest (omega (arith, long)) are)
    ∙ ap (λ (t : List ℕ). take 8 rest ++ t) (second-back rest long are)
    ∙ take-append-drop 8 rest

first-low : (rest : List ℕ) → AreBytes rest → first_number rest < 2 ^ 64
first-low rest are = big_from-lt 0 8 (take 8 rest) (take-bytes 8 rest are)

second-low : (rest : List ℕ) → AreBytes rest → second_number rest < 2 ^ 64
second-low rest are = big_from-lt 0 8 (drop 8 rest) (drop-bytes 8 rest are)

none_left : (rest : List ℕ) → length rest ≡ 0 → [] ≡ rest
none_left [] is = refl
none_left (x ∷ rest) is = absurd (omega (arith, is))

one_left : (rest : List ℕ) → length rest ≡ 1 → slice_index_or rest 0 0 ∷ [] ≡ rest
one_left [] is = absurd (omega (arith, is))
one_left (x ∷ []) is = refl
one_left (x ∷ (y ∷ rest)) is = absurd (omega (arith, is))

both-first : (a b : Bool) → (a && b) ≡ true → a ≡ true
both-first true b is = refl
both-first false b is = absurd (cc)

both-second : (a b : Bool) → (a && b) ≡ true → b ≡ true
both-second true b is = is
both-second false b is = absurd (cc)

-- what each row of the table says is so, where it is the one
abbrev AllSay : (Parts → Type 0) → ℕ → List Row → Type 0
AllSay P number [] = Unit {0}
AllSay P number (row ∷ others) = (number ≡ row.number → row.fits ≡ true → P row.says) × AllSay P number others

said-all : (P : Parts → Type 0) (number : ℕ) (table : List Row) → AllSay P number table → (parts : Parts)
    → said number table ≡ Some parts → P parts
said-all P number [] all parts is = absurd (cc)
said-all P number (row ∷ others) all parts is = by_number (number == row.number) refl is
    (λ more. said-all P number others all.1 parts more)
  where
    by_fit : (fits : Bool) → row.fits ≡ fits → number ≡ row.number → only fits row.says ≡ Some parts → P parts
    by_fit true fit at e = let same : row.says ≡ parts = cc in subst P same (all.0 at fit)
    by_fit false fit at e = absurd (cc)

    by_number : (b : Bool) → (number == row.number) ≡ b → (if b then only row.fits row.says else said number others) ≡ Some parts
        → (said number others ≡ Some parts → P parts) → P parts
    by_number true at e more = by_fit row.fits refl (eqb-true number row.number at) e
    by_number false at e more = more e

pub said-found : (key : List ℕ) (parts : Parts) → AreBytes key → parts_of key ≡ Some parts → key_of parts ≡ key
said-found [] parts are is = absurd (cc)
said-found (number ∷ rest) parts are is = said-all (λ p. key_of p ≡ number ∷ rest) number (rows rest) all parts is
  where
    bytes : AreBytes rest
    bytes = λ i. are (suc i)

    at : (row : ℕ) (back : List ℕ) → number ≡ row → back ≡ rest → row ∷ back ≡ number ∷ rest
    at row back is same = ap (λ (n : ℕ). n ∷ back) (sym is) ∙ ap (λ (t : List ℕ). number ∷ t) same

    all : AllSay (λ p. key_of p ≡ number ∷ rest) number (rows rest)
    all = (
      λ is fit. at 1 [] is (none_left rest (eqb-true _ _ fit)),
      (
        λ is fit. at 2 (slice_index_or rest 0 0 ∷ []) is (one_left rest (eqb-true _ _ fit)),
        (
          λ is fit. at 3 (big_bytes 8 (first_number rest)) is (only-back rest (eqb-true _ _ fit) bytes),
          (
            λ is fit. at 4 (big_bytes 8 (first_number rest)) is (only-back rest (eqb-true _ _ fit) bytes),
            (
              λ is fit. at 5 (big_bytes 8 (first_number rest) ++ drop 8 rest) is
                  (ap (λ (t : List ℕ). t ++ drop 8 rest) (first-back rest (leb-true 8 (length rest) (both-first _ _ fit)) bytes)
                  ∙ take-append-drop 8 rest),
              (
                λ is fit. at 6 (big_bytes 8 (first_number rest) ++ big_bytes 8 (second_number rest)) is
                    (two-back rest (eqb-true _ _ fit) bytes),
                (
                  λ is fit. at 7 (big_bytes 8 (first_number rest) ++ big_bytes 8 (second_number rest)) is
                      (two-back rest (eqb-true _ _ fit) bytes),
                  (
                    λ is fit. at 8 (big_bytes 8 (first_number rest)) is (only-back rest (eqb-true _ _ fit) bytes),
                    (
                      λ is fit. at 9 [] is (none_left rest (eqb-true _ _ fit)),
                      tt,
                    ),
                  ),
                ),
              ),
            ),
          ),
        ),
      ),
    )

pub said-bounds : (key : List ℕ) (parts : Parts) → AreBytes key → parts_of key ≡ Some parts → HasBounds parts
said-bounds [] parts are is = absurd (cc)
said-bounds (number ∷ rest) parts are is = said-all HasBounds number (rows rest) all parts is
  where
    bytes : AreBytes rest
    bytes = λ i. are (suc i)

    lane : (xs : List ℕ) → AreBytes xs → slice_index_or xs 0 0 < 256
    lane [] ok = omega arith
    lane (x ∷ xs) ok = ok 0

    all : AllSay HasBounds number (rows rest)
    all = (
      λ is fit. tt,
      (
        λ is fit. lane rest bytes,
        (
          λ is fit. first-low rest bytes,
          (
            λ is fit. first-low rest bytes,
            (
              λ is fit. (
                first-low rest bytes,
                omega (
                  arith,
                  length-drop 8 rest,
                  leb-true (length rest) 263
                      (both-second _ _ fit),
                ),
              ),
              (
                λ is fit. (first-low rest bytes, second-low rest bytes),
                (
                  λ is fit. (first-low rest bytes, second-low rest bytes),
                  (
                    λ is fit. first-low rest bytes,
                    (
                      λ is fit. tt,
                      tt,
                    ),
                  ),
                ),
              ),
            ),
          ),
        ),
      ),
    )
