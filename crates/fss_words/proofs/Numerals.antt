-- Numerals as `parse` reads them.
use Rattle.std.proofs.Common.{◌≡◌, ◌∙◌, ◌<◌, ◌≤◌, ◌^◌, ℕ, true, false, refl, ap, arith, List, [], ◌∷◌, length, Some, None, ◌&&◌}
use Rattle.std.proofs.Common.{◌==◌, nat_lt, nat_le}
use Rattle.std.specs.List.{list_all}
use Rattle.std.specs.Str.Parse.{AllDigits, IsNumeral, digits_value, without_leading_plus}
use Rattle.std.specs.Char.{digit_value}
use Rattle.std.proofs.lemmas.Bool.Decides.{nat_tests}
use Rattle.clap.proofs.WalkLemmas.{both}
use Rattle.fss_words.specs.Commands.{is_digit, is_numeral, number}

pub digit_range : (b : ℕ) → is_digit b ≡ true → (48 ≤ b) × (b ≤ 57)
digit_range b e = grind (arith, nat_tests)

digit_small : (b : ℕ) → is_digit b ≡ true → digit_value b < 10
digit_small b e = grind (arith, nat_tests)

all_digits : (t : List ℕ) → list_all is_digit t ≡ true → AllDigits 10 t
all_digits [] e = tt
all_digits (b ∷ bs) e = let p = both (is_digit b) (list_all is_digit bs) e in (digit_small b p.0, all_digits bs p.1)

no_plus : (t : List ℕ) → list_all is_digit t ≡ true → without_leading_plus t ≡ t
no_plus [] e = refl
no_plus (b ∷ bs) e =
    let p = both (is_digit b) (list_all is_digit bs) e in
    let r = digit_range b p.0 in
    let other : (b == 43) ≡ false = grind (arith, nat_tests) in
    rw other refl

pub digits_of : (t : List ℕ) → is_numeral t ≡ true → list_all is_digit t ≡ true
digits_of t e = (both (nat_le (length t) 20) (list_all is_digit t) (both (nat_lt 0 (length t)) (nat_le (length t) 20
    && list_all is_digit t) e).1).1

filled : (t : List ℕ) → is_numeral t ≡ true → 0 < length t
filled t e = let p = both (nat_lt 0 (length t)) (nat_le (length t) 20 && list_all is_digit t) e in grind (arith, nat_tests)

pub parsed_small : (most n : ℕ) (t : List ℕ) → is_numeral t ≡ true → n ≡ digits_value 10 (without_leading_plus t) → n ≤ most
    → Some n ≡ number most t
parsed_small most n t e is le =
    let v : n ≡ digits_value 10 t = is ∙ ap (digits_value 10) (no_plus t (digits_of t e)) in
    let low : nat_le (digits_value 10 t) most ≡ true = grind (arith, nat_tests) in
    rw (e, low) (ap Some v)

pub parsed_large : (most n : ℕ) (t : List ℕ) → is_numeral t ≡ true → n ≡ digits_value 10 (without_leading_plus t) → most < n
    → None ≡ number most t
parsed_large most n t e is lt =
    let v : n ≡ digits_value 10 t = is ∙ ap (digits_value 10) (no_plus t (digits_of t e)) in
    let high : nat_le (digits_value 10 t) most ≡ false = grind (arith, nat_tests) in
    rw (e, high) refl

not_below : (n : ℕ) → (n < 2 ^ 64 → ⊥) → 2 ^ 64 ≤ n
not_below n h = grind arith

leb_over : (n most : ℕ) → most < n → nat_le n most ≡ false
leb_over n most h = grind (arith, nat_tests)

pub parsed_not : (most : ℕ) (t : List ℕ) → is_numeral t ≡ true → most < 2 ^ 64
    → (IsNumeral 10 (without_leading_plus t) × (digits_value 10 (without_leading_plus t) < 2 ^ 64) → ⊥) → None ≡ number most t
parsed_not most t e fits never =
    let same = no_plus t (digits_of t e) in
    let no_t : (digits_value 10 t < 2 ^ 64 → ⊥) = λ below. never (rw same ((filled t e, all_digits t (digits_of t e)), below)) in
    let far : 2 ^ 64 ≤ digits_value 10 t = not_below _ no_t in
    let high : nat_le (digits_value 10 t) most ≡ false = leb_over _ _ (omega arith) in
    rw (e, high) refl
