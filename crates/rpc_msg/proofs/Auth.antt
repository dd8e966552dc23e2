-- Credentials: their laws, and words that are read where they stand.
use Rattle.std.proofs.Common.{◌≡◌, ℕ, zero, suc, ◌+◌, ◌*◌, ◌/◌, ◌<◌, ◌≤◌, List, ◌∷◌, length, take, drop, Ok, Err, Result, true}
use Rattle.std.proofs.Common.{Bor, subst, ⊎_elim, refl, sym, ◌∙◌, ap, arith, rules}
use Rattle.std.specs.Prelude.{nat_le}
use Rattle.std.proofs.lemmas.List.{length-drop, length-take-le, drop-drop, drop-take, take-take}
use Rattle.std.proofs.lemmas.Bool.{cases_lt}
use Rattle.std.proofs.Math.Nat.{mul-mod_right, mul-div_cancel_left}
use Rattle.std.proofs.lemmas.Bool.Decides.{nat_tests}
use Rattle.byteorder.specs.Endian.{big_number}
use Rattle.xdr_grammar.specs.declared.fault.XdrFault.{XdrFault}
use Rattle.xdr_grammar.specs.declared.fault.XdrFault.TheVariants.{Short}
use Rattle.xdr_grammar.specs.Items.{word, fixed, padding}
use Rattle.xdr_grammar.specs.Arrays.{read_items, items, array}
use Rattle.xdr_grammar.specs.Reading.{Gives}
use Rattle.xdr_grammar.proofs.Steps.{ok_is}
use Rattle.xdr_grammar.specs.Laws.{Laws}
use Rattle.xdr_grammar.proofs.Rules.{grammar_laws}
use Rattle.rpc_msg.specs.Auth.{opaque_auth, auth_sys, words, words_in}
use Rattle.rpc_msg.proofs.Heads.{word_reads}

pub opaque_auth-laws : Laws opaque_auth
unfolding opaque_auth
opaque_auth-laws = search grammar_laws

pub auth_sys-laws : Laws auth_sys
unfolding auth_sys
auth_sys-laws = search grammar_laws depth 40

-- ---- words that are left where they stand

four_times : (n : ℕ) → 4 * suc n ≡ 4 + 4 * n
four_times n = omega arith

drop_more : (bytes : List ℕ) (n : ℕ) → drop (4 * n) (drop 4 bytes) ≡ drop (4 * suc n) bytes
drop_more bytes n = drop-drop (4 * n) 4 bytes ∙ ap (λ k. drop k bytes) (sym (four_times n))

take_less : (bytes : List ℕ) (n : ℕ) → drop 4 (take (4 * suc n) bytes) ≡ take (4 * n) (drop 4 bytes)
take_less bytes n = ap (λ k. drop 4 (take k bytes)) (four_times n) ∙ drop-take 4 (4 * n) bytes

take_first : (bytes : List ℕ) (n : ℕ) → take 4 (take (4 * suc n) bytes) ≡ take 4 bytes
take_first bytes n = take-take 4 (4 * suc n) bytes (omega arith)

le_test : (n : ℕ) → n ≤ 16 → nat_le n 16 ≡ true
le_test n h = search (rules, nat_tests)

word_short : (bytes : List ℕ) → length bytes < 4 → word.read bytes ≡ Err Short
unfolding word
word_short bytes h = search (rules, nat_tests)

items_read : (n : ℕ) (bytes : List ℕ) → 4 * n ≤ length bytes → read_items n word bytes ≡ Ok (words n bytes, drop (4 * n) bytes)
unfolding read_items
items_read zero bytes h = refl
items_read (suc n) bytes h =
    rw (word_reads bytes (omega arith))
    (rw (items_read n (drop 4 bytes) (rw length-drop (omega arith))) (rw (drop_more bytes n) refl))

items_short : (n : ℕ) (bytes : List ℕ) → length bytes < 4 * n → read_items n word bytes ≡ Err Short
unfolding read_items
items_short zero bytes h = absurd (omega arith)
items_short (suc n) bytes h =
    ⊎_elim (λ (lt : length bytes < 4). rw (word_short bytes lt) refl)
    (λ (ge : 4 ≤ length bytes). rw (word_reads bytes ge) (rw (items_short n (drop 4 bytes) (rw length-drop (omega arith))) refl))
    (cases_lt (length bytes) 4)

words_front : (n : ℕ) (bytes : List ℕ) → words n (take (4 * n) bytes) ≡ words n bytes
words_front zero bytes = refl
words_front (suc n) bytes =
    rw (take_less bytes n, take_first bytes n) (ap (λ ws. big_number 4 (take 4 bytes) ∷ ws) (words_front n (drop 4 bytes)))

no_padding : (n : ℕ) → padding (4 * n) ≡ 0
no_padding n = rw (mul-mod_right 4 n) refl

words_in_front : (n : ℕ) (bytes : List ℕ) → 4 * n ≤ length bytes → words_in (take (4 * n) bytes) ≡ words n bytes
unfolding words_in
words_in_front n bytes h =
    let long : length (take (4 * n) bytes) / 4 ≡ n = rw (length-take-le (4 * n) bytes h) (mul-div_cancel_left n (omega arith)) in
    ap (λ k. words k (take (4 * n) bytes)) long ∙ words_front n bytes

fixed_reads : (n : ℕ) (bytes : List ℕ) → 4 * n ≤ length bytes
    → (fixed (4 * n)).read bytes ≡ Ok (take (4 * n) bytes, drop (4 * n) bytes)
unfolding fixed
fixed_reads n bytes h = rw (no_padding n) (search (rules, nat_tests))

fixed_short : (n : ℕ) (bytes : List ℕ) → length bytes < 4 * n → (fixed (4 * n)).read bytes ≡ Err Short
unfolding fixed
fixed_short n bytes h = rw (no_padding n) (search (rules, nat_tests))

array_reads : (n : ℕ) (bytes rest : List ℕ) → word.read bytes ≡ Ok (n, rest) → n ≤ 16 → 4 * n ≤ length rest
    → (array 16 word).read bytes ≡ Ok (words n rest, drop (4 * n) rest)
unfolding items
array_reads n bytes rest e few h = rw e (rw (le_test n few) (rw (items_read n rest h) refl))

array_short : (n : ℕ) (bytes rest : List ℕ) → word.read bytes ≡ Ok (n, rest) → n ≤ 16 → length rest < 4 * n
    → (array 16 word).read bytes ≡ Err Short
unfolding items
array_short n bytes rest e few h = rw e (rw (le_test n few) (rw (items_short n rest h) refl))

-- so many words are read as bytes
pub gives_words : (n : ℕ) (bytes rest new : List ℕ) (result : Result (Bor (List ℕ)) XdrFault) → word.read bytes ≡ Ok (n, rest)
    → n ≤ 16
    → Gives (fixed (4 * n)) (λ part. part.now) rest new result
    → Gives (array 16 word) (λ gids. words_in gids.now) bytes new result
gives_words n bytes rest new (Ok part) e few h =
    ⊎_elim (λ (lt : length rest < 4 * n). absurd (let short = fixed_short n rest lt in cc))
    (λ (ge : 4 * n ≤ length rest).
    let same : (take (4 * n) rest, drop (4 * n) rest) ≡ (part.now, new) = ok_is _ _ (sym (fixed_reads n rest ge) ∙ h) in
    subst (λ (z : List ℕ × List ℕ). (array 16 word).read bytes ≡ Ok (words_in z.0, z.1)) same
    (array_reads n bytes rest e few ge ∙ ap (λ ws. Ok (ws, drop (4 * n) rest)) (sym (words_in_front n rest ge))))
    (cases_lt (length rest) (4 * n))
gives_words n bytes rest new (Err fault) e few h =
    ⊎_elim (λ (lt : length rest < 4 * n). array_short n bytes rest e few lt ∙ (sym (fixed_short n rest lt) ∙ h))
    (λ (ge : 4 * n ≤ length rest). absurd (let read = fixed_reads n rest ge in cc))
    (cases_lt (length rest) (4 * n))
