-- The words that bytes spell are spelled by those bytes.
use Rattle.std.proofs.Common.{◌≡◌, ℕ, zero, suc, ◌*◌, ◌/◌, ◌%◌, ◌≤◌, List, [], ◌∷◌, ◌++◌, length, take, drop, Result, Ok, Err}
use Rattle.std.proofs.Common.{IfOk, refl, sym, ◌∙◌, ap, subst, arith}
use Rattle.std.specs.List.{flat_map}
use Rattle.std.proofs.lemmas.List.{take-append-drop, length-take, length-drop}
use Rattle.std.proofs.lemmas.Nat.{be_bytes_4}
use Rattle.byteorder.specs.Endian.{big_number}
use Rattle.xdr_grammar.specs.Items.{word}
use Rattle.xdr_grammar.specs.Laws.{AreBytes}
use Rattle.xdr_grammar.proofs.Steps.{AreBytes-front, AreBytes-back}
use Rattle.rpc_msg.specs.Auth.{words, words_in}
use Rattle.nfs3_types.specs.declared.cred.Cred.{Cred}
use Rattle.service.specs.Turns.{cred_of}

-- four bytes are those of their number
word-front : (bytes : List ℕ) → 4 ≤ length bytes → AreBytes bytes → word.spelling (big_number 4 (take 4 bytes)) ≡ take 4 bytes
unfolding word
word-front bytes enough are =
    let front : AreBytes (take 4 bytes) =
    AreBytes-front (take 4 bytes) (drop 4 bytes) (subst AreBytes (sym (take-append-drop 4 bytes)) are) in
    be_bytes_4 (take 4 bytes) (big_number 4 (take 4 bytes)) (omega (arith, length-take 4 bytes)) front (omega arith)

spelled_words : (n : ℕ) (bytes : List ℕ) → length bytes ≡ 4 * n → AreBytes bytes → flat_map word.spelling (words n bytes) ≡ bytes
spelled_words zero [] long are = refl
spelled_words zero (x ∷ bytes) long are = absurd (omega (arith, long))
spelled_words (suc n) bytes long are =
    let back : AreBytes (drop 4 bytes) =
    AreBytes-back (take 4 bytes) (drop 4 bytes) (subst AreBytes (sym (take-append-drop 4 bytes)) are) in
    let rest = spelled_words n (drop 4 bytes) (omega (arith, length-drop 4 bytes)) back in
    ap (λ (xs : List ℕ). xs ++ flat_map word.spelling (words n (drop 4 bytes))) (word-front bytes (omega arith) are)
    ∙ (ap (λ (xs : List ℕ). take 4 bytes ++ xs) rest ∙ take-append-drop 4 bytes)

spelled_in : (bytes : List ℕ) → length bytes % 4 ≡ 0 → AreBytes bytes → flat_map word.spelling (words_in bytes) ≡ bytes
unfolding words_in
spelled_in bytes whole are = spelled_words (length bytes / 4) bytes (omega arith) are

-- who calls, owned, is who the tree is told of
pub cred_is : {E : Type 0} (r : Result Cred E) (uid gid : ℕ) (gids : List ℕ) → length gids % 4 ≡ 0 → AreBytes gids
    → IfOk r (λ c. c.uid ≡ uid) → IfOk r (λ c. c.gid ≡ gid) → IfOk r (λ c. c.gids ≡ gids)
    → IfOk r (λ c. c ≡ cred_of (record { uid = uid; gid = gid; gids = words_in gids }))
cred_is (Ok c) uid gid gids whole are a b g = rw (spelled_in gids whole are) (
    ap (λ (x : ℕ). record { uid = x; gid = c.gid; gids = c.gids }) a
    ∙ (ap (λ (x : ℕ). record { uid = uid; gid = x; gids = c.gids }) b
    ∙ ap (λ (x : List ℕ). record { uid = uid; gid = gid; gids = x }) g))
cred_is (Err e) uid gid gids whole are a b g = a
