-- Grammars of which each value has one spelling alone: what is read is what would be written.
use Rattle.std.proofs.Common.{◌≡◌, ℕ, ◌+◌, ◌<◌, ◌≤◌, ◌==◌, Bool, true, false, List, [], ◌∷◌, ◌++◌, length, Option, Some, None}
use Rattle.std.proofs.Common.{Result, Ok, Err}
use Rattle.std.proofs.Common.{refl, sym, ◌∙◌, ap, subst, arith, replicate, suc, zero, is_some, unwrap_or}
use Rattle.std.specs.Prelude.{nat_le, if◌then◌else◌}
use Rattle.std.specs.Str.{bytes_eq}
use Rattle.std.proofs.lemmas.List.{append-nil}
use Rattle.xdr_grammar.specs.declared.fault.XdrFault.{XdrFault}
use Rattle.xdr_grammar.specs.declared.fault.XdrFault.TheVariants.{BadBool, BadEnum}
use Rattle.xdr_grammar.specs.Grammar.{Grammar, Part, ◌at◌, ◌>>=◌, done}
use Rattle.xdr_grammar.specs.Items.{number, word, hyper, tested, fixed}
use Rattle.xdr_grammar.specs.Choices.{either, in_case}
use Rattle.xdr_grammar.specs.Laws.{AreBytes}
use Rattle.nfs3_types.specs.Attributes.{time}
use Rattle.fs_rules.specs.Limits.{longest_target}
use Rattle.fs_keys.specs.declared.inode.Head.{Head}
use Rattle.fs_keys.specs.declared.inode.Inode.{Inode}
use Rattle.fs_keys.specs.Inodes.{byte, flag, kind, no_verifier, verifier, head, value_of, with_target, inode_of}
use Rattle.fs_keys.proofs.KeyLaws.{bytes-back}
use Rattle.fs_keys.proofs.InodeLaws.{head-laws, front-bytes}

abbrev Strict : {A : Type 0} → Grammar A → Type 0
Strict {A = A} g = (v : A) (bytes : List ℕ) → AreBytes bytes → g.Spells v bytes → bytes ≡ g.spelling v

back-bytes : (front rest : List ℕ) → AreBytes (front ++ rest) → AreBytes rest
back-bytes [] rest are = are
back-bytes (x ∷ front) rest are = back-bytes front rest (λ i. are (suc i))

number-strict : (n : ℕ) → Strict (number n)
number-strict n v bytes are s = sym (bytes-back n bytes s.long are) ∙ ap (λ (x : ℕ). (number n).spelling x) s.value

byte-strict : Strict byte
unfolding byte
byte-strict = number-strict 1

word-strict : Strict word
unfolding word
word-strict = number-strict 4

hyper-strict : Strict hyper
unfolding hyper
hyper-strict = number-strict 8

tested-strict : {A : Type 0} (g : Grammar A) (test : A → Bool) (refusal : XdrFault) → Strict g → Strict (tested g test refusal)
tested-strict g test refusal strict v bytes are s = strict v bytes are s.spelled

no_more : (pad : List ℕ) → length pad ≡ 0 → pad ≡ []
no_more [] is = refl
no_more (x ∷ pad) is = absurd (omega (arith, is))

fixed-strict : Strict (fixed 8)
unfolding fixed
fixed-strict v bytes are s = s.parts ∙ ap (λ (pad : List ℕ). v ++ pad) (no_more s.pad s.pad_long)

both-strict : {R A : Type 0} (part : Part R A) (next : A → Grammar R) → Strict part.grammar → ((a : A) → Strict (next a))
    → Strict (part >>= next)
both-strict part next first second r bytes are s =
    let halves : AreBytes (s.front ++ s.back) = subst AreBytes s.parts are in
    s.parts
    ∙ ap (λ (t : List ℕ). t ++ s.back) (first (part.get r) s.front (front-bytes s.front s.back halves) s.first)
    ∙ ap (λ (t : List ℕ). part.grammar.spelling (part.get r) ++ t)
    (second (part.get r) r s.back (back-bytes s.front s.back halves) s.second)

done-strict : {R : Type 0} (v : R) → Strict (done v)
done-strict v r bytes are s = s.empty

some-strict : (v : Option (List ℕ)) (bytes : List ℕ) → AreBytes bytes → (in_case Some (λ v. v) (fixed 8)).Spells v bytes
    → bytes ≡ (in_case Some (λ v. v) (fixed 8)).spelling v
some-strict v bytes are s = rw s.made (fixed-strict s.value bytes are s.spelled)

verifier_behind : (there : Bool) → Strict (either there (in_case Some (λ v. v) (fixed 8)) no_verifier)
unfolding no_verifier
verifier_behind true = some-strict
verifier_behind false = both-strict _ _ (tested-strict (fixed 8) _ BadEnum fixed-strict) (λ a. done-strict _)

flag-strict : Strict flag
unfolding flag
flag-strict = both-strict _ _ (tested-strict byte _ BadBool byte-strict) (λ a. done-strict _)

kind-strict : Strict kind
unfolding kind
kind-strict = both-strict _ _ (tested-strict byte _ BadEnum byte-strict) (λ a. done-strict _)

time-strict : Strict time
unfolding time
time-strict = both-strict _ _ word-strict (λ a. both-strict _ _ word-strict (λ b. done-strict _))

verifier-strict : Strict verifier
unfolding verifier
verifier-strict = both-strict _ _ flag-strict verifier_behind

head-strict : Strict head
unfolding head
head-strict =
    both-strict _ _ kind-strict
    (λ a. both-strict _ _ word-strict (λ b. both-strict _ _ word-strict (λ c. both-strict _ _ word-strict (λ d.
    both-strict _ _ word-strict
    (λ e. both-strict _ _ hyper-strict (λ f. both-strict _ _ time-strict (λ g. both-strict _ _ time-strict (λ h.
    both-strict _ _ time-strict
    (λ i. both-strict _ _ hyper-strict (λ j. both-strict _ _ hyper-strict (λ k. both-strict _ _ verifier-strict (λ l.
    both-strict _ _ hyper-strict (λ m. both-strict _ _ hyper-strict (λ n. done-strict _))))))))))))))

pub inode-found : (value : List ℕ) (i : Inode) → AreBytes value → inode_of value ≡ Some i → value_of i ≡ value
inode-found value i are is = by_reading (head.read value) refl is
  where
    by_length : (h : Head) (target : List ℕ) → head.read value ≡ Ok (h, target) → (short : Bool)
        → nat_le (length target) longest_target ≡ short
        → (if short then Some (record { head = h; target = target }) else None) ≡ Some i → value_of i ≡ value
    by_length h target reading true fit e =
        let f = head-laws.found value h target reading in
        let same : record { head = h; target = target } ≡ i = cc in
        let strict : f.front ≡ head.spelling h = head-strict h f.front (front-bytes f.front target (subst AreBytes f.parts are))
        f.spelled in
        subst (λ (j : Inode). value_of j ≡ value) same (ap (λ (t : List ℕ). t ++ target) (sym strict) ∙ sym f.parts)
    by_length h target reading false fit e = absurd (cc)

    by_reading : (reading : Result (Head × List ℕ) XdrFault) → head.read value ≡ reading → with_target reading ≡ Some i
        → value_of i ≡ value
    by_reading (Ok (h, target)) reading e = by_length h target reading (nat_le (length target) longest_target) refl e
    by_reading (Err fault) reading e = absurd (cc)
