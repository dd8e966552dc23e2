-- The laws of one grammar behind another.
use Rattle.std.proofs.Common.{◌≡◌, ℕ, List, [], ◌++◌, length, Result, Ok, Err, refl, sym, ap, subst, ◌∙◌, inl, inr, append_assoc}
use Rattle.std.proofs.Common.{length-append, arith}
use Rattle.xdr_grammar.specs.declared.fault.XdrFault.{XdrFault}
use Rattle.xdr_grammar.specs.Grammar.{Grammar, Part, ◌>>=◌, done, and_then, SpellsBoth, BreaksBoth}
use Rattle.xdr_grammar.specs.Grammar.BreaksBoth.{in_first, in_second}
use Rattle.xdr_grammar.specs.Laws.{Laws, Found, Keeps, AreBytes}
use Rattle.xdr_grammar.proofs.Steps.{and_then-ok, and_then-err, ok_is, AreBytes-front, AreBytes-back}

-- what is left to read behind a part
abbrev behind : {R A : Type 0} → (A → Grammar R) → A × List ℕ → Result (R × List ℕ) XdrFault
behind next x = (next x.0).read x.1

both-found : {R A : Type 0} (part : Part R A) (next : A → Grammar R) → Laws part.grammar → ((a : A) → Laws (next a))
    → Keeps part next
    → (bytes : List ℕ) (r : R) (rest : List ℕ) → (part >>= next).read bytes ≡ Ok (r, rest) → Found (part >>= next) bytes r rest
both-found {A = A} part next first second keeps bytes r rest e =
    let x = and_then-ok (part.grammar.read bytes) (behind next) (r, rest) e in
    let f = first.found bytes x.0.0 x.0.1 x.1 in
    let s = (second x.0.0).found x.0.1 r rest x.2 in
    let kept : part.get r ≡ x.0.0 = keeps x.0.0 f.front f.spelled r s.front s.spelled in
    record {
      front = f.front ++ s.front;
      parts = f.parts ∙ ap (λ (t : List ℕ). f.front ++ t) s.parts ∙ sym (append_assoc f.front s.front rest);
      spelled = record {
        front = f.front;
        back = s.front;
        parts = refl;
        first = subst (λ (a : A). part.grammar.Spells a f.front) (sym kept) f.spelled;
        second = subst (λ (a : A). (next a).Spells r s.front) (sym kept) s.spelled;
      };
    }

both-again : {R A : Type 0} (part : Part R A) (next : A → Grammar R) → Laws part.grammar → ((a : A) → Laws (next a))
    → (r : R) (front rest : List ℕ) → SpellsBoth part next r front → (part >>= next).read (front ++ rest) ≡ Ok (r, rest)
both-again part next first second r front rest s =
    let text : front ++ rest ≡ s.front ++ (s.back ++ rest) = ap (λ (t : List ℕ). t ++ rest) s.parts
    ∙ append_assoc s.front s.back rest in
    let one : part.grammar.read (front ++ rest) ≡ Ok (part.get r, s.back ++ rest) = ap part.grammar.read text
    ∙ first.again (part.get r) s.front (s.back ++ rest) s.first in
    ap (λ x. and_then x (behind next)) one ∙ (second (part.get r)).again r s.back rest s.second

both-breaks : {R A : Type 0} (part : Part R A) (next : A → Grammar R) → Laws part.grammar → ((a : A) → Laws (next a))
    → (bytes : List ℕ) (fault : XdrFault) → (part >>= next).read bytes ≡ Err fault → BreaksBoth part next bytes fault
both-breaks part next first second bytes fault e = elim (and_then-err (part.grammar.read bytes) (behind next) fault e) [
  | inl here ↦ in_first (first.breaks bytes fault here)
  | inr x ↦
      let f = first.found bytes x.0.0 x.0.1 x.1 in
      in_second x.0.0 f.front x.0.1 f.parts f.spelled ((second x.0.0).breaks x.0.1 fault x.2)
]

both-broken : {R A : Type 0} (part : Part R A) (next : A → Grammar R) → Laws part.grammar → ((a : A) → Laws (next a))
    → (bytes : List ℕ) (fault : XdrFault) → BreaksBoth part next bytes fault → (part >>= next).read bytes ≡ Err fault
both-broken part next first second bytes fault (in_first b) = ap (λ x. and_then x (behind next)) (first.broken bytes fault b)
both-broken part next first second bytes fault (in_second a front back parts s b) =
    ap (λ x. and_then x (behind next)) (ap part.grammar.read parts ∙ first.again a front back s) ∙ (second a).broken back fault b

pub both-laws : {R A : Type 0} (part : Part R A) (next : A → Grammar R) → Laws part.grammar → ((a : A) → Laws (next a))
    → Keeps part next → Laws (part >>= next)
both-laws part next first second keeps = record {
  found = both-found part next first second keeps;
  again = both-again part next first second;
  breaks = both-breaks part next first second;
  broken = both-broken part next first second;
  written = λ r h. record {
    front = part.grammar.spelling (part.get r);
    back = (next (part.get r)).spelling r;
    parts = refl;
    first = first.written (part.get r) h.first;
    second = (second (part.get r)).written r h.second;
  };
  fits = λ r front bytes s.
      let both : AreBytes (s.front ++ s.back) = subst AreBytes s.parts bytes in
      record {
        first = first.fits (part.get r) s.front (AreBytes-front s.front s.back both) s.first;
        second = (second (part.get r)).fits r s.back (AreBytes-back s.front s.back both) s.second;
      };
  sized = λ r front s.
      let one = first.sized (part.get r) s.front s.first in
      let two = (second (part.get r)).sized r s.back s.second in
      omega (arith, ap length s.parts, length-append s.front s.back, one, two);
}

pub done-laws : {R : Type 0} (v : R) → Laws (done v)
done-laws {R = R} v = record {
  found = λ bytes r rest e.
      let same : (v, bytes) ≡ (r, rest) = ok_is (v, bytes) (r, rest) e in
      record {
        front = [];
        parts = ap (λ (x : R × List ℕ). x.1) same;
        spelled =
            record { is = ap (λ (x : R × List ℕ). x.0) (sym same); empty = refl };
      };
  again = λ r front rest s. rw (s.is, s.empty) refl;
  breaks = λ bytes fault e. absurd cc;
  broken = λ bytes fault b. absurd b;
  written = λ r h. record { is = h; empty = refl };
  fits = λ r front bytes s. s.is;
  sized = λ r front s. ap length s.empty;
}
