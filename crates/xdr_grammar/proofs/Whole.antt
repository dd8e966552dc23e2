-- What is the whole text, and what follows from the laws of any grammar.
use Rattle.std.proofs.Common.{◌≡◌, ℕ, zero, suc, ◌<◌, false, List, [], ◌++◌, length, Result, Ok, Err, refl, sym, ap, subst, ◌∙◌}
use Rattle.std.proofs.Common.{inl, inr, length-append, arith}
use Rattle.std.specs.Prelude.{◌==◌}
use Rattle.std.proofs.lemmas.Bool.{eqb-true, ne_eqb}
use Rattle.std.proofs.lemmas.List.{append-nil, nil_from_length, append_cancel_right}
use Rattle.xdr_grammar.specs.declared.fault.XdrFault.{XdrFault}
use Rattle.xdr_grammar.specs.declared.fault.XdrFault.TheVariants.{Trailing}
use Rattle.xdr_grammar.specs.Grammar.{Grammar, and_then}
use Rattle.xdr_grammar.specs.Whole.{ended, whole, BreaksWhole, WholeLaws}
use Rattle.xdr_grammar.specs.Whole.BreaksWhole.{in_value, behind}
use Rattle.xdr_grammar.specs.Laws.{Laws, IsUnambiguous, IsReadBack, TakesSize}
use Rattle.xdr_grammar.proofs.Steps.{and_then-ok, and_then-err, ok_is, passed, passed_not}

-- what ends a whole text
abbrev ending : {A : Type 0} → A × List ℕ → Result A XdrFault
ending x = ended x.0 x.1

no_length : (n : ℕ) → (n == 0) ≡ false → 0 < n
no_length zero e = absurd cc
no_length (suc n) e = omega arith

some_length : (n : ℕ) → 0 < n → (n == 0) ≡ false
some_length n h = ne_eqb n 0 (λ e. omega arith)

whole-found : {A : Type 0} (g : Grammar A) → Laws g → (bytes : List ℕ) (v : A) → whole g bytes ≡ Ok v → g.Spells v bytes
whole-found {A = A} g laws bytes v e =
    let x = and_then-ok (g.read bytes) ending v e in
    let p = passed (length x.0.1 == 0) Trailing x.0.0 v x.2 in
    let f = laws.found bytes x.0.0 x.0.1 x.1 in
    let nothing : x.0.1 ≡ [] = nil_from_length x.0.1 (eqb-true _ _ p.0) in
    let all : f.front ≡ bytes = sym (f.parts ∙ ap (λ (t : List ℕ). f.front ++ t) nothing ∙ append-nil f.front) in
    subst (λ (t : List ℕ). g.Spells v t) all (subst (λ (a : A). g.Spells a f.front) p.1 f.spelled)

whole-again : {A : Type 0} (g : Grammar A) → Laws g → (v : A) (bytes : List ℕ) → g.Spells v bytes → whole g bytes ≡ Ok v
whole-again g laws v bytes s =
    ap (λ x. and_then x ending) (ap g.read (sym (append-nil bytes)) ∙ laws.again v bytes [] s)

whole-breaks : {A : Type 0} (g : Grammar A) → Laws g → (bytes : List ℕ) (fault : XdrFault) → whole g bytes ≡ Err fault
    → BreaksWhole g bytes fault
whole-breaks g laws bytes fault e = elim (and_then-err (g.read bytes) ending fault e) [
  | inl here ↦ in_value (laws.breaks bytes fault here)
  | inr x ↦
      let p = passed_not (length x.0.1 == 0) Trailing fault x.0.0 x.2 in
      let f = laws.found bytes x.0.0 x.0.1 x.1 in
      behind x.0.0 f.front x.0.1 f.parts f.spelled (no_length (length x.0.1) p.0) p.1
]

whole-broken : {A : Type 0} (g : Grammar A) → Laws g → (bytes : List ℕ) (fault : XdrFault) → BreaksWhole g bytes fault
    → whole g bytes ≡ Err fault
whole-broken g laws bytes fault (in_value b) = ap (λ x. and_then x ending) (laws.broken bytes fault b)
whole-broken g laws bytes fault (behind v front rest parts s more is) =
    let some : (length rest == 0) ≡ false = some_length (length rest) more in
    ap (λ x. and_then x ending) (ap g.read parts ∙ laws.again v front rest s) ∙ rw (some, is) refl

pub whole-laws : {A : Type 0} (g : Grammar A) → Laws g → WholeLaws g
whole-laws g laws = record {
  found = whole-found g laws;
  again = whole-again g laws;
  breaks = whole-breaks g laws;
  broken = whole-broken g laws;
}

-- ---- what follows from the laws

pub is_unambiguous : {A : Type 0} (g : Grammar A) → Laws g → IsUnambiguous g
is_unambiguous {A = A} g laws v w front rest front' rest' s s' e =
    let read : (v, rest) ≡ (w, rest') = ok_is (v, rest) (w, rest') (sym (laws.again v front rest s) ∙ ap g.read e
    ∙ laws.again w front' rest' s') in
    let rests : rest ≡ rest' = ap (λ (x : A × List ℕ). x.1) read in
    record {
      same_value = ap (λ (x : A × List ℕ). x.0) read;
      same_front = append_cancel_right front front' rest (e ∙ ap (λ (t : List ℕ). front' ++ t) (sym rests));
      same_rest = rests;
    }

pub is_read_back : {A : Type 0} (g : Grammar A) → Laws g → IsReadBack g
is_read_back g laws v rest h = laws.again v (g.spelling v) rest (laws.written v h)

pub takes_size : {A : Type 0} (g : Grammar A) → Laws g → TakesSize g
takes_size g laws bytes v rest e =
    let f = laws.found bytes v rest e in
    omega (arith, ap length f.parts, length-append f.front rest, laws.sized v f.front f.spelled)
