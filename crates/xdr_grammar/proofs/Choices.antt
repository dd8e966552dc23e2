-- The laws of grammars among which an earlier item chooses, and of optional data.
use Rattle.std.proofs.Common.{◌≡◌, ℕ, Bool, true, false, List, ◌++◌, Option, Some, None, is_some, Result, Ok, Err, refl, sym, ap}
use Rattle.std.proofs.Common.{◌∙◌, inl, inr}
use Rattle.xdr_grammar.specs.declared.fault.XdrFault.{XdrFault}
use Rattle.xdr_grammar.specs.Grammar.{Grammar, ◌at◌, done, and_then}
use Rattle.xdr_grammar.specs.Items.{truth}
use Rattle.xdr_grammar.specs.Choices.{either, never, in_case, SpellsCase, optional}
use Rattle.xdr_grammar.specs.Laws.{Laws, Found, GivesBack, AllSpelled}
use Rattle.xdr_grammar.proofs.Steps.{and_then-ok, and_then-err}
use Rattle.xdr_grammar.proofs.Composed.{both-laws, done-laws}
use Rattle.xdr_grammar.proofs.Items.{truth-laws}

pub either-laws : {A : Type 0} (b : Bool) (g h : Grammar A) → Laws g → Laws h → Laws (either b g h)
either-laws true g h first second = first
either-laws false g h first second = second

pub never-laws : {A : Type 0} (refusal : XdrFault) → Laws {A = A} (never refusal)
never-laws refusal = record {
  found = λ bytes v rest e. absurd cc;
  again = λ v front rest s. absurd s;
  breaks = λ bytes fault e. cc;
  broken = λ bytes fault b. rw b refl;
  written = λ v f. absurd f;
  fits = λ v front b s. absurd s;
  sized = λ v front s. absurd s;
}

-- what was read, made into the variant
abbrev into_case : {A B : Type 0} → (B → A) → B × List ℕ → Result (A × List ℕ) XdrFault
into_case make x = Ok (make x.0, x.1)

made_is : {A B : Type 0} (make : B → A) (x : B × List ℕ) (y : A × List ℕ) → into_case make x ≡ Ok y → y ≡ (make x.0, x.1)
made_is make x y e = cc

in_case-found : {A B : Type 0} (make : B → A) (content : A → Option B) (g : Grammar B) → Laws g
    → (bytes : List ℕ) (a : A) (rest : List ℕ) → (in_case make content g).read bytes ≡ Ok (a, rest)
    → Found (in_case make content g) bytes a rest
in_case-found {A = A} make content g laws bytes a rest e =
    let x = and_then-ok (g.read bytes) (into_case make) (a, rest) e in
    let made : (a, rest) ≡ (make x.0.0, x.0.1) = made_is make x.0 (a, rest) x.2 in
    let f = laws.found bytes x.0.0 x.0.1 x.1 in
    record {
      front = f.front;
      parts = f.parts ∙ ap (λ (y : A × List ℕ). f.front ++ y.1) (sym made);
      spelled = record { value = x.0.0; made = ap (λ (y : A × List ℕ). y.0) made; spelled = f.spelled };
    }

in_case-again : {A B : Type 0} (make : B → A) (content : A → Option B) (g : Grammar B) → Laws g
    → (a : A) (front rest : List ℕ) → SpellsCase make g a front → (in_case make content g).read (front ++ rest) ≡ Ok (a, rest)
in_case-again make content g laws a front rest s =
    ap (λ x. and_then x (into_case make)) (laws.again s.value front rest s.spelled) ∙ rw s.made refl

in_case-breaks : {A B : Type 0} (make : B → A) (content : A → Option B) (g : Grammar B) → Laws g
    → (bytes : List ℕ) (fault : XdrFault) → (in_case make content g).read bytes ≡ Err fault → g.Breaks bytes fault
in_case-breaks make content g laws bytes fault e = elim (and_then-err (g.read bytes) (into_case make) fault e) [
  | inl here ↦ laws.breaks bytes fault here
  | inr x ↦ let never = x.2 in absurd cc
]

pub in_case-laws : {A B : Type 0} (make : B → A) (content : A → Option B) (g : Grammar B) → Laws g → GivesBack make content
    → Laws (in_case make content g)
in_case-laws {A = A} make content g laws back = record {
  found = in_case-found make content g laws;
  again = in_case-again make content g laws;
  breaks = in_case-breaks make content g laws;
  broken = λ bytes fault b. ap (λ x. and_then x (into_case make)) (laws.broken bytes fault b);
  written = λ a h.
      let content_is : content a ≡ Some h.value = ap content h.made ∙ back h.value in
      record { value = h.value; made = h.made; spelled = rw content_is (laws.written h.value h.fits) };
  fits = λ a front bytes s. record { value = s.value; made = s.made; fits = laws.fits s.value front bytes s.spelled };
  sized = λ a front s.
      let content_is : content a ≡ Some s.value = ap content s.made ∙ back s.value in
      rw content_is (laws.sized s.value front s.spelled);
}

pub optional-laws : {A : Type 0} (g : Grammar A) → Laws g → Laws (optional g)
optional-laws {A = A} g laws =
    both-laws (truth at is_some) (λ there. either there (in_case Some (λ o. o) g) (done None))
    truth-laws
    (λ there. either-laws there (in_case Some (λ o. o) g) (done None) (in_case-laws Some (λ o. o) g laws (λ b. refl))
    (done-laws None))
    (λ there front s. kept there)
  where
    kept : (there : Bool) → AllSpelled (either there (in_case Some (λ o. o) g) (done None)) (λ r. is_some r ≡ there)
    kept true r bytes s = ap is_some s.made
    kept false r bytes s = ap is_some s.is
