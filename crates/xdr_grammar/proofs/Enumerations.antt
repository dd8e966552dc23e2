-- The laws of enumerations.
use Rattle.std.proofs.Common.{◌≡◌, ℕ, Bool, true, false, List, [], ◌∷◌, Option, Some, is_some, refl, sym, ap, ◌∙◌}
use Rattle.std.specs.Prelude.{◌==◌, if◌then◌else◌}
use Rattle.std.proofs.lemmas.Bool.{eqb-true}
use Rattle.xdr_grammar.specs.declared.fault.XdrFault.TheVariants.{BadEnum}
use Rattle.xdr_grammar.specs.Grammar.{◌at◌, done}
use Rattle.xdr_grammar.specs.Items.{word, tested}
use Rattle.xdr_grammar.specs.Enumerations.{named, or_else, enumeration}
use Rattle.xdr_grammar.specs.Laws.{Laws}
use Rattle.xdr_grammar.proofs.Composed.{both-laws, done-laws}
use Rattle.xdr_grammar.proofs.Items.{word-laws, tested-laws}

-- one more value in front
number_step : {A : Type 0} (any a : A) (number : A → ℕ) (n : ℕ) (later : Option A)
    → (is_some later ≡ true → number (or_else any later) ≡ n)
    → (b : Bool) → (n == number a) ≡ b → is_some (if b then Some a else later) ≡ true
    → number (or_else any (if b then Some a else later)) ≡ n
number_step any a number n later back true e h = sym (eqb-true n (number a) e)
number_step any a number n later back false e h = back h

-- a value that is found by a number has it
number_back : {A : Type 0} (any : A) (number : A → ℕ) (values : List A) (n : ℕ) → is_some (named number values n) ≡ true
    → number (or_else any (named number values n)) ≡ n
number_back any number [] n h = absurd cc
number_back any number (a ∷ others) n h = number_step any a number n (named number others n) (number_back any number others n)
    (n == number a) refl h

pub enumeration-laws : {A : Type 0} (any : A) (number : A → ℕ) (values : List A) → Laws (enumeration any number values)
unfolding enumeration
enumeration-laws any number values =
    both-laws (tested word (λ n. is_some (named number values n)) BadEnum at number)
    (λ n. done (or_else any (named number values n)))
    (tested-laws word (λ n. is_some (named number values n)) BadEnum word-laws)
    (λ n. done-laws (or_else any (named number values n)))
    (λ n front s r back t. ap number t.is ∙ number_back any number values n s.passes)
