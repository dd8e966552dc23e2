-- Grammars among which an earlier item chooses, and optional data (RFC 4506, section 4.19).
use Rattle.std.specs.Prelude.{◌≡◌, ℕ, Bool, true, false, List, [], Ok, Err, Option, Some, None, is_some}
use Rattle.xdr_grammar.specs.declared.fault.XdrFault.{XdrFault}
use Rattle.xdr_grammar.specs.Grammar.{Grammar, ◌at◌, ◌>>=◌, done, and_then}
use Rattle.xdr_grammar.specs.Items.{truth}

-- one of two grammars, by a test
abbrev pub either : {A : Type 0} → Bool → Grammar A → Grammar A → Grammar A
either true g h = g
either false g h = h

-- no value: each text has this fault
abbrev pub never : {A : Type 0} → XdrFault → Grammar A
never refusal = record {
  read = λ bytes. Err refusal;
  Spells = λ a bytes. ⊥;
  Breaks = λ bytes fault. fault ≡ refusal;
  Fits = λ a. ⊥;
  spelling = λ a. [];
  size = λ a. 0;
}

-- ---- one variant of an enumeration with content: `make` makes it, and `content` gives what is in it

pub record SpellsCase {A B : Type 0} (make : B → A) (g : Grammar B) (a : A) (bytes : List ℕ) : Type 0 where
  pub value : B
  pub made : a ≡ make value
  pub spelled : g.Spells value bytes

pub record FitsCase {A B : Type 0} (make : B → A) (g : Grammar B) (a : A) : Type 0 where
  pub value : B
  pub made : a ≡ make value
  pub fits : g.Fits value

-- the spelling of the content; a value of another variant has none
abbrev pub case_spelling : {B : Type 0} → Grammar B → Option B → List ℕ
case_spelling g None = []
case_spelling g (Some b) = g.spelling b

abbrev pub case_size : {B : Type 0} → Grammar B → Option B → ℕ
case_size g None = 0
case_size g (Some b) = g.size b

abbrev pub in_case : {A B : Type 0} → (B → A) → (A → Option B) → Grammar B → Grammar A
in_case make content g = record {
  read = λ bytes. and_then (g.read bytes) (λ x. Ok (make x.0, x.1));
  Spells = SpellsCase make g;
  Breaks = g.Breaks;
  Fits = FitsCase make g;
  spelling = λ a. case_spelling g (content a);
  size = λ a. case_size g (content a);
}

-- ---- optional data: a boolean, and the item where it is true

abbrev pub optional : {A : Type 0} → Grammar A → Grammar (Option A)
optional g = do
  there ← truth at is_some
  either there (in_case Some (λ o. o) g) (done None)
