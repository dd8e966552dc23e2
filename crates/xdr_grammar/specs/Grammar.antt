-- A grammar says how values of one type stand as bytes. A grammar is a value, so a structure is
-- written as its standard writes it, a line for each item, in do-notation. What holds of a grammar
-- is a record apart (`Laws`), since proofs do not stand among definitions.
use Rattle.std.specs.Prelude.{◌≡◌, ℕ, ◌+◌, List, [], ◌++◌, Result, Ok, Err}
use Rattle.xdr_grammar.specs.declared.fault.XdrFault.{XdrFault}

pub record Grammar (A : Type 0) : Type 1 where
  -- the value at the front of a text and the rest of the text, or the first fault
  pub read : List ℕ → Result (A × List ℕ) XdrFault
  -- these bytes spell this value: what a reader takes, with any padding
  pub Spells : A → List ℕ → Type 0
  -- the first fault of a text
  pub Breaks : List ℕ → XdrFault → Type 0
  -- the value can be spelled
  pub Fits : A → Type 0
  -- the one spelling that is written, with zeros as padding
  pub spelling : A → List ℕ
  -- how many bytes each spelling of the value has
  pub size : A → ℕ

-- ---- one grammar behind another

-- a part of a larger value: how the part is spelled, and where it lies in the whole
pub record Part (R A : Type 0) : Type 1 where
  pub grammar : Grammar A
  pub get : R → A

infix 15 ◌at◌
abbrev pub ◌at◌ : {R A : Type 0} → Grammar A → (R → A) → Part R A
g at get = record { grammar = g; get = get }

-- the front of the bytes spells the part, and the back what follows it
pub record SpellsBoth {R A : Type 0} (part : Part R A) (next : A → Grammar R) (r : R) (bytes : List ℕ) : Type 0 where
  pub front : List ℕ
  pub back : List ℕ
  pub parts : bytes ≡ front ++ back
  pub first : part.grammar.Spells (part.get r) front
  pub second : (next (part.get r)).Spells r back

-- the part has the fault, or the part is whole and what follows it has the fault
pub data BreaksBoth {R A : Type 0} (part : Part R A) (next : A → Grammar R) (bytes : List ℕ) (fault : XdrFault) : Type 0 where
  in_first : part.grammar.Breaks bytes fault → BreaksBoth part next bytes fault
  in_second : (a : A) (front back : List ℕ) → bytes ≡ front ++ back → part.grammar.Spells a front → (next a).Breaks back fault
      → BreaksBoth part next bytes fault

pub record FitsBoth {R A : Type 0} (part : Part R A) (next : A → Grammar R) (r : R) : Type 0 where
  pub first : part.grammar.Fits (part.get r)
  pub second : (next (part.get r)).Fits r

-- goes on where a reading did not fail
abbrev pub and_then : {A B : Type 0} → Result A XdrFault → (A → Result B XdrFault) → Result B XdrFault
and_then (Ok x) f = f x
and_then (Err e) f = Err e

-- the part, and then what follows it, which the part may choose
infixr 10 ◌>>=◌
abbrev pub ◌>>=◌ : {R A : Type 0} → Part R A → (A → Grammar R) → Grammar R
part >>= next = record {
  read = λ bytes. and_then (part.grammar.read bytes) (λ x. (next x.0).read x.1);
  Spells = SpellsBoth part next;
  Breaks = BreaksBoth part next;
  Fits = FitsBoth part next;
  spelling = λ r. part.grammar.spelling (part.get r) ++ (next (part.get r)).spelling r;
  size = λ r. part.grammar.size (part.get r) + (next (part.get r)).size r;
}

-- ---- nothing more

pub record SpellsNothing {R : Type 0} (v r : R) (bytes : List ℕ) : Type 0 where
  pub is : r ≡ v
  pub empty : bytes ≡ []

-- the value is known, and no byte is left of it
abbrev pub done : {R : Type 0} → R → Grammar R
done v = record {
  read = λ bytes. Ok (v, bytes);
  Spells = SpellsNothing v;
  Breaks = λ bytes fault. ⊥;
  Fits = λ r. r ≡ v;
  spelling = λ r. [];
  size = λ r. 0;
}
