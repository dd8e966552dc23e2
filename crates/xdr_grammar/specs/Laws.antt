-- What holds of a grammar. Each item has these laws, and each way of composing grammars keeps them.
use Rattle.std.specs.Prelude.{◌≡◌, ℕ, ◌+◌, ◌<◌, List, ◌++◌, length, slice_index, Ok, Err, Option, Some}
use Rattle.xdr_grammar.specs.declared.fault.XdrFault.{XdrFault}
use Rattle.xdr_grammar.specs.Grammar.{Grammar, Part}

-- each is a byte
abbrev pub AreBytes : List ℕ → Type 0
AreBytes bytes = (i : ℕ) → slice_index bytes i < 256

-- the front of the bytes spells the value, and the rest is what remains
pub record Found {A : Type 0} (g : Grammar A) (bytes : List ℕ) (v : A) (rest : List ℕ) : Type 0 where
  pub front : List ℕ
  pub parts : bytes ≡ front ++ rest
  pub spelled : g.Spells v front

pub record Laws {A : Type 0} (g : Grammar A) : Type 0 where
  -- what is read was spelled so
  pub found : (bytes : List ℕ) (v : A) (rest : List ℕ) → g.read bytes ≡ Ok (v, rest) → Found g bytes v rest
  -- each spelling is read, whatever follows it
  pub again : (v : A) (front rest : List ℕ) → g.Spells v front → g.read (front ++ rest) ≡ Ok (v, rest)
  -- a refusal names the first fault
  pub breaks : (bytes : List ℕ) (fault : XdrFault) → g.read bytes ≡ Err fault → g.Breaks bytes fault
  -- a fault is refused
  pub broken : (bytes : List ℕ) (fault : XdrFault) → g.Breaks bytes fault → g.read bytes ≡ Err fault
  -- what is written spells the value
  pub written : (v : A) → g.Fits v → g.Spells v (g.spelling v)
  -- what bytes spell can be written
  pub fits : (v : A) (front : List ℕ) → AreBytes front → g.Spells v front → g.Fits v
  -- each spelling of a value has its size
  pub sized : (v : A) (front : List ℕ) → g.Spells v front → length front ≡ g.size v

-- No spelling begins another: a text begins with a spelling of at most one value, of one length.
pub record IsOneSpelling {A : Type 0} (v w : A) (front rest front' rest' : List ℕ) : Type 0 where
  pub same_value : v ≡ w
  pub same_front : front ≡ front'
  pub same_rest : rest ≡ rest'

abbrev pub IsUnambiguous : {A : Type 0} → Grammar A → Type 0
IsUnambiguous {A = A} g = (v w : A) (front rest front' rest' : List ℕ) → g.Spells v front → g.Spells w front'
    → front ++ rest ≡ front' ++ rest' → IsOneSpelling v w front rest front' rest'

-- what is written is read back, with what follows it
abbrev pub IsReadBack : {A : Type 0} → Grammar A → Type 0
IsReadBack {A = A} g = (v : A) (rest : List ℕ) → g.Fits v → g.read (g.spelling v ++ rest) ≡ Ok (v, rest)

-- what is read takes its size
abbrev pub TakesSize : {A : Type 0} → Grammar A → Type 0
TakesSize {A = A} g = (bytes : List ℕ) (v : A) (rest : List ℕ) → g.read bytes ≡ Ok (v, rest)
    → length bytes ≡ g.size v + length rest

-- ---- what composing asks

-- each value that the grammar spells is so
abbrev pub AllSpelled : {R : Type 0} → Grammar R → (R → Type 0) → Type 0
AllSpelled {R = R} g P = (r : R) (bytes : List ℕ) → g.Spells r bytes → P r

-- what follows a part gives no value with another part there
abbrev pub Keeps : {R A : Type 0} → Part R A → (A → Grammar R) → Type 0
Keeps {A = A} part next = (a : A) (front : List ℕ) → part.grammar.Spells a front → AllSpelled (next a) (λ r. part.get r ≡ a)

-- the content of what was made is what it was made of
abbrev pub GivesBack : {A B : Type 0} → (B → A) → (A → Option B) → Type 0
GivesBack {B = B} make content = (b : B) → content (make b) ≡ Some b
