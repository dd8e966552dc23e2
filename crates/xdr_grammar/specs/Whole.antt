-- A text that has to be one value, and no byte more.
use Rattle.std.specs.Prelude.{◌≡◌, ℕ, ◌<◌, ◌==◌, if◌then◌else◌, List, ◌++◌, length, Result, Ok, Err}
use Rattle.xdr_grammar.specs.declared.fault.XdrFault.{XdrFault}
use Rattle.xdr_grammar.specs.declared.fault.XdrFault.TheVariants.{Trailing}
use Rattle.xdr_grammar.specs.Grammar.{Grammar, and_then}

-- no byte may remain
abbrev pub ended : {A : Type 0} → A → List ℕ → Result A XdrFault
ended v rest = if length rest == 0 then Ok v else Err Trailing

-- the value that the whole text spells, or the first fault
abbrev pub whole : {A : Type 0} → Grammar A → List ℕ → Result A XdrFault
whole g bytes = and_then (g.read bytes) (λ x. ended x.0 x.1)

-- the fault is in the value, or bytes remain behind it
pub data BreaksWhole {A : Type 0} (g : Grammar A) (bytes : List ℕ) (fault : XdrFault) : Type 0 where
  in_value : g.Breaks bytes fault → BreaksWhole g bytes fault
  behind : (v : A) (front rest : List ℕ) → bytes ≡ front ++ rest → g.Spells v front → 0 < length rest → fault ≡ Trailing
      → BreaksWhole g bytes fault

-- what holds of a grammar over whole texts
pub record WholeLaws {A : Type 0} (g : Grammar A) : Type 0 where
  -- what is read, the whole text spells
  pub found : (bytes : List ℕ) (v : A) → whole g bytes ≡ Ok v → g.Spells v bytes
  -- each spelling is read
  pub again : (v : A) (bytes : List ℕ) → g.Spells v bytes → whole g bytes ≡ Ok v
  -- a refusal names the first fault
  pub breaks : (bytes : List ℕ) (fault : XdrFault) → whole g bytes ≡ Err fault → BreaksWhole g bytes fault
  -- a fault is refused
  pub broken : (bytes : List ℕ) (fault : XdrFault) → BreaksWhole g bytes fault → whole g bytes ≡ Err fault
