-- What a reader of a text gave, by the text that was left before and after.
use Rattle.std.specs.Prelude.{◌≡◌, ℕ, List, Result, Ok, Err}
use Rattle.xdr_grammar.specs.declared.fault.XdrFault.{XdrFault}
use Rattle.xdr_grammar.specs.Grammar.{Grammar}

-- the reader gave what the grammar reads, where `view` is what a contract sees of the result
abbrev pub Gives : {X A : Type 0} → Grammar A → (X → A) → List ℕ → List ℕ → Result X XdrFault → Type 0
Gives g view old new (Ok x) = g.read old ≡ Ok (view x, new)
Gives g view old new (Err fault) = g.read old ≡ Err fault

-- the result is this reading of a whole text
abbrev pub GivesWhole : {X A : Type 0} → (X → A) → Result A XdrFault → Result X XdrFault → Type 0
GivesWhole view reading (Ok x) = reading ≡ Ok (view x)
GivesWhole view reading (Err fault) = reading ≡ Err fault
