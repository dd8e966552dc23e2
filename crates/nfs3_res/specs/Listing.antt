-- How the items of a list are written.
use Rattle.std.specs.Prelude.{true, List, length, Result, Vec, ℕ}
use Rattle.xdr_grammar.specs.Grammar.{Grammar, ◌at◌, ◌>>=◌}
use Rattle.xdr_grammar.specs.Items.{truth}
use Rattle.xdr_grammar.specs.Arrays.{items}
use Rattle.xdr_grammar.specs.Writing.{Puts}

-- an item behind a true boolean
abbrev pub marked : {A : Type 0} → Grammar A → Grammar A
marked g = (truth at (λ _. true)) >>= (λ _. g)

-- all of them were put, one behind another
abbrev pub PutsAll : {A Z X E : Type 0} → Grammar A → List A → Vec ℕ Z → Vec ℕ Z → Result X E → Type 0
PutsAll g xs old new result = Puts (items (length xs) g) xs old new result
