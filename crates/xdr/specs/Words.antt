-- What a contract says of the word at the front of a text.
use Rattle.std.specs.Prelude.{ℕ, List, IsOkAnd}
use Rattle.xdr_grammar.specs.Items.{word}

-- a word can be read, and this holds of its number and of the bytes behind it
abbrev pub FrontWord : (ℕ → List ℕ → Type 0) → List ℕ → Type 0
FrontWord P bytes = IsOkAnd (word.read bytes) (λ x. P x.0 x.1)
