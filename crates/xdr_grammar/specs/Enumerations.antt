-- Enumerations (RFC 4506, section 4.3) that name their values one by one, each with a number of its own.
use Rattle.std.specs.Prelude.{ℕ, ◌==◌, if◌then◌else◌, List, [], ◌∷◌, Option, Some, None, is_some}
use Rattle.xdr_grammar.specs.declared.fault.XdrFault.TheVariants.{BadEnum}
use Rattle.xdr_grammar.specs.Grammar.{Grammar, ◌at◌, ◌>>=◌, done}
use Rattle.xdr_grammar.specs.Items.{word, tested}

-- the first of the values that has the number n
abbrev pub named : {A : Type 0} → (A → ℕ) → List A → ℕ → Option A
named number [] n = None
named number (a ∷ others) n = if n == number a then Some a else named number others n

abbrev pub or_else : {A : Type 0} → A → Option A → A
or_else a None = a
or_else a (Some b) = b

-- a word that is the number of one of the values; `any` is one of them, and no matter which
unfoldable pub enumeration : {A : Type 0} → A → (A → ℕ) → List A → Grammar A
enumeration any number values = do
  n ← tested word (λ n. is_some (named number values n)) BadEnum at number
  done (or_else any (named number values n))
