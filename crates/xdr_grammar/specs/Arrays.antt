-- Arrays (RFC 4506, sections 4.12 and 4.13): items one behind another.
use Rattle.std.specs.Prelude.{◌≡◌, ℕ, zero, suc, nat_le, All, sum_by, List, [], ◌∷◌, ◌++◌, length, Result, Ok}
use Rattle.std.specs.List.{flat_map}
use Rattle.xdr_grammar.specs.declared.fault.XdrFault.{XdrFault}
use Rattle.xdr_grammar.specs.declared.fault.XdrFault.TheVariants.{TooLong}
use Rattle.xdr_grammar.specs.Grammar.{Grammar, ◌at◌, ◌>>=◌, done, and_then}
use Rattle.xdr_grammar.specs.Items.{word, tested}

-- so many items, and no more
pub data SpellsItems {A : Type 0} (g : Grammar A) : ℕ → List A → List ℕ → Type 0 where
  ended : (bytes : List ℕ) → bytes ≡ [] → SpellsItems g zero [] bytes
  item : (n : ℕ) (x : A) (xs : List A) (bytes front back : List ℕ) → bytes ≡ front ++ back → g.Spells x front
      → SpellsItems g n xs back → SpellsItems g (suc n) (x ∷ xs) bytes

-- the fault is in the first item, or in one behind it
pub data BreaksItems {A : Type 0} (g : Grammar A) (fault : XdrFault) : ℕ → List ℕ → Type 0 where
  in_item : (n : ℕ) (bytes : List ℕ) → g.Breaks bytes fault → BreaksItems g fault (suc n) bytes
  behind : (n : ℕ) (x : A) (bytes front back : List ℕ) → bytes ≡ front ++ back → g.Spells x front → BreaksItems g fault n back
      → BreaksItems g fault (suc n) bytes

pub record FitsItems {A : Type 0} (g : Grammar A) (n : ℕ) (xs : List A) : Type 0 where
  pub long : length xs ≡ n
  pub all : All g.Fits xs

unfoldable pub read_items : {A : Type 0} → ℕ → Grammar A → List ℕ → Result (List A × List ℕ) XdrFault
read_items zero g bytes = Ok ([], bytes)
read_items (suc n) g bytes = and_then (g.read bytes) (λ x. and_then (read_items n g x.1) (λ xs. Ok (x.0 ∷ xs.0, xs.1)))

-- a fixed-length array of n items
unfoldable pub items : {A : Type 0} → ℕ → Grammar A → Grammar (List A)
items n g = record {
  read = read_items n g;
  Spells = SpellsItems g n;
  Breaks = λ bytes fault. BreaksItems g fault n bytes;
  Fits = FitsItems g n;
  spelling = flat_map g.spelling;
  size = sum_by g.size;
}

-- a variable-length array: a count of at most max, and that many items
abbrev pub array : {A : Type 0} → ℕ → Grammar A → Grammar (List A)
array max g = do
  n ← tested word (λ n. nat_le n max) TooLong at length
  xs ← items n g at (λ xs. xs)
  done xs
