-- A list as RFC 1813 chains it, which is optional data whose item ends with the next (RFC 4506,
-- section 4.19): each entry stands behind a true boolean, and a false one ends the list.
use Rattle.std.specs.Prelude.{◌≡◌, ℕ, zero, suc, ◌+◌, true, false, if◌then◌else◌, All, sum_by, List, [], ◌∷◌, ◌++◌, length}
use Rattle.std.specs.Prelude.{Result, Ok, Err}
use Rattle.std.specs.List.{flat_map}
use Rattle.xdr_grammar.specs.declared.fault.XdrFault.{XdrFault}
use Rattle.xdr_grammar.specs.declared.fault.XdrFault.TheVariants.{Short}
use Rattle.xdr_grammar.specs.Grammar.{Grammar, and_then}
use Rattle.xdr_grammar.specs.Items.{truth}

pub data SpellsEntries {A : Type 0} (g : Grammar A) : List A → List ℕ → Type 0 where
  ended : (bytes : List ℕ) → truth.Spells false bytes → SpellsEntries g [] bytes
  entry : (x : A) (xs : List A) (bytes mark item others : List ℕ) → bytes ≡ mark ++ (item ++ others) → truth.Spells true mark
      → g.Spells x item → SpellsEntries g xs others → SpellsEntries g (x ∷ xs) bytes

-- the fault is in a boolean, in the entry behind it, or in what stands behind that
pub data BreaksEntries {A : Type 0} (g : Grammar A) (fault : XdrFault) : List ℕ → Type 0 where
  in_mark : (bytes : List ℕ) → truth.Breaks bytes fault → BreaksEntries g fault bytes
  in_entry : (bytes mark item : List ℕ) → bytes ≡ mark ++ item → truth.Spells true mark → g.Breaks item fault
      → BreaksEntries g fault bytes
  behind : (x : A) (bytes mark item others : List ℕ) → bytes ≡ mark ++ (item ++ others) → truth.Spells true mark → g.Spells x item
      → BreaksEntries g fault others → BreaksEntries g fault bytes

abbrev pub entry_spelling : {A : Type 0} → Grammar A → A → List ℕ
entry_spelling g x = truth.spelling true ++ g.spelling x

abbrev pub entries_spelling : {A : Type 0} → Grammar A → List A → List ℕ
entries_spelling g xs = flat_map (entry_spelling g) xs ++ truth.spelling false

abbrev pub entries_size : {A : Type 0} → Grammar A → List A → ℕ
entries_size g xs = sum_by (λ x. truth.size true + g.size x) xs + truth.size false

-- Reads at most so many booleans. Each is four bytes long, so a text has fewer than its length.
unfoldable pub read_entries : {A : Type 0} → ℕ → Grammar A → List ℕ → Result (List A × List ℕ) XdrFault
read_entries zero g bytes = Err Short
read_entries (suc bound) g bytes =
    and_then (truth.read bytes) (λ more.
    if more.0
    then and_then (g.read more.1) (λ x. and_then (read_entries bound g x.1) (λ xs. Ok (x.0 ∷ xs.0, xs.1)))
    else Ok ([], more.1))

unfoldable pub entries : {A : Type 0} → Grammar A → Grammar (List A)
entries g = record {
  read = λ bytes. read_entries (suc (length bytes)) g bytes;
  Spells = SpellsEntries g;
  Breaks = λ bytes fault. BreaksEntries g fault bytes;
  Fits = All g.Fits;
  spelling = entries_spelling g;
  size = entries_size g;
}
