-- The items of XDR (RFC 4506, section 4). Each is as long as a multiple of four bytes.
use Rattle.std.specs.Prelude.{◌≡◌, ℕ, ◌+◌, ◌-◌, ◌%◌, ◌^◌, ◌<◌, Bool, true, false, ◌&&◌, if◌then◌else◌, ◌==◌, nat_lt, nat_le}
use Rattle.std.specs.Prelude.{IsTrue, IsFalse, List, ◌++◌, length, take, drop, replicate, Ok, Err}
use Rattle.byteorder.specs.Endian.{big_number, big_bytes}
use Rattle.xdr_grammar.specs.declared.fault.XdrFault.{XdrFault}
use Rattle.xdr_grammar.specs.declared.fault.XdrFault.TheVariants.{Short, TooLong, BadBool, BadEnum}
use Rattle.xdr_grammar.specs.Grammar.{Grammar, ◌at◌, ◌>>=◌, done, and_then}

-- fewer bytes than an item takes
pub record IsShort (n : ℕ) (bytes : List ℕ) (fault : XdrFault) : Type 0 where
  pub short : length bytes < n
  pub fault_is : fault ≡ Short

-- ---- numbers (4.2, 4.5): n bytes, the highest first

pub record SpellsNumber (n x : ℕ) (bytes : List ℕ) : Type 0 where
  pub long : length bytes ≡ n
  pub value : big_number n bytes ≡ x

abbrev pub number : ℕ → Grammar ℕ
number n = record {
  read = λ bytes. if nat_lt (length bytes) n then Err Short else Ok (big_number n (take n bytes), drop n bytes);
  Spells = SpellsNumber n;
  Breaks = IsShort n;
  Fits = λ x. x < 256 ^ n;
  spelling = big_bytes n;
  size = λ x. n;
}

unfoldable pub word : Grammar ℕ
word = number 4

unfoldable pub hyper : Grammar ℕ
hyper = number 8

-- ---- an item under a test: a value that does not pass is a fault of its own

pub record SpellsTested {A : Type 0} (g : Grammar A) (test : A → Bool) (a : A) (bytes : List ℕ) : Type 0 where
  pub spelled : g.Spells a bytes
  pub passes : IsTrue (test a)

pub data BreaksTested {A : Type 0} (g : Grammar A) (test : A → Bool) (refusal : XdrFault) (bytes : List ℕ)
    (fault : XdrFault) : Type 0 where
  in_item : g.Breaks bytes fault → BreaksTested g test refusal bytes fault
  in_test : (a : A) (front rest : List ℕ) → bytes ≡ front ++ rest → g.Spells a front → IsFalse (test a) → fault ≡ refusal
      → BreaksTested g test refusal bytes fault

pub record FitsTested {A : Type 0} (g : Grammar A) (test : A → Bool) (a : A) : Type 0 where
  pub fits : g.Fits a
  pub passes : IsTrue (test a)

abbrev pub tested : {A : Type 0} → Grammar A → (A → Bool) → XdrFault → Grammar A
tested g test refusal = record {
  read = λ bytes. and_then (g.read bytes) (λ x. if test x.0 then Ok x else Err refusal);
  Spells = SpellsTested g test;
  Breaks = BreaksTested g test refusal;
  Fits = FitsTested g test;
  spelling = g.spelling;
  size = g.size;
}

-- an enumeration (4.3) whose numbers are those from low to high
unfoldable pub pick : ℕ → ℕ → Grammar ℕ
pick low high = tested word (λ n. nat_le low n && nat_le n high) BadEnum

abbrev pub bool_number : Bool → ℕ
bool_number false = 0
bool_number true = 1

-- a boolean (4.4): the word 0 or 1
unfoldable pub truth : Grammar Bool
truth = do
  n ← tested word (λ n. nat_le n 1) BadBool at bool_number
  done (n == 1)

-- ---- bytes

-- how many bytes of padding stand behind n bytes
abbrev pub padding : ℕ → ℕ
padding n = (4 - n % 4) % 4

pub record SpellsFixed (n : ℕ) (part bytes : List ℕ) : Type 0 where
  pub pad : List ℕ
  pub part_long : length part ≡ n
  pub pad_long : length pad ≡ padding n
  pub parts : bytes ≡ part ++ pad

-- fixed-length opaque data (4.9): n bytes and padding
unfoldable pub fixed : ℕ → Grammar (List ℕ)
fixed n = record {
  read = λ bytes. if nat_lt (length bytes) (n + padding n) then Err Short else Ok (take n bytes, drop (n + padding n) bytes);
  Spells = SpellsFixed n;
  Breaks = IsShort (n + padding n);
  Fits = λ part. length part ≡ n;
  spelling = λ part. part ++ replicate (padding n) 0;
  size = λ part. n + padding n;
}

-- variable-length opaque data (4.10): a length of at most max, and that many bytes
unfoldable pub opaque : ℕ → Grammar (List ℕ)
opaque max = do
  n ← tested word (λ n. nat_le n max) TooLong at length
  part ← fixed n at (λ part. part)
  done part

-- a string (4.11) is spelled as opaque data
abbrev pub string : ℕ → Grammar (List ℕ)
string max = opaque max
