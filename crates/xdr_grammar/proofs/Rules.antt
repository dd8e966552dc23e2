-- How the laws of a structure are found: `search grammar_laws`, under `unfolding` of the structure.
-- Add the laws of the structures within it, and for each tag what it was chosen by. A
-- long structure wants a depth: `search (grammar_laws, time-laws) depth 40`.
use Rattle.std.proofs.Common.{◌≡◌, ℕ, ◌≤◌, Bool, true, false, ◌&&◌, List, Option, refl}
use Rattle.std.specs.Prelude.{nat_le}
use Rattle.std.proofs.lemmas.Bool.{leb-true}
use Rattle.xdr_grammar.specs.declared.fault.XdrFault.{XdrFault}
use Rattle.xdr_grammar.specs.Grammar.{Grammar, Part, ◌>>=◌, done}
use Rattle.xdr_grammar.specs.Items.{pick}
use Rattle.xdr_grammar.specs.Choices.{either, never, in_case}
use Rattle.xdr_grammar.specs.Laws.{AllSpelled}
use Rattle.xdr_grammar.proofs.Composed.{both-laws, done-laws}
use Rattle.xdr_grammar.proofs.Items.{word-laws, hyper-laws, tested-laws, pick-laws, truth-laws, fixed-laws, opaque-laws}
use Rattle.xdr_grammar.proofs.Choices.{either-laws, never-laws, in_case-laws, optional-laws}
use Rattle.xdr_grammar.proofs.Enumerations.{enumeration-laws}
use Rattle.xdr_grammar.proofs.Entries.{entries-laws}
use Rattle.xdr_grammar.proofs.Arrays.{items-laws, array-laws}

-- ---- what each value that is spelled is

pub both-spelled : {R A : Type 0} (part : Part R A) (next : A → Grammar R) (P : R → Type 0)
    → ((a : A) (front : List ℕ) → part.grammar.Spells a front → AllSpelled (next a) P) → AllSpelled (part >>= next) P
both-spelled part next P h r bytes s = h (part.get r) s.front s.first r s.back s.second

pub done-spelled : {R : Type 0} (v : R) (P : R → Type 0) → P v → AllSpelled (done v) P
done-spelled v P h r bytes s = rw s.is h

pub either-spelled : {R : Type 0} (b : Bool) (g h : Grammar R) (P : R → Type 0) → (b ≡ true → AllSpelled g P)
    → (b ≡ false → AllSpelled h P) → AllSpelled (either b g h) P
either-spelled true g h P first second = first refl
either-spelled false g h P first second = second refl

pub never-spelled : {R : Type 0} (fault : XdrFault) (P : R → Type 0) → AllSpelled (never fault) P
never-spelled fault P r bytes s = absurd s

pub in_case-spelled : {A B : Type 0} (make : B → A) (content : A → Option B) (g : Grammar B) (P : A → Type 0)
    → ((b : B) → P (make b)) → AllSpelled (in_case make content g) P
in_case-spelled make content g P h a bytes s = rw s.made (h s.value)

both_true : (a b : Bool) → (a && b) ≡ true → (a ≡ true) × (b ≡ true)
both_true true b h = (refl, h)
both_true false b h = absurd cc

-- a number that was picked is in its range
pub picked : (low high n : ℕ) (front : List ℕ) → (pick low high).Spells n front → (low ≤ n) × (n ≤ high)
unfolding pick
picked low high n front s =
    let both = both_true (nat_le low n) (nat_le n high) s.passes in
    (leb-true low n both.0, leb-true n high both.1)

pub ruleset grammar_laws = (
  both-laws,
  done-laws,
  word-laws,
  hyper-laws,
  tested-laws,
  pick-laws,
  truth-laws,
  fixed-laws,
  opaque-laws,
  either-laws,
  never-laws,
  in_case-laws,
  optional-laws,
  enumeration-laws,
  entries-laws,
  items-laws,
  array-laws,
  both-spelled,
  done-spelled,
  either-spelled,
  never-spelled,
  in_case-spelled,
)
