-- What a step of a reading says about its parts.
use Rattle.std.proofs.Common.{◌≡◌, ℕ, zero, suc, Bool, true, false, ◌⊎◌, List, [], ◌∷◌, ◌++◌, Result, Ok, Err, refl, inl, inr}
use Rattle.std.proofs.Common.{append_assoc, arith}
use Rattle.std.specs.Prelude.{if◌then◌else◌}
use Rattle.std.specs.List.{All}
use Rattle.xdr_grammar.specs.declared.fault.XdrFault.{XdrFault}
use Rattle.xdr_grammar.specs.Grammar.{and_then}
use Rattle.xdr_grammar.specs.Laws.{AreBytes}

-- a reading that did not fail, step by step
pub and_then-ok : {A B : Type 0} (r : Result A XdrFault) (f : A → Result B XdrFault) (y : B) → and_then r f ≡ Ok y → (x : A)
    × (r ≡ Ok x) × (f x ≡ Ok y)
and_then-ok (Ok x) f y e = (x, refl, e)
and_then-ok (Err d) f y e = absurd cc

-- a reading that failed, in its first step or behind it
pub and_then-err : {A B : Type 0} (r : Result A XdrFault) (f : A → Result B XdrFault) (d : XdrFault) → and_then r f ≡ Err d
    → (r ≡ Err d) ⊎ ((x : A) × (r ≡ Ok x) × (f x ≡ Err d))
and_then-err (Ok x) f d e = inr (x, refl, e)
and_then-err (Err c) f d e = inl (cc)

-- what a reading that cannot fail gives
abbrev gives : {A : Type 0} → A → Result A XdrFault
gives x = Ok x

pub ok_is : {A : Type 0} (x y : A) → gives x ≡ gives y → x ≡ y
ok_is x y e = cc

-- a test that refuses where it holds
pub refused_not : {A : Type 0} (b : Bool) (d : XdrFault) (x y : A) → (if b then Err d else Ok x) ≡ Ok y → (b ≡ false) × (x ≡ y)
refused_not true d x y e = absurd cc
refused_not false d x y e = (refl, cc)

pub refused : {A : Type 0} (b : Bool) (d c : XdrFault) (x : A) → (if b then Err d else Ok x) ≡ Err c → (b ≡ true) × (c ≡ d)
refused true d c x e = (refl, cc)
refused false d c x e = absurd cc

-- a test that passes where it holds
pub passed : {A : Type 0} (b : Bool) (d : XdrFault) (x y : A) → (if b then Ok x else Err d) ≡ Ok y → (b ≡ true) × (x ≡ y)
passed true d x y e = (refl, cc)
passed false d x y e = absurd cc

pub passed_not : {A : Type 0} (b : Bool) (d c : XdrFault) (x : A) → (if b then Ok x else Err d) ≡ Err c → (b ≡ false) × (c ≡ d)
passed_not true d c x e = absurd cc
passed_not false d c x e = (refl, cc)

-- bytes in two parts
pub AreBytes-front : (a b : List ℕ) → AreBytes (a ++ b) → AreBytes a
AreBytes-front [] b h i = omega arith
AreBytes-front (x ∷ a) b h zero = h zero
AreBytes-front (x ∷ a) b h (suc i) = AreBytes-front a b (λ j. h (suc j)) i

pub AreBytes-back : (a b : List ℕ) → AreBytes (a ++ b) → AreBytes b
AreBytes-back [] b h = h
AreBytes-back (x ∷ a) b h = AreBytes-back a b (λ j. h (suc j))

-- three fronts taken off a text, one behind another
pub fronts : (bytes a after b others c rest : List ℕ) → bytes ≡ a ++ after → after ≡ b ++ others → others ≡ c ++ rest
    → bytes ≡ (a ++ (b ++ c)) ++ rest
fronts bytes a after b others c rest p q r = rw (p, q, r, append_assoc a (b ++ c) rest, append_assoc b c rest) refl

-- three fronts of a text before the rest
pub before_rest : (bytes a b c rest : List ℕ) → bytes ≡ a ++ (b ++ c) → bytes ++ rest ≡ a ++ (b ++ (c ++ rest))
before_rest bytes a b c rest p = rw (p, append_assoc a (b ++ c) rest, append_assoc b c rest) refl

-- what holds of each element of a list, one after another
pub All-first : {A : Type 0} (P : A → Type 0) (x : A) (xs : List A) → All P (x ∷ xs) → P x
All-first P x xs h = h 0 x (omega arith)

pub All-others : {A : Type 0} (P : A → Type 0) (x : A) (xs : List A) → All P (x ∷ xs) → All P xs
All-others P x xs h k d lt = h (suc k) d (omega arith)
