-- Lists.
use Rattle.std.proofs.Common.{◌≡◌, ◌≢◌, ℕ, zero, suc, ◌<◌, List, [], ◌∷◌, ◌++◌, length, Option, Some, None, slice_get, refl}
use Rattle.std.proofs.Common.{ap, sym, ◌∙◌, arith}
use Rattle.std.specs.Prelude.{reverse, ◌==◌, false}
use Rattle.std.proofs.lemmas.Bool.Decides.{nat_tests}
use Rattle.std.proofs.Math.ListN.{set}
use Rattle.std.proofs.lemmas.List.{reverse-append, reverse-reverse}

pub reverse_push : {A : Type 0} (xs : List A) (x : A) → reverse (xs ++ x ∷ []) ≡ x ∷ reverse xs
reverse_push xs x = reverse-append xs (x ∷ [])

pub reverse_cons : {A : Type 0} (x : A) (xs : List A) → reverse (x ∷ xs) ≡ reverse xs ++ x ∷ []
reverse_cons x xs = reverse-append (x ∷ []) xs

pub same_reversed : {A : Type 0} (xs ys : List A) → reverse xs ≡ reverse ys → xs ≡ ys
same_reversed xs ys e = sym (reverse-reverse xs) ∙ (ap reverse e ∙ reverse-reverse ys)

pub set_here : {A : Type 0} (xs : List A) (i : ℕ) (x : A) → i < length xs → slice_get (set xs i x) i ≡ Some x
set_here [] i x l = absurd (omega arith)
set_here (y ∷ xs) zero x l = refl
set_here (y ∷ xs) (suc i) x l = set_here xs i x (omega arith)

pub set_elsewhere : {A : Type 0} (xs : List A) (i k : ℕ) (x : A) → i ≢ k → slice_get (set xs i x) k ≡ slice_get xs k
set_elsewhere [] i k x ne = refl
set_elsewhere (y ∷ xs) zero zero x ne = absurd (ne refl)
set_elsewhere (y ∷ xs) zero (suc k) x ne = refl
set_elsewhere (y ∷ xs) (suc i) zero x ne = refl
set_elsewhere (y ∷ xs) (suc i) (suc k) x ne = set_elsewhere xs i k x (λ e. ne (ap suc e))

pub push_last : {A : Type 0} (xs : List A) (x : A) → slice_get (xs ++ x ∷ []) (length xs) ≡ Some x
push_last [] x = refl
push_last (y ∷ xs) x = push_last xs x

pub push_other : {A : Type 0} (xs : List A) (x : A) (k : ℕ) → (k == length xs) ≡ false →
    slice_get (xs ++ x ∷ []) k ≡ slice_get xs k
push_other [] x zero ne = absurd (grind (arith, nat_tests, ne))
push_other [] x (suc k) ne = refl
push_other (y ∷ xs) x zero ne = refl
push_other (y ∷ xs) x (suc k) ne = push_other xs x k (grind (arith, nat_tests, ne))
