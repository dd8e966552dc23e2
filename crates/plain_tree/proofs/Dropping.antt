-- Dropping snapshots.
use Rattle.std.proofs.Common.{◌≡◌, ◌≤◌, Bool, true, false, cond, List, [], ◌∷◌, length, filter, map, ap, arith, refl, subst, sym}
use Rattle.std.proofs.lemmas.List.Sums.{count_by-le-length, length-filter}

kept : {A B : Type 0} (f : A → B) (b : Bool) (x : A) (xs : List A) (ys : List B) → map f xs ≡ ys
    → map f (cond b (x ∷ xs) xs) ≡ cond b (f x ∷ ys) ys
kept f true x xs ys same = ap (λ zs. f x ∷ zs) same
kept f false x xs ys same = same

-- what is kept of a list is kept of what the list is seen as
pub kept_seen : {A B : Type 0} (f : A → B) (p : B → Bool) (xs : List A) → map f (filter (λ x. p (f x)) xs) ≡ filter p (map f xs)
kept_seen f p [] = refl
kept_seen f p (x ∷ xs) = kept f (p (f x)) x (filter (λ x. p (f x)) xs) (filter p (map f xs)) (kept_seen f p xs)

-- what is kept of a list is no longer than the list
pub fewer : {A : Type 0} (p : A → Bool) (xs left : List A) → left ≡ filter p xs → length left ≤ length xs
fewer p xs left is = subst (λ ys. length ys ≤ length xs) (sym is) (omega (arith, length-filter p xs, count_by-le-length p xs))
