-- Options, tests and identities of transactions.
use Rattle.std.proofs.Common.{◌≡◌, ℕ, ◌==◌, Bool, true, false, ◌||◌, List, [], ◌∷◌, ◌++◌, Option, Some}
use Rattle.std.proofs.Common.{None, refl, arith, ap}
use Rattle.std.proofs.lemmas.Bool.Decides.{nat_tests}
use Rattle.std.specs.List.{list_any}
use Rattle.pair_types.specs.declared.slot.Tid.{Tid}
use Rattle.page_types.specs.declared.journal.JEntry.{JEntry}
use Rattle.page_types.specs.Accesses.{is_same}
use Rattle.page_types.specs.Asked.{first_of}
use Rattle.page_types.specs.Fair.{IsAgain}

pub first_end : {A : Type 0} (o : Option A) → first_of o None ≡ o
first_end None = refl
first_end (Some x) = refl

pub again_more : {A : Type 0} (o : Option A) (x : A) → IsAgain o x → IsAgain (first_of o (Some x)) x
again_more None x s = refl
again_more (Some y) x s = s

pub or_right : (a : Bool) → (a || true) ≡ true
or_right true = refl
or_right false = refl

pub or_false : (a b : Bool) → (a || b) ≡ false → (a ≡ false) × (b ≡ false)
or_false true b h = absurd cc
or_false false b h = (refl, h)

pub eq_self : (p : ℕ) → (p == p) ≡ true
eq_self p = grind (arith, nat_tests)

pub eq_true : (p q : ℕ) → (p == q) ≡ true → p ≡ q
eq_true p q h = grind (arith, nat_tests)

pub same_self : (t : Tid) → is_same t t ≡ true
same_self t = rw (eq_self t.pass, eq_self t.serial) refl

pub any_more : (f : JEntry → Bool) (es : List JEntry) (e : JEntry) → list_any f es ≡ true → list_any f (e ∷ es) ≡ true
any_more f es e h = rw h (or_right (f e))

pub join_assoc : {A : Type 0} (xs ys zs : List A) → (xs ++ ys) ++ zs ≡ xs ++ (ys ++ zs)
join_assoc [] ys zs = refl
join_assoc (x ∷ xs) ys zs = ap (λ l. x ∷ l) (join_assoc xs ys zs)

pub any_join : {A : Type 0} (f : A → Bool) (xs ys : List A) → list_any f (xs ++ ys) ≡ false →
    (list_any f xs ≡ false) × (list_any f ys ≡ false)
any_join f [] ys h = (refl, h)
any_join f (x ∷ xs) ys h =
    let a = or_false (f x) (list_any f (xs ++ ys)) h in
    let b = any_join f xs ys a.1 in
    (rw (a.0, b.0) refl, b.1)
