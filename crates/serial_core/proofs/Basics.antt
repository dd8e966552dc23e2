-- Options and tests, identities of transactions, and look-ups.
use Rattle.std.proofs.Common.{◌≡◌, ℕ, ◌==◌, Bool, true, false, cond, not, ◌&&◌, ◌||◌, List, [], ◌∷◌, Option, Some, None}
use Rattle.std.proofs.Common.{refl, arith, inl, inr, ◌⊎◌, IsSome}
use Rattle.std.proofs.lemmas.Bool.Decides.{nat_tests}
use Rattle.std.specs.List.{list_any}
use Rattle.pair_types.specs.declared.slot.Tid.{Tid}
use Rattle.page_types.specs.declared.command.Command.{Command}
use Rattle.page_types.specs.declared.journal.JEntry.{JEntry}
use Rattle.page_types.specs.Accesses.{is_same}
use Rattle.page_types.specs.Asked.{first_of, found}

-- ## Options

pub first_none : {A : Type 0} (x y : Option A) → first_of x y ≡ None → (x ≡ None) × (y ≡ None)
first_none None y h = (refl, h)
first_none (Some x) y h = absurd cc

pub first_end : {A : Type 0} (o : Option A) → first_of o None ≡ o
first_end None = refl
first_end (Some x) = refl

pub some_of : {A : Type 0} (o : Option A) → IsSome o → (v : A) × (o ≡ Some v)
some_of None h = absurd cc
some_of (Some v) h = (v, refl)

pub is_some_by : {A : Type 0} (o : Option A) (x : A) → o ≡ Some x → IsSome o
is_some_by o x h = rw h refl

pub some_more : {A : Type 0} (x y : Option A) → ((z : A) → x ≡ Some z → y ≡ Some z) → IsSome x → IsSome y
some_more None y f h = absurd cc
some_more (Some z) y f h = rw (f z refl) refl

pub some_same : {A : Type 0} (o : Option A) (x y : A) → o ≡ Some x → o ≡ Some y → x ≡ y
some_same o x y h k = cc

pub none_some : {A : Type 0} {o : Option A} {x : A} → o ≡ None → o ≡ Some x → ⊥
none_some h k = cc

-- ## Tests

pub and_true : (a b : Bool) → (a && b) ≡ true → (a ≡ true) × (b ≡ true)
and_true true b h = (refl, h)
and_true false b h = absurd cc

pub and_false : (b : Bool) → (b && false) ≡ false
and_false true = refl
and_false false = refl

pub or_true : (a b : Bool) → (a || b) ≡ true → (a ≡ true) ⊎ (b ≡ true)
or_true true b h = inl refl
or_true false b h = inr h

pub or_right : (a : Bool) → (a || true) ≡ true
or_right true = refl
or_right false = refl

pub or_false : (a b : Bool) → (a || b) ≡ false → (a ≡ false) × (b ≡ false)
or_false true b h = absurd cc
or_false false b h = (refl, h)

pub not_both : {b : Bool} → b ≡ true → b ≡ false → ⊥
not_both h k = cc

pub not_true : (b : Bool) → not b ≡ true → b ≡ false
not_true true h = absurd cc
not_true false h = refl

pub cond_some : {A : Type 0} (b : Bool) (x y : A) → cond b (Some x) None ≡ Some y → (b ≡ true) × (x ≡ y)
cond_some true x y h = (refl, cc)
cond_some false x y h = absurd cc

pub cond_none : {A : Type 0} (b : Bool) (x : A) → cond b (Some x) None ≡ None → b ≡ false
cond_none true x h = absurd cc
cond_none false x h = refl

pub eq_true : (p q : ℕ) → (p == q) ≡ true → p ≡ q
eq_true p q h = grind (arith, nat_tests)

pub eq_self : (p : ℕ) → (p == p) ≡ true
eq_self p = grind (arith, nat_tests)

pub eq_not : (p q : ℕ) → (p ≡ q → ⊥) → (p == q) ≡ false
eq_not p q ne = grind (arith, nat_tests)

pub same_true : (s t : Tid) → is_same s t ≡ true → s ≡ t
same_true s t h =
    let b = and_true (s.pass == t.pass) (s.serial == t.serial) h in
    let p = eq_true s.pass t.pass b.0 in
    let q = eq_true s.serial t.serial b.1 in
    λ i. record { pass = p i; serial = q i }

pub same_self : (t : Tid) → is_same t t ≡ true
same_self t = rw (eq_self t.pass, eq_self t.serial) refl

-- ## Journals

-- what was found in a journal is found in a longer one
pub found_more : {A : Type 0} (f : ℕ → Command → Option A) (es : List JEntry) (e : JEntry) (x : A) → found f es ≡ Some x →
    found f (e ∷ es) ≡ Some x
found_more f es e x h = rw h refl

pub any_more : (f : JEntry → Bool) (es : List JEntry) (e : JEntry) → list_any f es ≡ true → list_any f (e ∷ es) ≡ true
any_more f es e h = rw h (or_right (f e))

pub any_cases : (f : JEntry → Bool) (es : List JEntry) (e : JEntry) → list_any f (e ∷ es) ≡ true →
    (list_any f es ≡ true) ⊎ (f e ≡ true)
any_cases f es e h = elim (or_true (f e) (list_any f es) h) [ inl a ↦ inr a | inr b ↦ inl b ]

pub any_imp : (f g : JEntry → Bool) → ((e : JEntry) → f e ≡ true → g e ≡ true) → (es : List JEntry) →
    list_any f es ≡ true → list_any g es ≡ true
any_imp f g imp [] h = h
any_imp f g imp (e ∷ es) h = elim (or_true (f e) (list_any f es) h) [
  | inl a ↦ rw (imp e a) refl
  | inr b ↦ rw (any_imp f g imp es b) (or_right (g e))
]
