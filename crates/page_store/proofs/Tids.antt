-- Numbers and transaction ids, and their tests.
use Rattle.std.proofs.Common.{◌≡◌, ℕ, Bool, true, false, cond, refl, ap, sym, ◌∙◌, arith, Option, Some, None, ◌<◌}
use Rattle.std.specs.Prelude.{◌==◌, ◌&&◌, nat_lt, if◌then◌else◌}
use Rattle.std.proofs.lemmas.Bool.Decides.{nat_tests}
use Rattle.std.specs.BTreeMap.{is_at}
use Rattle.std.specs.Ordering.{is_eq, nat_cmp, ordering_then}
use Rattle.std.specs.declared.cmp.Ordering.{Ordering}
use Rattle.std.specs.declared.cmp.Ordering.TheVariants.{Less, Equal, Greater}
use Rattle.pair_types.specs.declared.slot.Tid.{Tid}
use Rattle.page_types.specs.Accesses.{is_same}
use Rattle.page_store.specs.Keeps.{tid_cmp}

pub equal_numbers : (m n : ℕ) → (m == n) ≡ true → m ≡ n
equal_numbers m n h = grind (arith, nat_tests)

pub equal_to_self : (n : ℕ) → (n == n) ≡ true
equal_to_self n = grind (arith, nat_tests)

left_of : (a b : Bool) → (a && b) ≡ true → a ≡ true
left_of true b h = refl
left_of false b h = h

right_of : (a b : Bool) → (a && b) ≡ true → b ≡ true
right_of true b h = h
right_of false b h = cc

pub same_tids : (s t : Tid) → is_same s t ≡ true → s ≡ t
same_tids s t h =
    let pass : s.pass ≡ t.pass = equal_numbers s.pass t.pass (left_of (s.pass == t.pass) (s.serial == t.serial) h) in
    let serial : s.serial ≡ t.serial = equal_numbers s.serial t.serial (right_of (s.pass == t.pass) (s.serial == t.serial) h) in
    λ i. record { pass = pass i; serial = serial i }

is_eq_if : (b : Bool) → is_eq (cond b Equal Greater) ≡ b
is_eq_if true = refl
is_eq_if false = refl

is_eq_by : (x y : ℕ) (b : Bool) → nat_lt x y ≡ b → is_eq (cond b Less (cond (x == y) Equal Greater)) ≡ (x == y)
is_eq_by x y true h = grind (arith, nat_tests)
is_eq_by x y false h = is_eq_if (x == y)

is_eq_numbers : (x y : ℕ) → is_eq (nat_cmp x y) ≡ (x == y)
is_eq_numbers x y = is_eq_by x y (nat_lt x y) refl

is_eq_then : (o p : Ordering) → is_eq (ordering_then o p) ≡ (is_eq o && is_eq p)
is_eq_then Less p = refl
is_eq_then Equal p = refl
is_eq_then Greater p = refl

-- a transaction is found where it is the same
pub at_tid : (s t : Tid) → is_at (tid_cmp (s.pass, s.serial)) (t.pass, t.serial) ≡ is_same s t
at_tid s t =
    is_eq_then (nat_cmp s.pass t.pass) (nat_cmp s.serial t.serial) ∙
    (ap (λ b. b && is_eq (nat_cmp s.serial t.serial)) (is_eq_numbers s.pass t.pass) ∙
    ap (λ b. (s.pass == t.pass) && b) (is_eq_numbers s.serial t.serial))

pub at_number : (m n : ℕ) → is_at (nat_cmp m) n ≡ (m == n)
at_number m n = is_eq_numbers m n
