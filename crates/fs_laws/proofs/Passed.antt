-- What is known once a plan's checks have passed. Each lemma takes one check off the front, and hands on what it
-- found and what is left of the plan.
use Rattle.std.proofs.Common.{◌≡◌, Bool, true, false, not, ◌||◌, Option, Some, None, Ok, Err, refl, subst}
use Rattle.nfs3_types.specs.declared.status.Status.{Status}
use Rattle.fs_rules.specs.Attributes.{given}
use Rattle.fs_rules.specs.Checks.{Check, no_fault, refuse_if, some_or, ◌>>=◌}

-- of any check
pub next_of : {A B G : Type 0} (r : Check A) (next : A → Check B) (b : B) → (r >>= next) ≡ Ok b
    → ((a : A) → r ≡ Ok a → next a ≡ Ok b → G) → G
next_of (Ok a) next b e more = more a refl e
next_of (Err status) next b e more = absurd cc

-- of a test, of what has to be there, and of a fault
pub past : {B G : Type 0} (test : Bool) (status : Status) (next : Unit {0} → Check B) (b : B)
    → (refuse_if test status >>= next) ≡ Ok b → (test ≡ false → next tt ≡ Ok b → G) → G
past true status next b e more = absurd cc
past false status next b e more = more refl e

pub past_some : {A B G : Type 0} (o : Option A) (status : Status) (next : A → Check B) (b : B)
    → (some_or o status >>= next) ≡ Ok b → ((a : A) → o ≡ Some a → next a ≡ Ok b → G) → G
past_some (Some a) status next b e more = more a refl e
past_some None status next b e more = absurd cc

pub past_fault : {B G : Type 0} (fault : Option Status) (next : Unit {0} → Check B) (b : B) → (no_fault fault >>= next) ≡ Ok b
    → (fault ≡ None → next tt ≡ Ok b → G) → G
past_fault (Some status) next b e more = absurd cc
past_fault None next b e more = more refl e

-- the last step is a check itself
pub test_passed : (test : Bool) (status : Status) (u : Unit {0}) → refuse_if test status ≡ Ok u → test ≡ false
test_passed true status u e = absurd cc
test_passed false status u e = refl

pub some_found : {A : Type 0} (o : Option A) (status : Status) (a : A) → some_or o status ≡ Ok a → o ≡ Some a
some_found (Some x) status a e = cc
some_found None status a e = absurd cc

pub no_fault_passed : (fault : Option Status) (u : Unit {0}) → no_fault fault ≡ Ok u → fault ≡ None
no_fault_passed (Some status) u e = absurd cc
no_fault_passed None u e = refl

-- what is given at the end is the plan
pub ended : {A : Type 0} (P : A → Type 0) (given plan : A) → ◌≡◌ {A = Check A} (Ok given) (Ok plan) → P given → P plan
ended P given plan e h = let same : given ≡ plan = cc in subst P same h

-- ---- tests

pub or_false : (a b : Bool) → (a || b) ≡ false → (a ≡ false) × (b ≡ false)
or_false true b e = absurd cc
or_false false b e = (refl, e)

pub or_right : (a b : Bool) → b ≡ true → (a || b) ≡ true
or_right true b e = refl
or_right false b e = e

pub is_true : (b : Bool) → not b ≡ false → b ≡ true
is_true true e = refl
is_true false e = absurd cc
