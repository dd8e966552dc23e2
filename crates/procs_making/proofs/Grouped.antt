-- Checks one after another, grouped in another way.
use Rattle.std.proofs.Common.{◌≡◌, ◌∙◌, Bool, true, false, ◌||◌, Ok, Err, refl, sym}
use Rattle.std.specs.Prelude.{option_map, is_some, Option, Some, None}
use Rattle.nfs3_types.specs.declared.status.Status.{Status}
use Rattle.fs_rules.specs.Checks.{Check, ◌>>=◌, refuse_if}

pub checked-behind : {A B C : Type 0} (c : Check A) (f : A → Check B) (g : B → Check C)
    → ((c >>= f) >>= g) ≡ (c >>= (λ a. f a >>= g))
checked-behind (Ok a) f g = refl
checked-behind (Err status) f g = refl

-- three of them
pub three-behind : {C : Type 0} (one two three : Check (Unit {0})) (g : Unit {0} → Check C)
    → (one >>= (λ _. two >>= (λ _. three >>= g))) ≡ ((one >>= (λ _. two >>= (λ _. three))) >>= g)
three-behind (Ok u) (Ok v) three g = refl
three-behind (Ok u) (Err status) three g = refl
three-behind (Err status) two three g = refl

-- what is found passes a check first, and stays
pub found-then : {A B : Type 0} (c : Check A) (check : A → Check (Unit {0})) (steps rest : A → Check B)
    → ((a : A) → steps a ≡ (check a >>= (λ u. rest a)))
    → (c >>= steps) ≡ ((c >>= (λ a. check a >>= (λ u. Ok a))) >>= rest)
found-then (Ok a) check steps rest same = same a ∙ sym (checked-behind (check a) (λ u. Ok a) rest)
found-then (Err status) check steps rest same = refl

pub mapped-some : {A B : Type 0} (f : A → B) (o : Option A) → is_some (option_map f o) ≡ is_some o
mapped-some f (Some a) = refl
mapped-some f None = refl

-- the tests of a name that is there without an entry, and of one that has an entry
pub grouped : {B : Type 0} (search : Check (Unit {0})) (status : Status) (one two : Bool) (write : Check (Unit {0}))
    (more : Check B) → (search >>= (λ _. (refuse_if (one || two) status >>= (λ _. write)) >>= (λ _. more)))
    ≡ ((search >>= (λ _. refuse_if one status)) >>= (λ _. (refuse_if two status >>= (λ _. write)) >>= (λ _. more)))
grouped (Err e) status one two write more = refl
grouped (Ok u) status true two write more = refl
grouped (Ok u) status false two write more = refl

-- where the test of an entry did not refuse, there is none
pub is-free : {A B : Type 0} (entry : Option A) (status : Status) (write : Check (Unit {0})) (more : Unit {0} → Check B) (b : B)
    → ((refuse_if (is_some entry) status >>= (λ _. write)) >>= more) ≡ Ok b → entry ≡ None
is-free (Some e) status write more b is = absurd (cc)
is-free None status write more b is = refl
