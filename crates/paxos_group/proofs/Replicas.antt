-- One of the replicas is replaced by what a message made of it.
use Rattle.std.proofs.Common.{◌≡◌, ℕ, zero, suc, ◌<◌, Bool, true, false, List, [], ◌∷◌, length, refl, sym, ◌∙◌, ap, arith}
use Rattle.std.specs.Prelude.{slice_get, slice_set, slice_index_or, Option, Some, None, Result, Ok, Err, OnOk, OnErr, IfOk}
use Rattle.std.specs.Prelude.{◌==◌}
use Rattle.std.proofs.lemmas.Bool.Decides.{nat_tests}
use Rattle.std.proofs.lemmas.List.{length-set}
use Rattle.paxos_core.specs.declared.acceptor.Acceptor.{Acceptor}
use Rattle.paxos_core.specs.declared.message.Message.{Message}
use Rattle.paxos_core.specs.Acceptor.{standing_of, replica_of}
use Rattle.paxos_core.specs.Standing.{with_message, answer}
use Rattle.paxos_group.specs.Scene.{kept_by, number_by, kept_at, number_at, moved, IsMoved, IsKept}

pub get_set_here : {X : Type 0} (xs : List X) (q : ℕ) (x y : X) → slice_get xs q ≡ Some y →
    slice_get (slice_set xs q x) q ≡ Some x
get_set_here [] q x y h = let k : None ≡ Some y = h in cc
get_set_here (z ∷ xs) zero x y h = refl
get_set_here (z ∷ xs) (suc q) x y h = get_set_here xs q x y h

pub get_set_there : {X : Type 0} (xs : List X) (q r : ℕ) (x : X) → (r ≡ q → ⊥) → slice_get (slice_set xs q x) r ≡ slice_get xs r
get_set_there [] q r x ne = refl
get_set_there (z ∷ xs) zero zero x ne = absurd (ne refl)
get_set_there (z ∷ xs) zero (suc r) x ne = refl
get_set_there (z ∷ xs) (suc q) zero x ne = refl
get_set_there (z ∷ xs) (suc q) (suc r) x ne = get_set_there xs q r x (λ e. ne (ap suc e))

pub get_of_index : {X : Type 0} (xs : List X) (q : ℕ) (x : X) → q < length xs → x ≡ slice_index_or xs q x →
    slice_get xs q ≡ Some x
get_of_index [] q x lt e = absurd (omega arith)
get_of_index (z ∷ xs) zero x lt e = ap Some (sym e)
get_of_index (z ∷ xs) (suc q) x lt e = get_of_index xs q x (omega arith) e

module _ {V : Type 0} (xs : List (Acceptor V)) (r : ℕ) (a b : Acceptor V) (m : Message V) (there : slice_get xs r ≡ Some a)
    (number : replica_of b ≡ replica_of a) where
  replaced_number : (q : ℕ) → number_at (slice_set xs r b) q ≡ number_at xs q
  replaced_number q = go (q == r) refl
    where
      go : (t : Bool) → (q == r) ≡ t → number_at (slice_set xs r b) q ≡ number_at xs q
      go true e = let same : q ≡ r = grind (arith, nat_tests) in
          ap (λ q. number_at (slice_set xs r b) q) same ∙ ap number_by (get_set_here xs r b a there) ∙ number ∙ sym
          (ap number_by there) ∙ ap (λ q. number_at xs q) (sym same)
      go false e = let other : q ≡ r → ⊥ = λ same. grind (arith, nat_tests) in ap number_by (get_set_there xs r q b other)

  pub replaced_moved : ((i : ℕ) → standing_of b i ≡ with_message (standing_of a) m i) → IsMoved xs (slice_set xs r b) r m
  replaced_moved h = record { count = length-set xs r b; numbers = replaced_number; kept = λ q i. go q i (q == r) refl }
    where
      go : (q i : ℕ) (t : Bool) → (q == r) ≡ t → kept_at (slice_set xs r b) q i ≡ moved (kept_at xs) r m q i
      go q i true e = let same : q ≡ r = grind (arith, nat_tests) in
          rw e (ap (λ q. kept_at (slice_set xs r b) q i) same ∙ ap (λ o. kept_by o i) (get_set_here xs r b a there) ∙ h i ∙ sym
          (ap (λ o. with_message (kept_by o) m i) there))
      go q i false e = let other : q ≡ r → ⊥ = λ same. grind (arith, nat_tests) in
          rw e (ap (λ o. kept_by o i) (get_set_there xs r q b other))

  pub replaced_kept : ((i : ℕ) → standing_of b i ≡ standing_of a i) → IsKept xs (slice_set xs r b)
  replaced_kept h = record { count = length-set xs r b; numbers = replaced_number; kept = λ q i. go q i (q == r) refl }
    where
      go : (q i : ℕ) (t : Bool) → (q == r) ≡ t → kept_at (slice_set xs r b) q i ≡ kept_at xs q i
      go q i true e = let same : q ≡ r = grind (arith, nat_tests) in
          ap (λ q. kept_at (slice_set xs r b) q i) same ∙ ap (λ o. kept_by o i) (get_set_here xs r b a there) ∙ h i ∙ sym
          (ap (λ o. kept_by o i) there) ∙ ap (λ q. kept_at xs q i) (sym same)
      go q i false e = let other : q ≡ r → ⊥ = λ same. grind (arith, nat_tests) in
          ap (λ o. kept_by o i) (get_set_there xs r q b other)

  pub answered : (reply : Option (Message V)) → reply ≡ answer (replica_of a) (standing_of a) m →
      reply ≡ answer (number_at xs r) (kept_at xs r) m
  answered reply e = e ∙ sym (ap (λ o. answer (number_by o) (kept_by o) m) there)

-- facts of each way to end
pub on_ok : {T E P Q : Type 0} (result : Result T E) → (P → Q) → OnOk result P → OnOk result Q
on_ok (Ok v) f h = f h
on_ok (Err e) f h = h

pub on_err : {T E P Q : Type 0} (result : Result T E) → (P → Q) → OnErr result P → OnErr result Q
on_err (Ok v) f h = h
on_err (Err e) f h = f h

pub if_ok : {T E : Type 0} {P Q : T → Type 0} (result : Result T E) → ((v : T) → P v → Q v) → IfOk result P → IfOk result Q
if_ok (Ok v) f h = f v h
if_ok (Err e) f h = h
