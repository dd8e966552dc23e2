-- The directory of a name, by what its handle leads to.
use Rattle.std.proofs.Common.{◌≡◌, ◌∙◌, List, ℕ, Ok, Err, ap}
use Rattle.nfs3_types.specs.declared.status.Status.{Status}
use Rattle.fs_rules.specs.Checks.{Check, ◌>>=◌, find_object, find_directory, need_place_for}
use Rattle.fs_rules.specs.Places.{Object}
use Rattle.fs_rules.specs.Sound.{IsSound}
use Rattle.fs_rules.specs.Tree.{Tree}
use Rattle.pairs.specs.Told.{PairsTold}
use Rattle.fs_shows.specs.declared.halt.Halt.{Halt}
use Rattle.fs_shows.specs.declared.halt.Halt.TheVariants.{Refused, Fault}
use Rattle.procs_object.specs.Finding.{IsObject, CheckedOn}
use Rattle.procs_object.proofs.Reading.{reads-more}

module _ (t : Tree) (handle name : List ℕ) where
  abbrev place-told : Object → Check Object
  place-told o = need_place_for o name >>= (λ _. Ok o)

  pub directory-refused : (status : Status) → find_object t handle ≡ Err status
      → find_directory t (record { directory = handle; name = name }) ≡ Err status
  unfolding find_directory
  directory-refused status refused = ap (λ (c : Check Object). c >>= place-told) refused

  pub directory-looked : (o : Object) (r : Check (Unit {0})) → find_object t handle ≡ Ok o → need_place_for o name ≡ r
      → find_directory t (record { directory = handle; name = name }) ≡ (r >>= (λ _. Ok o))
  unfolding find_directory
  directory-looked o r found is =
      ap (λ (c : Check Object). c >>= place-told) found ∙ ap (λ (c : Check (Unit {0})). c >>= (λ _. Ok o)) is

-- the handle ended it
pub halted-behind : {S W : Type 0} (told : PairsTold S W) (old new : S) (handle name : List ℕ) (halt : Halt)
    → CheckedOn told old new IsSound IsObject (λ t. find_object t handle) (Err halt)
    → CheckedOn told old new IsSound IsObject (λ t. find_directory t (record { directory = handle; name = name })) (Err halt)
halted-behind told old new handle name (Refused status) checked =
    reads-more told old new IsSound IsSound (λ t. find_object t handle ≡ Err status)
    (λ t. find_directory t (record { directory = handle; name = name }) ≡ Err status) (λ t sound. sound)
    (λ t sound refused. directory-refused t handle name status refused) checked
halted-behind told old new handle name (Fault fault) up = up
