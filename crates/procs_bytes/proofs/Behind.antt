-- The first record, and then what a handle leads to by it.
use Rattle.std.proofs.Common.{◌≡◌, ℕ, Ok, Err}
use Rattle.std.specs.Prelude.{⊤}
use Rattle.nfs3_types.specs.declared.status.Status.{Status}
use Rattle.fs_rules.specs.Checks.{Check, Row}
use Rattle.fs_rules.specs.Places.{Object}
use Rattle.fs_rules.specs.Sound.{IsSound}
use Rattle.fs_rules.specs.Tree.{Tree}
use Rattle.pairs.specs.Told.{PairsTold, Goes}
use Rattle.fs_keys.specs.declared.rows.First.{First}
use Rattle.fs_shows.specs.declared.halt.Halt.{Halt}
use Rattle.fs_shows.specs.declared.halt.Halt.TheVariants.{Refused, Fault}
use Rattle.fs_shows.specs.Shows.{first_of}
use Rattle.fs_shows.specs.Steps.{Reads}
use Rattle.procs_object.specs.declared.object.Found.{Found}
use Rattle.procs_object.specs.Finding.{Begins, IsObject, CheckedOn}
use Rattle.procs_object.specs.Performing.{Performs}
use Rattle.procs_object.proofs.Reading.{reads-more}
use Rattle.procs_object.proofs.Gathering.{gathers, gathers-up, halts-by, refuses-by}

-- what the check finds was found
abbrev pub Sees : Found → (Tree → Check Object) → Tree → Type 0
Sees x check t = (o : Object) × (check t ≡ Ok o) × IsObject t x o

-- and the first record is this one
abbrev pub SeesBy : First → Found → (Tree → Check Object) → Tree → Type 0
SeesBy row x check t = (first_of t ≡ row) × Sees x check t

module _ {S W : Type 0} (told : PairsTold S W) (old mid new : S) (row : First) (check : Tree → Check Object)
    (before : Goes told old mid 0) (goes : Goes told mid new 0) (first : Reads told old mid (λ t. ⊤) (λ t. first_of t ≡ row))
  where
    first-sound : Reads told old mid IsSound (λ t. first_of t ≡ row)
    first-sound =
        reads-more told old mid IsSound (λ t. ⊤) (λ t. first_of t ≡ row) (λ t. first_of t ≡ row) (λ t sound. tt)
        (λ t sound is. is)
        first

    begins-so : (t : Tree) → IsSound t → first_of t ≡ row → Begins row t
    begins-so t sound is = record { sound = sound; first = is }

    pub seen-reads : (x : Found) → CheckedOn told mid new (Begins row) IsObject check (Ok x)
        → Reads told old new IsSound (SeesBy row x check)
    seen-reads x then =
        gathers told old mid new (λ t. first_of t ≡ row) (Begins row) goes first-sound begins-so (Sees x check) then

    pub seen-halts : (most : ℕ) (answer : Tree → Row) → Goes told old new most
        → ((t : Tree) (status : Status) → check t ≡ Err status → answer t ≡ Err status) → (halt : Halt)
        → CheckedOn told mid new (Begins row) IsObject check (Err halt) → Performs told old new most answer (Err halt)
    seen-halts most answer all says (Refused status) then =
        refuses-by told old new answer (λ t. (first_of t ≡ row) × (check t ≡ Err status))
        (gathers told old mid new (λ t. first_of t ≡ row) (Begins row) goes first-sound begins-so
        (λ t. check t ≡ Err status) then)
        most status all (λ t sound is. says t status is.1)
    seen-halts most answer all says (Fault fault) up =
        halts-by told old new most answer all fault
        (gathers-up told old mid new (λ t. first_of t ≡ row) (Begins row) goes first-sound begins-so 0 before fault up)
