-- How procedures end that look at what a handle leads to.
use Rattle.std.proofs.Common.{◌≡◌, ℕ, ◌+◌, ◌≤◌, ap, Ok, Err}
use Rattle.std.specs.Prelude.{is_ok}
use Rattle.nfs3_types.specs.declared.body.Body.{Body}
use Rattle.nfs3_types.specs.declared.status.Status.{Status}
use Rattle.fs_rules.specs.Checks.{Check, Row}
use Rattle.fs_rules.specs.Places.{Object}
use Rattle.fs_rules.specs.Sound.{IsSound}
use Rattle.fs_rules.specs.Tree.{Tree}
use Rattle.pair_types.specs.declared.fault.PairFault.{PairFault}
use Rattle.pairs.specs.Told.{PairsTold, Goes}
use Rattle.fs_shows.specs.declared.halt.Halt.{Halt}
use Rattle.fs_shows.specs.declared.halt.Halt.TheVariants.{Refused, Fault}
use Rattle.fs_shows.specs.Steps.{Edits, EditGivesUp}
use Rattle.procs_object.specs.declared.object.Found.{Found}
use Rattle.procs_object.specs.Finding.{IsObject, CheckedOn}
use Rattle.procs_object.specs.Performing.{Performs}
use Rattle.procs_object.proofs.Gathering.{halts-by, refuses-by, tells-by, edits-by, edit-halts-by}

-- what the look-up learned
abbrev IsFound : Found → (Tree → Check Object) → Tree → Type 0
IsFound x check t = (o : Object) × (check t ≡ Ok o) × IsObject t x o

module _ {S W : Type 0} (told : PairsTold S W) (old new : S) (check : Tree → Check Object) (row : Tree → Row) where
  -- the look-up ended it
  pub halts : (most : ℕ) → Goes told old new most → ((t : Tree) (status : Status) → check t ≡ Err status → row t ≡ Err status)
      → (halt : Halt) → CheckedOn told old new IsSound IsObject check (Err halt) → Performs told old new most row (Err halt)
  halts most goes says (Refused status) checked =
      refuses-by told old new row (λ t. check t ≡ Err status) checked most status goes (λ t sound refused. says t status refused)
  halts most goes says (Fault fault) up = halts-by told old new most row goes fault up

  module _ (x : Found) (checked : CheckedOn told old new IsSound IsObject check (Ok x)) where
    -- a later check refuses what was found
    pub refuses : (most : ℕ) (status : Status) → Goes told old new most
        → ((t : Tree) (o : Object) → check t ≡ Ok o → IsObject t x o → row t ≡ Err status)
        → Performs told old new most row (Err (Refused status))
    refuses most status goes says =
        refuses-by told old new row (IsFound x check) checked most status goes (λ t sound found. says t found.0 found.1 found.2)

    -- it is told of what was found, and the tree stays
    pub tells : (most : ℕ) (body : Body) → Goes told old new most
        → ((t : Tree) (o : Object) → check t ≡ Ok o → IsObject t x o → row t ≡ Ok (record { body = body; tree = t }))
        → Performs told old new most row (Ok body)
    tells most body goes says =
        tells-by told old new row (IsFound x check) checked most body goes (λ t sound found. says t found.0 found.1 found.2)

-- an edit behind the look-up
module _ {S W : Type 0} (told : PairsTold S W) (old mid new : S) (check : Tree → Check Object) (row : Tree → Row) (m n : ℕ)
    (before : Goes told old mid m) (goes : Goes told mid new n) (x : Found)
    (checked : CheckedOn told old mid IsSound IsObject check (Ok x))
    (Then : Tree → Type 0) (body : Body) (edit : Tree → Tree)
    (then : (t : Tree) (o : Object) → check t ≡ Ok o → IsObject t x o → Then t)
    (says : (t : Tree) (o : Object) → check t ≡ Ok o → IsObject t x o → row t ≡ Ok (record { body = body; tree = edit t })) where
  pub edits : Edits told mid new Then edit → Performs told old new (m + n) row (Ok body)
  edits edited =
      edits-by told old mid row (IsFound x check) checked new m n before goes Then
      (λ t sound found. then t found.0 found.1 found.2)
      body edit (λ t sound found. says t found.0 found.1 found.2) edited

  pub edit-halts : 1 ≤ m + n → (fault : PairFault) → EditGivesUp told mid new Then fault
      → Performs told old new (m + n) row (Err (Fault fault))
  edit-halts some fault up =
      edit-halts-by told old mid row (IsFound x check) checked new m n before goes Then
      (λ t sound found. then t found.0 found.1 found.2) some
      (λ t sound found. ap (λ (r : Row). is_ok r) (says t found.0 found.1 found.2)) fault up
