-- Checks that end early: a first one, and one behind reads.
use Rattle.std.proofs.Common.{◌≡◌, ℕ, List, Result, Ok, Err, subst}
use Rattle.nfs3_types.specs.declared.status.Status.{Status}
use Rattle.fs_rules.specs.Checks.{Check, Row, find_object}
use Rattle.fs_rules.specs.Places.{Object}
use Rattle.fs_rules.specs.Sound.{IsSound}
use Rattle.fs_rules.specs.Tree.{Tree}
use Rattle.pairs.specs.Told.{PairsTold, Goes}
use Rattle.fs_shows.specs.declared.halt.Halt.{Halt}
use Rattle.fs_shows.specs.declared.halt.Halt.TheVariants.{Refused, Fault}
use Rattle.fs_shows.specs.Steps.{Reads}
use Rattle.procs_object.specs.declared.object.Begun.{Begun}
use Rattle.procs_object.specs.Finding.{CheckedOn, IsBegun}
use Rattle.procs_object.specs.Performing.{Performs}
use Rattle.procs_object.proofs.Gathering.{gathers, gathers-up, halts-by, refuses-by}
use Rattle.procs_object.proofs.Reading.{reads-more}
use Rattle.procs_object.proofs.Snapshots.{has-found}
use Rattle.procs_names.specs.Naming.{IsReady}

-- what a handle leads to, as it was found by the first record
abbrev pub IsBegunAt : List ℕ → Begun → Tree → Type 0
IsBegunAt handle x t = (o : Object) × (find_object t handle ≡ Ok o) × IsBegun t x o

-- where it was found, names can be looked up
pub begun-ready : (t : Tree) (x : Begun) (o : Object) → IsSound t → IsBegun t x o → IsReady x.begins x.found.place t
begun-ready t x o sound is = record {
  begins = record { sound = sound; first = is.first };
  there = has-found t x.found o sound is.object;
}

module _ {S W : Type 0} (told : PairsTold S W) where
  module _ {A X B Y : Type 0} (Finds : Tree → X → A → Type 0) (Gives : Tree → Y → B → Type 0) (check : Tree → Check A)
      (whole : Tree → Check B) where
    -- a check ended the whole
    pub check-halted : (old new : S) (Given : Tree → Type 0)
        → ((t : Tree) (status : Status) → check t ≡ Err status → whole t ≡ Err status)
        → (halt : Halt) → CheckedOn told old new Given Finds check (Err halt) → CheckedOn told old new Given Gives whole
        (Err halt)
    check-halted old new Given says (Refused status) checked =
        reads-more told old new Given Given (λ t. check t ≡ Err status) (λ t. whole t ≡ Err status) (λ t given. given)
        (λ t given refused. says t status refused) checked
    check-halted old new Given says (Fault fault) up = up

    -- a check behind reads did
    pub check-behind : (old mid new : S) (m : ℕ) (Q Given : Tree → Type 0) → Goes told old mid m → Goes told mid new 0
        → Reads told old mid IsSound Q → ((t : Tree) → IsSound t → Q t → Given t)
        → ((t : Tree) (status : Status) → Q t → check t ≡ Err status → whole t ≡ Err status)
        → (halt : Halt) → CheckedOn told mid new Given Finds check (Err halt) → CheckedOn told old new IsSound Gives whole
        (Err halt)
    check-behind old mid new m Q Given before goes reads given says (Refused status) checked =
        reads-more told old new IsSound IsSound (λ t. Q t × (check t ≡ Err status)) (λ t. whole t ≡ Err status) (λ t sound. sound)
        (λ t sound known. says t status known.0 known.1)
        (gathers told old mid new Q Given goes reads given (λ t. check t ≡ Err status) checked)
    check-behind old mid new m Q Given before goes reads given says (Fault fault) up =
        gathers-up told old mid new Q Given goes reads given m before fault up

  -- a check of equal arguments
  pub checked-as : {I A X : Type 0} {i j : I} (old new : S) (Given : Tree → Type 0) (Finds : Tree → X → A → Type 0)
      (check : I → Tree → Check A) (r : Result X Halt) → i ≡ j → CheckedOn told old new Given Finds (check i) r
      → CheckedOn told old new Given Finds (check j) r
  checked-as old new Given Finds check r same checked = subst (λ i. CheckedOn told old new Given Finds (check i) r) same checked

  pub checked-at : {I J A X : Type 0} {i k : I} {j l : J} (old new : S) (Given : Tree → Type 0) (Finds : Tree → X → A → Type 0)
      (check : I → J → Tree → Check A) (r : Result X Halt) → i ≡ k → j ≡ l → CheckedOn told old new Given Finds (check i j) r
      → CheckedOn told old new Given Finds (check k l) r
  checked-at {i = i} {l = l} old new Given Finds check r one other checked =
      checked-as old new Given Finds (λ i t. check i l t) r one
      (checked-as old new Given Finds (λ j t. check i j t) r other checked)

  -- a check ended the procedure
  pub check-ends : {A X : Type 0} (old new : S) (Finds : Tree → X → A → Type 0) (check : Tree → Check A) (row : Tree → Row)
      (most : ℕ)
      → Goes told old new most → ((t : Tree) (status : Status) → check t ≡ Err status → row t ≡ Err status)
      → (halt : Halt) → CheckedOn told old new IsSound Finds check (Err halt) → Performs told old new most row (Err halt)
  check-ends old new Finds check row most goes says (Refused status) checked =
      refuses-by told old new row (λ t. check t ≡ Err status) checked most status goes (λ t sound refused. says t status refused)
  check-ends old new Finds check row most goes says (Fault fault) up = halts-by told old new most row goes fault up
