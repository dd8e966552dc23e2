-- How CREATE ends of a file that is there.
use Rattle.std.proofs.Common.{◌≡◌, ℕ, ◌<◌, ◌^◌, true, false, Option, Some, None, Result, Ok, Err, refl, sym, ap, subst, arith}
use Rattle.std.specs.Prelude.{is_ok}
use Rattle.nfs3_types.specs.declared.body.Body.{Body}
use Rattle.nfs3_types.specs.declared.body.Body.TheVariants.{Create}
use Rattle.nfs3_types.specs.declared.body.CreateOk.{CreateOk}
use Rattle.nfs3_types.specs.declared.moment.Moment.{Moment}
use Rattle.nfs3_types.specs.declared.status.Status.{Status}
use Rattle.fs_rules.specs.Checks.{Check, Row}
use Rattle.fs_rules.specs.Sound.{IsSound}
use Rattle.fs_rules.specs.Tree.{Tree}
use Rattle.pairs.specs.Told.{PairsTold, Goes}
use Rattle.fs_shows.specs.declared.halt.Halt.{Halt}
use Rattle.fs_shows.specs.declared.halt.Halt.TheVariants.{Refused, Fault}
use Rattle.fs_shows.specs.Steps.{Edits, Lies, Reads}
use Rattle.fs_shows.proofs.Doing.{goes-most, goes-then}
use Rattle.procs_object.specs.Finding.{CheckedOn}
use Rattle.procs_object.specs.Performing.{Performs}
use Rattle.procs_object.proofs.Gathering.{edits-by, edit-halts-by, gathers, gathers-up, halts-by, refuses-by}
use Rattle.procs_bytes.specs.declared.stop.Stop.{Stop}
use Rattle.procs_bytes.specs.declared.stop.Stop.TheVariants.{Halted, SweepFirst}
use Rattle.procs_bytes.specs.Waiting.{PerformsOrWaits}
use Rattle.procs_bytes.proofs.HeldUp.{Resizes, held-up-by, no-wait}
use Rattle.procs_create.specs.Taking.{MayTake, TakesAs, TakesOrWaits, taken}
use Rattle.procs_create.proofs.Taken.{tree-stays}

-- a check behind reads, on which the row depends, halts
module _ {S W : Type 0} (told : PairsTold S W) (row : Tree → Row) (most : ℕ) (old mid new : S) (before : Goes told old mid 0)
    (goes : Goes told mid new 0) (Q Given : Tree → Type 0) (reads : Reads told old mid IsSound Q)
    (given : (t : Tree) → IsSound t → Q t → Given t) {A X : Type 0} (Finds : Tree → X → A → Type 0) (check : Tree → Check A) where
  whole : Goes told old new most
  whole = goes-most told old new 0 most (omega arith) (goes-then told old mid new 0 0 before goes)

  pub next-halts : ((t : Tree) → Q t → (status : Status) → check t ≡ Err status → row t ≡ Err status) → (halt : Halt)
      → CheckedOn told mid new Given Finds check (Err halt) → Performs told old new most row (Err halt)
  next-halts says (Refused status) checked =
      refuses-by told old new row (λ t. Q t × (check t ≡ Err status))
      (gathers told old mid new Q Given goes reads given (λ t. check t ≡ Err status) checked) most status whole
      (λ t sound learned. says t learned.0 status learned.1)
  next-halts says (Fault fault) up =
      halts-by told old new most row whole fault (gathers-up told old mid new Q Given goes reads given 0 before fault up)

-- the file is taken
pub takes-so : {S W : Type 0} (told : PairsTold S W) (old new : S) (id : ℕ) (size : Option ℕ) (now : Moment)
    → TakesOrWaits told old new id size now true → Edits told old new (MayTake id size) (taken id size now)
takes-so told old new id None now takes = takes
takes-so told old new id (Some s) now takes = takes

-- nothing is given, and nothing is put
pub takes-none : {S W : Type 0} (told : PairsTold S W) (s : S) (id : ℕ) (now : Moment) → TakesOrWaits told s s id None now true
takes-none told s id now = λ w t agrees lies may. subst (Lies told s w) (sym (tree-stays id now t)) lies

-- by what was learned the file is taken, or could not be, or its size waits for a sweep
module _ {S W : Type 0} (told : PairsTold S W) (row : Tree → Row) (old mid new : S) (before : Goes told old mid 0)
    (goes : Goes told mid new 4) (Q : Tree → Type 0) (reads : Reads told old mid IsSound Q) (id : ℕ) (fits : id < 2 ^ 64)
    (size : Option ℕ) (now : Moment) (ok : CreateOk) (can : (t : Tree) → IsSound t → Q t → MayTake id size t)
    (says : (t : Tree) → Q t → row t ≡ Ok (record { body = Create ok; tree = taken id size now t }))
    (resizes : (s : ℕ) → size ≡ Some s → (t : Tree) → Q t → Resizes id s (row t) t) where
  five : Goes told mid new 5
  five = goes-most told mid new 4 5 (omega arith) goes

  sweeps : (z : Option ℕ) → size ≡ z → TakesOrWaits told mid new id z now false
      → PerformsOrWaits told old new 5 row (Err (SweepFirst id))
  sweeps None is waits = absurd waits
  sweeps (Some s) is waits = held-up-by told old mid new 0 5 row Q id s fits before five reads (resizes s is) waits

  pub taking-ends : (r : Result Body Stop) → TakesAs told mid new id size now ok r → PerformsOrWaits told old new 5 row r
  taking-ends (Ok body) ends =
      let P : Body → Type 0 = λ b. PerformsOrWaits told old new 5 row (Ok b) in
      subst P (sym ends.0)
      (no-wait told old new 5 row (Ok (Create ok))
      (edits-by told old mid row Q reads new 0 5 before five (MayTake id size) can (Create ok) (taken id size now)
      (λ t sound found. says t found) ends.1))
  taking-ends (Err (SweepFirst first)) ends =
      let P : ℕ → Type 0 = λ i. PerformsOrWaits told old new 5 row (Err (SweepFirst i)) in
      subst P (sym ends.0) (sweeps size refl ends.1)
  taking-ends (Err (Halted (Refused status))) ends = absurd ends
  taking-ends (Err (Halted (Fault fault))) up =
      no-wait told old new 5 row (Err (Fault fault))
      (edit-halts-by told old mid row Q reads new 0 5 before five (MayTake id size) can (omega arith)
      (λ t sound found. ap (λ (r : Row). is_ok r) (says t found)) fault up)
