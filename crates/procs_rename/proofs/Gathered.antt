-- Reads that go on, or end a check, behind others.
use Rattle.std.proofs.Common.{◌≡◌, Err}
use Rattle.nfs3_types.specs.declared.status.Status.{Status}
use Rattle.fs_rules.specs.Checks.{Check}
use Rattle.fs_rules.specs.Sound.{IsSound}
use Rattle.fs_rules.specs.Tree.{Tree}
use Rattle.pairs.specs.Told.{PairsTold, Goes}
use Rattle.fs_shows.specs.declared.halt.Halt.{Halt}
use Rattle.fs_shows.specs.declared.halt.Halt.TheVariants.{Refused, Fault}
use Rattle.fs_shows.specs.Steps.{Reads}
use Rattle.procs_object.specs.Finding.{CheckedOn}
use Rattle.procs_object.proofs.Reading.{reads-more}
use Rattle.procs_object.proofs.Gathering.{gathers, gathers-up}
use Rattle.procs_rename.specs.Seeing.{Gathers}

module _ {S W : Type 0} (told : PairsTold S W) {B Y : Type 0} where
  -- whatever goes on, the end is the same
  pub ended-so : {Z : Type 0} (old new : S) (IsSo : Y → Tree → Type 0) (IsAs : Z → Tree → Type 0) (row : Tree
      → Check B) (halt : Halt)
      → Gathers told old new IsSo row (Err halt) → Gathers told old new IsAs row (Err halt)
  ended-so old new IsSo IsAs row (Refused status) ended = ended
  ended-so old new IsSo IsAs row (Fault fault) ended = ended

  -- a check behind what was learned ends it
  pub ends-behind : {A X : Type 0} (old mid new : S) (Q Given : Tree → Type 0) (Finds : Tree → X → A → Type 0) (check : Tree
      → Check A)
      (IsSo : Y → Tree → Type 0) (row : Tree → Check B) → Goes told old mid 0 → Goes told mid new 0 → Reads told old mid IsSound Q
      → ((t : Tree) → IsSound t → Q t → Given t)
      → ((t : Tree) (status : Status) → IsSound t → Q t → check t ≡ Err status → row t ≡ Err status) → (halt : Halt)
      → CheckedOn told mid new Given Finds check (Err halt) → Gathers told old new IsSo row (Err halt)
  ends-behind old mid new Q Given Finds check IsSo row before goes reads given says (Refused status) checked =
      reads-more told old new IsSound IsSound (λ t. Q t × (check t ≡ Err status)) (λ t. row t ≡ Err status) (λ t sound. sound)
      (λ t sound learned. says t status sound learned.0 learned.1)
      (gathers told old mid new Q Given goes reads given (λ t. check t ≡ Err status) checked)
  ends-behind old mid new Q Given Finds check IsSo row before goes reads given says (Fault fault) checked =
      gathers-up told old mid new Q Given goes reads given 0 before fault checked

-- the end of a check, said in either way
pub as-checked : {S W A X Y : Type 0} (told : PairsTold S W) (old new : S) (IsSo : Y → Tree → Type 0)
    (Finds : Tree → X → A → Type 0) (check : Tree → Check A) (halt : Halt) → Gathers told old new IsSo check (Err halt)
    → CheckedOn told old new IsSound Finds check (Err halt)
as-checked told old new IsSo Finds check (Refused status) ended = ended
as-checked told old new IsSo Finds check (Fault fault) ended = ended
