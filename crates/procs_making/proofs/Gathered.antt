-- Reads of sound trees that halt, and edits of which more is given.
use Rattle.std.proofs.Common.{◌≡◌, Err}
use Rattle.nfs3_types.specs.declared.status.Status.{Status}
use Rattle.fs_rules.specs.Checks.{Check}
use Rattle.fs_rules.specs.Tree.{Tree}
use Rattle.pair_types.specs.declared.fault.PairFault.{PairFault}
use Rattle.pair_types.specs.declared.fault.PairFault.TheVariants.{Odd, HeightFull, Page}
use Rattle.pairs.specs.Told.{PairsTold}
use Rattle.fs_shows.specs.declared.halt.Halt.{Halt}
use Rattle.fs_shows.specs.declared.halt.Halt.TheVariants.{Refused, Fault}
use Rattle.fs_shows.specs.Steps.{Reads, EditGivesUp}
use Rattle.procs_object.specs.Finding.{CheckedOn}
use Rattle.procs_object.proofs.Reading.{reads-more}

module _ {S W : Type 0} (told : PairsTold S W) (old new : S) where
  -- a first check halted, and so does what follows it
  pub halted : {A B X Y : Type 0} (Given : Tree → Type 0) (Finds : Tree → X → A → Type 0) (Gives : Tree → Y → B → Type 0)
      (check : Tree → Check A) (rest : Tree → Check B)
      → ((t : Tree) (status : Status) → check t ≡ Err status → rest t ≡ Err status) → (halt : Halt)
      → CheckedOn told old new Given Finds check (Err halt) → CheckedOn told old new Given Gives rest (Err halt)
  halted Given Finds Gives check rest says (Refused status) checked =
      reads-more told old new Given Given (λ t. check t ≡ Err status) (λ t. rest t ≡ Err status) (λ t is. is)
      (λ t is refused. says t status refused) checked
  halted Given Finds Gives check rest says (Fault fault) up = up

  -- an edit of which more is given
  pub edit-given : (Given Less : Tree → Type 0) → ((t : Tree) → Given t → Less t) → (fault : PairFault)
      → EditGivesUp told old new Less fault → EditGivesUp told old new Given fault
  edit-given Given Less less Odd up = λ w t agrees lies is. up w t agrees lies (less t is)
  edit-given Given Less less HeightFull up = up
  edit-given Given Less less (Page fault) up = up
