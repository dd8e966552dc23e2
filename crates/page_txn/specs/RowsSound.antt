-- What a transaction over pages keeps: each written slot was read.
use Rattle.std.proofs.Common.{Option, Some, None, IsSome, refl}
use Rattle.pair_types.specs.declared.slot.Tid.{Tid}
use Rattle.pair_types.specs.PageState.{IsSound}
use Rattle.page_types.specs.Ports.{PortState}
use Rattle.page_txn.specs.declared.row.Row.{Row}
use Rattle.page_txn.specs.Rows.{Rows, content_of, written_of, row_at}
use Rattle.page_txn.specs.Causes.{state_by}

covered : (o : Option Row) → IsSome (written_of o) → IsSome (content_of o)
covered None h = h
covered (Some row) h = refl

pub state_by-sound : (own : Tid) (p : PortState) (rows : Rows) → IsSound (state_by own p rows)
state_by-sound own p rows = record {
  covers = λ s written. covered (row_at rows s) written;
  agrees = λ below told. absurd cc;
}
