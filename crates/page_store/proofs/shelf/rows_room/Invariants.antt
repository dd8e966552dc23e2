use Rattle.std.proofs.Common.{◌≡◌, ℕ, ◌<◌, Some, IsSome}
use Rattle.std.specs.Prelude.{slice_get}
use Rattle.std.specs.BTreeMap.{get}
use Rattle.std.specs.Ordering.{nat_cmp}
use Rattle.page_store.specs.declared.row.Change.{Change}
use Rattle.page_store.specs.Keeps.{RowsStay}
use Rattle.page_store.proofs.shelf.rows_room.Given as goal

abbrev pub invariant-loop-change : goal.invariant-loop-change
invariant-loop-change l = record {
  stay : RowsStay l.initial.rows l.rows;
  room : (k : ℕ) (c : Change) → k < l.change-index → slice_get l.changes k ≡ Some c → IsSome (get nat_cmp l.rows c.number);
}
