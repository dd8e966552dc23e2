use Rattle.std.proofs.Common.{◌≡◌, ◌≤◌, drop, length}
use Rattle.std.specs.Prelude.{option_copied}
use Rattle.page_types.specs.Obeys.{other_reader}
use Rattle.page_store.proofs.holds.other_reader.Given as goal

abbrev pub invariant-loop-i : goal.invariant-loop-i
invariant-loop-i l = record {
  within : l.i ≤ length l.readers;
  least : option_copied l.least ≡ other_reader l.tid
      (drop l.i l.readers);
}

abbrev pub decreases-loop-i : goal.decreases-loop-i
decreases-loop-i l = l.i
