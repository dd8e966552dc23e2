use Rattle.std.proofs.Common.{◌≡◌, drop}
use Rattle.page_types.specs.Obeys.{has_reader}
use Rattle.page_store.proofs.holds.has_reader.Given as goal

abbrev pub invariant-loop-hold : goal.invariant-loop-hold
invariant-loop-hold l = has_reader l.tid (drop l.hold-index l.readers) ≡ has_reader l.tid l.readers
