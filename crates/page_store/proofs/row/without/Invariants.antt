use Rattle.std.proofs.Common.{◌≡◌, ◌++◌, drop}
use Rattle.page_types.specs.Obeys.{without}
use Rattle.page_store.proofs.row.without.Given as goal

abbrev pub invariant-loop-reader : goal.invariant-loop-reader
invariant-loop-reader l = l.list.items ++ without l.tid (drop l.reader-index l.readers) ≡ without l.tid l.readers
