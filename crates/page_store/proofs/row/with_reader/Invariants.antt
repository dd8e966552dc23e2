use Rattle.std.proofs.Common.{◌≡◌, ◌∷◌, take}
use Rattle.page_store.proofs.row.with_reader.Given as goal

abbrev pub invariant-loop-reader : goal.invariant-loop-reader
invariant-loop-reader l = l.list.items ≡ l.hold ∷ take l.reader-index l.readers
