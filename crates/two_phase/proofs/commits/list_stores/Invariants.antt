use Rattle.std.proofs.Common.{◌≡◌, ◌++◌, drop}
use Rattle.two_phase.specs.Parts.{stores_of}
use Rattle.two_phase.proofs.commits.list_stores.Given as goal

abbrev pub invariant-loop-part : goal.invariant-loop-part
invariant-loop-part l = l.stores.items ++ stores_of (drop l.part-index l.parts) ≡ stores_of l.parts
