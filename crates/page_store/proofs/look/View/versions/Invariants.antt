use Rattle.std.proofs.Common.{◌≡◌, take}
use Rattle.page_types.specs.Obeys.{versions_of}
use Rattle.page_store.specs.Keeps.{state}
use Rattle.page_store.specs.Steps.{seen}
use Rattle.page_store.proofs.look.View.versions.Given as goal

abbrev pub invariant-loop-number : goal.invariant-loop-number
invariant-loop-number l = l.list.items ≡ versions_of (state (seen l.self)) (take l.number-index l.numbers)
