use Rattle.std.proofs.Common.{◌≡◌, drop}
use Rattle.page_types.specs.Obeys.{first_held}
use Rattle.page_store.specs.Keeps.{state}
use Rattle.page_store.specs.Steps.{seen}
use Rattle.page_store.proofs.look.View.first_held.Given as goal

abbrev pub invariant-loop-number : goal.invariant-loop-number
invariant-loop-number l =
    first_held (state (seen l.self)) (drop l.number-index l.numbers) ≡ first_held (state (seen l.self)) l.numbers
