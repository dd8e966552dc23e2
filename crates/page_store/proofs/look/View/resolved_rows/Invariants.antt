use Rattle.std.proofs.Common.{◌≡◌, map, take}
use Rattle.page_store.specs.Changes.{end_change}
use Rattle.page_store.specs.Steps.{seen}
use Rattle.page_store.proofs.look.View.resolved_rows.Given as goal

abbrev pub invariant-loop-number : goal.invariant-loop-number
invariant-loop-number l = l.rows.items ≡ map (end_change (seen l.self) l.tid l.commit) (take l.number-index l.numbers)
