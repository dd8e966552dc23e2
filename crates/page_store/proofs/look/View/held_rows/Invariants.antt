use Rattle.std.proofs.Common.{◌≡◌, map, take}
use Rattle.page_store.specs.Changes.{hold_change}
use Rattle.page_store.specs.Steps.{seen}
use Rattle.page_store.proofs.look.View.held_rows.Given as goal

abbrev pub invariant-loop-read : goal.invariant-loop-read
invariant-loop-read l = l.rows.items ≡ map (hold_change (seen l.self) l.part) (take l.read-index l.part.reads)
