use Rattle.std.proofs.Common.{◌≡◌, drop}
use Rattle.page_types.specs.Obeys.{busy}
use Rattle.page_store.specs.Keeps.{state}
use Rattle.page_store.specs.Steps.{seen}
use Rattle.page_store.proofs.look.View.busy.Given as goal

abbrev pub invariant-loop-read : goal.invariant-loop-read
invariant-loop-read l =
    busy (state (seen l.self)) l.tid (drop l.read-index l.reads) l.writes ≡ busy (state (seen l.self)) l.tid l.reads l.writes
