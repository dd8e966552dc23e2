use Rattle.std.proofs.Common.{◌≡◌, drop}
use Rattle.page_types.specs.Obeys.{own_hold}
use Rattle.page_store.specs.Keeps.{state}
use Rattle.page_store.specs.Steps.{seen}
use Rattle.page_store.proofs.look.View.is_prepared.Given as goal

abbrev pub invariant-loop-read : goal.invariant-loop-read
invariant-loop-read l =
    own_hold (state (seen l.self)) l.tid (drop l.read-index l.reads) ≡ own_hold (state (seen l.self)) l.tid l.reads
