use Rattle.std.proofs.Common.{◌≡◌, drop}
use Rattle.page_types.specs.Obeys.{conflict}
use Rattle.page_store.specs.Keeps.{state}
use Rattle.page_store.specs.Steps.{seen}
use Rattle.page_store.proofs.look.View.conflict.Given as goal

abbrev pub invariant-loop-read : goal.invariant-loop-read
invariant-loop-read l = conflict (state (seen l.self)) (drop l.read-index l.reads) ≡ conflict (state (seen l.self)) l.reads
