use Rattle.std.proofs.Common.{◌≡◌, map, take}
use Rattle.page_store.specs.Changes.{write_change}
use Rattle.page_store.specs.Steps.{seen}
use Rattle.page_store.proofs.look.View.written_rows.Given as goal

abbrev pub invariant-loop-write : goal.invariant-loop-write
invariant-loop-write l = l.rows.items ≡ map (write_change (seen l.self) l.x.tid) (take l.write-index l.x.writes)
