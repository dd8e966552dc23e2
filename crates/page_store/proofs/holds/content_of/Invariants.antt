use Rattle.std.proofs.Common.{◌≡◌, drop}
use Rattle.page_types.specs.Accesses.{written_at}
use Rattle.page_store.proofs.holds.content_of.Given as goal

abbrev pub invariant-loop-write : goal.invariant-loop-write
invariant-loop-write l = written_at (drop l.write-index l.writes) l.number ≡ written_at l.writes l.number
