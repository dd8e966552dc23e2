-- The handle says where it is called.
use Rattle.std.proofs.Common.{◌∙◌, ap, sym}
use Rattle.procs_object.specs.Finding.{says_snapshots}
use Rattle.procs_names.proofs.dropping.rmdir.Goals as goal

pub drop_named-requires : goal.drop_named-requires
drop_named-requires g c = ap says_snapshots (sym c.as_slice.ensures) ∙ sym c.says_snapshots.ensures ∙ c.if-says_snapshots.true

pub remove_named-requires : goal.remove_named-requires
remove_named-requires g c = ap says_snapshots (sym c.as_slice.ensures) ∙ sym c.says_snapshots.ensures ∙ c.if-says_snapshots.false

pub returns-then-says_snapshots : goal.returns-then-says_snapshots
returns-then-says_snapshots g c = c.drop_named.ensures

pub returns-else-says_snapshots : goal.returns-else-says_snapshots
returns-else-says_snapshots g c = c.remove_named.ensures
