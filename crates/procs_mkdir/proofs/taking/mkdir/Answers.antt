-- The handle says where it is called.
use Rattle.std.proofs.Common.{◌∙◌, ap, sym}
use Rattle.procs_object.specs.Finding.{says_snapshots}
use Rattle.procs_mkdir.proofs.taking.mkdir.Goals as goal

pub take_named-requires : goal.take_named-requires
take_named-requires g c = ap says_snapshots (sym c.as_slice.ensures) ∙ sym c.says_snapshots.ensures ∙ c.if-says_snapshots.true

pub mkdir-requires-clause-outside : goal.mkdir-requires-clause-outside
mkdir-requires-clause-outside g c =
    ap says_snapshots (sym c.as_slice.ensures) ∙ sym c.says_snapshots.ensures ∙ c.if-says_snapshots.false

pub mkdir-requires-clause-lane : goal.mkdir-requires-clause-lane
mkdir-requires-clause-lane g c = c.requires

pub returns-then-says_snapshots : goal.returns-then-says_snapshots
returns-then-says_snapshots g c = c.take_named.ensures

pub returns-else-says_snapshots : goal.returns-else-says_snapshots
returns-else-says_snapshots g c = c.mkdir.ensures
