use Rattle.std.proofs.Common.{◌≡◌, ◌∙◌}
use Rattle.pairs.specs.Versions.{HasLives}
use Rattle.fs_keys.specs.Keys.{key_of}
use Rattle.fs_shows.proofs.Doing.{goes-none, memory-up}
use Rattle.inode_ops.proofs.rows.get_row.Goals as goal

pub returns-in-Ok-clause-ok : goal.returns-in-Ok-clause-ok
returns-in-Ok-clause-ok g c = let is : c.as_slice.result.now ≡ key_of c.args.parts.now = c.as_slice.ensures
    ∙ c.in-Ok.ensures in rw is at c.get_at.ensures.ok

pub returns-in-Err-clause-goes : goal.returns-in-Err-clause-goes
returns-in-Err-clause-goes g c = goes-none g.P.Pairs.told c.args.pairs.now

pub returns-in-Err-clause-fault : goal.returns-in-Err-clause-fault
returns-in-Err-clause-fault g c = memory-up g.P.Pairs.told c.args.pairs.now c.args.pairs.now HasLives c.from.result c.from.ensures
