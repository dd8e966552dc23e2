use Rattle.std.proofs.lemmas.Result.{on_ok_weaker, IfErr-weaker}
use Rattle.fs_shows.specs.Files.{IsUngiven}
use Rattle.fs_shows.proofs.Doing.{up-put}
use Rattle.inode_ops.proofs.Revising.{made-edits}
use Rattle.inode_ops.proofs.nodes.make.Goals as goal

pub returns-clause-ok : goal.returns-clause-ok
returns-clause-ok g c =
    on_ok_weaker c.save.result
    (λ saves n fresh.
    made-edits g.P.Pairs.told c.args.pairs.now c.save.new.pairs c.save.new.pairs c.args.id c.ranges.id.fits c.args.inode.now
    n saves fresh)
    c.save.ensures.ok

pub returns-clause-fault : goal.returns-clause-fault
returns-clause-fault g c =
    IfErr-weaker c.save.result _ _ (up-put g.P.Pairs.told c.args.pairs.now c.save.new.pairs
    (IsUngiven c.args.id)) c.save.ensures.fault
