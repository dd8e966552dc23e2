use Rattle.pairs.specs.declared.at.At.TheVariants.{Live}
use Rattle.fs_shows.specs.Views.{IsKept, IsThere}
use Rattle.fs_shows.proofs.Doing.{up-given}
use Rattle.inode_ops.proofs.Loading.{live-reads, live-odd}
use Rattle.inode_ops.proofs.inodes.load_live.Goals as goal

pub returns-in-Err-clause-fault : goal.returns-in-Err-clause-fault
returns-in-Err-clause-fault g c =
    up-given g.P.Pairs.told c.args.pairs.now c.load.new.pairs (IsThere c.args.id) (IsKept Live)
    (λ t there. tt) c.in-Err.fault c.in-Err.ensures.fault

pub returns-in-Some-clause-ok : goal.returns-in-Some-clause-ok
returns-in-Some-clause-ok g c =
    live-reads g.P.Pairs.told c.args.pairs.now c.load.new.pairs c.args.id c.in-Ok.found c.in-Some.inode c.in-Some.is
    c.in-Ok.ensures.ok

pub returns-in-Some-clause-record : goal.returns-in-Some-clause-record
returns-in-Some-clause-record g c = rw c.in-Some.is at c.in-Ok.ensures.record

pub returns-in-Some-clause-short : goal.returns-in-Some-clause-short
returns-in-Some-clause-short g c = rw c.in-Some.is at c.in-Ok.ensures.short

pub returns-in-None-clause-fault : goal.returns-in-None-clause-fault
returns-in-None-clause-fault g c =
    live-odd g.P.Pairs.told c.args.pairs.now c.load.new.pairs c.args.id c.in-Ok.found c.in-None.is c.in-Ok.ensures.ok
