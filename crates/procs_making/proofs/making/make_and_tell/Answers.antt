-- What is told is made up first.
use Rattle.std.proofs.Common.{arith}
use Rattle.fs_shows.proofs.Doing.{goes-none, goes-most, up-edit, up-memory}
use Rattle.procs_making.specs.Children.{CanMake}
use Rattle.procs_making.proofs.making.make_and_tell.Goals as goal

pub returns-in-Err-clause-goes : goal.returns-in-Err-clause-goes
returns-in-Err-clause-goes g c =
    goes-most g.P.Pairs.told c.args.pairs.now c.args.pairs.now 0 5 (omega arith) (goes-none g.P.Pairs.told c.args.pairs.now)

pub returns-in-Err-clause-fault : goal.returns-in-Err-clause-fault
returns-in-Err-clause-fault g c =
    up-edit g.P.Pairs.told c.args.pairs.now c.args.pairs.now (CanMake c.args.name.now c.args.child.now) c.from.result
    (up-memory g.P.Pairs.told c.args.pairs.now c.args.pairs.now (CanMake c.args.name.now c.args.child.now) c.from.result
    c.from.ensures)

pub make_in-requires-clause-name : goal.make_in-requires-clause-name
make_in-requires-clause-name g c = c.requires.name

pub make_in-requires-clause-target : goal.make_in-requires-clause-target
make_in-requires-clause-target g c = c.requires.target

pub make_in-requires-clause-blank : goal.make_in-requires-clause-blank
make_in-requires-clause-blank g c = c.requires.blank

pub returns-in-Ok-make_in-clause-goes : goal.returns-in-Ok-make_in-clause-goes
returns-in-Ok-make_in-clause-goes g c = c.make_in.ensures.goes

pub returns-in-Ok-make_in-clause-ok : goal.returns-in-Ok-make_in-clause-ok
returns-in-Ok-make_in-clause-ok g c = c.in-Ok-make_in.ensures.ok

pub returns-in-Ok-make_in-clause-tells : goal.returns-in-Ok-make_in-clause-tells
returns-in-Ok-make_in-clause-tells g c = c.in-Ok.ensures

pub returns-in-Err-make_in-clause-goes : goal.returns-in-Err-make_in-clause-goes
returns-in-Err-make_in-clause-goes g c = c.make_in.ensures.goes

pub returns-in-Err-make_in-clause-fault : goal.returns-in-Err-make_in-clause-fault
returns-in-Err-make_in-clause-fault g c = c.in-Err-make_in.ensures.fault
