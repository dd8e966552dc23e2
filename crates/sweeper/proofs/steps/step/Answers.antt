-- A step is that of its place.
use Rattle.std.proofs.lemmas.Result.{IfOk-weaker}
use Rattle.sweeper.specs.declared.place.SweepPlace.TheVariants.{Files, Extents, Dead}
use Rattle.sweeper.proofs.Stepping.{walks-at}
use Rattle.sweeper.proofs.steps.step.Goals as goal

pub returns-in-Files-clause-goes : goal.returns-in-Files-clause-goes
returns-in-Files-clause-goes g c = c.step_files.ensures.goes

pub returns-in-Files-clause-ok : goal.returns-in-Files-clause-ok
returns-in-Files-clause-ok g c =
    IfOk-weaker c.step_files.result _ _
    (λ step walks. walks-at g.P.Pairs.told c.args.pairs.now c.step_files.new.pairs c.args.kept.now c.args.walk.now
    (Files c.in-Files.after) step.next c.in-Files.is (walks c.args.kept.now c.args.walk.now.whole))
    c.step_files.ensures.ok

pub returns-in-Files-clause-fault : goal.returns-in-Files-clause-fault
returns-in-Files-clause-fault g c = c.step_files.ensures.fault

pub returns-in-Extents-clause-goes : goal.returns-in-Extents-clause-goes
returns-in-Extents-clause-goes g c = c.step_extents.ensures.goes

pub returns-in-Extents-clause-ok : goal.returns-in-Extents-clause-ok
returns-in-Extents-clause-ok g c =
    IfOk-weaker c.step_extents.result _ _
    (λ step walks. walks-at g.P.Pairs.told c.args.pairs.now c.step_extents.new.pairs c.args.kept.now c.args.walk.now
    (Extents c.in-Extents.file c.in-Extents.after) step.next c.in-Extents.is (walks c.args.kept.now))
    c.step_extents.ensures.ok

pub returns-in-Extents-clause-fault : goal.returns-in-Extents-clause-fault
returns-in-Extents-clause-fault g c = c.step_extents.ensures.fault

pub returns-in-Dead-clause-goes : goal.returns-in-Dead-clause-goes
returns-in-Dead-clause-goes g c = c.step_dead.ensures.goes

pub returns-in-Dead-clause-ok : goal.returns-in-Dead-clause-ok
returns-in-Dead-clause-ok g c =
    IfOk-weaker c.step_dead.result _ _
    (λ step walks. walks-at g.P.Pairs.told c.args.pairs.now c.step_dead.new.pairs c.args.kept.now c.args.walk.now
    (Dead c.in-Dead.from) step.next c.in-Dead.is (walks c.args.walk.now.whole))
    c.step_dead.ensures.ok

pub returns-in-Dead-clause-fault : goal.returns-in-Dead-clause-fault
returns-in-Dead-clause-fault g c = c.step_dead.ensures.fault
