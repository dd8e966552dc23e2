-- A size is given, or none.
use Rattle.std.proofs.Common.{ℕ, true, Option, sym, subst, arith}
use Rattle.std.specs.Prelude.{IfOk, IfErr}
use Rattle.fs_shows.specs.Steps.{EditGivesUp}
use Rattle.fs_shows.proofs.Doing.{goes-none, goes-most}
use Rattle.procs_create.specs.Taking.{MayTake, TakesOrWaits}
use Rattle.procs_create.proofs.Takes.{takes-none}
use Rattle.procs_create.proofs.taking.resize.Goals as goal

pub returns-in-Some-clause-goes : goal.returns-in-Some-clause-goes
returns-in-Some-clause-goes g c = c.give_size.ensures.goes

pub returns-in-Some-clause-ok : goal.returns-in-Some-clause-ok
returns-in-Some-clause-ok g c =
    let P : Option ℕ → Type 0 = λ z.
    IfOk c.give_size.result (TakesOrWaits g.P.Pairs.told c.args.pairs.now c.give_size.new.pairs c.args.fileid z c.args.now) in
    subst P (sym c.in-Some.is) c.give_size.ensures.ok

pub returns-in-Some-clause-fault : goal.returns-in-Some-clause-fault
returns-in-Some-clause-fault g c =
    let P : Option ℕ → Type 0 = λ z.
    IfErr c.give_size.result (EditGivesUp g.P.Pairs.told c.args.pairs.now c.give_size.new.pairs (MayTake c.args.fileid z)) in
    subst P (sym c.in-Some.is) c.give_size.ensures.fault

pub returns-in-None-clause-goes : goal.returns-in-None-clause-goes
returns-in-None-clause-goes g c =
    goes-most g.P.Pairs.told c.args.pairs.now c.args.pairs.now 0 4 (omega arith) (goes-none g.P.Pairs.told c.args.pairs.now)

pub returns-in-None-clause-ok : goal.returns-in-None-clause-ok
returns-in-None-clause-ok g c =
    let P : Option ℕ → Type 0 = λ z.
    TakesOrWaits g.P.Pairs.told c.args.pairs.now c.args.pairs.now c.args.fileid z c.args.now true in
    subst P (sym c.in-None.is) (takes-none g.P.Pairs.told c.args.pairs.now c.args.fileid c.args.now)
