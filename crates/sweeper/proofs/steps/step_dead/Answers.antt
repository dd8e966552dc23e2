-- A record is purged with its block, or none was found up to a key, or there is none.
use Rattle.std.proofs.Common.{ℕ, List, subst}
use Rattle.std.specs.Prelude.{⊤}
use Rattle.xdr_grammar.specs.Laws.{AreBytes}
use Rattle.pairs.specs.Told.{Moves, GivesUp}
use Rattle.sweeper.specs.Dropping.{NamesThere, without_named}
use Rattle.fs_shows.proofs.Doing.{goes-then, up-read}
use Rattle.sweeper.proofs.Stepping.{dead-took, dead-stopped, dead-ended, dead-up, purges-as}
use Rattle.sweeper.proofs.steps.step_dead.Goals as goal

pub returns-in-Err-clause-goes : goal.returns-in-Err-clause-goes
returns-in-Err-clause-goes g c = c.purge_some.ensures.goes

pub returns-in-Err-clause-fault : goal.returns-in-Err-clause-fault
returns-in-Err-clause-fault g c =
    up-read g.P.Pairs.told c.args.pairs.now c.purge_some.new.self (λ t. ⊤) c.in-Err.fault c.in-Err.ensures.fault

pub returns-in-Ok-drop_named-clause-goes : goal.returns-in-Ok-drop_named-clause-goes
returns-in-Ok-drop_named-clause-goes g c =
    goes-then g.P.Pairs.told c.args.pairs.now c.purge_some.new.self c.drop_named.new.pairs 0 0 c.purge_some.ensures.goes
    c.drop_named.ensures.goes

pub returns-in-Ok-drop_named-clause-ok : goal.returns-in-Ok-drop_named-clause-ok
returns-in-Ok-drop_named-clause-ok g c =
    dead-took g.P.Pairs.told c.args.pairs.now c.purge_some.new.self c.drop_named.new.pairs 0 c.args.kept.now c.args.from.now
    c.in-Took.quad c.drop_named.ensures.goes
    (purges-as g.P.Pairs.told c.args.pairs.now c.purge_some.new.self c.args.kept.now c.as_slice.result.now
    c.args.from.now c.in-Ok.purged _ c.as_slice.ensures c.in-Took.is c.in-Ok.ensures.ok)
    (subst AreBytes c.as_slice-in-Took.ensures c.drop_named.ensures.bytes)
    (subst (λ (key : List ℕ). Moves g.P.Pairs.told c.purge_some.new.self c.drop_named.new.pairs
    (NamesThere key c.in-Took.quad.value) (without_named key c.in-Took.quad.value)) c.as_slice-in-Took.ensures
    (subst (λ (value : List ℕ). Moves g.P.Pairs.told c.purge_some.new.self c.drop_named.new.pairs
    (NamesThere c.as_slice-in-Took.result.now value) (without_named c.as_slice-in-Took.result.now value))
    c.as_slice-in-Took-2.ensures c.in-Ok-drop_named.ensures.ok))

pub returns-in-Err-drop_named-clause-goes : goal.returns-in-Err-drop_named-clause-goes
returns-in-Err-drop_named-clause-goes g c =
    goes-then g.P.Pairs.told c.args.pairs.now c.purge_some.new.self c.drop_named.new.pairs 0 0 c.purge_some.ensures.goes
    c.drop_named.ensures.goes

pub returns-in-Err-drop_named-clause-fault : goal.returns-in-Err-drop_named-clause-fault
returns-in-Err-drop_named-clause-fault g c =
    dead-up g.P.Pairs.told c.args.pairs.now c.purge_some.new.self c.drop_named.new.pairs 0 0 c.args.kept.now c.args.from.now
    c.in-Took.quad c.in-Err-drop_named.fault c.purge_some.ensures.goes c.drop_named.ensures.goes
    (purges-as g.P.Pairs.told c.args.pairs.now c.purge_some.new.self c.args.kept.now c.as_slice.result.now
    c.args.from.now c.in-Ok.purged _ c.as_slice.ensures c.in-Took.is c.in-Ok.ensures.ok)
    (subst AreBytes c.as_slice-in-Took.ensures c.drop_named.ensures.bytes)
    (subst (λ (key : List ℕ). GivesUp g.P.Pairs.told c.purge_some.new.self c.drop_named.new.pairs
    (NamesThere key c.in-Took.quad.value) c.in-Err-drop_named.fault) c.as_slice-in-Took.ensures
    (subst (λ (value : List ℕ). GivesUp g.P.Pairs.told c.purge_some.new.self c.drop_named.new.pairs
    (NamesThere c.as_slice-in-Took.result.now value) c.in-Err-drop_named.fault) c.as_slice-in-Took-2.ensures
    c.in-Err-drop_named.ensures.fault))

pub returns-in-Stopped-clause-goes : goal.returns-in-Stopped-clause-goes
returns-in-Stopped-clause-goes g c = c.purge_some.ensures.goes

pub returns-in-Stopped-clause-ok : goal.returns-in-Stopped-clause-ok
returns-in-Stopped-clause-ok g c =
    let stopped = purges-as g.P.Pairs.told c.args.pairs.now c.purge_some.new.self c.args.kept.now c.as_slice.result.now
    c.args.from.now c.in-Ok.purged _ c.as_slice.ensures c.in-Stopped.is c.in-Ok.ensures.ok in
    dead-stopped g.P.Pairs.told c.args.pairs.now c.purge_some.new.self c.args.kept.now c.args.from.now c.in-Stopped.key stopped.1

pub returns-in-Ended-clause-goes : goal.returns-in-Ended-clause-goes
returns-in-Ended-clause-goes g c = c.purge_some.ensures.goes

pub returns-in-Ended-clause-ok : goal.returns-in-Ended-clause-ok
returns-in-Ended-clause-ok g c =
    dead-ended g.P.Pairs.told c.args.pairs.now c.purge_some.new.self c.args.kept.now c.args.from.now
    (purges-as g.P.Pairs.told c.args.pairs.now c.purge_some.new.self c.args.kept.now c.as_slice.result.now
    c.args.from.now c.in-Ok.purged _ c.as_slice.ensures c.in-Ended.is c.in-Ok.ensures.ok)
