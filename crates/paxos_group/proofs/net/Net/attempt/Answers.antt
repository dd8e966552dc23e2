use Rattle.paxos_group.specs.Scene.{scene}
use Rattle.paxos_group.proofs.Going.{ok_map}
use Rattle.paxos_group.proofs.Doubt.{both_calm, later_doubts, early_doubts, if_err_map}
use Rattle.paxos_group.proofs.net.Net.attempt.Goals as goal

pub returns-in-Ok-clause-calm : goal.returns-in-Ok-clause-calm
returns-in-Ok-clause-calm g c =
    let w = g.W.Weather in
    let old = scene w.told c.args.weather.now c.args.self.now c.args.proposer.now in
    let mid = scene w.told c.ask.new.weather c.ask.new.self c.ask.new.proposer in
    let new = scene w.told c.put.new.weather c.put.new.self c.put.new.proposer in
    ok_map c.put.result (both_calm c.args.replicas c.args.index c.args.ballot old mid new c.ask.ensures.goes
    c.in-Ok.ensures.calm) c.put.ensures.calm

pub returns-in-Ok-clause-doubt : goal.returns-in-Ok-clause-doubt
returns-in-Ok-clause-doubt g c =
    let w = g.W.Weather in
    let old = scene w.told c.args.weather.now c.args.self.now c.args.proposer.now in
    let mid = scene w.told c.ask.new.weather c.ask.new.self c.ask.new.proposer in
    let new = scene w.told c.put.new.weather c.put.new.self c.put.new.proposer in
    if_err_map c.put.result (λ fault doubt is. later_doubts c.args.replicas c.args.index c.args.ballot old mid new
    c.ask.ensures.goes c.in-Ok.ensures.calm (doubt is)) c.put.ensures.doubt

pub returns-in-Err-clause-doubt : goal.returns-in-Err-clause-doubt
returns-in-Err-clause-doubt g c =
    let w = g.W.Weather in
    let old = scene w.told c.args.weather.now c.args.self.now c.args.proposer.now in
    let new = scene w.told c.ask.new.weather c.ask.new.self c.ask.new.proposer in
    λ is. early_doubts c.args.replicas c.args.index c.args.ballot old new (c.in-Err.ensures.doubt is)
