use Rattle.std.proofs.Common.{◌≡◌, ◌+◌, ◌*◌, length, refl, sym, subst}
use Rattle.std.specs.Prelude.{None}
use Rattle.paxos_group.specs.Scene.{scene}
use Rattle.paxos_group.specs.Sound.{ballot_of}
use Rattle.paxos_group.specs.Formed.{IsFormed}
use Rattle.paxos_group.specs.Steps.{Goes, IsAt, Doubts, StaysCalm}
use Rattle.paxos_group.proofs.Attempts.{begin, formed_pending, formed_chosen}
use Rattle.paxos_group.proofs.Attempting.{chosen_attempts, failed_attempts}
use Rattle.paxos_group.proofs.parts.Parts.settle.Goals as goal

pub returns-in-Ok-clause-formed : goal.returns-in-Ok-clause-formed
returns-in-Ok-clause-formed g c =
    let w = g.W.Weather in
    let old = scene w.told c.args.weather.now c.args.self.now.net c.args.proposer.now in
    let new = scene w.told c.attempt.new.weather c.attempt.new.self c.attempt.new.proposer in
    let b = begin old c.args.self.now.net c.args.self.now.replicas c.args.self.now.log.items c.args.own c.args.self.now.round
    c.requires.formed refl refl refl refl c.requires.proposer in
    let goes : Goes (IsAt (length c.args.self.now.log.items) (ballot_of c.args.self.now.round)) old new =
    subst (λ i. Goes (IsAt i (ballot_of c.args.self.now.round)) old new) c.next_index-index.ensures c.attempt.ensures.goes
    in
    subst (λ l. IsFormed c.args.self.now.replicas c.attempt.new.self l None (c.args.self.now.round + 1))
    (sym c.push_reserved.ensures.items)
    (formed_chosen b.0 old new c.attempt.new.self c.args.self.now.replicas c.args.self.now.log.items c.args.own
    c.args.self.now.round b.1 goes c.in-Ok.ensures.chosen refl refl refl refl)

pub returns-in-Ok-clause-attempts : goal.returns-in-Ok-clause-attempts
returns-in-Ok-clause-attempts g c =
    let w = g.W.Weather in
    let old = scene w.told c.args.weather.now c.args.self.now.net c.args.proposer.now in
    let new = scene w.told c.attempt.new.weather c.attempt.new.self c.attempt.new.proposer in
    let b = begin old c.args.self.now.net c.args.self.now.replicas c.args.self.now.log.items c.args.own c.args.self.now.round
    c.requires.formed refl refl refl refl c.requires.proposer in
    let goes : Goes (IsAt (length c.args.self.now.log.items) (ballot_of c.args.self.now.round)) old new =
    subst (λ i. Goes (IsAt i (ballot_of c.args.self.now.round)) old new) c.next_index-index.ensures c.attempt.ensures.goes
    in
    let calm : StaysCalm (4 * c.args.self.now.replicas)
    (IsAt (length c.args.self.now.log.items) (ballot_of c.args.self.now.round)) old new =
    subst (λ i. StaysCalm (4 * c.args.self.now.replicas) (IsAt i (ballot_of c.args.self.now.round)) old new)
    c.next_index-index.ensures c.in-Ok.ensures.calm in
    chosen_attempts w.told c.args.weather.now c.attempt.new.weather c.args.self.now c.attempt.new.self _ _ _
    c.args.proposer.now c.attempt.new.proposer c.args.own _ b goes c.in-Ok.ensures.chosen calm
    c.push_reserved.ensures.items c.attempt.ensures.endures

pub returns-in-Err-clause-formed : goal.returns-in-Err-clause-formed
returns-in-Err-clause-formed g c =
    let w = g.W.Weather in
    let old = scene w.told c.args.weather.now c.args.self.now.net c.args.proposer.now in
    let new = scene w.told c.attempt.new.weather c.attempt.new.self c.attempt.new.proposer in
    let b = begin old c.args.self.now.net c.args.self.now.replicas c.args.self.now.log.items c.args.own c.args.self.now.round
    c.requires.formed refl refl refl refl c.requires.proposer in
    let goes : Goes (IsAt (length c.args.self.now.log.items) (ballot_of c.args.self.now.round)) old new =
    subst (λ i. Goes (IsAt i (ballot_of c.args.self.now.round)) old new) c.next_index-index.ensures c.attempt.ensures.goes
    in
    formed_pending b.0 old new c.attempt.new.self c.args.self.now.replicas c.args.self.now.log.items c.args.own
    c.args.self.now.round b.1 goes refl refl refl refl

pub returns-in-Err-clause-attempts : goal.returns-in-Err-clause-attempts
returns-in-Err-clause-attempts g c =
    let w = g.W.Weather in
    let old = scene w.told c.args.weather.now c.args.self.now.net c.args.proposer.now in
    let new = scene w.told c.attempt.new.weather c.attempt.new.self c.attempt.new.proposer in
    let b = begin old c.args.self.now.net c.args.self.now.replicas c.args.self.now.log.items c.args.own c.args.self.now.round
    c.requires.formed refl refl refl refl c.requires.proposer in
    let goes : Goes (IsAt (length c.args.self.now.log.items) (ballot_of c.args.self.now.round)) old new =
    subst (λ i. Goes (IsAt i (ballot_of c.args.self.now.round)) old new) c.next_index-index.ensures c.attempt.ensures.goes
    in
    failed_attempts w.told c.args.weather.now c.attempt.new.weather c.args.self.now c.attempt.new.self _ _ _
    c.args.proposer.now c.attempt.new.proposer c.args.own _ b goes
    (λ is. subst (λ i. Doubts c.args.self.now.replicas (4 * c.args.self.now.replicas)
    (IsAt i (ballot_of c.args.self.now.round)) old new) c.next_index-index.ensures (c.in-Err.ensures.doubt is)) refl
    c.attempt.ensures.endures
