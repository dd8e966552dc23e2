use Rattle.paxos_group.specs.Scene.{scene}
use Rattle.paxos_group.proofs.Going.{stray_goes, told_goes}
use Rattle.paxos_group.proofs.net.Net.let_stray.Goals as goal

pub returns-then-not-is_for_replica-clause-goes : goal.returns-then-not-is_for_replica-clause-goes
returns-then-not-is_for_replica-clause-goes g c =
    let w = g.W.Weather in
    let s = scene w.told c.args.weather.now c.args.self.now c.args.proposer.now in
    let taken = c.in-Some-take_held.ensures in
    stray_goes s _ c.take_held.new.held c.in-Some-take_held.letter _
    (λ q. c.stray.ensures.met.same_counts s.store q) (λ q j. c.stray.ensures.met.same_silence s.store q j) taken.known.0
    taken.known.1 taken.others taken.fewer
    (told_goes _ c.tell.new.proposer c.in-Some-take_held.letter.replica c.in-Some-take_held.letter.message c.tell.ensures.came)

pub returns-clause-goes : goal.returns-clause-goes
returns-clause-goes g c =
    let w = g.W.Weather in
    let s = scene w.told c.args.weather.now c.args.self.now c.args.proposer.now in
    let taken = c.in-Some-take_held.ensures in
    stray_goes s _ c.take_held.new.held c.in-Some-take_held.letter _
    (λ q. c.stray.ensures.met.same_counts s.store q) (λ q j. c.stray.ensures.met.same_silence s.store q j) taken.known.0
    taken.known.1 taken.others taken.fewer
    c.bring.ensures.goes
