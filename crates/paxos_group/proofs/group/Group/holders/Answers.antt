use Rattle.std.proofs.Common.{◌<◌, ◌*◌, length, subst, sym, ◌∙◌, ap}
use Rattle.std.specs.List.{count_by}
use Rattle.paxos_core.specs.declared.ballot.Ballot.{Ballot}
use Rattle.paxos_group.specs.Settling.{IsCount, Holds, IsSettled}
use Rattle.paxos_group.proofs.Groups.{settled, holders_count, holders_majority, accepts}
use Rattle.paxos_group.proofs.group.Group.holders.Goals as goal

pub returns-clause-count : goal.returns-clause-count
returns-clause-count g c =
    let p = c.self.inside.parts in
    let lt : c.args.index < length p.log.items = subst (λ s. c.args.index < length s.log) (sym c.self.view_is) c.requires in
    subst (λ s. IsCount s.replicas (λ r. (b : Ballot) × Holds s c.args.index r b) c.accepted_count.result) c.self.view_is
    (holders_count p.replicas p.net p.log.items p.pending p.round c.args.index c.accepted_count.result c.self.invariant lt
    (c.accepted_count.ensures ∙ ap (λ xs. count_by (accepts c.args.index) xs) c.deref.ensures.value))

pub returns-clause-majority : goal.returns-clause-majority
returns-clause-majority g c =
    let p = c.self.inside.parts in
    let lt : c.args.index < length p.log.items = subst (λ s. c.args.index < length s.log) (sym c.self.view_is) c.requires in
    subst (λ s. s.replicas < 2 * c.accepted_count.result) c.self.view_is
    (holders_majority p.replicas p.net p.log.items p.pending p.round c.args.index c.accepted_count.result c.self.invariant lt
    (c.accepted_count.ensures ∙ ap (λ xs. count_by (accepts c.args.index) xs) c.deref.ensures.value))

pub returns-clause-settled : goal.returns-clause-settled
returns-clause-settled g c =
    let p = c.self.inside.parts in
    let lt : c.args.index < length p.log.items = subst (λ s. c.args.index < length s.log) (sym c.self.view_is) c.requires in
    subst (λ s. IsSettled s c.args.index) c.self.view_is
    (settled p.replicas p.net p.log.items p.pending p.round c.args.index c.self.invariant lt)
