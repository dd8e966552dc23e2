use Rattle.std.proofs.Common.{ℕ, ◌<◌, length, subst}
use Rattle.paxos_group.specs.Settling.{IsSettled}
use Rattle.paxos_group.proofs.Groups.{settled}
use Rattle.paxos_group.proofs.group.Group.log.Goals as goal

pub returns-clause-settled : goal.returns-clause-settled
returns-clause-settled g c =
    let p = c.self.inside.parts in
    subst (λ s. (i : ℕ) → i < length s.log → IsSettled s i) c.self.view_is
    (λ i lt. settled p.replicas p.net p.log.items p.pending p.round i c.self.invariant lt)
