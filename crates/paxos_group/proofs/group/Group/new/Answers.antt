use Rattle.std.proofs.Common.{sym, subst}
use Rattle.std.specs.Prelude.{None}
use Rattle.paxos_group.specs.Formed.{IsFormed}
use Rattle.paxos_group.proofs.Groups.{formed_at_first}
use Rattle.paxos_group.proofs.group.Group.new.Goals as goal

pub invariant_of-result : goal.invariant_of-result
invariant_of-result g c =
    let made = c.in_ok-acceptors.ensures in
    subst (λ log. IsFormed c.args.replicas (record {
      store = c.args.store;
      acceptors = c.in_ok-acceptors.acceptors;
      held =
          c.new.result;
    }) log None 1) (sym c.new-2.ensures.items)
    (formed_at_first c.args.replicas (record {
      store = c.args.store;
      acceptors = c.in_ok-acceptors.acceptors;
      held =
          c.new.result;
    }) c.requires made.count made.numbers made.nothing c.new.ensures.empty)
