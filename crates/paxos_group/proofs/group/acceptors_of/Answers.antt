use Rattle.std.proofs.Common.{◌≡◌, ◌∙◌, ℕ, List, [], ◌∷◌, ◌++◌, length, length-append, ap, arith}
use Rattle.paxos_core.specs.declared.acceptor.Acceptor.{Acceptor}
use Rattle.paxos_group.specs.Scene.{kept_at, number_at}
use Rattle.paxos_group.proofs.Groups.{pushed_number, pushed_nothing}
use Rattle.paxos_group.proofs.group.acceptors_of.Goals as goal

pub loop-replica-preserved : goal.loop-replica-preserved
loop-replica-preserved g c =
    let xs = c.loop-replica.acceptors.items in
    let a = c.new.result in
    let is = c.loop-replica.invariant in
    let pushed : c.push.new.self.items ≡ xs ++ a ∷ [] = c.in_ok-push.ensures.items in
    record {
      count = omega (arith, ap length pushed, length-append xs (a ∷ []), is.count);
      numbers = λ r lt. ap (λ ys. number_at ys r) pushed
          ∙ pushed_number xs a c.loop-replica.replica r is.count c.new.ensures.replica is.numbers lt;
      nothing = λ r i. ap (λ ys. kept_at ys r i) pushed ∙ pushed_nothing xs a r i c.new.ensures.blank is.nothing;
    }
