use Rattle.std.proofs.Common.{◌≡◌, arith, ap, ◌∙◌, ℕ}
use Rattle.paxos_core.specs.declared.ballot.Ballot.{Ballot}
use Rattle.paxos_core.proofs.laws.ranks.Goals as goal

pub returns : goal.returns
returns c b d small_b small_d same =
    let rounds : b.round ≡ d.round = omega arith in
    let proposers : b.proposer ≡ d.proposer = omega arith in
    let with_round : ℕ → Ballot = λ r. record { round = r; proposer = b.proposer } in
    let with_proposer : ℕ → Ballot = λ p. record { round = d.round; proposer = p } in
    ap with_round rounds ∙ ap with_proposer proposers
