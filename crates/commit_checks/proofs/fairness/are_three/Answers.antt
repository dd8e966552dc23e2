use Rattle.commit_checks.specs.Rights.{known_by}
use Rattle.commit_checks.proofs.Assembling.{before_two}
use Rattle.commit_checks.proofs.fairness.are_three.Goals as goal

pub returns : goal.returns
returns c = λ is.
    before_two c.args.stores (known_by c.args.pass c.args.journal.now) c.args.one.now c.args.two.now c.args.three.now
    c.if-one-two.false (c.is_part.ensures c.if-not-is_part.false) (c.are_two.ensures is)
