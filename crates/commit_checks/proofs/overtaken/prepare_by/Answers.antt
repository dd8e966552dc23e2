use Rattle.std.proofs.Common.{subst, sym}
use Rattle.commit_checks.specs.Rights.{IsPrepared}
use Rattle.commit_checks.proofs.overtaken.prepare_by.Goals as goal

pub returns : goal.returns
returns c = λ is.
    subst (λ f. IsPrepared f c.args.tid c.args.home c.args.listed.now) (sym c.part.ensures)
    (c.prepare-is_prepared.ensures is)
