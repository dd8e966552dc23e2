use Rattle.std.proofs.Common.{◌∙◌, None, subst}
use Rattle.fabric.specs.Shown.{port_of}
use Rattle.two_phase.specs.Parts.{Prepares}
use Rattle.two_phase.proofs.Several.{may_prepare, first_home}
use Rattle.commit_checks.specs.Rights.{any_stands, any_next}
use Rattle.commit_checks.proofs.Overtaking.{prepared_now}
use Rattle.commit_checks.proofs.overtaken.prepare.Goals as goal

pub prepare_all-prepared-requires : goal.prepare_all-prepared-requires
prepare_all-prepared-requires c =
    may_prepare any_stands any_next _ _ _ _ _ None c.requires.may c.requires.listed
    (c.requires.home ∙ first_home _ _ c.requires.listed)

pub returns : goal.returns
returns c = λ is.
    prepared_now c.args.port.now c.prepare_all-prepared.new.port c.args.tid c.args.home c.args.listed.now c.args.parts.now
    c.requires.may c.requires.listed c.requires.home
    (subst
    (λ r. Prepares (port_of c.args.port.now) (port_of c.prepare_all-prepared.new.port) c.args.tid
    (record { home = c.args.home; parts = c.args.listed.now }) c.args.parts.now r)
    (c.is_ready.ensures is) c.prepare_all-prepared.ensures)
