use Rattle.std.proofs.Common.{◌≡◌, ◌-◌, true, arith, subst, sym, ◌∙◌}
use Rattle.std.proofs.lemmas.List.Folds.{list_any_at}
use Rattle.commit_checks.specs.Rights.{answers}
use Rattle.commit_checks.proofs.fairness.was_told.Goals as goal

pub returns-then-is_reading : goal.returns-then-is_reading
returns-then-is_reading c = λ is.
    list_any_at (answers c.args.pass c.args.store c.args.read.number c.args.read.version) c.args.journal.now
    (c.loop-left.left - 1) c.index-journal-left.result (omega arith)
    (subst (λ e. answers c.args.pass c.args.store c.args.read.number c.args.read.version e ≡ true) c.index-journal-left.is
    (sym c.is_reading.ensures ∙ c.if-is_reading.true))
