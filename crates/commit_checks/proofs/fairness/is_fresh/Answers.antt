use Rattle.std.proofs.Common.{◌≡◌, false, All, subst, sym, ◌∙◌}
use Rattle.std.proofs.lemmas.List.{take_all}
use Rattle.std.proofs.lemmas.List.Elements.{All-more}
use Rattle.std.proofs.lemmas.List.Folds.{list_any_none}
use Rattle.two_phase.specs.Parts.{carries}
use Rattle.commit_checks.proofs.fairness.is_fresh.Goals as goal

pub loop-entry-preserved : goal.loop-entry-preserved
loop-entry-preserved c =
    All-more (λ e. carries c.args.tid e ≡ false) c.args.journal.now c.loop-entry.entry-index c.entry-item.result
    c.loop-entry-test.true c.loop-entry.invariant
    (subst (λ e. carries c.args.tid e ≡ false) c.entry-item.is (sym c.is_carried.ensures ∙ c.if-is_carried.false))

pub returns : goal.returns
returns c = λ is. list_any_none (carries c.args.tid) c.args.journal.now
    (subst (All (λ e. carries c.args.tid e ≡ false))
    (take_all c.loop-entry.entry-index c.args.journal.now c.loop-entry-test.false) c.loop-entry.invariant)
