use Rattle.std.proofs.Common.{◌≡◌, false, All, subst, sym, ◌∙◌}
use Rattle.std.proofs.lemmas.List.{take_all}
use Rattle.std.proofs.lemmas.List.Elements.{All-more}
use Rattle.std.proofs.lemmas.List.Folds.{list_any_none}
use Rattle.page_types.specs.Journals.{is_of}
use Rattle.commit_checks.proofs.fairness.has_none.Goals as goal

pub loop-entry-preserved : goal.loop-entry-preserved
loop-entry-preserved c =
    All-more (λ e. is_of c.args.pass e ≡ false) c.args.entries.now c.loop-entry.entry-index c.entry-item.result
    c.loop-entry-test.true c.loop-entry.invariant
    (subst (λ e. is_of c.args.pass e ≡ false) c.entry-item.is (sym c.is_own.ensures ∙ c.if-is_own.false))

pub returns : goal.returns
returns c = λ is. list_any_none (is_of c.args.pass) c.args.entries.now
    (subst (All (λ e. is_of c.args.pass e ≡ false))
    (take_all c.loop-entry.entry-index c.args.entries.now c.loop-entry-test.false) c.loop-entry.invariant)
