use Rattle.std.proofs.Common.{◌≡◌, ◌∙◌, ap, sym, List, Some}
use Rattle.page_types.specs.declared.outcome.Outcome.{Outcome}
use Rattle.page_types.specs.declared.answer.Answer.TheVariants.{Decided}
use Rattle.page_store.specs.declared.row.Change.{Change}
use Rattle.page_store.specs.Keeps.{patched}
use Rattle.page_store.specs.Steps.{seen}
use Rattle.page_store.proofs.Refusing.{none_if}
use Rattle.page_store.proofs.Patching.{decide_refused, decide_done}
use Rattle.page_store.proofs.look.View.decide.Goals as goal

pub returns-in-Some : goal.returns-in-Some
returns-in-Some c =
    decide_refused (seen c.args.self.now) c.args.decision.now c.only.result c.in-Some.answer
    (sym c.in-Some.is ∙ c.in_ok-answer.ensures) c.only.ensures.answer c.only.ensures.nothing

pub returns : goal.returns
returns c =
    let keeps = seen c.args.self.now in
    let d = c.args.decision.now in
    decide_done keeps d c.in_ok-party.party c.all.result
    (none_if _ c.in_default.not-Some ∙ c.in_ok-answer.ensures)
    (c.in_ok-party.ensures ∙ ap (λ (o : Outcome). record (keeps.party d.tid) { outcome = Some o }) c.in_ok-outcome.ensures)
    (c.all.ensures.answer ∙ (ap (λ (o : Outcome). Decided o) c.in_ok-copy.ensures
    ∙ ap (λ (o : Outcome). Decided o) c.in_ok-outcome.ensures))
    (c.all.ensures.patch ∙ ap (λ (l : List Change). patched l (Some (record { tid = d.tid; party = c.in_ok-party.party }))
    keeps.next keeps) c.new.ensures.items)
