use Rattle.std.proofs.Common.{◌≡◌, ◌∙◌, sym}
use Rattle.page_store.specs.Steps.{seen}
use Rattle.page_store.proofs.Refusing.{none_if}
use Rattle.page_store.proofs.Patching.{prepare_refused, prepare_done}
use Rattle.page_store.proofs.look.View.prepare.Goals as goal

pub returns-in-Some : goal.returns-in-Some
returns-in-Some c =
    prepare_refused (seen c.args.self.now) c.args.part.now c.only.result c.in-Some.answer
    (sym c.in-Some.is ∙ c.in_ok-answer.ensures) c.only.ensures.answer c.only.ensures.nothing

pub returns : goal.returns
returns c =
    prepare_done (seen c.args.self.now) c.args.part.now c.in_ok-rows.rows.items c.in_ok-party.party c.all.result c.requires
    (none_if _ c.in_default.not-Some ∙ c.in_ok-answer.ensures)
    c.in_ok-rows.ensures c.in_ok-party.ensures c.all.ensures.answer c.all.ensures.patch
