use Rattle.std.proofs.Common.{◌≡◌, ◌∙◌, ap, refl}
use Rattle.page_types.specs.declared.command.Command.TheVariants.{Read}
use Rattle.page_types.specs.Stores.{Kept}
use Rattle.page_types.specs.Obeys.{page_answer}
use Rattle.page_store.specs.Steps.{seen}
use Rattle.page_store.proofs.Patching.{only_step}
use Rattle.page_store.proofs.look.View.read.Goals as goal

pub returns : goal.returns
returns c =
    only_step (seen c.args.self.now) (Read c.args.number) c.only.result c.only.ensures.nothing
    (c.only.ensures.answer ∙ (c.in_ok-answer.ensures ∙
    ap (λ (kept : Kept). page_answer c.args.number kept kept.writer) c.row.ensures))
    refl
