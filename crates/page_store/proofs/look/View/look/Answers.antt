use Rattle.std.proofs.Common.{◌≡◌, ◌∙◌, ap, refl, List, ℕ}
use Rattle.page_types.specs.declared.command.Command.TheVariants.{Look}
use Rattle.page_types.specs.Obeys.{look_answer}
use Rattle.page_store.specs.Keeps.{state}
use Rattle.page_store.specs.Steps.{seen}
use Rattle.page_store.proofs.Patching.{only_step}
use Rattle.page_store.proofs.look.View.look.Goals as goal

pub returns : goal.returns
returns c =
    only_step (seen c.args.self.now) (Look c.args.numbers.now) c.only.result c.only.ensures.nothing
    (c.only.ensures.answer ∙ (c.in_ok-answer.ensures ∙
    ap (λ (l : List ℕ). look_answer (state (seen c.args.self.now)) l) c.as_slice.ensures))
    refl
