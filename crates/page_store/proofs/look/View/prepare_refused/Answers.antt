use Rattle.std.proofs.Common.{◌≡◌, ◌∙◌}
use Rattle.page_store.specs.Keeps.{state}
use Rattle.page_store.specs.Steps.{seen}
use Rattle.page_store.proofs.Refusing.{none_if, crossed_over, prepare_crossed}
use Rattle.page_store.proofs.look.View.prepare_refused.Goals as goal

pub returns : goal.returns
returns c =
    let s = state (seen c.args.self.now) in
    let part = c.args.part.now in
    prepare_crossed c.crossed.result s part
    (none_if _ c.in_default.not-Some ∙ c.in_ok-answer.ensures)
    (none_if _ c.in_default-ended_or_prepared.not-Some ∙ c.ended_or_prepared.ensures)
    (crossed_over c.crossed.result s part.tid c.as_slice.result.now part.reads c.as_slice-2.result.now part.writes
    c.as_slice.ensures c.as_slice-2.ensures c.crossed.ensures.answer)
