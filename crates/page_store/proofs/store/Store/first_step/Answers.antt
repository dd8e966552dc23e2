use Rattle.std.proofs.Common.{◌≡◌, ap, option_copied}
use Rattle.page_store.specs.Steps.{keeps_of, under}
use Rattle.page_store.proofs.Storing.{under_none, step_over}
use Rattle.page_store.proofs.Planning.{first_done}
use Rattle.page_store.proofs.store.Store.first_step.Goals as goal

pub returns : goal.returns
returns c =
    let self = c.args.self.now in
    let none = under_none c.none-none.result (keeps_of self.shelf) c.none-none.ensures.rows c.none-none.ensures.party
    c.none-none.ensures.next in
    first_done self.shelf (option_copied c.args.first) c.in-Some.command.now c.in_ok-step.step (ap option_copied c.in-Some.is)
    (step_over (keeps_of self.shelf) (under c.none-none.result (keeps_of self.shelf)) c.in-Some.command.now c.in_ok-step.step none
    c.in_ok-step.ensures)
    self.indexed
