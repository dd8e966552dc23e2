use Rattle.std.proofs.Common.{◌≡◌, ◌∙◌, sym, ap, subst}
use Rattle.store_group.specs.Journal.{Request, gained}
use Rattle.store_group.specs.Shown.{behind}
use Rattle.fabric.specs.Taking.{Takes, written}
use Rattle.fabric.proofs.Assembling.{stepped_so, own_is_told}
use Rattle.fabric.proofs.taking.step_made.Goals as goal

pub note-requires-clause-told : goal.note-requires-clause-told
note-requires-clause-told g c =
    let s = c.step-stepped in
    own_is_told s.result.own s.result.doubted (behind c.args.group.now) (behind s.new.self) c.args.command.now s.result.late
    c.args.made.told s.ensures.left c.requires.made.told

pub returns : goal.returns
returns g c =
    let s = c.step-stepped in
    let n = c.note in
    let asked : Request =
    record { pass = c.args.made.asked.pass; store = c.args.made.asked.store; command = c.args.command.now } in
    subst (λ r. Takes g.W.Weather.told
    (record { group = c.args.group.now; book = c.args.book.now; weather = c.args.weather.now })
    (record { group = s.new.self; book = n.new.self; weather = s.new.weather }) asked r) (sym n.ensures.result)
    (stepped_so g.W.Weather.told c.args.group.now s.new.self c.args.book.now n.new.self c.args.weather.now s.new.weather asked
    s.result.own s.result.doubted s.result.late s.ensures.left s.ensures.untouched s.ensures.first s.ensures.round s.ensures.log
    s.ensures.attempts s.ensures.doubt_is_doubted s.ensures.never_stopped s.ensures.late_heard
    (n.ensures.entries ∙ ap (λ x. gained
    (record { pass = c.args.made.asked.pass; store = c.args.made.asked.store; command = x })
    s.result.late s.result.own s.result.doubted (written c.args.book.now)) c.requires.made.command_is)
    n.ensures.steps n.ensures.doubts)
