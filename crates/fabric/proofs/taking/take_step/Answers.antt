use Rattle.std.proofs.Common.{◌≡◌, ◌∙◌, sym, ap, subst}
use Rattle.store_group.specs.Journal.{Request}
use Rattle.fabric.specs.Taking.{Takes}
use Rattle.fabric.proofs.Assembling.{from_same}
use Rattle.fabric.proofs.taking.take_step.Goals as goal

pub returns : goal.returns
returns g c =
    let m = c.make in
    let s = c.step_made in
    let asked : Request = record { pass = c.args.pass; store = c.args.store; command = c.args.command.now } in
    from_same g.W.Weather.told c.args.group.now m.new.group s.new.group c.args.book.now m.new.book s.new.book
    c.args.weather.now s.new.weather asked s.result m.ensures.same m.ensures.book
    (subst (λ r. Takes g.W.Weather.told
    (record { group = m.new.group; book = m.new.book; weather = c.args.weather.now })
    (record { group = s.new.group; book = s.new.book; weather = s.new.weather })
    (record { pass = r.pass; store = r.store; command = c.args.command.now }) s.result)
    c.in_ok-made.ensures.asked s.ensures)
