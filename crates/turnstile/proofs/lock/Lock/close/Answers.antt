use Rattle.std.proofs.Common.{◌≡◌, arith, Some, None, subst, sym, ◌∙◌}
use Rattle.turnstile.proofs.Steps.{closes}
use Rattle.turnstile.specs.Rules.{Found}
use Rattle.turnstile.proofs.lock.Lock.close.Goals as goal

pub unreachable-requires : goal.unreachable-requires
unreachable-requires g c =
    let r = c.requires in
    let e = closes g.S.Journaled.journal g.S.Journaled.origin (g.S.Journaled.origin c.args.self.table.shared.key.value)
    c.args.seat.id c.args.seat.me.0 _ _ c.take-state.result r.free.0 r.all.0 r.all.1 c.close_with-closed.ensures.values.2
    c.take-state.ensures.value in
    let n : None ≡ Some e.value = sym c.in-None.is ∙ e.is in grind (arith, n)

pub returns : goal.returns
returns g c =
    let r = c.requires in
    let e = closes g.S.Journaled.journal g.S.Journaled.origin (g.S.Journaled.origin c.args.self.table.shared.key.value)
    c.args.seat.id c.args.seat.me.0 _ _ c.take-state.result r.free.0 r.all.0 r.all.1 c.close_with-closed.ensures.values.2
    c.take-state.ensures.value in
    let n : Some e.value ≡ Some c.in-Some.state = sym e.is ∙ c.in-Some.is in
    let same : e.value ≡ c.in-Some.state = grind (arith, n) in
    subst (λ (y : g.row.S.Denot). Found g.S.Journaled.journal g.S.Journaled.origin c.args.seat.me.0 y) same e.found
