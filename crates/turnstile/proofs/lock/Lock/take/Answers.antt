use Rattle.std.proofs.Common.{◌∙◌, ap, sym, subst, Some, ◌∷◌}
use Rattle.atomic_table.specs.Table.{rest}
use Rattle.turnstile.specs.Rules.{Takes}
use Rattle.turnstile.proofs.lock.Lock.take.Goals as goal

pub exchange-requires : goal.exchange-requires
exchange-requires g c =
    let t : Takes g.S.Journaled.journal g.S.Journaled.origin c.loop.seat.me 0 c.try_take.new.seat.me =
    subst (λ n. Takes g.S.Journaled.journal g.S.Journaled.origin c.loop.seat.me n c.try_take.new.seat.me)
    c.if-try_take-eq0.true c.try_take.ensures.takes in
    let l = ap (λ m. m.1) t.1 in (
      c.try_take.ensures.mine ∙ (c.loop.invariant.2 ∙ c.requires.mine),
      (Some t.0, l ∙ ap (λ k. (0, Some t.0) ∷ k) (sym (ap rest l))),
    )
