use Rattle.std.proofs.Common.{◌≡◌, arith, ap, ◌∙◌, Some, [], ◌∷◌}
use Rattle.atomic_table.specs.Table.{rest}
use Rattle.turnstile.proofs.Steps.{give_allows}
use Rattle.turnstile.proofs.lock.Lock.give.Goals as goal

pub swap-requires : goal.swap-requires
swap-requires g c =
    let h = c.args.self.now.table.shared.table_id in
    let v = c.args.seat.now.me.0 in
    let e = c.exchange.ensures in
    let is : c.exchange.new.seat.me ≡ (v, (0, Some c.args.state) ∷ []) =
    e.3 ∙ ap (λ l. (v, (0, Some c.args.state) ∷ rest l)) c.requires.holds.1 in
    let shape = c.args.self.now.shape in (
      e.0 ∙ c.requires.mine,
      rw shape.0 (omega arith),
      rw (shape.1, is) (give_allows g.S.Journaled.journal g.S.Journaled.origin
          (g.S.Journaled.origin c.args.self.now.table.shared.key.value) c.exchange.new.seat.id v c.args.state c.requires.some
          c.requires.holds.0 c.requires.origin c.requires.grows),
    )
