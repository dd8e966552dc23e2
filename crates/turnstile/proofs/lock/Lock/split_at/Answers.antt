use Rattle.std.proofs.Common.{arith, subst, ◌<◌}
use Rattle.turnstile.proofs.Steps.{cut_splits}
use Rattle.turnstile.proofs.lock.Lock.split_at.Goals as goal

pub split_seat-requires : goal.split_seat-requires
split_seat-requires g c =
    let h = c.args.self.now.shape in
    let v = c.args.seat.now.me.0 in
    let low : v.low < g.C.Cut.from = subst (λ n. v.low < n) c.requires.cut c.requires.range.0 in
    let high : g.C.Cut.from < v.high = subst (λ n. n < v.high) c.requires.cut c.requires.range.1 in (
      c.requires.mine,
      rw h.0 (omega arith),
      cut_splits g.S.Journaled.journal g.S.Journaled.origin
          (g.S.Journaled.origin c.args.self.now.table.shared.key.value) c.args.seat.now.id v g.C.Cut.from low high,
    )
