use Rattle.std.proofs.Common.{arith}
use Rattle.turnstile.proofs.Steps.{take_allows}
use Rattle.turnstile.proofs.lock.Lock.try_take.Goals as goal

pub swap-requires : goal.swap-requires
swap-requires g c =
    let h = c.args.self.now.shape in (
      c.requires.mine,
      rw h.0 (omega arith),
      rw (h.1, c.requires.free.1)
          (take_allows g.S.Journaled.journal g.S.Journaled.origin (g.S.Journaled.origin c.args.self.now.table.shared.key.value)
          c.args.seat.now.id c.args.seat.now.me.0 c.requires.some),
    )
