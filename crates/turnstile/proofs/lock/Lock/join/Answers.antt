use Rattle.std.proofs.Common.{◌≡◌, arith, ap, refl, subst, ◌∙◌, []}
use Rattle.turnstile.proofs.Steps.{whole_joins, look_allows_at, looked}
use Rattle.turnstile.specs.Rules.{Looks}
use Rattle.turnstile.specs.Views.{joined}
use Rattle.turnstile.proofs.lock.Lock.join.Goals as goal

pub join_seat-requires : goal.join_seat-requires
join_seat-requires g c =
    let h = c.args.self.now.shape in
    let r = c.requires in
    let v = c.args.seat.now in
    let w = c.args.other in (
      r.mine.0,
      r.mine.1,
      r.empty,
      rw h.0 (omega arith),
      whole_joins g.S.Journaled.journal g.S.Journaled.origin
          (g.S.Journaled.origin c.args.self.now.table.shared.key.value) v.id v.me.0 w.id w.me.0 r.free.0 r.free.2 r.some.0
          r.some.1 r.border,
    )

pub load-requires : goal.load-requires
load-requires g c =
    let h = c.args.self.now.shape in
    let r = c.requires in
    let e = c.join_seat.ensures in
    let v = c.args.seat.now.me.0 in
    let w = c.args.other.me.0 in
    let me : c.join_seat.new.seat.me ≡ (joined v w, []) = e.2 ∙ ap (λ l. (joined v w, l)) r.free.1 in (
      e.0 ∙ r.mine.0,
      rw h.0 (omega arith),
      look_allows_at g.S.Journaled.journal g.S.Journaled.origin
          (g.S.Journaled.origin c.args.self.now.table.shared.key.value) _ c.join_seat.new.seat.id (joined v w)
          c.join_seat.new.seat.me h.1 me refl,
    )

pub returns-clause-took_in : goal.returns-clause-took_in
returns-clause-took_in g c =
    let r = c.requires in
    let e = c.join_seat.ensures in
    let v = c.args.seat.now.me.0 in
    let w = c.args.other.me.0 in
    let me : c.join_seat.new.seat.me ≡ (joined v w, []) = e.2 ∙ ap (λ l. (joined v w, l)) r.free.1 in
    let t : Looks (joined v w, []) c.load.new.seat.me = subst (λ m. Looks m c.load.new.seat.me) me c.load.ensures.2 in
    (looked v w c.load.new.seat.me t).0

pub returns-clause-empty : goal.returns-clause-empty
returns-clause-empty g c =
    let r = c.requires in
    let e = c.join_seat.ensures in
    let v = c.args.seat.now.me.0 in
    let w = c.args.other.me.0 in
    let me : c.join_seat.new.seat.me ≡ (joined v w, []) = e.2 ∙ ap (λ l. (joined v w, l)) r.free.1 in
    let t : Looks (joined v w, []) c.load.new.seat.me = subst (λ m. Looks m c.load.new.seat.me) me c.load.ensures.2 in
    (looked v w c.load.new.seat.me t).1
