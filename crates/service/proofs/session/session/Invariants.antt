use Rattle.std.proofs.Common.{◌<◌, ◌≤◌, length, vec_capacity}
use Rattle.service.specs.Session.{desk, desk_told, session_at, session_told}
use Rattle.service.proofs.SessionSteps.{SessionSoFar}
use Rattle.service.proofs.session.session.Given as goal

abbrev pub invariant-loop-turn : goal.invariant-loop-turn
invariant-loop-turn g l =
    SessionSoFar (session_told g.S.Source.told (desk_told g.T.Tree.answering g.C.Clock.told g.K.Sink.told))
    (session_at l.fn.input (desk (g.T.Tree.plain l.fn.tree) l.fn.clock l.fn.output))
    (session_at l.input (desk (g.T.Tree.plain l.tree) l.clock l.output)) l.room.records l._turn
    × (0 < length l.room.buffer.items)
    × (length l.room.buffer.items ≤ 4096)
    × (vec_capacity l.fn.room.reply ≤ vec_capacity l.room.reply)
