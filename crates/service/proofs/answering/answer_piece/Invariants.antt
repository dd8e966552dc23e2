use Rattle.std.proofs.Common.{◌≤◌, length, vec_capacity}
use Rattle.service.specs.Session.{desk, desk_told}
use Rattle.service.proofs.AnswerSteps.{PieceSoFar}
use Rattle.service.proofs.answering.answer_piece.Given as goal

abbrev pub invariant-loop-rest : goal.invariant-loop-rest
invariant-loop-rest g l =
    PieceSoFar (desk_told g.T.Tree.answering g.C.Clock.told g.K.Sink.told)
    (desk (g.T.Tree.plain l.fn.tree) l.fn.clock l.fn.output) (desk (g.T.Tree.plain l.tree) l.clock l.output)
    l.fn.records l.records l.piece l.rest
    × (vec_capacity l.fn.reply ≤ vec_capacity l.reply)

abbrev pub decreases-loop-rest : goal.decreases-loop-rest
decreases-loop-rest g l = length l.rest
