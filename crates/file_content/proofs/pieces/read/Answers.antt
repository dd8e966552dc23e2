use Rattle.std.proofs.Common.{arith}
use Rattle.file_content.proofs.PieceLaws.{read_step}
use Rattle.file_content.proofs.pieces.read.Goals as goal

pub loop-piece-preserved : goal.loop-piece-preserved
loop-piece-preserved c =
    read_step _ _ _ _ _ _ _ _ _ _ (omega arith) c.piece-item.is c.loop-piece.invariant (omega arith) c.in_ok-read.ensures
    (omega arith)
