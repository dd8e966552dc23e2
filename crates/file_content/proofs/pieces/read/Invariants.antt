use Rattle.file_content.proofs.PieceLaws.{HasRead}
use Rattle.file_content.proofs.pieces.read.Given as goal

abbrev pub invariant-loop-piece : goal.invariant-loop-piece
invariant-loop-piece l = HasRead l.count l.offset l.pieces l.piece-index l.skip l.bytes.items
