use Rattle.std.proofs.Common.{arith}
use Rattle.file_content.proofs.PieceLaws.{place_more}
use Rattle.file_content.proofs.pieces.place_of.Goals as goal

pub loop-index-preserved : goal.loop-index-preserved
loop-index-preserved c =
    place_more c.loop-index.index c.loop-index.rest c.len-len.result c.args.offset c.args.pieces.now c.index-pieces-index.result
    (omega arith)
    c.index-pieces-index.is c.loop-index.invariant c.len-len.ensures (omega arith)
