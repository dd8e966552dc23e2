use Rattle.std.proofs.Common.{refl}
use Rattle.mem_pairs.proofs.BlocksLaws.{holds_page}
use Rattle.mem_pairs.proofs.mem_blocks.MemBlocks.write.Goals as goal

pub returns : goal.returns
returns c =
    holds_page c.args.self.now _ c.args.s c.in_ok-page.page c.args.part.now c.in_ok-page.ensures refl
    c.in_ok-insert.ensures.updates
