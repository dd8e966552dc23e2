use Rattle.std.proofs.Common.{None, refl}
use Rattle.mem_pairs.proofs.BlocksLaws.{holds}
use Rattle.mem_pairs.proofs.mem_blocks.MemBlocks.remove.Goals as goal

pub returns : goal.returns
returns c = holds c.args.self.now _ c.args.s None refl c.remove.ensures.updates
