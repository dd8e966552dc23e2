use Rattle.std.proofs.Common.{[], refl}
use Rattle.mem_pairs.proofs.BlocksLaws.{holds_page}
use Rattle.mem_pairs.proofs.mem_blocks.MemBlocks.fresh.Goals as goal

pub returns-clause-ok : goal.returns-clause-ok
returns-clause-ok c =
    holds_page c.args.self.now _ c.in-Some.s c.empty.result [] c.empty.ensures refl c.in_ok-insert.ensures.updates
