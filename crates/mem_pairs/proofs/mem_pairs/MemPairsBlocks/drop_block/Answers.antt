use Rattle.std.proofs.Common.{None, refl}
use Rattle.pairs.specs.Versions.{IsBlock}
use Rattle.mem_pairs.proofs.ShownLaws.{moves_block}
use Rattle.mem_pairs.proofs.mem_pairs.MemPairsBlocks.drop_block.Goals as goal

pub returns-clause-ok : goal.returns-clause-ok
returns-clause-ok c =
    moves_block c.args.self.now (record c.args.self.now { blocks = c.remove.new.self }) c.args.s None
    (IsBlock c.args.s) refl c.remove.ensures
