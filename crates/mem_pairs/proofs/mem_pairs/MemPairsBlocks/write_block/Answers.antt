use Rattle.std.proofs.Common.{Some, refl}
use Rattle.pairs.specs.Versions.{IsBlock}
use Rattle.mem_pairs.proofs.ShownLaws.{moves_block}
use Rattle.mem_pairs.proofs.mem_pairs.MemPairsBlocks.write_block.Goals as goal

pub returns-clause-ok : goal.returns-clause-ok
returns-clause-ok c =
    moves_block c.args.self.now (record c.args.self.now { blocks = c.write.new.self }) c.args.s (Some c.args.part.now)
    (IsBlock c.args.s) refl c.in_ok-write.ensures
