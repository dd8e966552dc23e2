use Rattle.std.proofs.Common.{Some, [], refl}
use Rattle.std.specs.Bool.{⊤}
use Rattle.mem_pairs.proofs.ShownLaws.{moves_block}
use Rattle.mem_pairs.proofs.mem_pairs.MemPairsBlocks.fresh_block.Goals as goal

pub returns-clause-ok : goal.returns-clause-ok
returns-clause-ok c =
    moves_block c.args.self.now (record c.args.self.now { blocks = c.fresh.new.self }) c.in_ok-s.s (Some [])
    (λ v. ⊤) refl c.in_ok-s.ensures.ok
