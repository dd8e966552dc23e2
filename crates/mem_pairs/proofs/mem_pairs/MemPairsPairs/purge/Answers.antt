use Rattle.std.proofs.Common.{refl}
use Rattle.mem_pairs.proofs.ShownLaws.{purges}
use Rattle.mem_pairs.proofs.mem_pairs.MemPairsPairs.purge.Goals as goal

pub returns-clause-ok : goal.returns-clause-ok
returns-clause-ok c = purges c.args.self.now _ c.args.kept.now c.args.from.now c.purge.result refl c.purge.ensures
