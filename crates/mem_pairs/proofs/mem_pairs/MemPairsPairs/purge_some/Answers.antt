use Rattle.std.proofs.Common.{refl}
use Rattle.mem_pairs.proofs.ShownLaws.{took}
use Rattle.mem_pairs.proofs.mem_pairs.MemPairsPairs.purge_some.Goals as goal

pub returns-in-Some-clause-ok : goal.returns-in-Some-clause-ok
returns-in-Some-clause-ok c = took c.args.self.now _ c.args.kept.now c.args.from.now c.in-Some.q refl c.in-Some.ensures
