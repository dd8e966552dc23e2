use Rattle.std.proofs.Common.{refl}
use Rattle.pair_types.proofs.MemPagesLemmas.{written_so}
use Rattle.pair_types.proofs.mem_pages.MemPagesPages.write.Goals as goal

pub returns : goal.returns
returns c =
    written_so c.args.self.now (record c.args.self.now { written = c.insert.new.self }) c.args.s c.args.p refl refl refl
    c.in-Ok.ensures.updates
