use Rattle.std.proofs.Common.{refl}
use Rattle.pair_types.proofs.MemPagesLemmas.{sets_so}
use Rattle.pair_types.proofs.mem_pages.MemPages.set.Goals as goal

pub returns-clause-ok : goal.returns-clause-ok
returns-clause-ok c = sets_so _ _ _ _ refl c.in-Ok.ensures.updates c.remove.ensures.updates c.remove-2.ensures.updates
