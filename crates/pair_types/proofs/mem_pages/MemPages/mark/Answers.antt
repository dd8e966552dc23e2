use Rattle.std.proofs.Common.{refl}
use Rattle.pair_types.proofs.MemPagesLemmas.{marked}
use Rattle.pair_types.proofs.mem_pages.MemPages.mark.Goals as goal

pub returns-clause-ok : goal.returns-clause-ok
returns-clause-ok c = λ within. marked _ _ _ refl refl refl c.in-Ok.ensures.updates
