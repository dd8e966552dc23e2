use Rattle.std.proofs.Common.{Some, None}
use Rattle.pairs.specs.Versions.{HasLives}
use Rattle.birth_death.proofs.Finding.{search-gives-up}
use Rattle.birth_death.proofs.Nexts.{found-follows}
use Rattle.birth_death.proofs.walks.next_key.Goals as goal

pub returns-in-Ok-Some-clause-found : goal.returns-in-Ok-Some-clause-found
returns-in-Ok-Some-clause-found g c =
    found-follows (g.G.Pages.state c.args.pages.now) _ c.args.after.now (Some c.in-Ok-Some.q)
    c.in-Ok-Some.ensures.only_reads (rw c.in-Ok-Some.field-0-is at c.in-Ok-Some.ensures.found)

pub returns-in-Ok-None-clause-found : goal.returns-in-Ok-None-clause-found
returns-in-Ok-None-clause-found g c =
    found-follows (g.G.Pages.state c.args.pages.now) _ c.args.after.now None
    c.in-Ok-None.ensures.only_reads (rw c.in-Ok-None.field-0-is at c.in-Ok-None.ensures.found)

pub returns-in-Err-clause-fault : goal.returns-in-Err-clause-fault
returns-in-Err-clause-fault g c =
    search-gives-up (g.G.Pages.state c.args.pages.now) _ HasLives c.in-Err.fault
    c.in-Err.ensures.only_reads c.in-Err.ensures.fault
