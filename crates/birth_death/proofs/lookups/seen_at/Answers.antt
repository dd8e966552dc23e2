use Rattle.birth_death.proofs.Finding.{found-seen, search-gives-up}
use Rattle.pairs.specs.Versions.{HasLives}
use Rattle.birth_death.proofs.lookups.seen_at.Goals as goal

pub returns-in-Ok-clause-found : goal.returns-in-Ok-clause-found
returns-in-Ok-clause-found g c =
    rw c.if_seen.ensures (found-seen _ _ c.args.key.now c.args.at c.in-Ok.found c.in-Ok.ensures.only_reads
    (rw c.last_birth.ensures at c.in-Ok.ensures.found))

pub returns-in-Err-clause-fault : goal.returns-in-Err-clause-fault
returns-in-Err-clause-fault g c =
    search-gives-up _ _ HasLives c.in-Err.fault c.in-Err.ensures.only_reads c.in-Err.ensures.fault
