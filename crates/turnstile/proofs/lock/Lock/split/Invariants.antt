use Rattle.turnstile.proofs.lock.Lock.split.Given as goal

abbrev pub ghosts-split_at : goal.ghosts-split_at
ghosts-split_at g a = record { from = a.from }
