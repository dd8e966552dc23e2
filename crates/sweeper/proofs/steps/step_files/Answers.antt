-- A file that is marked, or none, follows.
use Rattle.std.proofs.Common.{ℕ, List, Option, subst}
use Rattle.std.specs.Prelude.{⊤}
use Rattle.pairs.specs.Told.{Tells}
use Rattle.fs_shows.proofs.Doing.{up-read}
use Rattle.sweeper.specs.Rows.{mark_front, HasNumbers, NextIn}
use Rattle.sweeper.proofs.Stepping.{files-found, files-none}
use Rattle.sweeper.proofs.steps.step_files.Goals as goal

pub returns-in-Err-clause-goes : goal.returns-in-Err-clause-goes
returns-in-Err-clause-goes g c = c.next_in.ensures.goes

pub returns-in-Err-clause-fault : goal.returns-in-Err-clause-fault
returns-in-Err-clause-fault g c =
    up-read g.P.Pairs.told c.args.pairs.now c.next_in.new.pairs (λ t. ⊤) c.in-Err.fault c.in-Err.ensures.fault

pub returns-in-Some-clause-goes : goal.returns-in-Some-clause-goes
returns-in-Some-clause-goes g c = c.next_in.ensures.goes

pub returns-in-Some-clause-ok : goal.returns-in-Some-clause-ok
returns-in-Some-clause-ok g c =
    files-found g.P.Pairs.told c.args.pairs.now c.next_in.new.pairs c.args.after c.in-Some.pair.0 c.in-Some.pair.1
    (subst (λ (o : Option (ℕ × List ℕ)). Tells g.P.Pairs.told c.args.pairs.now c.next_in.new.pairs
    (λ v. HasNumbers mark_front v → NextIn mark_front c.args.after o v)) c.in-Some.is c.in-Ok.ensures.ok)

pub returns-in-None-clause-goes : goal.returns-in-None-clause-goes
returns-in-None-clause-goes g c = c.next_in.ensures.goes

pub returns-in-None-clause-ok : goal.returns-in-None-clause-ok
returns-in-None-clause-ok g c =
    files-none g.P.Pairs.told c.args.pairs.now c.next_in.new.pairs c.args.after c.new.result c.new.ensures
    (subst (λ (o : Option (ℕ × List ℕ)). Tells g.P.Pairs.told c.args.pairs.now c.next_in.new.pairs
    (λ v. HasNumbers mark_front v → NextIn mark_front c.args.after o v)) c.in-None.is c.in-Ok.ensures.ok)
