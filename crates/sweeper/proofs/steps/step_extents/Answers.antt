-- The next extent is looked at, or the mark is taken away.
use Rattle.std.proofs.Common.{◌≡◌, ◌∙◌, ℕ, List, Option, subst}
use Rattle.std.specs.Prelude.{⊤}
use Rattle.pairs.specs.Told.{Tells}
use Rattle.pairs.specs.Versions.{HasLives}
use Rattle.extent_ops.specs.Steps.{Makes}
use Rattle.sweeper.specs.Ending.{EndsOr}
use Rattle.fs_shows.proofs.Doing.{goes-none, goes-then, up-memory, up-read, up-behind-read}
use Rattle.sweeper.specs.Rows.{extent_front, HasNumbers, NextIn}
use Rattle.sweeper.proofs.Stepping.{extents-found, extents-none}
use Rattle.sweeper.proofs.steps.step_extents.Goals as goal

pub returns-in-Err-clause-goes : goal.returns-in-Err-clause-goes
returns-in-Err-clause-goes g c = goes-none g.P.Pairs.told c.args.pairs.now

pub returns-in-Err-clause-fault : goal.returns-in-Err-clause-fault
returns-in-Err-clause-fault g c =
    up-memory g.P.Pairs.told c.args.pairs.now c.args.pairs.now (λ t. ⊤) c.from.result c.from.ensures

pub returns-in-Err-next_in-clause-goes : goal.returns-in-Err-next_in-clause-goes
returns-in-Err-next_in-clause-goes g c = c.next_in.ensures.goes

pub returns-in-Err-next_in-clause-fault : goal.returns-in-Err-next_in-clause-fault
returns-in-Err-next_in-clause-fault g c =
    up-read g.P.Pairs.told c.args.pairs.now c.next_in.new.pairs (λ t. ⊤) c.in-Err-next_in.fault c.in-Err-next_in.ensures.fault

pub returns-in-Ok-end_stale-clause-goes : goal.returns-in-Ok-end_stale-clause-goes
returns-in-Ok-end_stale-clause-goes g c =
    goes-then g.P.Pairs.told c.args.pairs.now c.next_in.new.pairs c.end_stale.new.pairs 0 0 c.next_in.ensures.goes
    c.end_stale.ensures.goes

pub returns-in-Ok-end_stale-clause-ok : goal.returns-in-Ok-end_stale-clause-ok
returns-in-Ok-end_stale-clause-ok g c = λ kept.
    let is : c.as_slice.result.now ≡ extent_front c.args.file = c.as_slice.ensures.value ∙ c.in-Ok.ensures in
    extents-found g.P.Pairs.told c.args.pairs.now c.next_in.new.pairs c.end_stale.new.pairs 0 c.args.file
    c.args.after c.in-Some.pair.0 c.in-Some.pair.1 c.in-Ok-end_stale.ended c.end_stale.ensures.goes
    (subst (λ (o : Option (ℕ × List ℕ)). Tells g.P.Pairs.told c.args.pairs.now c.next_in.new.pairs
    (λ v. HasNumbers (extent_front c.args.file) v → NextIn (extent_front c.args.file) c.args.after o v)) c.in-Some.is
    (subst (λ (f : List ℕ). Tells g.P.Pairs.told c.args.pairs.now c.next_in.new.pairs
    (λ v. HasNumbers f v → NextIn f c.args.after c.in-Ok-next_in.found v)) is c.in-Ok-next_in.ensures.ok))
    (subst (λ (value : List ℕ). Makes g.P.Pairs.told c.next_in.new.pairs c.end_stale.new.pairs HasLives
    (EndsOr c.args.file c.in-Some.pair.0 value c.in-Ok-end_stale.ended)) c.as_slice-in-Some.ensures c.in-Ok-end_stale.ensures.ok)
    kept c.args.whole

pub returns-in-Some-clause-goes : goal.returns-in-Some-clause-goes
returns-in-Some-clause-goes g c =
    goes-then g.P.Pairs.told c.args.pairs.now c.next_in.new.pairs c.end_stale.new.pairs 0 0 c.next_in.ensures.goes
    c.end_stale.ensures.goes

pub returns-in-Some-clause-fault : goal.returns-in-Some-clause-fault
returns-in-Some-clause-fault g c =
    up-behind-read g.P.Pairs.told c.args.pairs.now c.next_in.new.pairs c.end_stale.new.pairs 0 0
    (λ v. HasNumbers c.as_slice.result.now v → NextIn c.as_slice.result.now c.args.after c.in-Ok-next_in.found v) (λ t. ⊤)
    c.in-Err-end_stale.fault c.next_in.ensures.goes c.end_stale.ensures.goes c.in-Ok-next_in.ensures.ok
    c.in-Err-end_stale.ensures.fault

pub returns-in-Ok-leave_file-clause-goes : goal.returns-in-Ok-leave_file-clause-goes
returns-in-Ok-leave_file-clause-goes g c =
    goes-then g.P.Pairs.told c.args.pairs.now c.next_in.new.pairs c.leave_file.new.pairs 0 0 c.next_in.ensures.goes
    c.leave_file.ensures.goes

pub returns-in-Ok-leave_file-clause-ok : goal.returns-in-Ok-leave_file-clause-ok
returns-in-Ok-leave_file-clause-ok g c =
    let is : c.as_slice.result.now ≡ extent_front c.args.file = c.as_slice.ensures.value ∙ c.in-Ok.ensures in
    extents-none g.P.Pairs.told c.args.pairs.now c.next_in.new.pairs c.leave_file.new.pairs 0 c.args.file
    c.args.after c.args.whole c.leave_file.ensures.goes
    (subst (λ (o : Option (ℕ × List ℕ)). Tells g.P.Pairs.told c.args.pairs.now c.next_in.new.pairs
    (λ v. HasNumbers (extent_front c.args.file) v → NextIn (extent_front c.args.file) c.args.after o v)) c.in-None.is
    (subst (λ (f : List ℕ). Tells g.P.Pairs.told c.args.pairs.now c.next_in.new.pairs
    (λ v. HasNumbers f v → NextIn f c.args.after c.in-Ok-next_in.found v)) is c.in-Ok-next_in.ensures.ok))
    c.in-Ok-leave_file.ensures.ok

pub returns-clause-goes : goal.returns-clause-goes
returns-clause-goes g c =
    goes-then g.P.Pairs.told c.args.pairs.now c.next_in.new.pairs c.leave_file.new.pairs 0 0 c.next_in.ensures.goes
    c.leave_file.ensures.goes

pub returns-clause-fault : goal.returns-clause-fault
returns-clause-fault g c =
    up-behind-read g.P.Pairs.told c.args.pairs.now c.next_in.new.pairs c.leave_file.new.pairs 0 0
    (λ v. HasNumbers c.as_slice.result.now v → NextIn c.as_slice.result.now c.args.after c.in-Ok-next_in.found v) (λ t. ⊤)
    c.in-Err-leave_file.fault c.next_in.ensures.goes c.leave_file.ensures.goes c.in-Ok-next_in.ensures.ok
    (up-read g.P.Pairs.told c.next_in.new.pairs c.leave_file.new.pairs (λ t. ⊤) c.in-Err-leave_file.fault
    c.in-Err-leave_file.ensures.fault)
