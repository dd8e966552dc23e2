use Rattle.std.proofs.Common.{◌≡◌, ◌∙◌, Option, Some, None, sym, subst, arith}
use Rattle.pair_types.specs.declared.slot.Slot.{Slot}
use Rattle.pairs.specs.Versions.{HasLives}
use Rattle.fs_shows.specs.Extents.{IsPlace}
use Rattle.extent_ops.specs.Marking.{as_marks}
use Rattle.extent_ops.specs.Blocks.{LiesAt}
use Rattle.extent_ops.proofs.Chaining.{put-gives-up-given}
use Rattle.extent_ops.proofs.Setting.{new_sets}
use Rattle.extent_ops.proofs.placing.set_block.Goals as goal

no_slot : (slot : Slot) → Some slot ≡ None → ⊥
no_slot slot is = absurd (cc)

pub set_over-requires : goal.set_over-requires
set_over-requires g c = c.requires

pub place_new-requires : goal.place_new-requires
place_new-requires g c = c.requires

pub returns-in-Ok-clause-goes : goal.returns-in-Ok-clause-goes
returns-in-Ok-clause-goes g c = c.set_over.ensures.goes

pub returns-in-Ok-clause-ok : goal.returns-in-Ok-clause-ok
returns-in-Ok-clause-ok g c = λ w v agrees shown lies. c.in-Ok.ensures.ok w v agrees shown
    (subst (λ (o : Option Slot). LiesAt c.args.file (as_marks c.args.marks) c.args.index o v) c.in-Some.is lies)

pub returns-in-Err-clause-goes : goal.returns-in-Err-clause-goes
returns-in-Err-clause-goes g c = c.set_over.ensures.goes

pub returns-in-Err-clause-fault : goal.returns-in-Err-clause-fault
returns-in-Err-clause-fault g c =
    put-gives-up-given g.P.Pairs.told c.args.pairs.now c.set_over.new.pairs
    (LiesAt c.args.file (as_marks c.args.marks) c.args.index c.args.slot)
    (LiesAt c.args.file (as_marks c.args.marks) c.args.index (Some c.in-Some.slot)) c.in-Err.fault
    (λ v lies. subst (λ (o : Option Slot). LiesAt c.args.file (as_marks c.args.marks) c.args.index o v) c.in-Some.is lies)
    c.in-Err.ensures.fault

pub returns-in-Ok-place_new-clause-goes : goal.returns-in-Ok-place_new-clause-goes
returns-in-Ok-place_new-clause-goes g c = c.place_new.ensures.goes

pub returns-in-Ok-place_new-clause-ok : goal.returns-in-Ok-place_new-clause-ok
returns-in-Ok-place_new-clause-ok g c = λ w v agrees shown lies.
    let place : IsPlace c.args.file c.args.index = record { file_fits = omega arith; index_fits = omega arith } in
    let made = c.in-Ok-place_new.ensures.ok w v agrees shown lies.has.lives in
    record {
      versions = made.versions;
      shown = made.shown;
      is = new_sets c.args.file (as_marks c.args.marks) c.args.index c.args.block.now v made.versions place lies.has
          (λ slot here. no_slot slot (sym here.slot_is ∙ lies.slot_is ∙ c.in-None.is)) made.is;
    }

pub returns-in-Err-place_new-clause-goes : goal.returns-in-Err-place_new-clause-goes
returns-in-Err-place_new-clause-goes g c = c.place_new.ensures.goes

pub returns-in-Err-place_new-clause-fault : goal.returns-in-Err-place_new-clause-fault
returns-in-Err-place_new-clause-fault g c =
    put-gives-up-given g.P.Pairs.told c.args.pairs.now c.place_new.new.pairs
    (LiesAt c.args.file (as_marks c.args.marks) c.args.index c.args.slot) HasLives
    c.in-Err-place_new.fault (λ v lies. lies.has.lives) c.in-Err-place_new.ensures.fault
