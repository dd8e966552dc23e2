use Rattle.std.proofs.Common.{Some, refl, sym, subst, arith}
use Rattle.pairs.specs.Versions.{HasLives, IsBlock}
use Rattle.fs_shows.specs.Extents.{IsPlace}
use Rattle.extent_ops.specs.Marking.{as_marks}
use Rattle.extent_ops.specs.Blocks.{LiesAt}
use Rattle.extent_ops.proofs.Chaining.{goes-more, goes-both, put-gives-up-first, gives-up-put, gives-up-behind}
use Rattle.extent_ops.proofs.Chaining.{put-gives-up-behind, tells-makes}
use Rattle.extent_ops.proofs.Placed.{lies_there}
use Rattle.extent_ops.proofs.Setting.{over_sets, new_sets}
use Rattle.extent_ops.proofs.placing.set_over.Goals as goal

pub returns-in-Err-clause-goes : goal.returns-in-Err-clause-goes
returns-in-Err-clause-goes g c = goes-more _ _ _ 0 1 (omega arith) c.is_born_now.ensures.goes

pub returns-in-Err-clause-fault : goal.returns-in-Err-clause-fault
returns-in-Err-clause-fault g c =
    put-gives-up-first g.P.Pairs.told c.args.pairs.now c.is_born_now.new.pairs
    (LiesAt c.args.file (as_marks c.args.marks) c.args.index (Some c.args.slot)) HasLives c.in-Err.fault
    (λ v lies. lies.has.lives) c.in-Err.ensures.fault

pub write_block-requires : goal.write_block-requires
write_block-requires g c = c.requires

pub place_new-requires : goal.place_new-requires
place_new-requires g c = c.requires

pub returns-in-Ok-write_block-clause-goes : goal.returns-in-Ok-write_block-clause-goes
returns-in-Ok-write_block-clause-goes g c =
    goes-both _ _ _ _ 0 0 1 (omega arith) c.is_born_now.ensures.goes c.write_block.ensures.goes

pub returns-in-Ok-write_block-clause-ok : goal.returns-in-Ok-write_block-clause-ok
returns-in-Ok-write_block-clause-ok g c = λ w v agrees shown lies.
    let place : IsPlace c.args.file c.args.index = record { file_fits = omega arith; index_fits = omega arith } in
    let before = c.write_block.ensures.goes.agreed w agrees in
    let wrote = c.in-Ok-write_block.ensures.ok w v agrees (c.in-Ok.ensures.ok.shows w v before shown)
    (lies_there c.args.file (as_marks c.args.marks) c.args.index c.args.slot v place lies) in
    record {
      versions = _;
      shown = wrote;
      is = over_sets c.args.file (as_marks c.args.marks) c.args.index c.args.slot c.args.block.now v _ place lies
          ((c.in-Ok.ensures.ok.finds w v before shown lies.has.lives).0 c.if-now.true) refl;
    }

pub returns-in-Err-write_block-clause-goes : goal.returns-in-Err-write_block-clause-goes
returns-in-Err-write_block-clause-goes g c =
    goes-both _ _ _ _ 0 0 1 (omega arith) c.is_born_now.ensures.goes c.write_block.ensures.goes

pub returns-in-Err-write_block-clause-fault : goal.returns-in-Err-write_block-clause-fault
returns-in-Err-write_block-clause-fault g c =
    let Given = LiesAt c.args.file (as_marks c.args.marks) c.args.index (Some c.args.slot) in
    let place : IsPlace c.args.file c.args.index = record { file_fits = omega arith; index_fits = omega arith } in
    gives-up-put g.P.Pairs.told c.args.pairs.now c.write_block.new.self Given c.in-Err-write_block.fault
    (gives-up-behind _ _ _ _ 0 0 Given (IsBlock c.args.slot) _ c.in-Err-write_block.fault
    c.is_born_now.ensures.goes c.write_block.ensures.goes
    (tells-makes _ _ _ Given _ (λ v lies. lies.has.lives) c.in-Ok.ensures.ok)
    (λ v y lies stays. subst (IsBlock c.args.slot) (sym stays.same)
    (lies_there c.args.file (as_marks c.args.marks) c.args.index c.args.slot v place lies)) c.in-Err-write_block.ensures.fault)

pub returns-in-Ok-place_new-clause-goes : goal.returns-in-Ok-place_new-clause-goes
returns-in-Ok-place_new-clause-goes g c =
    goes-both _ _ _ _ 0 1 1 (omega arith) c.is_born_now.ensures.goes c.place_new.ensures.goes

pub returns-in-Ok-place_new-clause-ok : goal.returns-in-Ok-place_new-clause-ok
returns-in-Ok-place_new-clause-ok g c = λ w v agrees shown lies.
    let place : IsPlace c.args.file c.args.index = record { file_fits = omega arith; index_fits = omega arith } in
    let before = c.place_new.ensures.goes.agreed w agrees in
    let made = c.in-Ok-place_new.ensures.ok w v agrees (c.in-Ok.ensures.ok.shows w v before shown) lies.has.lives in
    record {
      versions = made.versions;
      shown = made.shown;
      is = new_sets c.args.file (as_marks c.args.marks) c.args.index c.args.block.now v made.versions place lies.has
          (λ slot here. (c.in-Ok.ensures.ok.finds w v before shown lies.has.lives).1 c.if-now.false here.now) made.is;
    }

pub returns-in-Err-place_new-clause-goes : goal.returns-in-Err-place_new-clause-goes
returns-in-Err-place_new-clause-goes g c =
    goes-both _ _ _ _ 0 1 1 (omega arith) c.is_born_now.ensures.goes c.place_new.ensures.goes

pub returns-in-Err-place_new-clause-fault : goal.returns-in-Err-place_new-clause-fault
returns-in-Err-place_new-clause-fault g c =
    let Given = LiesAt c.args.file (as_marks c.args.marks) c.args.index (Some c.args.slot) in
    put-gives-up-behind _ _ _ _ 0 1 Given HasLives _ c.in-Err-place_new.fault
    c.is_born_now.ensures.goes c.place_new.ensures.goes
    (tells-makes _ _ _ Given _ (λ v lies. lies.has.lives) c.in-Ok.ensures.ok)
    (λ v y lies stays. subst HasLives (sym stays.same) lies.has.lives) c.in-Err-place_new.ensures.fault
