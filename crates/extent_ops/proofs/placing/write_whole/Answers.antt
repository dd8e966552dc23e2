use Rattle.std.proofs.Common.{◌/◌, ◌%◌, arith}
use Rattle.pairs.specs.declared.at.At.TheVariants.{Live}
use Rattle.pairs.specs.Versions.{HasLives}
use Rattle.fs_shows.specs.Extents.{block_at}
use Rattle.extent_ops.specs.Marking.{as_marks}
use Rattle.extent_ops.specs.Steps.{HasBlocks}
use Rattle.extent_ops.specs.Blocks.{LiesAt}
use Rattle.extent_ops.proofs.Chaining.{goes-more, goes-both, put-gives-up-first, put-gives-up-behind, tells-makes}
use Rattle.extent_ops.proofs.Overlaying.{sets_writes, whole_patch}
use Rattle.extent_ops.proofs.Placed.{lies_found}
use Rattle.extent_ops.proofs.placing.write_whole.Goals as goal

pub returns-in-Err-clause-goes : goal.returns-in-Err-clause-goes
returns-in-Err-clause-goes g c = goes-more _ _ _ 0 1 (omega arith) c.find_block.ensures.goes

pub returns-in-Err-clause-fault : goal.returns-in-Err-clause-fault
returns-in-Err-clause-fault g c =
    put-gives-up-first g.P.Pairs.told c.args.pairs.now c.find_block.new.pairs HasBlocks HasLives c.in-Err.fault
    (λ v has. has.lives) c.in-Err.ensures.fault

pub set_block-requires : goal.set_block-requires
set_block-requires g c = omega (arith, c.requires.whole)

pub returns-in-Ok-set_block-clause-goes : goal.returns-in-Ok-set_block-clause-goes
returns-in-Ok-set_block-clause-goes g c =
    goes-both _ _ _ _ 0 1 1 (omega arith) c.find_block.ensures.goes c.set_block.ensures.goes

pub returns-in-Ok-set_block-clause-ok : goal.returns-in-Ok-set_block-clause-ok
returns-in-Ok-set_block-clause-ok g c = λ w v agrees shown has.
    let before = c.set_block.ensures.goes.agreed w agrees in
    let made = c.in-Ok-set_block.ensures.ok w v agrees (c.in-Ok.ensures.ok.shows w v before shown)
    (record { has = has; slot_is = c.in-Ok.ensures.ok.finds w v before shown has.lives }) in
    record {
      versions = made.versions;
      shown = made.shown;
      is = sets_writes c.args.file (as_marks c.args.marks) c.args.offset 8192 c.args.block.now c.args.block.now v made.versions
          c.requires.whole (omega (arith, c.requires.first))
          (whole_patch (block_at v Live c.args.file (as_marks c.args.marks) (c.args.offset / 8192)) c.args.block.now
          (c.args.offset % 8192) c.requires.first c.requires.whole) made.is;
    }

pub returns-in-Err-set_block-clause-goes : goal.returns-in-Err-set_block-clause-goes
returns-in-Err-set_block-clause-goes g c =
    goes-both _ _ _ _ 0 1 1 (omega arith) c.find_block.ensures.goes c.set_block.ensures.goes

pub returns-in-Err-set_block-clause-fault : goal.returns-in-Err-set_block-clause-fault
returns-in-Err-set_block-clause-fault g c =
    put-gives-up-behind _ _ _ _ 0 1 HasBlocks
    (LiesAt c.args.file (as_marks c.args.marks) (c.args.offset / 8192) c.in-Ok.slot) _ c.in-Err-set_block.fault
    c.find_block.ensures.goes c.set_block.ensures.goes
    (tells-makes _ _ _ HasBlocks _ (λ v has. has.lives) c.in-Ok.ensures.ok)
    (λ v y has stays. lies_found c.args.file (as_marks c.args.marks) (c.args.offset / 8192) c.in-Ok.slot v y has stays.same
    stays.is) c.in-Err-set_block.ensures.fault
