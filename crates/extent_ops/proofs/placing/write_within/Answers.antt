use Rattle.std.proofs.Common.{◌≡◌, ◌∙◌, ◌/◌, ◌%◌, ℕ, List, length, take, refl, ap, arith}
use Rattle.std.proofs.lemmas.List.{take_at, length-take}
use Rattle.pairs.specs.Versions.{HasLives}
use Rattle.fs_shows.specs.Extents.{IsPlace}
use Rattle.extent_ops.specs.Marking.{as_marks}
use Rattle.extent_ops.specs.Steps.{HasBlocks}
use Rattle.extent_ops.specs.Blocks.{LiesAt}
use Rattle.extent_ops.proofs.Chaining.{goes-more, goes-both, put-gives-up-first, put-gives-up-behind, tells-makes}
use Rattle.extent_ops.proofs.Overlaying.{sets_writes, part_patch}
use Rattle.extent_ops.proofs.Placed.{lies_found}
use Rattle.extent_ops.proofs.placing.write_within.Goals as goal

pub returns-in-Err-clause-goes : goal.returns-in-Err-clause-goes
returns-in-Err-clause-goes g c = goes-more _ _ _ 0 1 (omega arith) c.load_block.ensures.goes

pub returns-in-Err-clause-fault : goal.returns-in-Err-clause-fault
returns-in-Err-clause-fault g c =
    put-gives-up-first g.P.Pairs.told c.args.pairs.now c.load_block.new.pairs HasBlocks HasLives c.in-Err.fault
    (λ v has. has.lives) c.in-Err.ensures.fault

pub patch-requires-clause-full : goal.patch-requires-clause-full
patch-requires-clause-full g c = ap length c.deref_mut.ensures.value ∙ c.in-Ok.ensures.full

pub patch-requires-clause-within : goal.patch-requires-clause-within
patch-requires-clause-within g c = c.requires

pub overflow_add-from : goal.overflow_add-from
overflow_add-from g c = omega (arith, c.requires)

pub slice_bounds-set_block-end : goal.slice_bounds-set_block-end
slice_bounds-set_block-end g c =
    let long : length c.patch.new.block ≡ c.in-Ok.loaded.bytes.len = omega (arith, c.patch.auto.block, c.deref_mut.ensures.len) in
    let full : length c.patch.new.block ≡ 8192 =
    omega (arith, c.patch.auto.block, ap length c.deref_mut.ensures.value, c.in-Ok.ensures.full) in
    let last : c.deref.result.now ≡ c.patch.new.block =
    c.deref.ensures.value ∙ take_at c.patch.new.block _ c.in-Ok.loaded.bytes.len long in
    omega (
      arith,
      length-take c.max-count.result c.deref.result.now,
      ap length last,
      full,
      c.max-count.ensures,
      c.in-Ok.ensures.few,
      c.requires,
    )

pub set_block-requires : goal.set_block-requires
set_block-requires g c =
    omega (
      arith,
      length-take c.max-count.result c.deref.result.now,
      c.max-count.ensures,
      c.in-Ok.ensures.few,
      c.requires,
    )

pub returns-in-Ok-set_block-clause-goes : goal.returns-in-Ok-set_block-clause-goes
returns-in-Ok-set_block-clause-goes g c =
    goes-both _ _ _ _ 0 1 1 (omega arith) c.load_block.ensures.goes c.set_block.ensures.goes

pub returns-in-Ok-set_block-clause-ok : goal.returns-in-Ok-set_block-clause-ok
returns-in-Ok-set_block-clause-ok g c = λ w v agrees shown has.
    let long : length c.patch.new.block ≡ c.in-Ok.loaded.bytes.len = omega (arith, c.patch.auto.block, c.deref_mut.ensures.len) in
    let last : c.deref.result.now ≡ c.patch.new.block =
    c.deref.ensures.value ∙ take_at c.patch.new.block _ c.in-Ok.loaded.bytes.len long in
    let place : IsPlace c.args.file (c.args.offset / 8192) = record { file_fits = omega arith; index_fits = omega arith } in
    let before = c.set_block.ensures.goes.agreed w agrees in
    let loaded = c.in-Ok.ensures.ok.finds w v before shown has.lives in
    let made = c.in-Ok-set_block.ensures.ok w v agrees (c.in-Ok.ensures.ok.shows w v before shown)
    (record { has = has; slot_is = loaded.slot_is }) in
    record {
      versions = made.versions;
      shown = made.shown;
      is = sets_writes c.args.file (as_marks c.args.marks) c.args.offset (length c.args.part.now) c.args.part.now
          (take c.max-count.result c.deref.result.now) v made.versions refl c.requires
          (part_patch v c.args.file (as_marks c.args.marks) (c.args.offset / 8192) c.in-Ok.loaded.slot
          c.in-Ok.loaded.bytes.items c.deref_mut.result.now c.patch.new.block (take c.max-count.result c.deref.result.now)
          c.args.part.now c.in-Ok.loaded.count (c.args.offset % 8192) c.max-count.result has.blocks place loaded
          c.deref_mut.ensures.value c.patch.ensures c.max-count.ensures
          (ap (λ (l : List ℕ). take c.max-count.result l) last)) made.is;
    }

pub returns-clause-goes : goal.returns-clause-goes
returns-clause-goes g c =
    goes-both _ _ _ _ 0 1 1 (omega arith) c.load_block.ensures.goes c.set_block.ensures.goes

pub returns-clause-fault : goal.returns-clause-fault
returns-clause-fault g c =
    put-gives-up-behind _ _ _ _ 0 1 HasBlocks
    (LiesAt c.args.file (as_marks c.args.marks) (c.args.offset / 8192) c.in-Ok.loaded.slot) _ c.in-Err-set_block.fault
    c.load_block.ensures.goes c.set_block.ensures.goes
    (tells-makes _ _ _ HasBlocks _ (λ v has. has.lives) c.in-Ok.ensures.ok)
    (λ v y has stays. lies_found c.args.file (as_marks c.args.marks) (c.args.offset / 8192) c.in-Ok.loaded.slot v y has
    stays.same stays.is.slot_is) c.in-Err-set_block.ensures.fault
