use Rattle.std.proofs.Common.{◌≡◌, ◌∙◌, ◌/◌, ◌%◌, ℕ, List, length, take, ap, arith}
use Rattle.std.proofs.lemmas.List.{length-take}
use Rattle.pairs.specs.Versions.{HasLives}
use Rattle.fs_shows.specs.Extents.{IsPlace}
use Rattle.extent_ops.specs.Marking.{as_marks}
use Rattle.extent_ops.specs.Steps.{HasBlocks}
use Rattle.extent_ops.specs.Blocks.{LiesAt}
use Rattle.extent_ops.proofs.Chaining.{goes-still, goes-more, goes-both, put-gives-up-first, put-gives-up-behind, tells-makes}
use Rattle.extent_ops.proofs.Trimming.{trims_even, trims_short, trims_set}
use Rattle.extent_ops.proofs.Placed.{lies_found}
use Rattle.extent_ops.proofs.cutting.trim.Goals as goal

pub returns-then-from-eq0-clause-goes : goal.returns-then-from-eq0-clause-goes
returns-then-from-eq0-clause-goes g c = goes-still _ _ 1

pub returns-then-from-eq0-clause-ok : goal.returns-then-from-eq0-clause-ok
returns-then-from-eq0-clause-ok g c = λ w v agrees shown has. record {
  versions = v;
  shown = shown;
  is = trims_even c.args.file (as_marks c.args.marks) c.args.size v (omega arith) has;
}

pub returns-in-Err-clause-goes : goal.returns-in-Err-clause-goes
returns-in-Err-clause-goes g c = goes-more _ _ _ 0 1 (omega arith) c.load_block.ensures.goes

pub returns-in-Err-clause-fault : goal.returns-in-Err-clause-fault
returns-in-Err-clause-fault g c =
    put-gives-up-first g.P.Pairs.told c.args.pairs.now c.load_block.new.pairs HasBlocks HasLives c.in-Err.fault
    (λ v has. has.lives) c.in-Err.ensures.fault

pub returns-then-loaded-from-clause-goes : goal.returns-then-loaded-from-clause-goes
returns-then-loaded-from-clause-goes g c = goes-more _ _ _ 0 1 (omega arith) c.load_block.ensures.goes

pub returns-then-loaded-from-clause-ok : goal.returns-then-loaded-from-clause-ok
returns-then-loaded-from-clause-ok g c = λ w v agrees shown has.
    let place : IsPlace c.args.file (c.args.size / 8192) = record { file_fits = omega arith; index_fits = omega arith } in
    record {
      versions = v;
      shown = c.in-Ok.ensures.ok.shows w v agrees shown;
      is = trims_short c.args.file (as_marks c.args.marks) c.args.size v place c.in-Ok.loaded.slot c.in-Ok.loaded.bytes.items
          c.in-Ok.loaded.count (c.in-Ok.ensures.ok.finds w v agrees shown has.lives) has (omega arith);
    }

pub slice_bounds-set_block-end : goal.slice_bounds-set_block-end
slice_bounds-set_block-end g c =
    let long : length c.deref.result.now ≡ 8192 = ap length c.deref.ensures.value ∙ c.in-Ok.ensures.full in
    omega (arith, length-take (c.args.size % 8192) c.deref.result.now, long)

pub set_block-requires : goal.set_block-requires
set_block-requires g c = omega (arith, length-take (c.args.size % 8192) c.deref.result.now)

pub returns-in-Ok-set_block-clause-goes : goal.returns-in-Ok-set_block-clause-goes
returns-in-Ok-set_block-clause-goes g c =
    goes-both _ _ _ _ 0 1 1 (omega arith) c.load_block.ensures.goes c.set_block.ensures.goes

pub returns-in-Ok-set_block-clause-ok : goal.returns-in-Ok-set_block-clause-ok
returns-in-Ok-set_block-clause-ok g c = λ w v agrees shown has.
    let place : IsPlace c.args.file (c.args.size / 8192) = record { file_fits = omega arith; index_fits = omega arith } in
    let before = c.set_block.ensures.goes.agreed w agrees in
    let loaded = c.in-Ok.ensures.ok.finds w v before shown has.lives in
    let made = c.in-Ok-set_block.ensures.ok w v agrees (c.in-Ok.ensures.ok.shows w v before shown)
    (record { has = has; slot_is = loaded.slot_is }) in
    record {
      versions = made.versions;
      shown = made.shown;
      is = trims_set c.args.file (as_marks c.args.marks) c.args.size v place c.in-Ok.loaded.slot c.in-Ok.loaded.bytes.items
          c.in-Ok.loaded.count loaded has (take (c.args.size % 8192) c.deref.result.now) made.versions
          (ap (λ (l : List ℕ). take (c.args.size % 8192) l) c.deref.ensures.value) made.is;
    }

pub returns-clause-goes : goal.returns-clause-goes
returns-clause-goes g c =
    goes-both _ _ _ _ 0 1 1 (omega arith) c.load_block.ensures.goes c.set_block.ensures.goes

pub returns-clause-fault : goal.returns-clause-fault
returns-clause-fault g c =
    put-gives-up-behind _ _ _ _ 0 1 HasBlocks
    (LiesAt c.args.file (as_marks c.args.marks) (c.args.size / 8192) c.in-Ok.loaded.slot) _ c.in-Err-set_block.fault
    c.load_block.ensures.goes c.set_block.ensures.goes
    (tells-makes _ _ _ HasBlocks _ (λ v has. has.lives) c.in-Ok.ensures.ok)
    (λ v y has stays. lies_found c.args.file (as_marks c.args.marks) (c.args.size / 8192) c.in-Ok.loaded.slot v y has
    stays.same stays.is.slot_is) c.in-Err-set_block.ensures.fault
