use Rattle.std.proofs.Common.{◌≡◌, ◌∙◌, ℕ, List, length, sym, subst, ap, arith}
use Rattle.std.proofs.lemmas.List.{take_at, length-replicate}
use Rattle.pairs.specs.Versions.{HasLives}
use Rattle.extent_ops.specs.Marking.{as_marks}
use Rattle.extent_ops.specs.Blocks.{IsLoaded}
use Rattle.extent_ops.proofs.Filling.{is_loaded}
use Rattle.extent_ops.proofs.Chaining.{goes-still, goes-both, gives-up-memory, gives-up-reading, tells-both}
use Rattle.extent_ops.proofs.loading.load_block.Goals as goal

pub returns-in-Err-clause-goes : goal.returns-in-Err-clause-goes
returns-in-Err-clause-goes g c = goes-still _ _ 0

pub returns-in-Err-clause-fault : goal.returns-in-Err-clause-fault
returns-in-Err-clause-fault g c =
    gives-up-memory g.P.Pairs.told c.args.pairs.now c.args.pairs.now HasLives c.from.result c.from.ensures

pub returns-in-Err-find_block-clause-goes : goal.returns-in-Err-find_block-clause-goes
returns-in-Err-find_block-clause-goes g c = c.find_block.ensures.goes

pub returns-in-Err-find_block-clause-fault : goal.returns-in-Err-find_block-clause-fault
returns-in-Err-find_block-clause-fault g c = c.in-Err-find_block.ensures.fault

pub returns-in-Ok-fill_from-clause-goes : goal.returns-in-Ok-fill_from-clause-goes
returns-in-Ok-fill_from-clause-goes g c =
    goes-both _ _ _ _ 0 0 0 (omega arith) c.find_block.ensures.goes c.fill_from.ensures.goes

pub returns-in-Ok-fill_from-clause-full : goal.returns-in-Ok-fill_from-clause-full
returns-in-Ok-fill_from-clause-full g c =
    let long : length c.fill_from.new.room ≡ c.in-Ok.bytes.len = omega (arith, c.fill_from.auto.room, c.deref_mut.ensures.len) in
    let full : length c.fill_from.new.room ≡ 8192 =
    omega (
      arith,
      c.fill_from.auto.room,
      ap length (c.deref_mut.ensures.value ∙ c.in-Ok.ensures),
      length-replicate {A = ℕ}
          8192 0,
    ) in
    ap length (take_at c.fill_from.new.room _ c.in-Ok.bytes.len long) ∙ full

pub returns-in-Ok-fill_from-clause-few : goal.returns-in-Ok-fill_from-clause-few
returns-in-Ok-fill_from-clause-few g c =
    let full : length c.fill_from.new.room ≡ 8192 =
    omega (
      arith,
      c.fill_from.auto.room,
      ap length (c.deref_mut.ensures.value ∙ c.in-Ok.ensures),
      length-replicate {A = ℕ}
          8192 0,
    ) in
    omega (arith, full, c.in-Ok-fill_from.ensures.within)

pub returns-in-Ok-fill_from-clause-ok : goal.returns-in-Ok-fill_from-clause-ok
returns-in-Ok-fill_from-clause-ok g c =
    let long : length c.fill_from.new.room ≡ c.in-Ok.bytes.len = omega (arith, c.fill_from.auto.room, c.deref_mut.ensures.len) in
    tells-both _ _ _ _ 0 _ _ _ c.fill_from.ensures.goes c.in-Ok-find_block.ensures.ok c.in-Ok-fill_from.ensures.ok
    (λ v is fills. subst
    (λ (l : List ℕ). IsLoaded c.args.at c.args.file (as_marks c.args.marks) c.args.index c.in-Ok-find_block.slot l
    c.in-Ok-fill_from.count v)
    (sym (take_at c.fill_from.new.room _ c.in-Ok.bytes.len long))
    (is_loaded v c.args.at c.args.file (as_marks c.args.marks) c.args.index c.in-Ok-find_block.slot c.deref_mut.result.now
    c.fill_from.new.room c.in-Ok-fill_from.count (c.deref_mut.ensures.value ∙ c.in-Ok.ensures) is fills))

pub returns-in-Err-fill_from-clause-goes : goal.returns-in-Err-fill_from-clause-goes
returns-in-Err-fill_from-clause-goes g c =
    goes-both _ _ _ _ 0 0 0 (omega arith) c.find_block.ensures.goes c.fill_from.ensures.goes

pub returns-in-Err-fill_from-clause-fault : goal.returns-in-Err-fill_from-clause-fault
returns-in-Err-fill_from-clause-fault g c =
    gives-up-reading _ _ _ _ 0 0 _ c.in-Err-fill_from.fault c.find_block.ensures.goes c.fill_from.ensures.goes
    c.in-Ok-find_block.ensures.ok c.in-Err-fill_from.ensures.fault
