use Rattle.std.proofs.Common.{◌≡◌, ◌∙◌, ◌≤◌, ℕ, List, [], Some, length, refl, sym, subst, arith}
use Rattle.std.specs.Prelude.{⊤}
use Rattle.pairs.specs.Versions.{HasLives, CanPut, IsBlock, with_block}
use Rattle.extent_ops.specs.Marking.{as_marks}
use Rattle.extent_ops.proofs.Chaining.{goes-still, goes-more, goes-both, put-gives-up-memory, put-gives-up-first, gives-up-put}
use Rattle.extent_ops.proofs.Chaining.{gives-up-behind, put-gives-up-behind, moves-makes}
use Rattle.extent_ops.proofs.Placed.{is_block, can_put, with_fresh, has_fresh, placed}
use Rattle.extent_ops.proofs.placing.place_new.Goals as goal

pub returns-in-Err-clause-goes : goal.returns-in-Err-clause-goes
returns-in-Err-clause-goes g c = goes-still _ _ 1

pub returns-in-Err-clause-fault : goal.returns-in-Err-clause-fault
returns-in-Err-clause-fault g c =
    put-gives-up-memory g.P.Pairs.told c.args.pairs.now c.args.pairs.now HasLives c.from.result c.from.ensures

pub returns-in-Err-fresh_block-clause-goes : goal.returns-in-Err-fresh_block-clause-goes
returns-in-Err-fresh_block-clause-goes g c = goes-more _ _ _ 0 1 (omega arith) c.fresh_block.ensures.goes

pub returns-in-Err-fresh_block-clause-fault : goal.returns-in-Err-fresh_block-clause-fault
returns-in-Err-fresh_block-clause-fault g c =
    put-gives-up-first g.P.Pairs.told c.args.pairs.now c.fresh_block.new.self HasLives (λ _. ⊤) c.in-Err-fresh_block.fault
    (λ v lives. tt) c.in-Err-fresh_block.ensures.fault

pub returns-in-Err-extent_value-clause-goes : goal.returns-in-Err-extent_value-clause-goes
returns-in-Err-extent_value-clause-goes g c = goes-more _ _ _ 0 1 (omega arith) c.fresh_block.ensures.goes

pub returns-in-Err-extent_value-clause-fault : goal.returns-in-Err-extent_value-clause-fault
returns-in-Err-extent_value-clause-fault g c =
    put-gives-up-memory g.P.Pairs.told c.args.pairs.now c.fresh_block.new.self HasLives c.from-in-Err-extent_value.result
    c.from-in-Err-extent_value.ensures

pub write_block-requires : goal.write_block-requires
write_block-requires g c = c.requires

pub returns-in-Err-write_block-clause-goes : goal.returns-in-Err-write_block-clause-goes
returns-in-Err-write_block-clause-goes g c =
    goes-both _ _ _ _ 0 0 1 (omega arith) c.fresh_block.ensures.goes c.write_block.ensures.goes

pub returns-in-Err-write_block-clause-fault : goal.returns-in-Err-write_block-clause-fault
returns-in-Err-write_block-clause-fault g c =
    let slot = c.in-Ok-fresh_block.slot in
    gives-up-put g.P.Pairs.told c.args.pairs.now c.write_block.new.self HasLives c.in-Err-write_block.fault
    (gives-up-behind _ _ _ _ 0 0 HasLives (IsBlock slot) (λ v y. y ≡ with_block slot (Some []) v) c.in-Err-write_block.fault
    c.fresh_block.ensures.goes c.write_block.ensures.goes
    (moves-makes _ _ _ HasLives (λ _. ⊤) (with_block slot (Some [])) (λ v lives. tt) c.in-Ok-fresh_block.ensures.ok)
    (λ v y lives is. subst (IsBlock slot) (sym is) (is_block slot [] v)) c.in-Err-write_block.ensures.fault)

pub put-requires-clause-key : goal.put-requires-clause-key
put-requires-clause-key g c = subst (λ (k : List ℕ). length k ≤ 264) (sym c.as_slice.ensures) c.in-Ok.ensures.short

pub put-requires-clause-value : goal.put-requires-clause-value
put-requires-clause-value g c =
    subst (λ (k : List ℕ). length k ≤ 1200) (sym c.as_slice-2.ensures) c.in-Ok-extent_value.ensures.short

pub returns-in-Ok-put-clause-goes : goal.returns-in-Ok-put-clause-goes
returns-in-Ok-put-clause-goes g c =
    goes-both _ _ _ _ 0 1 1 (omega arith)
    (goes-both _ _ _ _ 0 0 0 (omega arith) c.fresh_block.ensures.goes c.write_block.ensures.goes) c.put.ensures.goes

pub returns-in-Ok-put-clause-ok : goal.returns-in-Ok-put-clause-ok
returns-in-Ok-put-clause-ok g c = λ w v agrees shown lives.
    let slot = c.in-Ok-fresh_block.slot in
    let key_is = c.as_slice.ensures ∙ c.in-Ok.ensures.is in
    let before = c.put.ensures.goes.agreed w agrees in
    let first = c.write_block.ensures.goes.agreed w before in
    let fresh = c.in-Ok-fresh_block.ensures.ok w v first shown tt in
    let wrote = c.in-Ok-write_block.ensures.ok w (with_block slot (Some []) v) before fresh (is_block slot [] v) in
    let put = c.in-Ok-put.ensures.ok w (with_fresh slot c.args.block.now v) agrees wrote
    (can_put c.args.file c.args.index c.as_slice.result.now c.as_slice-2.result.now (with_fresh slot c.args.block.now v) key_is
    (has_fresh slot c.args.block.now v lives)) in
    record {
      versions = _;
      shown = put;
      is = placed c.args.file (as_marks c.args.marks) c.args.index c.args.block.now c.as_slice.result.now c.as_slice-2.result.now
          slot v (omega arith) (omega arith) key_is (c.as_slice-2.ensures ∙ c.in-Ok-extent_value.ensures.is)
          (c.in-Ok-fresh_block.ensures.fresh w v first shown);
    }

pub returns-clause-goes : goal.returns-clause-goes
returns-clause-goes g c =
    goes-both _ _ _ _ 0 1 1 (omega arith)
    (goes-both _ _ _ _ 0 0 0 (omega arith) c.fresh_block.ensures.goes c.write_block.ensures.goes) c.put.ensures.goes

pub returns-clause-fault : goal.returns-clause-fault
returns-clause-fault g c =
    let slot = c.in-Ok-fresh_block.slot in
    put-gives-up-behind _ _ _ _ 0 1 HasLives (CanPut c.as_slice.result.now c.as_slice-2.result.now)
    (λ v y. y ≡ with_fresh slot c.args.block.now v) c.in-Err-put.fault
    (goes-both _ _ _ _ 0 0 0 (omega arith) c.fresh_block.ensures.goes c.write_block.ensures.goes) c.put.ensures.goes
    (λ w v before shown lives.
    let fresh = c.in-Ok-fresh_block.ensures.ok w v (c.write_block.ensures.goes.agreed w before) shown tt in
    record {
      versions = _;
      shown = c.in-Ok-write_block.ensures.ok w (with_block slot (Some []) v) before fresh (is_block slot [] v);
      is = refl;
    })
    (λ v y lives is. subst (CanPut c.as_slice.result.now c.as_slice-2.result.now) (sym is)
    (can_put c.args.file c.args.index c.as_slice.result.now c.as_slice-2.result.now (with_fresh slot c.args.block.now v)
    (c.as_slice.ensures ∙ c.in-Ok.ensures.is) (has_fresh slot c.args.block.now v lives)))
    c.in-Err-put.ensures.fault
