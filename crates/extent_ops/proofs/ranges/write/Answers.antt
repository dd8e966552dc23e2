use Rattle.std.proofs.Common.{◌≡◌, ◌≤◌, ◌<◌, ◌+◌, ℕ, length, subst, arith}
use Rattle.pairs.specs.Told.{Goes}
use Rattle.extent_ops.specs.Marking.{as_marks}
use Rattle.extent_ops.specs.Steps.{HasBlocks, Makes}
use Rattle.extent_ops.specs.Ranges.{Writes, blocks_in}
use Rattle.extent_ops.proofs.Chaining.{goes-still, goes-both, put-gives-up-behind}
use Rattle.extent_ops.proofs.Overlaying.{writes_none, writes_step, blocks_more, blocks_le, aligned_more}
use Rattle.extent_ops.proofs.ranges.write.Goals as goal

pub loop-done-init : goal.loop-done-init
loop-done-init g c = record {
  within = omega arith;
  even = λ some less. absurd (omega arith);
  goes = goes-still _ _ (blocks_in c.args.offset 0);
  wrote = λ w v agrees shown has. record {
    versions = v;
    shown = shown;
    is = writes_none c.args.file (as_marks c.args.marks) c.args.offset c.args.content.now v has;
  };
}

pub loop-done-preserved : goal.loop-done-preserved
loop-done-preserved g c =
    let less : c.loop-done.done < length c.args.content.now = omega arith in
    record {
      within = omega (arith, c.min-len.ensures);
      even = λ some more. aligned_more c.args.offset c.loop-done.done c.min-len.result (length c.args.content.now)
          c.min-len.ensures less more;
      goes = goes-both _ _ _ _ (blocks_in c.args.offset c.loop-done.done) 1
          (blocks_in c.args.offset (c.loop-done.done + c.min-len.result))
          (blocks_more c.args.offset c.loop-done.done c.min-len.result (length c.args.content.now) c.min-len.ensures less
          (λ some. c.loop-done.invariant.even some less)) c.loop-done.invariant.goes c.write_part.ensures.goes;
      wrote = λ w v agrees shown has.
          let y = c.loop-done.invariant.wrote w v (c.write_part.ensures.goes.agreed w agrees) shown has in
          let z = c.in-Ok.ensures.ok w y.versions agrees y.shown y.is.leaves.has in
          record {
            versions = z.versions;
            shown = z.shown;
            is = writes_step c.args.file (as_marks c.args.marks) c.args.offset c.loop-done.done c.min-len.result
                c.args.content.now v y.versions z.versions c.min-len.ensures y.is z.is;
          };
    }

pub returns-in-Err-clause-goes : goal.returns-in-Err-clause-goes
returns-in-Err-clause-goes g c =
    let less : c.loop-done.done < length c.args.content.now = omega arith in
    let one = blocks_more c.args.offset c.loop-done.done c.min-len.result (length c.args.content.now) c.min-len.ensures less
    (λ some. c.loop-done.invariant.even some less) in
    let within : c.loop-done.done + c.min-len.result ≤ length c.args.content.now = omega (arith, c.min-len.ensures) in
    let all = blocks_le c.args.offset (c.loop-done.done + c.min-len.result) (length c.args.content.now) within in
    goes-both _ _ _ _ (blocks_in c.args.offset c.loop-done.done) 1 (blocks_in c.args.offset (length c.args.content.now))
    (at_most (blocks_in c.args.offset c.loop-done.done + 1) (blocks_in c.args.offset (c.loop-done.done + c.min-len.result))
    (blocks_in c.args.offset (length c.args.content.now)) one all) c.loop-done.invariant.goes c.write_part.ensures.goes
  where
    at_most : (a b c : ℕ) → a ≤ b → b ≤ c → a ≤ c
    at_most a b c p q = omega arith

pub returns-in-Err-clause-fault : goal.returns-in-Err-clause-fault
returns-in-Err-clause-fault g c =
    put-gives-up-behind _ _ _ _ (blocks_in c.args.offset c.loop-done.done) 1 HasBlocks HasBlocks
    (Writes c.args.file (as_marks c.args.marks) c.args.offset c.loop-done.done c.args.content.now) c.in-Err.fault
    c.loop-done.invariant.goes c.write_part.ensures.goes c.loop-done.invariant.wrote
    (λ v y has writes. writes.leaves.has) c.in-Err.ensures.fault

pub returns-clause-goes : goal.returns-clause-goes
returns-clause-goes g c =
    let all : c.loop-done.done ≡ length c.args.content.now = omega (arith, c.loop-done.invariant.within) in
    subst (λ (n : ℕ). Goes g.P.Pairs.told c.args.pairs.now c.loop-done.pairs (blocks_in c.args.offset n)) all
    c.loop-done.invariant.goes

pub returns-clause-ok : goal.returns-clause-ok
returns-clause-ok g c =
    let all : c.loop-done.done ≡ length c.args.content.now = omega (arith, c.loop-done.invariant.within) in
    subst (λ (n : ℕ). Makes g.P.Pairs.told c.args.pairs.now c.loop-done.pairs HasBlocks
    (Writes c.args.file (as_marks c.args.marks) c.args.offset n c.args.content.now)) all c.loop-done.invariant.wrote
