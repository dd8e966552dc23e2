use Rattle.std.proofs.Common.{◌<◌, length, refl, arith}
use Rattle.std.proofs.lemmas.Option.{slice_get_read}
use Rattle.pairs.specs.Lives.{sees, life_of}
use Rattle.mem_pairs.proofs.ScansLaws.{seek_found, seek_more, both_true, left_false, right_false}
use Rattle.mem_pairs.proofs.scans.first_seen.Goals as goal
use Rattle.mem_pairs.proofs.scans.first_seen.Goals.{else-is_of-via-then-is_of+else-is_seen, else-is_of-via-else-is_of}

pub returns-then-is_seen-clause-first : goal.returns-then-is_seen-clause-first
returns-then-is_seen-clause-first c =
    let below : c.loop-i.i < length c.args.rows.now = omega arith in
    seek_found (sees c.args.at) c.args.rows.now c.loop-i.i c.index-rows-i.result c.args.key.now
    (slice_get_read c.args.rows.now (length c.args.rows.now) c.loop-i.i c.index-rows-i.result refl below
    c.index-rows-i.is)
    c.loop-i.invariant
    (both_true _ (sees c.args.at (life_of c.index-rows-i.result)) c.is_of.result c.is_seen.result c.is_of.ensures
    c.is_seen.ensures
    c.if-is_of.true c.if-is_seen.true)

pub loop-i-preserved : goal.loop-i-preserved
loop-i-preserved c =
    let below : c.loop-i.i < length c.args.rows.now = omega arith in
    seek_more (sees c.args.at) c.args.rows.now c.loop-i.i c.index-rows-i.result c.args.key.now
    (slice_get_read c.args.rows.now (length c.args.rows.now) c.loop-i.i c.index-rows-i.result refl below
    c.index-rows-i.is)
    c.loop-i.invariant
    (elim c.else-is_of.branch [
      | else-is_of-via-then-is_of+else-is_seen w ↦
          right_false _ (sees c.args.at (life_of c.index-rows-i.result)) c.is_of.result w.is_seen.result
          c.is_of.ensures w.is_seen.ensures
          w.if-is_of.true w.if-is_seen.false
      | else-is_of-via-else-is_of w ↦ left_false _ (sees c.args.at (life_of c.index-rows-i.result)) c.is_of.result
          c.is_of.ensures w.if-is_of.false
    ])
