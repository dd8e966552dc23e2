use Rattle.std.proofs.Common.{◌<◌, length, refl, arith}
use Rattle.std.proofs.lemmas.Option.{slice_get_read}
use Rattle.pairs.specs.Lives.{is_spent}
use Rattle.mem_pairs.specs.Scans.{is_from}
use Rattle.mem_pairs.proofs.ScansLaws.{least_within}
use Rattle.mem_pairs.proofs.scans.spent_place.Goals as goal

pub loop-i-preserved : goal.loop-i-preserved
loop-i-preserved c =
    let below : c.loop-i.i < length c.args.rows.now = omega arith in
    c.lesser-best.ensures (is_spent c.args.kept.now) (is_from c.args.from.now) c.index-rows-i.result
    (slice_get_read c.args.rows.now (length c.args.rows.now) c.loop-i.i c.index-rows-i.result refl below
    c.index-rows-i.is)
    c.is_due.ensures c.loop-i.invariant

pub lesser-best-requires-clause-best : goal.lesser-best-requires-clause-best
lesser-best-requires-clause-best c =
    least_within (is_spent c.args.kept.now) (is_from c.args.from.now) c.args.rows.now c.loop-i.i c.loop-i.best
    c.loop-i.invariant

pub returns-clause-within : goal.returns-clause-within
returns-clause-within c =
    least_within (is_spent c.args.kept.now) (is_from c.args.from.now) c.args.rows.now c.loop-i.i c.loop-i.best
    c.loop-i.invariant
