use Rattle.mem_pairs.proofs.ScansLaws.{takes_so, keeps_so, skips_so}
use Rattle.mem_pairs.proofs.scans.lesser.Goals as goal
use Rattle.mem_pairs.proofs.scans.lesser.Goals.{else-passes-via-then-passes+else-is_less, else-passes-via-else-passes}

pub returns-then-is_less : goal.returns-then-is_less
returns-then-is_less c =
    takes_so c.args.rows.now c.args.i c.args.passes c.args.best c.is_less.result c.if-passes.true c.if-is_less.true
    c.is_less.ensures

pub returns : goal.returns
returns c = elim c.else-passes.branch [
  | else-passes-via-then-passes+else-is_less w ↦
      keeps_so c.args.rows.now c.args.i c.args.passes c.args.best w.is_less.result w.if-passes.true w.if-is_less.false
      w.is_less.ensures
  | else-passes-via-else-passes w ↦ skips_so c.args.rows.now c.args.i c.args.passes c.args.best w.if-passes.false
]
