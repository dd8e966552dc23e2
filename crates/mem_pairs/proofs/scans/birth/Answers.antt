use Rattle.std.proofs.Common.{Some, sym, ap, ◌∙◌}
use Rattle.mem_pairs.proofs.ReadsLaws.{born_none, born_first}
use Rattle.mem_pairs.proofs.scans.birth.Goals as goal

pub returns-in_default : goal.returns-in_default
returns-in_default c = born_none c.args.key.now c.args.rows.now c.in_default.ensures.first

pub returns : goal.returns
returns c =
    born_first c.args.key.now c.args.rows.now c.in-Some.place c.index-rows-place.result c.in-Some.ensures.first
    c.index-rows-place.is
    ∙ ap Some (sym c.birth.ensures)
