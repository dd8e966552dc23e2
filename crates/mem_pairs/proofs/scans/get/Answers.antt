use Rattle.std.proofs.Common.{Some, sym, ap, ◌∙◌}
use Rattle.mem_pairs.proofs.ReadsLaws.{seen_none, seen_first}
use Rattle.mem_pairs.proofs.scans.get.Goals as goal

pub returns-in_default-clause-ok : goal.returns-in_default-clause-ok
returns-in_default-clause-ok c = seen_none c.args.at c.args.key.now c.args.rows.now c.in_default.ensures.first

pub returns-clause-ok : goal.returns-clause-ok
returns-clause-ok c =
    seen_first c.args.at c.args.key.now c.args.rows.now c.in-Some.place c.index-rows-place.result
    c.in-Some.ensures.first c.index-rows-place.is
    ∙ (ap Some (sym c.value.ensures.value) ∙ ap Some (sym c.in_ok-value.ensures))
