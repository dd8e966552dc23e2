use Rattle.std.proofs.Common.{◌∙◌}
use Rattle.mem_pairs.proofs.ReadsLaws.{follows_none, follows_copy}
use Rattle.mem_pairs.proofs.scans.next.Goals as goal

pub returns-in_default-clause-ok : goal.returns-in_default-clause-ok
returns-in_default-clause-ok c = follows_none c.args.at c.args.after.now c.args.rows.now c.in_default.ensures.least

pub returns-clause-ok : goal.returns-clause-ok
returns-clause-ok c =
    follows_copy c.args.at c.args.after.now c.args.rows.now c.in-Some.place c.index-rows-place.result c.in_ok-key.key
    c.in_ok-value.value
    c.in-Some.ensures.least c.index-rows-place.is (c.in_ok-key.ensures ∙ c.key.ensures.key)
    (c.in_ok-value.ensures ∙ c.value.ensures.value)
