use Rattle.std.proofs.Common.{◌∙◌}
use Rattle.workload.proofs.Making.{written}
use Rattle.workload.proofs.calls.writing.Goals as goal

pub returns : goal.returns
returns c =
    written c.args.piece c.args.file c.from_vec.result
    (c.from_vec.ensures ∙ c.in_ok-data.ensures.items_if_clones_equal (λ y h. h))
