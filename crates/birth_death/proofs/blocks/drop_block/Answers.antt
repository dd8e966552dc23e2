use Rattle.std.proofs.Common.{None}
use Rattle.std.proofs.lemmas.Result.{on_ok_weaker}
use Rattle.birth_death.proofs.Blocking.{block-moves}
use Rattle.birth_death.proofs.blocks.drop_block.Goals as goal

pub returns-clause-ok : goal.returns-clause-ok
returns-clause-ok g c =
    on_ok_weaker c.write_page.result (block-moves _ _ c.args.s c.empty.result None (λ x is. absurd (cc)))
    c.write_page.ensures.ok
