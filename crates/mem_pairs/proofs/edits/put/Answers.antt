use Rattle.std.proofs.Common.{List, ◌++◌, ◌∷◌, [], ◌∙◌, ap, subst}
use Rattle.pair_types.specs.declared.quad.Quad.{Quad}
use Rattle.pairs.specs.declared.at.At.TheVariants.{Live}
use Rattle.pairs.specs.Lives.{sees}
use Rattle.mem_pairs.specs.Scans.{NonePasses}
use Rattle.mem_pairs.proofs.EditsLaws.{put_pushed}
use Rattle.mem_pairs.proofs.edits.put.Goals as goal

pub returns : goal.returns
returns c =
    put_pushed c.args.epoch c.args.key.now c.args.value.now c.args.rows.now.items c.push.new.self.items
    (subst (λ (qs : List Quad). NonePasses (sees Live) qs c.args.key.now) c.deref.ensures.value
    c.in_default.ensures.first)
    (c.in_ok-push.ensures.items ∙ ap (λ (q : Quad). c.args.rows.now.items ++ (q ∷ [])) c.in_ok-row.ensures)
