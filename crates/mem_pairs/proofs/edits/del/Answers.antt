use Rattle.std.proofs.Common.{List, ap, subst, is_some}
use Rattle.pair_types.specs.declared.quad.Quad.{Quad}
use Rattle.pairs.specs.declared.at.At.TheVariants.{Live}
use Rattle.pairs.specs.Lives.{sees}
use Rattle.mem_pairs.specs.Scans.{NonePasses, IsFirstOf}
use Rattle.mem_pairs.proofs.EditsLaws.{del_nothing}
use Rattle.mem_pairs.proofs.ReadsLaws.{born_none, was_born}
use Rattle.mem_pairs.proofs.edits.del.Goals as goal

pub returns-in_default-clause-edits : goal.returns-in_default-clause-edits
returns-in_default-clause-edits c =
    del_nothing c.args.epoch c.args.key.now c.args.rows.now.items
    (subst (λ (qs : List Quad). NonePasses (sees Live) qs c.args.key.now) c.deref.ensures.value
    c.in_default.ensures.first)

pub returns-in_default-clause-was : goal.returns-in_default-clause-was
returns-in_default-clause-was c =
    ap is_some (born_none c.args.key.now c.args.rows.now.items
    (subst (λ (qs : List Quad). NonePasses (sees Live) qs c.args.key.now) c.deref.ensures.value
    c.in_default.ensures.first))

pub returns-clause-was : goal.returns-clause-was
returns-clause-was c =
    was_born c.args.key.now c.args.rows.now.items c.in-Some.place
    (subst (λ (qs : List Quad). IsFirstOf (sees Live) c.args.key.now qs c.in-Some.place) c.deref.ensures.value
    c.in-Some.ensures.first)
