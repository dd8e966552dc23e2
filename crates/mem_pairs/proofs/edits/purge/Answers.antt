use Rattle.std.proofs.Common.{List, None, refl, sym, subst}
use Rattle.pair_types.specs.declared.quad.Quad.{Quad}
use Rattle.pairs.specs.Lives.{is_spent}
use Rattle.mem_pairs.specs.Purging.{Takes}
use Rattle.mem_pairs.specs.Scans.{IsLeast, Least, is_from}
use Rattle.mem_pairs.proofs.EditsLaws.{purge_removed}
use Rattle.mem_pairs.proofs.ReadsLaws.{kept_all}
use Rattle.mem_pairs.proofs.edits.purge.Goals as goal

pub returns-in_default : goal.returns-in_default
returns-in_default c = record {
  none =
      kept_all c.args.kept.now c.args.from.now c.args.rows.now.items
      (subst (λ (qs : List Quad). Least (is_spent c.args.kept.now) (is_from c.args.from.now) qs None)
      c.deref.ensures.value c.in_default.ensures.least);
  same = refl;
}

pub returns : goal.returns
returns c =
    subst (λ (q : Quad). Takes c.args.kept.now c.args.from.now q c.args.rows.now.items c.remove-row.new.self.items)
    (sym c.into_quad.ensures)
    (purge_removed c.args.kept.now c.args.from.now c.args.rows.now.items c.remove-row.new.self.items c.in-Some.place
    c.remove-row.result
    (subst (λ (qs : List Quad). IsLeast (is_spent c.args.kept.now) (is_from c.args.from.now) qs c.in-Some.place)
    c.deref.ensures.value c.in-Some.ensures.least)
    c.remove-row.ensures.value c.remove-row.ensures.items)
