use Rattle.std.proofs.Common.{ℕ, ◌+◌, ◌∙◌, true, List, [], None, ap, sym, subst}
use Rattle.btree_page.specs.Content.{Content, Follows, last_bound, leaf_entry}
use Rattle.page_checks.proofs.Filling.{rises}
use Rattle.page_checks.proofs.run.fill.Goals as goal

pub loop-birth-preserved : goal.loop-birth-preserved
loop-birth-preserved c =
    let key = c.as_slice.result.now in
    let next = c.loop-birth.birth-counter + 1 in
    let added = c.in_default.ensures.ok in (
      ap (λ (p : Content). p.level) added ∙ c.loop-birth.invariant.0,
      subst (λ (k : List ℕ). Follows true (last_bound None c.add_leaf-added.new.self.cells) (leaf_entry k next 0 [])) c.as_slice.ensures
          (subst (λ (p : Content). Follows true (last_bound None p.cells) (leaf_entry key next 0 [])) (sym added)
          (rises key c.as_slice-in-loop-birth.result.now c.loop-birth.birth-counter c.args.q.now.death c.loop-birth.page)),
    )
