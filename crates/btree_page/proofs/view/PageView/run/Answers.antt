use Rattle.std.proofs.Common.{◌≡◌, ◌+◌, ◌-◌, ◌≤◌, List, length, take, drop, ap, sym, subst, ◌∙◌, arith}
use Rattle.std.specs.List.{flat_map}
use Rattle.btree_page.specs.Content.{Content, entry_spelling}
use Rattle.btree_page.specs.View.{size_to}
use Rattle.btree_page.proofs.Runs.{run_is}
use Rattle.btree_page.proofs.view.PageView.run.Goals as goal

pub slice_bounds-result-count : goal.slice_bounds-result-count
slice_bounds-result-count c =
    (run_is c.self.inside.text.now c.self.inside.level c.self.inside.count c.self.inside.places c.args.from c.args.to
    c.place_of.result c.place_of-2.result c.self.invariant c.requires.order
    (c.place_of.ensures ∙ ap (λ (p : Content). 4 + size_to c.args.from p.cells) (sym c.self.view_is)) (c.place_of-2.ensures
    ∙ ap (λ (p : Content). 4 + size_to c.args.to p.cells) (sym c.self.view_is))).0

pub slice_bounds-result-start : goal.slice_bounds-result-start
slice_bounds-result-start c =
    let r = run_is c.self.inside.text.now c.self.inside.level c.self.inside.count c.self.inside.places c.args.from c.args.to
    c.place_of.result c.place_of-2.result c.self.invariant c.requires.order
    (c.place_of.ensures ∙ ap (λ (p : Content). 4 + size_to c.args.from p.cells) (sym c.self.view_is)) (c.place_of-2.ensures
    ∙ ap (λ (p : Content). 4 + size_to c.args.to p.cells) (sym c.self.view_is)) in
    omega (arith, r.0, r.1)

pub returns-clause-bytes : goal.returns-clause-bytes
returns-clause-bytes c =
    let r = run_is c.self.inside.text.now c.self.inside.level c.self.inside.count c.self.inside.places c.args.from c.args.to
    c.place_of.result c.place_of-2.result c.self.invariant c.requires.order
    (c.place_of.ensures ∙ ap (λ (p : Content). 4 + size_to c.args.from p.cells) (sym c.self.view_is)) (c.place_of-2.ensures
    ∙ ap (λ (p : Content). 4 + size_to c.args.to p.cells) (sym c.self.view_is)) in
    r.2 ∙ ap (λ (p : Content). flat_map entry_spelling (take (c.args.to - c.args.from) (drop c.args.from p.cells))) c.self.view_is

pub returns-clause-few : goal.returns-clause-few
returns-clause-few c =
    omega (
      arith,
      c.requires.within,
      c.self.invariant.few,
      c.self.invariant.count,
      ap (λ (p : Content). length p.cells)
          c.self.view_is,
    )
