use Rattle.std.proofs.Common.{◌+◌, ◌<◌, arith, ap, ◌∙◌}
use Rattle.cursor.specs.Position.{Position}
use Rattle.btree_page.proofs.Whole.{cell_reads, moved}
use Rattle.btree_page.proofs.view.PageView.cell.Goals as goal

pub bounds-self-inside-i : goal.bounds-self-inside-i
bounds-self-inside-i c = omega (arith, c.self.invariant.few)

pub returns-in-Err-clause-none : goal.returns-in-Err-clause-none
returns-in-Err-clause-none c =
    let there = moved c.part.result _ c.if-is_none.ensures c.part.ensures.moves in
    let lt : c.args.i < c.self.inside.count = omega (arith, c.from.ensures, c.if-i-from.false) in
    absurd (cell_reads c.self.inside.text.now c.self.inside.level c.self.inside.count c.args.i c.self.inside.places
    c.part.new.self c.in-Err.field-0
    c.self.invariant lt
    (ap (λ (p : Position). p.text) there ∙ ap (λ (p : Position). p.text) c.new-cursor.ensures)
    (ap (λ (p : Position). p.place) there ∙ ap (λ (p : Position). p.place + c.from-place.result) c.new-cursor.ensures
    ∙ omega (arith, c.from-place.ensures))
    c.in-Err.ensures.gives)
