use Rattle.std.proofs.Common.{◌∷◌, take, drop, sym, subst}
use Rattle.btree_page.specs.Content.{Content}
use Rattle.btree_page.specs.Cells.{entry_of}
use Rattle.btree_edit.proofs.Runs.{Begun, first_run, next_one}
use Rattle.btree_edit.proofs.build.one_page.Goals as goal

pub add_run-requires-clause-rules : goal.add_run-requires-clause-rules
add_run-requires-clause-rules c =
    (first_run c.in_ok-builder.builder c.args.view.now c.level.result c.args.at (entry_of c.args.cell.now
    ∷ drop c.args.past c.args.view.now.cells) c.in_ok-builder.ensures c.level.ensures.level c.requires.rules).rules

pub add-requires-clause-next : goal.add-requires-clause-next
add-requires-clause-next c =
    let rest = entry_of c.args.cell.now ∷ drop c.args.past c.args.view.now.cells in
    let first = first_run c.in_ok-builder.builder c.args.view.now c.level.result c.args.at rest c.in_ok-builder.ensures
    c.level.ensures.level c.requires.rules in
    let begun : Begun c.add_run.new.self c.args.view.now (take c.args.at c.args.view.now.cells) rest =
    subst (λ (p : Content). Begun p c.args.view.now (take c.args.at c.args.view.now.cells) rest) (sym c.add_run.ensures)
    first.begun in
    (next_one c.add_run.new.self c.args.view.now (take c.args.at c.args.view.now.cells) (entry_of c.args.cell.now)
    (drop c.args.past c.args.view.now.cells) begun).0
