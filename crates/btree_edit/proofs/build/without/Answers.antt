use Rattle.std.proofs.Common.{◌≡◌, ◌++◌, ◌+◌, ℕ, suc, take, drop, add-one, sym, ap, subst, ◌∙◌, arith}
use Rattle.std.specs.Prelude.{IfOk}
use Rattle.std.specs.List.{remove}
use Rattle.btree_page.specs.Content.{Content, Spells}
use Rattle.btree_edit.proofs.Lists.{few_cells}
use Rattle.btree_edit.proofs.Runs.{Begun, first_run, last_run}
use Rattle.btree_edit.proofs.build.without.Goals as goal

pub add_run-requires-clause-rules : goal.add_run-requires-clause-rules
add_run-requires-clause-rules c =
    (first_run c.in_ok-builder.builder c.args.view.now c.level.result c.args.at (drop (suc c.args.at) c.args.view.now.cells)
    c.in_ok-builder.ensures c.level.ensures.level c.requires.rules).rules

pub overflow_add-at : goal.overflow_add-at
overflow_add-at c = omega (arith, c.requires.within, few_cells c.args.view.now c.level.ensures.rules)

pub returns : goal.returns
returns c =
    let cells = c.args.view.now.cells in
    let first = first_run c.in_ok-builder.builder c.args.view.now c.level.result c.args.at (drop (suc c.args.at) cells)
    c.in_ok-builder.ensures c.level.ensures.level c.requires.rules in
    let begun : Begun c.add_run.new.self c.args.view.now (take c.args.at cells) (drop (c.args.at + 1) cells) =
    subst (λ (n : ℕ). Begun c.add_run.new.self c.args.view.now (take c.args.at cells) (drop n cells)) (sym (add-one c.args.at))
    (subst (λ (p : Content). Begun p c.args.view.now (take c.args.at cells) (drop (suc c.args.at) cells)) (sym c.add_run.ensures)
    first.begun) in
    let last = last_run c.add_run.new.self c.args.view.now (take c.args.at cells) (c.args.at + 1) c.count.result begun
    c.count.ensures.count in
    let is : c.add_run-2.new.self ≡ record { level = c.args.view.now.level; cells = remove cells c.args.at } =
    c.add_run-2.ensures
    ∙ (last.begun.is ∙ ap (λ (n : ℕ). let made : Content = record {
      level = c.args.view.now.level;
      cells = take c.args.at cells
          ++ drop n cells;
    } in made) (add-one c.args.at)) in
    subst (λ (p : Content). IfOk c.finish.result (λ page. Spells p page)) is c.finish.ensures
