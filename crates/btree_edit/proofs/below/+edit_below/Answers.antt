use Rattle.std.proofs.Common.{◌≢◌, ◌∙◌, arith}
use Rattle.btree_edit.proofs.Steps.{leaf_edited, no_child, no_page, missing_below, changed_below, written_below, unwritten_below}
use Rattle.btree_edit.proofs.Steps.{fault_below}
use Rattle.btree_edit.specs.Edits.{bound_at}
use Rattle.btree_edit.proofs.Grafts.{WasPut, grafted_below, unput_below}
use Rattle.btree_edit.proofs.below.+edit_below.Goals as goal

pub returns-then-level-eq0 : goal.returns-then-level-eq0
returns-then-level-eq0 g t c = leaf_edited c.args.change.now c.args.store _ c.args.view.now c.edit_leaf.result
    (omega (arith, c.level-level.ensures.level, c.if-level-eq0.true)) c.edit_leaf.ensures

pub returns-in-Err : goal.returns-in-Err
returns-in-Err g t c =
    let inner : c.args.view.now.level ≢ 0 = λ is. c.if-level-eq0.false (c.level-level.ensures.level ∙ is) in
    let begins = rw c.birth.ensures at (rw c.key.ensures at c.find_past.ensures) in
    no_child c.args.change.now c.args.store _ c.args.view.now c.find_past.result c.saturating_sub-i.result c.in-Err.fault inner
    begins c.saturating_sub-i.ensures c.in-Err.ensures.odd c.in-Err.ensures.not_there

pub returns-in-Err-view_of : goal.returns-in-Err-view_of
returns-in-Err-view_of g t c =
    let inner : c.args.view.now.level ≢ 0 = λ is. c.if-level-eq0.false (c.level-level.ensures.level ∙ is) in
    let begins = rw c.birth.ensures at (rw c.key.ensures at c.find_past.ensures) in
    let none = rw c.level-level.ensures.level at c.in-Err-view_of.ensures.not_shown in
    no_page c.args.change.now c.args.store _ _ c.args.view.now c.find_past.result c.saturating_sub-i.result c.in-Ok.slot
    c.in-Ok-load.page c.in-Err-view_of.fault inner begins c.saturating_sub-i.ensures c.in-Ok.ensures.child
    c.in-Ok-load.ensures.page c.in-Ok-load.ensures.only_reads c.in-Err-view_of.ensures.odd none

pub returns-in-Ok-Missing : goal.returns-in-Ok-Missing
returns-in-Ok-Missing g t c =
    let inner : c.args.view.now.level ≢ 0 = λ is. c.if-level-eq0.false (c.level-level.ensures.level ∙ is) in
    let begins = rw c.birth.ensures at (rw c.key.ensures at c.find_past.ensures) in
    let shown = rw c.level-level.ensures.level at c.in-Ok-view_of.ensures.shown in
    let done = rw c.in-Ok-Missing.field-0-is at c.in-Ok-Missing.ensures in
    missing_below c.args.change.now c.args.store _ _ _ c.args.view.now c.in-Ok-view_of.below c.find_past.result
    c.saturating_sub-i.result c.in-Ok.slot c.in-Ok-load.page inner begins c.saturating_sub-i.ensures c.in-Ok.ensures.child
    c.in-Ok-load.ensures.page c.in-Ok-load.ensures.only_reads shown done

pub returns-in-Ok-Below : goal.returns-in-Ok-Below
returns-in-Ok-Below g t c =
    let inner : c.args.view.now.level ≢ 0 = λ is. c.if-level-eq0.false (c.level-level.ensures.level ∙ is) in
    let begins = rw c.birth.ensures at (rw c.key.ensures at c.find_past.ensures) in
    let shown = rw c.level-level.ensures.level at c.in-Ok-view_of.ensures.shown in
    let done = rw c.in-Ok-Below.field-0-is at c.in-Ok-Below.ensures in
    changed_below c.args.change.now c.args.store _ _ _ c.args.view.now c.in-Ok-view_of.below c.find_past.result
    c.saturating_sub-i.result c.in-Ok.slot c.in-Ok-load.page inner begins c.saturating_sub-i.ensures c.in-Ok.ensures.child
    c.in-Ok-load.ensures.page c.in-Ok-load.ensures.only_reads shown done

pub returns-in-Ok-write : goal.returns-in-Ok-write
returns-in-Ok-write g t c =
    let inner : c.args.view.now.level ≢ 0 = λ is. c.if-level-eq0.false (c.level-level.ensures.level ∙ is) in
    let begins = rw c.birth.ensures at (rw c.key.ensures at c.find_past.ensures) in
    let shown = rw c.level-level.ensures.level at c.in-Ok-view_of.ensures.shown in
    let done = rw c.in-Ok-Page.field-0-is at c.in-Ok-Page.ensures in
    written_below c.args.change.now c.args.store _ _ _ _ c.args.view.now c.in-Ok-view_of.below c.find_past.result
    c.saturating_sub-i.result c.in-Ok.slot c.in-Ok-load.page c.in-Ok-Page.page inner begins c.saturating_sub-i.ensures
    c.in-Ok.ensures.child c.in-Ok-load.ensures.page c.in-Ok-load.ensures.only_reads shown done c.in-Ok-write.ensures

pub returns-in-Ok-Page : goal.returns-in-Ok-Page
returns-in-Ok-Page g t c =
    unwritten_below c.args.change.now c.args.store _ _ _ _ c.args.view.now c.in-Ok-view_of.below c.in-Ok-Page.field-0
    c.in-Err-write.fault c.in-Ok-load.ensures.only_reads c.in-Ok-Page.ensures c.in-Err-write.ensures

pub returns-in-Ok-put_two : goal.returns-in-Ok-put_two
returns-in-Ok-put_two g t c =
    let inner : c.args.view.now.level ≢ 0 = λ is. c.if-level-eq0.false (c.level-level.ensures.level ∙ is) in
    let begins = rw c.birth.ensures at (rw c.key.ensures at c.find_past.ensures) in
    let shown = rw c.level-level.ensures.level at c.in-Ok-view_of.ensures.shown in
    let done = rw c.in-Ok-Two.field-0-is at c.in-Ok-Two.ensures in
    let graft = rw c.as_slice.ensures at c.graft.ensures in
    let put : WasPut c.args.change.now c.args.store _ _ _ _ c.args.view.now c.in-Ok-view_of.below c.find_past.result
    c.saturating_sub-i.result c.in-Ok.slot c.in-Ok-load.page
    c.in-Ok-Two.left (bound_at c.in-Ok-Two.key c.in-Ok-Two.birth) c.in-Ok-Two.right c.in-Ok-put_two.fresh = record {
      inner = inner;
      begins = begins;
      at = c.saturating_sub-i.ensures;
      leads = c.in-Ok.ensures.child;
      reads = c.in-Ok-load.ensures.page;
      only = c.in-Ok-load.ensures.only_reads;
      shown = shown;
      goes = done.goes_on;
      stays = done.answer.0;
      parts = done.answer.1;
      finds = done.finds;
      puts = c.in-Ok-put_two.ensures;
      sound = g.met.G.Pages.sound c.args.pages.now;
      asked = c.requires.store;
    } in
    grafted_below c.args.change.now c.args.store _ _ _ _ c.args.view.now c.in-Ok-view_of.below c.find_past.result
    c.saturating_sub-i.result c.in-Ok.slot c.in-Ok-load.page
    c.in-Ok-Two.left (bound_at c.in-Ok-Two.key c.in-Ok-Two.birth) c.in-Ok-Two.right c.in-Ok-put_two.fresh c.graft.result put graft

pub returns-in-Ok-Two : goal.returns-in-Ok-Two
returns-in-Ok-Two g t c =
    unput_below c.args.change.now c.args.store _ _ _ _ c.args.view.now c.in-Ok-view_of.below c.in-Ok-Two.field-0
    c.in-Err-put_two.fault c.in-Ok-load.ensures.only_reads c.in-Ok-Two.ensures c.in-Err-put_two.ensures

pub returns : goal.returns
returns g t c =
    let inner : c.args.view.now.level ≢ 0 = λ is. c.if-level-eq0.false (c.level-level.ensures.level ∙ is) in
    let begins = rw c.birth.ensures at (rw c.key.ensures at c.find_past.ensures) in
    let shown = rw c.level-level.ensures.level at c.in-Ok-view_of.ensures.shown in
    fault_below c.args.change.now c.args.store _ _ _ c.args.view.now c.in-Ok-view_of.below c.find_past.result
    c.saturating_sub-i.result c.in-Ok.slot c.in-Ok-load.page c.in-Err-edit_below.fault inner begins c.saturating_sub-i.ensures
    c.in-Ok.ensures.child c.in-Ok-load.ensures.page c.in-Ok-load.ensures.only_reads shown c.in-Err-edit_below.ensures
