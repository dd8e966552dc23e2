use Rattle.std.proofs.Common.{inl, arith}
use Rattle.btree_edit.specs.Edits.{bound_at}
use Rattle.btree_edit.specs.Changes.{given_of}
use Rattle.btree_edit.proofs.Tops.{WasRead, root_misshown, tree_fault, tree_changed, tree_written, tree_misses, tree_raised}
use Rattle.btree_edit.proofs.Tops.{tree_finds, root_changed, root_missing, root_written, root_full, root_raised, put_cause}
use Rattle.btree_edit.proofs.Tops.{raise_cause}
use Rattle.btree_edit.proofs.States.{goes_same, goes_only, goes_then, goes_write, goes_gives_up}
use Rattle.btree_edit.proofs.edit.put.Goals as goal

pub returns-in-Err-view_of : goal.returns-in-Err-view_of
returns-in-Err-view_of g c = record {
  goes_on = goes_only _ _ c.in-Ok.ensures.only_reads;
  answer = put_cause _ _ _ c.in-Err-view_of.fault (root_misshown (given_of c.args.change.now) _ _ c.in-Ok.page
      c.in-Err-view_of.fault c.in-Ok.ensures.page c.in-Ok.ensures.only_reads c.in-Err-view_of.ensures.odd
      c.in-Err-view_of.ensures.not_shown);
  finds = tt;
}

pub returns-in-Ok-Missing : goal.returns-in-Ok-Missing
returns-in-Ok-Missing g c =
    let read : WasRead _ _ c.in-Ok-view_of.view c.in-Ok.page = record {
      reads = c.in-Ok.ensures.page;
      only =
          c.in-Ok.ensures.only_reads;
      shown = c.in-Ok-view_of.ensures.shown;
    } in
    let done = rw c.in-Ok-Missing.field-0-is at c.in-Ok-Missing.ensures in
    record {
      goes_on = goes_then _ _ _ (goes_only _ _ c.in-Ok.ensures.only_reads) done.goes_on;
      answer = (
        tree_misses c.args.change.now c.args.store _ _ _ c.in-Ok-view_of.view c.in-Ok.page read done,
        root_missing c.args.change.now c.args.store _ _ _ c.in-Ok-view_of.view c.in-Ok.page read done,
      );
      finds = tt;
    }

pub returns-in-Ok-Below : goal.returns-in-Ok-Below
returns-in-Ok-Below g c =
    let read : WasRead _ _ c.in-Ok-view_of.view c.in-Ok.page = record {
      reads = c.in-Ok.ensures.page;
      only =
          c.in-Ok.ensures.only_reads;
      shown = c.in-Ok-view_of.ensures.shown;
    } in
    let done = rw c.in-Ok-Below.field-0-is at c.in-Ok-Below.ensures in
    record {
      goes_on = goes_then _ _ _ (goes_only _ _ c.in-Ok.ensures.only_reads) done.goes_on;
      answer = (
        tree_changed c.args.change.now c.args.store _ _ _ c.in-Ok-view_of.view c.in-Ok.page read done,
        inl (root_changed c.args.change.now c.args.store _ _ _ c.in-Ok-view_of.view c.in-Ok.page read done),
      );
      finds = tree_finds c.args.change.now _ _ _ _ c.in-Ok-view_of.view c.in-Ok.page read done.goes_on (goes_same _) done.finds;
    }

pub returns-in-Ok-write : goal.returns-in-Ok-write
returns-in-Ok-write g c =
    let read : WasRead _ _ c.in-Ok-view_of.view c.in-Ok.page = record {
      reads = c.in-Ok.ensures.page;
      only =
          c.in-Ok.ensures.only_reads;
      shown = c.in-Ok-view_of.ensures.shown;
    } in
    let done = rw c.in-Ok-Page.field-0-is at c.in-Ok-Page.ensures in
    record {
      goes_on = goes_then _ _ _ (goes_only _ _ c.in-Ok.ensures.only_reads)
          (goes_then _ _ _ done.goes_on (goes_write _ _ _ _ c.in-Ok-write.ensures));
      answer = (
        tree_written c.args.change.now c.args.store _ _ _ _ c.in-Ok-view_of.view c.in-Ok.page c.in-Ok-Page.page read done
            c.in-Ok-write.ensures,
        root_written c.args.change.now c.args.store _ _ _ _ c.in-Ok-view_of.view c.in-Ok.page c.in-Ok-Page.page read done
            c.in-Ok-write.ensures,
      );
      finds = tree_finds c.args.change.now _ _ _ _ c.in-Ok-view_of.view c.in-Ok.page read done.goes_on
          (goes_write _ _ _ _ c.in-Ok-write.ensures) done.finds;
    }

pub returns-in-Ok-Page : goal.returns-in-Ok-Page
returns-in-Ok-Page g c =
    let done = rw c.in-Ok-Page.field-0-is at c.in-Ok-Page.ensures in
    let until = goes_then _ _ _ (goes_only _ _ c.in-Ok.ensures.only_reads) done.goes_on in
    record {
      goes_on = goes_then _ _ _ until (goes_gives_up _ _ _ c.in-Err-write.ensures);
      answer = λ isnt. omega (arith, until.lasts.faults c.in-Err-write.fault, c.in-Err-write.ensures.counted isnt);
      finds = tt;
    }

pub returns-then-level-eq-HEIGHT : goal.returns-then-level-eq-HEIGHT
returns-then-level-eq-HEIGHT g c =
    let read : WasRead _ _ c.in-Ok-view_of.view c.in-Ok.page = record {
      reads = c.in-Ok.ensures.page;
      only =
          c.in-Ok.ensures.only_reads;
      shown = c.in-Ok-view_of.ensures.shown;
    } in
    let done = rw c.in-Ok-Two.field-0-is at c.in-Ok-Two.ensures in
    record {
      goes_on = goes_then _ _ _ (goes_only _ _ c.in-Ok.ensures.only_reads) done.goes_on;
      answer = root_full c.args.change.now c.args.store _ _ _ c.in-Ok-view_of.view c.in-Ok.page c.in-Ok-Two.left
          (bound_at c.in-Ok-Two.key c.in-Ok-Two.birth) c.in-Ok-Two.right read done.goes_on done.answer.1
          (omega (arith, c.level-level.ensures.level, c.if-level-eq-HEIGHT.true));
      finds = tt;
    }

pub returns-in-Ok-raise : goal.returns-in-Ok-raise
returns-in-Ok-raise g c =
    let read : WasRead _ _ c.in-Ok-view_of.view c.in-Ok.page = record {
      reads = c.in-Ok.ensures.page;
      only =
          c.in-Ok.ensures.only_reads;
      shown = c.in-Ok-view_of.ensures.shown;
    } in
    let done = rw c.in-Ok-Two.field-0-is at c.in-Ok-Two.ensures in
    let raises = rw c.level-level.ensures.level at (rw c.as_slice.ensures at c.in-Ok-raise.ensures) in
    record {
      goes_on = goes_then _ _ _ (goes_only _ _ c.in-Ok.ensures.only_reads) (goes_then _ _ _ done.goes_on raises.goes_on);
      answer = (
        tree_raised c.args.change.now c.args.store _ _ _ _ c.in-Ok-view_of.view c.in-Ok.page c.in-Ok-Two.left
            (bound_at c.in-Ok-Two.key c.in-Ok-Two.birth) c.in-Ok-Two.right read done.goes_on done.answer.1 raises
            (g.met.G.Pages.sound c.args.pages.now) (omega (
              arith,
              c.level-level.ensures.level,
              c.if-level-eq-HEIGHT.false,
              c.in-Ok-view_of.ensures.shown.to,
            )) c.requires.store,
        root_raised c.args.change.now c.args.store _ _ _ _ c.in-Ok-view_of.view c.in-Ok.page c.in-Ok-Two.left
            (bound_at c.in-Ok-Two.key c.in-Ok-Two.birth) c.in-Ok-Two.right read done.goes_on done.answer.1 raises,
      );
      finds = tree_finds c.args.change.now _ _ _ _ c.in-Ok-view_of.view c.in-Ok.page read done.goes_on raises.goes_on done.finds;
    }

pub returns-in-Ok-Two : goal.returns-in-Ok-Two
returns-in-Ok-Two g c =
    let done = rw c.in-Ok-Two.field-0-is at c.in-Ok-Two.ensures in
    let until = goes_then _ _ _ (goes_only _ _ c.in-Ok.ensures.only_reads) done.goes_on in
    record {
      goes_on = goes_then _ _ _ until c.in-Err-raise.ensures.goes_on;
      answer =
          raise_cause _ _ _ _ c.in-Err-raise.fault until c.in-Err-raise.ensures.cause;
      finds = tt;
    }

pub returns : goal.returns
returns g c =
    let read : WasRead _ _ c.in-Ok-view_of.view c.in-Ok.page = record {
      reads = c.in-Ok.ensures.page;
      only =
          c.in-Ok.ensures.only_reads;
      shown = c.in-Ok-view_of.ensures.shown;
    } in
    record {
      goes_on = goes_then _ _ _ (goes_only _ _ c.in-Ok.ensures.only_reads) c.in-Err-edit_below.ensures.goes_on;
      answer = put_cause _ _ _ c.in-Err-edit_below.fault (tree_fault c.args.change.now c.args.store _ _ _ c.in-Ok-view_of.view
          c.in-Ok.page c.in-Err-edit_below.fault read c.in-Err-edit_below.ensures);
      finds = tt;
    }
