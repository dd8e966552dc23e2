use Rattle.btree_edit.specs.Changes.{given_of}
use Rattle.btree_edit.proofs.Tops.{WasRead, root_misshown, tree_fault, tree_changed, tree_written, tree_misses, root_changed}
use Rattle.btree_edit.proofs.Tops.{root_missing, root_kept_written, never_grows}
use Rattle.btree_edit.proofs.States.{goes_only, goes_then, goes_write, goes_gives_up}
use Rattle.btree_edit.proofs.edit.in_place.Goals as goal

pub returns-in-Err-view_of-clause-fault : goal.returns-in-Err-view_of-clause-fault
returns-in-Err-view_of-clause-fault g c = root_misshown (given_of c.args.change.now) _ _ c.in-Ok.page c.in-Err-view_of.fault
    c.in-Ok.ensures.page c.in-Ok.ensures.only_reads c.in-Err-view_of.ensures.odd c.in-Err-view_of.ensures.not_shown

pub returns-in-Ok-Missing-clause-lacking : goal.returns-in-Ok-Missing-clause-lacking
returns-in-Ok-Missing-clause-lacking g c =
    let read : WasRead _ _ c.in-Ok-view_of.view c.in-Ok.page = record {
      reads = c.in-Ok.ensures.page;
      only =
          c.in-Ok.ensures.only_reads;
      shown = c.in-Ok-view_of.ensures.shown;
    } in
    let done = rw c.in-Ok-Missing.field-0-is at c.in-Ok-Missing.ensures in
    λ _. tree_misses _ _ _ _ _ c.in-Ok-view_of.view c.in-Ok.page read done

pub returns-in-Ok-Missing-clause-root : goal.returns-in-Ok-Missing-clause-root
returns-in-Ok-Missing-clause-root g c =
    let read : WasRead _ _ c.in-Ok-view_of.view c.in-Ok.page = record {
      reads = c.in-Ok.ensures.page;
      only =
          c.in-Ok.ensures.only_reads;
      shown = c.in-Ok-view_of.ensures.shown;
    } in
    let done = rw c.in-Ok-Missing.field-0-is at c.in-Ok-Missing.ensures in
    root_missing _ _ _ _ _ c.in-Ok-view_of.view c.in-Ok.page read done

pub returns-in-Ok-Below-clause-edited : goal.returns-in-Ok-Below-clause-edited
returns-in-Ok-Below-clause-edited g c =
    let read : WasRead _ _ c.in-Ok-view_of.view c.in-Ok.page = record {
      reads = c.in-Ok.ensures.page;
      only =
          c.in-Ok.ensures.only_reads;
      shown = c.in-Ok-view_of.ensures.shown;
    } in
    let done = rw c.in-Ok-Below.field-0-is at c.in-Ok-Below.ensures in
    λ _. tree_changed _ _ _ _ _ c.in-Ok-view_of.view c.in-Ok.page read done

pub returns-in-Ok-Below-clause-root : goal.returns-in-Ok-Below-clause-root
returns-in-Ok-Below-clause-root g c =
    let read : WasRead _ _ c.in-Ok-view_of.view c.in-Ok.page = record {
      reads = c.in-Ok.ensures.page;
      only =
          c.in-Ok.ensures.only_reads;
      shown = c.in-Ok-view_of.ensures.shown;
    } in
    let done = rw c.in-Ok-Below.field-0-is at c.in-Ok-Below.ensures in
    root_changed _ _ _ _ _ c.in-Ok-view_of.view c.in-Ok.page read done

pub returns-in-Ok-write-clause-edited : goal.returns-in-Ok-write-clause-edited
returns-in-Ok-write-clause-edited g c =
    let read : WasRead _ _ c.in-Ok-view_of.view c.in-Ok.page = record {
      reads = c.in-Ok.ensures.page;
      only =
          c.in-Ok.ensures.only_reads;
      shown = c.in-Ok-view_of.ensures.shown;
    } in
    let done = rw c.in-Ok-Page.field-0-is at c.in-Ok-Page.ensures in
    λ _. tree_written _ _ _ _ _ _ c.in-Ok-view_of.view c.in-Ok.page c.in-Ok-Page.page read done c.in-Ok-write.ensures

pub returns-in-Ok-write-clause-goes_on : goal.returns-in-Ok-write-clause-goes_on
returns-in-Ok-write-clause-goes_on g c =
    let done = rw c.in-Ok-Page.field-0-is at c.in-Ok-Page.ensures in
    goes_then _ _ _ (goes_only _ _ c.in-Ok.ensures.only_reads)
    (goes_then _ _ _ done.goes_on (goes_write _ _ _ _ c.in-Ok-write.ensures))

pub returns-in-Ok-write-clause-root : goal.returns-in-Ok-write-clause-root
returns-in-Ok-write-clause-root g c =
    let read : WasRead _ _ c.in-Ok-view_of.view c.in-Ok.page = record {
      reads = c.in-Ok.ensures.page;
      only =
          c.in-Ok.ensures.only_reads;
      shown = c.in-Ok-view_of.ensures.shown;
    } in
    let done = rw c.in-Ok-Page.field-0-is at c.in-Ok-Page.ensures in
    root_kept_written _ _ _ _ _ _ c.in-Ok-view_of.view c.in-Ok.page c.in-Ok-Page.page
    (never_grows c.args.change.now c.requires.never _ _) read done c.in-Ok-write.ensures

pub returns-in-Ok-Page-clause-goes_on : goal.returns-in-Ok-Page-clause-goes_on
returns-in-Ok-Page-clause-goes_on g c =
    let done = rw c.in-Ok-Page.field-0-is at c.in-Ok-Page.ensures in
    goes_then _ _ _ (goes_only _ _ c.in-Ok.ensures.only_reads)
    (goes_then _ _ _ done.goes_on (goes_gives_up _ _ _ c.in-Err-write.ensures))

pub returns-clause-fault : goal.returns-clause-fault
returns-clause-fault g c =
    let read : WasRead _ _ c.in-Ok-view_of.view c.in-Ok.page = record {
      reads = c.in-Ok.ensures.page;
      only =
          c.in-Ok.ensures.only_reads;
      shown = c.in-Ok-view_of.ensures.shown;
    } in
    tree_fault _ _ _ _ _ c.in-Ok-view_of.view c.in-Ok.page c.in-Err-edit_below.fault read c.in-Err-edit_below.ensures
