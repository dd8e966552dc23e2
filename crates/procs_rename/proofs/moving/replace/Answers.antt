-- The edit of the table, by what is replaced.
use Rattle.std.proofs.Common.{true, false, Option, Some, sym, subst}
use Rattle.std.specs.Prelude.{OnOk, IfErr}
use Rattle.fs_rules.specs.declared.plans.Replaced.{Replaced}
use Rattle.fs_rules.specs.Removing.{remove_file, drop_directory}
use Rattle.fs_rules.specs.Renaming.{replace}
use Rattle.fs_shows.specs.Steps.{Edits, EditGivesUp}
use Rattle.procs_rename.specs.Moving.{CanTakeOut, CanReplace}
use Rattle.procs_rename.proofs.Chaining.{edit-same}
use Rattle.procs_rename.proofs.Moves.{replaced-by}
use Rattle.procs_rename.proofs.moving.replace.Goals as goal

pub returns-then-r-clause-ok : goal.returns-then-r-clause-ok
returns-then-r-clause-ok g c =
    let name = c.args.name.now in
    let r = c.in-Some.r in
    let P : Option Replaced → Type 0 = λ o.
    OnOk c.remove_directory.result (Edits g.P.Pairs.told c.args.pairs.now c.remove_directory.new.pairs
    (CanReplace c.args.to name o)
    (replace c.args.now c.args.to name o)) in
    subst P (sym c.in-Some.is)
    (edit-same g.P.Pairs.told c.args.pairs.now c.remove_directory.new.pairs (CanTakeOut c.args.to name r.fileid)
    (drop_directory c.args.now c.args.to name r.fileid) (replace c.args.now c.args.to name (Some r)) c.remove_directory.result
    (λ t. replaced-by c.args.now c.args.to name r t true c.if-r.true) c.remove_directory.ensures.ok)

pub returns-then-r-clause-fault : goal.returns-then-r-clause-fault
returns-then-r-clause-fault g c =
    let P : Option Replaced → Type 0 = λ o.
    IfErr c.remove_directory.result (EditGivesUp g.P.Pairs.told c.args.pairs.now c.remove_directory.new.pairs
    (CanReplace c.args.to c.args.name.now o)) in
    subst P (sym c.in-Some.is) c.remove_directory.ensures.fault

pub returns-else-r-clause-ok : goal.returns-else-r-clause-ok
returns-else-r-clause-ok g c =
    let name = c.args.name.now in
    let r = c.in-Some.r in
    let P : Option Replaced → Type 0 = λ o.
    OnOk c.remove_file.result (Edits g.P.Pairs.told c.args.pairs.now c.remove_file.new.pairs (CanReplace c.args.to name o)
    (replace c.args.now c.args.to name o)) in
    subst P (sym c.in-Some.is)
    (edit-same g.P.Pairs.told c.args.pairs.now c.remove_file.new.pairs (CanTakeOut c.args.to name r.fileid)
    (remove_file c.args.now c.args.to name r.fileid) (replace c.args.now c.args.to name (Some r)) c.remove_file.result
    (λ t. replaced-by c.args.now c.args.to name r t false c.if-r.false) c.remove_file.ensures.ok)

pub returns-else-r-clause-fault : goal.returns-else-r-clause-fault
returns-else-r-clause-fault g c =
    let P : Option Replaced → Type 0 = λ o.
    IfErr c.remove_file.result (EditGivesUp g.P.Pairs.told c.args.pairs.now c.remove_file.new.pairs
    (CanReplace c.args.to c.args.name.now o)) in
    subst P (sym c.in-Some.is) c.remove_file.ensures.fault

pub returns-in-None-clause-ok : goal.returns-in-None-clause-ok
returns-in-None-clause-ok g c =
    let P : Option Replaced → Type 0 = λ o.
    Edits g.P.Pairs.told c.args.pairs.now c.args.pairs.now (CanReplace c.args.to c.args.name.now o)
    (replace c.args.now c.args.to c.args.name.now o) in
    subst P (sym c.in-None.is) (λ w t agrees lies can. lies)
