-- What entries lead to is told, one after another.
use Rattle.std.proofs.Common.{◌≡◌, ◌∙◌, ◌+◌, ◌++◌, List, [], ◌∷◌, take, sym, ap, subst}
use Rattle.std.proofs.lemmas.List.{take_more, take_all}
use Rattle.procs_listing.specs.declared.entries.Entry.{Entry}
use Rattle.nfs3_types.specs.declared.body.DirEntryPlus.{DirEntryPlus}
use Rattle.fs_shows.specs.Steps.{Reads}
use Rattle.fs_shows.proofs.Doing.{up-memory}
use Rattle.procs_object.specs.Finding.{Begins}
use Rattle.procs_listing.proofs.Rows.{HasTold, pluses, told-none, told-goes, told-up, told-more}
use Rattle.procs_listing.proofs.telling.entries_plus_of.Goals as goal

pub loop-e-init : goal.loop-e-init
loop-e-init g c =
    subst (λ (entries : List DirEntryPlus). HasTold g.P.Pairs.told c.args.begins.now c.args.pairs.now c.args.pairs.now [] entries)
    (sym c.new-entries.ensures.items) (told-none g.P.Pairs.told c.args.begins.now c.args.pairs.now)

pub returns-in-Err-clause-goes : goal.returns-in-Err-clause-goes
returns-in-Err-clause-goes g c =
    told-goes g.P.Pairs.told c.args.begins.now c.args.pairs.now c.loop-e.pairs c.entry_plus_of.new.pairs
    (take c.loop-e.e-index c.args.told.now) c.loop-e.entries.items c.loop-e.invariant c.entry_plus_of.ensures.goes

pub returns-in-Err-clause-fault : goal.returns-in-Err-clause-fault
returns-in-Err-clause-fault g c =
    told-up g.P.Pairs.told c.args.begins.now c.args.pairs.now c.loop-e.pairs c.entry_plus_of.new.pairs
    (take c.loop-e.e-index c.args.told.now) c.loop-e.entries.items c.loop-e.invariant c.entry_plus_of.ensures.goes
    c.in-Err.fault c.in-Err.ensures.fault

pub returns-in-Err-push_plus-clause-goes : goal.returns-in-Err-push_plus-clause-goes
returns-in-Err-push_plus-clause-goes g c =
    told-goes g.P.Pairs.told c.args.begins.now c.args.pairs.now c.loop-e.pairs c.entry_plus_of.new.pairs
    (take c.loop-e.e-index c.args.told.now) c.loop-e.entries.items c.loop-e.invariant c.entry_plus_of.ensures.goes

pub returns-in-Err-push_plus-clause-fault : goal.returns-in-Err-push_plus-clause-fault
returns-in-Err-push_plus-clause-fault g c =
    up-memory g.P.Pairs.told c.args.pairs.now c.entry_plus_of.new.pairs (Begins c.args.begins.now) c.from.result c.from.ensures

pub loop-e-preserved : goal.loop-e-preserved
loop-e-preserved g c =
    let P : List Entry → List DirEntryPlus → Type 0 = λ es entries.
    HasTold g.P.Pairs.told c.args.begins.now c.args.pairs.now c.entry_plus_of.new.pairs es entries in
    let next : take (c.loop-e.e-index + 1) c.args.told.now ≡ take c.loop-e.e-index c.args.told.now ++ c.e-item.result ∷ [] =
    take_more c.args.told.now c.loop-e.e-index c.e-item.result c.loop-e-test.true
    ∙ ap (λ (e : Entry). take c.loop-e.e-index c.args.told.now ++ e ∷ []) (sym c.e-item.is) in
    subst (λ (es : List Entry). P es c.push_plus.new.entries.items) (sym next)
    (subst (λ (entries : List DirEntryPlus). P (take c.loop-e.e-index c.args.told.now ++ c.e-item.result ∷ []) entries)
    (sym c.in-Ok-push_plus.ensures)
    (told-more g.P.Pairs.told c.args.begins.now c.args.pairs.now c.loop-e.pairs c.entry_plus_of.new.pairs
    (take c.loop-e.e-index c.args.told.now) c.loop-e.entries.items c.loop-e.invariant c.entry_plus_of.ensures.goes
    c.e-item.result c.in-Ok.entry c.in-Ok.ensures.ok))

pub returns-clause-goes : goal.returns-clause-goes
returns-clause-goes g c = c.loop-e.invariant.goes

pub returns-clause-ok : goal.returns-clause-ok
returns-clause-ok g c =
    subst (λ (es : List Entry). Reads g.P.Pairs.told c.args.pairs.now c.loop-e.pairs (Begins c.args.begins.now)
    (λ t. pluses t es ≡ c.loop-e.entries.items)) (take_all c.loop-e.e-index c.args.told.now c.loop-e-test.false)
    c.loop-e.invariant.reads
