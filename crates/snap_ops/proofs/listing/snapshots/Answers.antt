-- Snapshots are read one after another, up to the most.
use Rattle.std.proofs.Common.{◌≡◌, ◌+◌, List, [], ◌∷◌, length, Option, sym, subst, ap, ◌∙◌, arith}
use Rattle.std.proofs.lemmas.List.{length-append}
use Rattle.std.specs.Prelude.{map}
use Rattle.fs_rules.specs.declared.name_entry.NameEntry.{NameEntry}
use Rattle.fs_rules.specs.Limits.{most_snapshots}
use Rattle.fs_rules.specs.Places.{snapshot_entry}
use Rattle.fs_rules.specs.Sound.{IsSound}
use Rattle.fs_shows.specs.Steps.{Reads}
use Rattle.fs_shows.proofs.Doing.{up-memory}
use Rattle.dir_ops.specs.Listing.{next_entry}
use Rattle.snap_ops.proofs.Listed.{HasRead, read-none, read-goes, read-up, read-all, read-more, read-odd}
use Rattle.snap_ops.proofs.listing.snapshots.Goals as goal

pub entries-init : goal.entries-init
entries-init g c =
    subst (λ (es : List NameEntry). HasRead g.P.Pairs.told c.args.pairs.now c.args.pairs.now es 0) (sym c.new-told.ensures.items)
    (read-none g.P.Pairs.told c.args.pairs.now)

pub returns-in-Err-clause-goes : goal.returns-in-Err-clause-goes
returns-in-Err-clause-goes g c =
    read-goes g.P.Pairs.told c.args.pairs.now c.entries.pairs c.first_behind.new.pairs c.entries.told.items c.entries.last
    c.entries.invariant c.first_behind.ensures.goes

pub returns-in-Err-clause-fault : goal.returns-in-Err-clause-fault
returns-in-Err-clause-fault g c =
    read-up g.P.Pairs.told c.args.pairs.now c.entries.pairs c.first_behind.new.pairs c.entries.told.items c.entries.last
    c.entries.invariant c.first_behind.ensures.goes c.in-Err.fault c.in-Err.ensures.fault

pub returns-in-None-clause-goes : goal.returns-in-None-clause-goes
returns-in-None-clause-goes g c =
    read-goes g.P.Pairs.told c.args.pairs.now c.entries.pairs c.first_behind.new.pairs c.entries.told.items c.entries.last
    c.entries.invariant c.first_behind.ensures.goes

pub returns-in-None-clause-ok : goal.returns-in-None-clause-ok
returns-in-None-clause-ok g c =
    subst (λ (es : List NameEntry). Reads g.P.Pairs.told c.args.pairs.now c.first_behind.new.pairs IsSound
    (λ t. map snapshot_entry t.snapshots ≡ es)) (sym c.from_vec.ensures)
    (read-all g.P.Pairs.told c.args.pairs.now c.entries.pairs c.first_behind.new.pairs c.entries.told.items c.entries.last
    c.entries.invariant c.first_behind.ensures.goes
    (subst (λ (o : Option NameEntry). Reads g.P.Pairs.told c.entries.pairs c.first_behind.new.pairs IsSound
    (λ t. next_entry (c.entries.last + 2) (map snapshot_entry t.snapshots) ≡ o)) c.in-None.is c.in-Ok.ensures.ok))

pub returns-then-len-ge-MOST_SNAPSHOTS-clause-goes : goal.returns-then-len-ge-MOST_SNAPSHOTS-clause-goes
returns-then-len-ge-MOST_SNAPSHOTS-clause-goes g c =
    read-goes g.P.Pairs.told c.args.pairs.now c.entries.pairs c.first_behind.new.pairs c.entries.told.items c.entries.last
    c.entries.invariant c.first_behind.ensures.goes

pub entries-preserved : goal.entries-preserved
entries-preserved g c =
    subst (λ (es : List NameEntry). HasRead g.P.Pairs.told c.args.pairs.now c.first_behind.new.pairs es c.in-Some.e.fileid)
    (sym c.in-Ok-push_entry.ensures)
    (read-more g.P.Pairs.told c.args.pairs.now c.entries.pairs c.first_behind.new.pairs c.entries.told.items c.entries.last
    c.entries.invariant c.first_behind.ensures.goes c.in-Some.e
    (subst (λ (o : Option NameEntry). Reads g.P.Pairs.told c.entries.pairs c.first_behind.new.pairs IsSound
    (λ t. next_entry (c.entries.last + 2) (map snapshot_entry t.snapshots) ≡ o)) c.in-Some.is c.in-Ok.ensures.ok))

pub returns-in-Err-push_entry-clause-goes : goal.returns-in-Err-push_entry-clause-goes
returns-in-Err-push_entry-clause-goes g c =
    read-goes g.P.Pairs.told c.args.pairs.now c.entries.pairs c.first_behind.new.pairs c.entries.told.items c.entries.last
    c.entries.invariant c.first_behind.ensures.goes

pub returns-in-Err-push_entry-clause-fault : goal.returns-in-Err-push_entry-clause-fault
returns-in-Err-push_entry-clause-fault g c =
    up-memory g.P.Pairs.told c.args.pairs.now c.first_behind.new.pairs IsSound c.from.result c.from.ensures

pub returns-then-len-ge-MOST_SNAPSHOTS-clause-fault : goal.returns-then-len-ge-MOST_SNAPSHOTS-clause-fault
unfolding most_snapshots
returns-then-len-ge-MOST_SNAPSHOTS-clause-fault g c =
    read-odd g.P.Pairs.told c.args.pairs.now c.entries.pairs c.first_behind.new.pairs c.entries.told.items c.entries.last
    c.entries.invariant c.first_behind.ensures.goes c.in-Some.e
    (subst (λ (o : Option NameEntry). Reads g.P.Pairs.told c.entries.pairs c.first_behind.new.pairs IsSound
    (λ t. next_entry (c.entries.last + 2) (map snapshot_entry t.snapshots) ≡ o)) c.in-Some.is c.in-Ok.ensures.ok)
    (omega (arith, c.if-len-ge-MOST_SNAPSHOTS.true, c.len.ensures, c.entries.told.ok))

pub entries-smaller : goal.entries-smaller
entries-smaller g c =
    let more : length c.push_entry.new.entries.items ≡ length c.entries.told.items + 1 =
    ap length c.in-Ok-push_entry.ensures ∙ length-append c.entries.told.items (c.in-Some.e ∷ []) in
    omega (arith, more, c.if-len-ge-MOST_SNAPSHOTS.false, c.len.ensures, c.entries.told.ok)
