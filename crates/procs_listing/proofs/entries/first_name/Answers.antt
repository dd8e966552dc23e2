-- The names are records of a view, or snapshots.
use Rattle.std.proofs.Common.{◌≡◌, ◌∙◌, ℕ, ◌+◌, ◌-◌, ◌≤◌, List, map, Option, sym, ap, subst, refl, arith}
use Rattle.std.specs.Prelude.{IfOk, IfErr}
use Rattle.std.proofs.lemmas.Result.{IfOk-weaker, IfErr-weaker}
use Rattle.fs_rules.specs.declared.name_entry.NameEntry.{NameEntry}
use Rattle.fs_rules.specs.declared.place.Place.{Place}
use Rattle.fs_rules.specs.declared.place.Place.TheVariants.{Live, SnapshotDirectory, Kept}
use Rattle.fs_rules.specs.Places.{names_at, node_at, snapshot_directory, snapshot_entry}
use Rattle.fs_rules.specs.Sound.{IsSound}
use Rattle.fs_rules.specs.Tree.{Tree}
use Rattle.pairs.specs.declared.at.At.TheVariants.{Live as LiveView, Snap}
use Rattle.fs_shows.specs.Steps.{Reads, GivesUpOn}
use Rattle.fs_shows.proofs.Doing.{up-given}
use Rattle.dir_ops.specs.Listing.{next_entry, IsListed}
use Rattle.procs_object.specs.Finding.{HasPlace}
use Rattle.procs_object.proofs.Reading.{reads-more}
use Rattle.procs_listing.proofs.Rising.{kept-listed, live-listed}
use Rattle.procs_listing.proofs.entries.first_name.Goals as goal

names-of-snapshots : (t : Tree) → map snapshot_entry t.snapshots ≡ names_at t SnapshotDirectory
unfolding node_at snapshot_directory
names-of-snapshots t = refl

again : (cookie : ℕ) → 2 ≤ cookie → cookie - 2 + 2 ≡ cookie
again cookie up = omega (arith, up)

snapshot-said : (t : Tree) (cookie : ℕ) (found : Option NameEntry) → 2 ≤ cookie
    → next_entry (cookie - 2 + 2) (map snapshot_entry t.snapshots) ≡ found → next_entry cookie (names_at t SnapshotDirectory) ≡ found
snapshot-said t cookie found up said =
    ap (λ (n : ℕ). next_entry n (names_at t SnapshotDirectory)) (sym (again cookie up))
    ∙ ap (λ (names : List NameEntry). next_entry (cookie - 2 + 2) names) (sym (names-of-snapshots t)) ∙ said

pub returns-in-Live-clause-goes : goal.returns-in-Live-clause-goes
returns-in-Live-clause-goes g c = c.first_behind.ensures.goes

pub returns-in-Live-clause-ok : goal.returns-in-Live-clause-ok
returns-in-Live-clause-ok g c =
    subst (λ (p : Place). IfOk c.first_behind.result (λ found. Reads g.P.Pairs.told c.args.pairs.now c.first_behind.new.pairs
    (HasPlace p) (λ t. next_entry c.args.cookie (names_at t p) ≡ found))) (sym c.in-Live.is)
    (IfOk-weaker c.first_behind.result _ _
    (λ found reads. reads-more g.P.Pairs.told c.args.pairs.now c.first_behind.new.pairs (HasPlace (Live c.in-Live.fileid))
    (IsListed LiveView c.in-Live.fileid) (λ t. next_entry c.args.cookie (names_at t (Live c.in-Live.fileid)) ≡ found)
    (λ t. next_entry c.args.cookie (names_at t (Live c.in-Live.fileid)) ≡ found)
    (λ t has. live-listed t c.in-Live.fileid has) (λ t has is. is) reads)
    c.first_behind.ensures.ok)

pub returns-in-Live-clause-fault : goal.returns-in-Live-clause-fault
returns-in-Live-clause-fault g c =
    subst (λ (p : Place). IfErr c.first_behind.result (GivesUpOn g.P.Pairs.told c.args.pairs.now c.first_behind.new.pairs
    (HasPlace p))) (sym c.in-Live.is)
    (IfErr-weaker c.first_behind.result _ _
    (λ fault up. up-given g.P.Pairs.told c.args.pairs.now c.first_behind.new.pairs (HasPlace (Live c.in-Live.fileid))
    (IsListed LiveView c.in-Live.fileid) (λ t has. live-listed t c.in-Live.fileid has) fault up)
    c.first_behind.ensures.fault)

pub overflow_sub-cookie : goal.overflow_sub-cookie
overflow_sub-cookie g c = c.requires

pub returns-in-SnapshotDirectory-clause-goes : goal.returns-in-SnapshotDirectory-clause-goes
returns-in-SnapshotDirectory-clause-goes g c = c.first_behind-in-SnapshotDirectory.ensures.goes

pub returns-in-SnapshotDirectory-clause-ok : goal.returns-in-SnapshotDirectory-clause-ok
returns-in-SnapshotDirectory-clause-ok g c =
    subst (λ (p : Place). IfOk c.first_behind-in-SnapshotDirectory.result (λ found. Reads g.P.Pairs.told c.args.pairs.now
    c.first_behind-in-SnapshotDirectory.new.pairs (HasPlace p) (λ t. next_entry c.args.cookie (names_at t p) ≡ found)))
    (sym c.in-SnapshotDirectory.is)
    (IfOk-weaker c.first_behind-in-SnapshotDirectory.result _ _
    (λ found reads. reads-more g.P.Pairs.told c.args.pairs.now c.first_behind-in-SnapshotDirectory.new.pairs
    (HasPlace SnapshotDirectory) IsSound
    (λ t. next_entry (c.args.cookie - 2 + 2) (map snapshot_entry t.snapshots) ≡ found)
    (λ t. next_entry c.args.cookie (names_at t SnapshotDirectory) ≡ found) (λ t has. has.sound)
    (λ t has said. snapshot-said t c.args.cookie found c.requires said) reads)
    c.first_behind-in-SnapshotDirectory.ensures.ok)

pub returns-in-SnapshotDirectory-clause-fault : goal.returns-in-SnapshotDirectory-clause-fault
returns-in-SnapshotDirectory-clause-fault g c =
    subst (λ (p : Place). IfErr c.first_behind-in-SnapshotDirectory.result (GivesUpOn g.P.Pairs.told c.args.pairs.now
    c.first_behind-in-SnapshotDirectory.new.pairs (HasPlace p))) (sym c.in-SnapshotDirectory.is)
    (IfErr-weaker c.first_behind-in-SnapshotDirectory.result _ _
    (λ fault up. up-given g.P.Pairs.told c.args.pairs.now c.first_behind-in-SnapshotDirectory.new.pairs
    (HasPlace SnapshotDirectory) IsSound (λ t has. has.sound) fault up)
    c.first_behind-in-SnapshotDirectory.ensures.fault)

pub returns-in-Kept-clause-goes : goal.returns-in-Kept-clause-goes
returns-in-Kept-clause-goes g c = c.first_behind-in-Kept.ensures.goes

pub returns-in-Kept-clause-ok : goal.returns-in-Kept-clause-ok
returns-in-Kept-clause-ok g c =
    let place = Kept c.in-Kept.number c.in-Kept.fileid in
    subst (λ (p : Place). IfOk c.first_behind-in-Kept.result (λ found. Reads g.P.Pairs.told c.args.pairs.now
    c.first_behind-in-Kept.new.pairs (HasPlace p) (λ t. next_entry c.args.cookie (names_at t p) ≡ found))) (sym c.in-Kept.is)
    (IfOk-weaker c.first_behind-in-Kept.result _ _
    (λ found reads. reads-more g.P.Pairs.told c.args.pairs.now c.first_behind-in-Kept.new.pairs (HasPlace place)
    (IsListed (Snap c.in-Kept.number) c.in-Kept.fileid) (λ t. next_entry c.args.cookie (names_at t place) ≡ found)
    (λ t. next_entry c.args.cookie (names_at t place) ≡ found)
    (λ t has. kept-listed t c.in-Kept.number c.in-Kept.fileid has) (λ t has is. is) reads)
    c.first_behind-in-Kept.ensures.ok)

pub returns-in-Kept-clause-fault : goal.returns-in-Kept-clause-fault
returns-in-Kept-clause-fault g c =
    let place = Kept c.in-Kept.number c.in-Kept.fileid in
    subst (λ (p : Place). IfErr c.first_behind-in-Kept.result (GivesUpOn g.P.Pairs.told c.args.pairs.now
    c.first_behind-in-Kept.new.pairs (HasPlace p))) (sym c.in-Kept.is)
    (IfErr-weaker c.first_behind-in-Kept.result _ _
    (λ fault up. up-given g.P.Pairs.told c.args.pairs.now c.first_behind-in-Kept.new.pairs (HasPlace place)
    (IsListed (Snap c.in-Kept.number) c.in-Kept.fileid)
    (λ t has. kept-listed t c.in-Kept.number c.in-Kept.fileid has) fault up)
    c.first_behind-in-Kept.ensures.fault)
