-- The entries are rows of a view, or snapshots.
use Rattle.std.proofs.Common.{◌≡◌, sym, subst}
use Rattle.std.specs.Prelude.{IfOk, IfErr, option_map}
use Rattle.std.proofs.lemmas.Result.{IfOk-weaker, IfErr-weaker}
use Rattle.fs_rules.specs.declared.place.Place.{Place}
use Rattle.fs_rules.specs.declared.place.Place.TheVariants.{Live, SnapshotDirectory, Kept}
use Rattle.fs_rules.specs.Places.{entry_at}
use Rattle.fs_rules.specs.Sound.{IsSound}
use Rattle.pairs.specs.declared.at.At.TheVariants.{Live as LiveView, Snap}
use Rattle.fs_shows.specs.Steps.{Reads, GivesUpOn}
use Rattle.fs_shows.specs.Views.{IsKept}
use Rattle.fs_shows.proofs.Doing.{up-given}
use Rattle.procs_object.specs.Finding.{HasPlace}
use Rattle.procs_object.proofs.Reading.{reads-more}
use Rattle.procs_object.proofs.Snapshots.{kept-there}
use Rattle.procs_names.specs.Naming.{fileid_of}
use Rattle.procs_names.proofs.ways.fileid_named.Goals as goal

pub row_named-requires : goal.row_named-requires
row_named-requires g c = c.requires

pub row_named-requires-in-Kept : goal.row_named-requires-in-Kept
row_named-requires-in-Kept g c = c.requires

pub returns-in-Live-clause-goes : goal.returns-in-Live-clause-goes
returns-in-Live-clause-goes g c = c.row_named.ensures.goes

pub returns-in-Live-clause-ok : goal.returns-in-Live-clause-ok
returns-in-Live-clause-ok g c =
    let place = Live c.in-Live.fileid in
    subst (λ (p : Place). IfOk c.row_named.result (λ found. Reads g.P.Pairs.told c.args.pairs.now c.row_named.new.pairs
    (HasPlace p) (λ t. option_map fileid_of (entry_at t p c.args.name.now) ≡ found))) (sym c.in-Live.is)
    (IfOk-weaker c.row_named.result _ _
    (λ found reads. reads-more g.P.Pairs.told c.args.pairs.now c.row_named.new.pairs (HasPlace place) (IsKept LiveView)
    (λ t. option_map fileid_of (entry_at t place c.args.name.now) ≡ found)
    (λ t. option_map fileid_of (entry_at t place c.args.name.now) ≡ found) (λ t has. tt) (λ t has is. is) reads)
    c.row_named.ensures.ok)

pub returns-in-Live-clause-fault : goal.returns-in-Live-clause-fault
returns-in-Live-clause-fault g c =
    subst (λ (p : Place). IfErr c.row_named.result (GivesUpOn g.P.Pairs.told c.args.pairs.now c.row_named.new.pairs
    (HasPlace p))) (sym c.in-Live.is)
    (IfErr-weaker c.row_named.result _ _
    (λ fault up. up-given g.P.Pairs.told c.args.pairs.now c.row_named.new.pairs (HasPlace (Live c.in-Live.fileid))
    (IsKept LiveView) (λ t has. tt) fault up)
    c.row_named.ensures.fault)

pub returns-in-SnapshotDirectory-clause-goes : goal.returns-in-SnapshotDirectory-clause-goes
returns-in-SnapshotDirectory-clause-goes g c = c.snapshot_named.ensures.goes

pub returns-in-SnapshotDirectory-clause-ok : goal.returns-in-SnapshotDirectory-clause-ok
returns-in-SnapshotDirectory-clause-ok g c =
    subst (λ (p : Place). IfOk c.snapshot_named.result (λ found. Reads g.P.Pairs.told c.args.pairs.now
    c.snapshot_named.new.pairs (HasPlace p) (λ t. option_map fileid_of (entry_at t p c.args.name.now) ≡ found)))
    (sym c.in-SnapshotDirectory.is)
    (IfOk-weaker c.snapshot_named.result _ _
    (λ found reads. reads-more g.P.Pairs.told c.args.pairs.now c.snapshot_named.new.pairs (HasPlace SnapshotDirectory) IsSound
    (λ t. option_map fileid_of (entry_at t SnapshotDirectory c.args.name.now) ≡ found)
    (λ t. option_map fileid_of (entry_at t SnapshotDirectory c.args.name.now) ≡ found) (λ t has. has.sound)
    (λ t has is. is) reads)
    c.snapshot_named.ensures.ok)

pub returns-in-SnapshotDirectory-clause-fault : goal.returns-in-SnapshotDirectory-clause-fault
returns-in-SnapshotDirectory-clause-fault g c =
    subst (λ (p : Place). IfErr c.snapshot_named.result (GivesUpOn g.P.Pairs.told c.args.pairs.now
    c.snapshot_named.new.pairs (HasPlace p))) (sym c.in-SnapshotDirectory.is)
    (IfErr-weaker c.snapshot_named.result _ _
    (λ fault up. up-given g.P.Pairs.told c.args.pairs.now c.snapshot_named.new.pairs (HasPlace SnapshotDirectory) IsSound
    (λ t has. has.sound) fault up)
    c.snapshot_named.ensures.fault)

pub returns-in-Kept-clause-goes : goal.returns-in-Kept-clause-goes
returns-in-Kept-clause-goes g c = c.row_named-in-Kept.ensures.goes

pub returns-in-Kept-clause-ok : goal.returns-in-Kept-clause-ok
returns-in-Kept-clause-ok g c =
    let place = Kept c.in-Kept.number c.in-Kept.fileid in
    subst (λ (p : Place). IfOk c.row_named-in-Kept.result (λ found. Reads g.P.Pairs.told c.args.pairs.now
    c.row_named-in-Kept.new.pairs (HasPlace p) (λ t. option_map fileid_of (entry_at t p c.args.name.now) ≡ found)))
    (sym c.in-Kept.is)
    (IfOk-weaker c.row_named-in-Kept.result _ _
    (λ found reads. reads-more g.P.Pairs.told c.args.pairs.now c.row_named-in-Kept.new.pairs (HasPlace place)
    (IsKept (Snap c.in-Kept.number)) (λ t. option_map fileid_of (entry_at t place c.args.name.now) ≡ found)
    (λ t. option_map fileid_of (entry_at t place c.args.name.now) ≡ found)
    (λ t has. kept-there t c.in-Kept.number c.in-Kept.fileid has) (λ t has is. is) reads)
    c.row_named-in-Kept.ensures.ok)

pub returns-in-Kept-clause-fault : goal.returns-in-Kept-clause-fault
returns-in-Kept-clause-fault g c =
    let place = Kept c.in-Kept.number c.in-Kept.fileid in
    subst (λ (p : Place). IfErr c.row_named-in-Kept.result (GivesUpOn g.P.Pairs.told c.args.pairs.now
    c.row_named-in-Kept.new.pairs (HasPlace p))) (sym c.in-Kept.is)
    (IfErr-weaker c.row_named-in-Kept.result _ _
    (λ fault up. up-given g.P.Pairs.told c.args.pairs.now c.row_named-in-Kept.new.pairs (HasPlace place)
    (IsKept (Snap c.in-Kept.number)) (λ t has. kept-there t c.in-Kept.number c.in-Kept.fileid has) fault up)
    c.row_named-in-Kept.ensures.fault)
