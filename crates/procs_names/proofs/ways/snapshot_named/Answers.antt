-- The number is that of the entry of the name.
use Rattle.std.proofs.Common.{◌≡◌, ◌∙◌, List, map, sym, ap}
use Rattle.std.specs.Prelude.{option_map}
use Rattle.fs_rules.specs.declared.name_entry.NameEntry.{NameEntry}
use Rattle.fs_rules.specs.declared.place.Place.TheVariants.{SnapshotDirectory}
use Rattle.fs_rules.specs.Names.{named}
use Rattle.fs_rules.specs.Places.{entry_at, snapshot_entry}
use Rattle.fs_rules.specs.Sound.{IsSound}
use Rattle.procs_object.proofs.Reading.{reads-more}
use Rattle.procs_names.specs.Naming.{fileid_of}
use Rattle.procs_names.proofs.Leading.{entry-of-snapshots}
use Rattle.procs_names.proofs.ways.snapshot_named.Goals as goal

pub returns-in-Ok-clause-goes : goal.returns-in-Ok-clause-goes
returns-in-Ok-clause-goes g c = c.snapshots.ensures.goes

pub returns-in-Ok-clause-ok : goal.returns-in-Ok-clause-ok
returns-in-Ok-clause-ok g c =
    let name = c.args.name.now in
    reads-more g.P.Pairs.told c.args.pairs.now c.snapshots.new.pairs IsSound IsSound
    (λ t. map snapshot_entry t.snapshots ≡ c.in-Ok.entries)
    (λ t. option_map fileid_of (entry_at t SnapshotDirectory name) ≡ c.number_in.result) (λ t sound. sound)
    (λ t sound is. ap (option_map fileid_of) (entry-of-snapshots t c.in-Ok.entries name is)
    ∙ ap (λ (entries : List NameEntry). option_map fileid_of (named name entries)) (sym c.as_slice.ensures)
    ∙ c.number_in.ensures)
    c.in-Ok.ensures.ok

pub returns-in-Err-clause-goes : goal.returns-in-Err-clause-goes
returns-in-Err-clause-goes g c = c.snapshots.ensures.goes

pub returns-in-Err-clause-fault : goal.returns-in-Err-clause-fault
returns-in-Err-clause-fault g c = c.in-Err.ensures.fault
