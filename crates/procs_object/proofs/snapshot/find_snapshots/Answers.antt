-- The entries and the times are read, and say what the directory is.
use Rattle.std.proofs.Common.{◌≡◌, ◌∙◌, ◌+◌, ◌≤◌, ℕ, List, map, sym, ap, subst, Some}
use Rattle.std.specs.Prelude.{⊤}
use Rattle.fs_rules.specs.declared.name_entry.NameEntry.{NameEntry}
use Rattle.fs_rules.specs.declared.place.Place.TheVariants.{SnapshotDirectory}
use Rattle.fs_rules.specs.declared.times.Times.{Times}
use Rattle.fs_rules.specs.Places.{leads_to, snapshot_entry}
use Rattle.fs_rules.specs.Sound.{IsSound}
use Rattle.fs_rules.specs.Limits.{most_snapshots}
use Rattle.fs_rules.specs.Tree.{root_inode}
use Rattle.pairs.specs.Told.{PairsTold, Goes}
use Rattle.fs_keys.specs.declared.rows.First.{First}
use Rattle.fs_shows.specs.Steps.{Reads}
use Rattle.fs_shows.proofs.Doing.{goes-then, up-given}
use Rattle.procs_object.specs.declared.object.Found.{Found}
use Rattle.procs_object.specs.Finding.{Begins, IsLed}
use Rattle.procs_object.proofs.Reading.{odd-by, reads-more, reads-then, up-then}
use Rattle.procs_object.proofs.Snapshots.{few-entries, early, directory-led}
use Rattle.procs_object.proofs.snapshot.find_snapshots.Goals as goal

module _ {S W : Type 0} (told : PairsTold S W) (old mid : S) (row : First) (entries : List NameEntry)
    (read : Reads told old mid IsSound (λ t. map snapshot_entry t.snapshots ≡ entries)) where
  entries-read : Reads told old mid (Begins row) (λ t. map snapshot_entry t.snapshots ≡ entries)
  entries-read =
      reads-more told old mid (Begins row) IsSound (λ t. map snapshot_entry t.snapshots ≡ entries)
      (λ t. map snapshot_entry t.snapshots ≡ entries) (λ t begins. begins.sound) (λ t begins known. known) read

  -- and then the times
  module _ (new : S) (goes : Goes told mid new 0) (times : Times)
      (then : Reads told mid new (λ t. ⊤) (λ t. t.snapshot_times ≡ times)) where
    directory-read : Reads told old new (Begins row)
        (λ t. (map snapshot_entry t.snapshots ≡ entries) × (t.snapshot_times ≡ times))
    directory-read =
        reads-then told old mid new (Begins row) (λ t. map snapshot_entry t.snapshots ≡ entries) (λ t. ⊤) goes entries-read
        (λ t begins known. tt) (λ t. t.snapshot_times ≡ times) then

pub returns-in-Err-clause-goes : goal.returns-in-Err-clause-goes
returns-in-Err-clause-goes g c = c.snapshots.ensures.goes

pub returns-in-Err-clause-fault : goal.returns-in-Err-clause-fault
returns-in-Err-clause-fault g c =
    up-given g.P.Pairs.told c.args.pairs.now c.snapshots.new.pairs (Begins c.args.begins.now) IsSound (λ t begins. begins.sound)
    c.in-Err.fault c.in-Err.ensures.fault

pub returns-in-Err-snapshot_times-clause-goes : goal.returns-in-Err-snapshot_times-clause-goes
returns-in-Err-snapshot_times-clause-goes g c =
    goes-then g.P.Pairs.told c.args.pairs.now c.snapshots.new.pairs c.snapshot_times.new.pairs 0 0 c.snapshots.ensures.goes
    c.snapshot_times.ensures.goes

pub returns-in-Err-snapshot_times-clause-fault : goal.returns-in-Err-snapshot_times-clause-fault
returns-in-Err-snapshot_times-clause-fault g c =
    up-then g.P.Pairs.told c.args.pairs.now c.snapshots.new.pairs c.snapshot_times.new.pairs (Begins c.args.begins.now)
    (λ t. map snapshot_entry t.snapshots ≡ c.in-Ok.entries) (λ t. ⊤) c.snapshot_times.ensures.goes
    (entries-read g.P.Pairs.told c.args.pairs.now c.snapshots.new.pairs c.args.begins.now c.in-Ok.entries c.in-Ok.ensures.ok)
    (λ t begins known. tt) 0 c.snapshots.ensures.goes c.in-Err-snapshot_times.fault c.in-Err-snapshot_times.ensures.fault

pub returns-in-Some-clause-goes : goal.returns-in-Some-clause-goes
returns-in-Some-clause-goes g c =
    goes-then g.P.Pairs.told c.args.pairs.now c.snapshots.new.pairs c.snapshot_times.new.pairs 0 0 c.snapshots.ensures.goes
    c.snapshot_times.ensures.goes

pub returns-in-Some-clause-ok : goal.returns-in-Some-clause-ok
returns-in-Some-clause-ok g c =
    let row = c.args.begins.now in
    let made = c.in-Some.ensures.ok ∙ ap (λ (n : ℕ). root_inode (2 + n) (row.epoch + 2) c.in-Ok-snapshot_times.times) c.len.ensures in
    reads-more g.P.Pairs.told c.args.pairs.now c.snapshot_times.new.pairs (Begins row) (Begins row)
    (λ t. (map snapshot_entry t.snapshots ≡ c.in-Ok.entries) × (t.snapshot_times ≡ c.in-Ok-snapshot_times.times))
    (λ t. IsLed t (Some c.directory_of.result) (leads_to t SnapshotDirectory)) (λ t begins. begins)
    (λ t begins both. subst (λ (x : Found). IsLed t (Some x) (leads_to t SnapshotDirectory)) (sym c.directory_of.ensures)
    (directory-led t row begins c.in-Ok.entries both.0 c.in-Ok-snapshot_times.times c.in-Some.kept both.1 made))
    (directory-read g.P.Pairs.told c.args.pairs.now c.snapshots.new.pairs row c.in-Ok.entries c.in-Ok.ensures.ok
    c.snapshot_times.new.pairs c.snapshot_times.ensures.goes c.in-Ok-snapshot_times.times c.in-Ok-snapshot_times.ensures.ok)

pub returns-in-Some-clause-place : goal.returns-in-Some-clause-place
returns-in-Some-clause-place g c = ap (λ (x : Found). x.place) c.directory_of.ensures

pub returns-clause-goes : goal.returns-clause-goes
returns-clause-goes g c =
    goes-then g.P.Pairs.told c.args.pairs.now c.snapshots.new.pairs c.snapshot_times.new.pairs 0 0 c.snapshots.ensures.goes
    c.snapshot_times.ensures.goes

pub returns-clause-fault : goal.returns-clause-fault
returns-clause-fault g c =
    let row = c.args.begins.now in
    odd-by g.P.Pairs.told c.args.pairs.now c.snapshot_times.new.pairs (Begins row)
    (λ t. (map snapshot_entry t.snapshots ≡ c.in-Ok.entries) × (t.snapshot_times ≡ c.in-Ok-snapshot_times.times))
    (λ t begins both. c.in-None.ensures.none
    (subst (λ (n : ℕ). n ≤ most_snapshots) (sym c.len.ensures) (few-entries t row begins c.in-Ok.entries both.0))
    (early t row begins c.in-Ok.entries both.0))
    (directory-read g.P.Pairs.told c.args.pairs.now c.snapshots.new.pairs row c.in-Ok.entries c.in-Ok.ensures.ok
    c.snapshot_times.new.pairs c.snapshot_times.ensures.goes c.in-Ok-snapshot_times.times c.in-Ok-snapshot_times.ensures.ok)
