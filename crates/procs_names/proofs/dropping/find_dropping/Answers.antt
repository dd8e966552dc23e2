-- The directory is found and asked, and then the snapshot of the name.
use Rattle.std.proofs.Common.{◌≡◌, ◌∙◌, ℕ, List, Ok, Err, sym, ap, subst}
use Rattle.std.specs.Prelude.{option_map}
use Rattle.nfs3_types.specs.declared.status.Status.TheVariants.{NoEnt}
use Rattle.fs_rules.specs.declared.place.Place.TheVariants.{SnapshotDirectory}
use Rattle.fs_rules.specs.Checks.{find_object}
use Rattle.fs_rules.specs.Places.{entry_at}
use Rattle.fs_rules.specs.Sound.{IsSound}
use Rattle.fs_rules.specs.Tree.{Tree}
use Rattle.fs_shows.specs.Steps.{Reads}
use Rattle.fs_shows.proofs.Doing.{goes-then}
use Rattle.procs_object.specs.Finding.{IsObject}
use Rattle.procs_object.proofs.Gathering.{gathers, gathers-up}
use Rattle.procs_object.proofs.Reading.{reads-more}
use Rattle.procs_names.specs.Naming.{IsDropping, drop_check, fileid_of, need_droppable}
use Rattle.procs_names.proofs.Checked.{IsSeen}
use Rattle.procs_names.proofs.Dropped.{drop-before, drop-halted, drop-lacks, drop-passes, drop-refused}
use Rattle.procs_names.proofs.Knowing.{check-halted, checked-as}
use Rattle.procs_names.proofs.dropping.find_dropping.Goals as goal

pub returns-in-Err-clause-goes : goal.returns-in-Err-clause-goes
returns-in-Err-clause-goes g c = c.see.ensures.goes

pub returns-in-Err-clause-check : goal.returns-in-Err-clause-check
returns-in-Err-clause-check g c =
    check-halted g.P.Pairs.told IsObject (IsDropping c.args.a.now.name) (λ t. find_object t c.args.a.now.directory)
    (λ t. drop_check t c.args.cred.now c.args.a.now) c.args.pairs.now c.see.new.pairs IsSound
    (λ t status refused. drop-halted t c.args.cred.now c.args.a.now status refused) c.in-Err.halt
    (checked-as g.P.Pairs.told c.args.pairs.now c.see.new.pairs IsSound IsObject (λ directory t. find_object t directory)
    (Err c.in-Err.halt) c.as_slice.ensures c.in-Err.ensures.check)

pub returns-in-Err-need_droppable-clause-goes : goal.returns-in-Err-need_droppable-clause-goes
returns-in-Err-need_droppable-clause-goes g c = c.see.ensures.goes

pub returns-in-Err-need_droppable-clause-check : goal.returns-in-Err-need_droppable-clause-check
returns-in-Err-need_droppable-clause-check g c =
    reads-more g.P.Pairs.told c.args.pairs.now c.see.new.pairs IsSound IsSound (IsSeen c.args.a.now.directory c.in-Ok.d)
    (λ t. drop_check t c.args.cred.now c.args.a.now ≡ Err c.in-Err-need_droppable.status) (λ t sound. sound)
    (λ t sound known. drop-refused t c.args.cred.now c.args.a.now known.0 known.1 c.in-Err-need_droppable.status
    (ap (λ (name : List ℕ). need_droppable c.args.cred.now name) (sym c.as_slice-name.ensures)
    ∙ sym c.in-Err-need_droppable.ensures))
    (checked-as g.P.Pairs.told c.args.pairs.now c.see.new.pairs IsSound IsObject (λ directory t. find_object t directory)
    (Ok c.in-Ok.d) c.as_slice.ensures c.in-Ok.ensures.check)

pub returns-in-Err-snapshot_named-clause-goes : goal.returns-in-Err-snapshot_named-clause-goes
returns-in-Err-snapshot_named-clause-goes g c =
    goes-then g.P.Pairs.told c.args.pairs.now c.see.new.pairs c.snapshot_named.new.pairs 0 0 c.see.ensures.goes
    c.snapshot_named.ensures.goes

pub returns-in-Err-snapshot_named-clause-check : goal.returns-in-Err-snapshot_named-clause-check
returns-in-Err-snapshot_named-clause-check g c =
    gathers-up g.P.Pairs.told c.args.pairs.now c.see.new.pairs c.snapshot_named.new.pairs
    (IsSeen c.args.a.now.directory c.in-Ok.d) IsSound c.snapshot_named.ensures.goes
    (checked-as g.P.Pairs.told c.args.pairs.now c.see.new.pairs IsSound IsObject (λ directory t. find_object t directory)
    (Ok c.in-Ok.d) c.as_slice.ensures c.in-Ok.ensures.check)
    (λ t sound known. sound) 0 c.see.ensures.goes c.in-Err-snapshot_named.fault c.in-Err-snapshot_named.ensures.fault

pub returns-in-Some-clause-goes : goal.returns-in-Some-clause-goes
returns-in-Some-clause-goes g c =
    goes-then g.P.Pairs.told c.args.pairs.now c.see.new.pairs c.snapshot_named.new.pairs 0 0 c.see.ensures.goes
    c.snapshot_named.ensures.goes

pub returns-in-Some-clause-check : goal.returns-in-Some-clause-check
returns-in-Some-clause-check g c =
    let a = c.args.a.now in
    let cred = c.args.cred.now in
    let n = c.in-Some.number in
    let R : List ℕ → Tree → Type 0 = λ name t. option_map fileid_of (entry_at t SnapshotDirectory name) ≡ c.in-Ok-snapshot_named.found in
    let asked : need_droppable cred a.name ≡ Ok tt =
    ap (λ (name : List ℕ). need_droppable cred name) (sym c.as_slice-name.ensures) ∙ sym c.in-Ok-need_droppable.ensures in
    reads-more g.P.Pairs.told c.args.pairs.now c.snapshot_named.new.pairs IsSound IsSound
    (λ t. IsSeen a.directory c.in-Ok.d t × R a.name t)
    (λ t. (u : Unit {0}) × (drop_check t cred a ≡ Ok u) × IsDropping a.name t (record {
      number = n;
      directory = c.in-Ok.d.attributes;
    }) u) (λ t sound. sound)
    (λ t sound known. (
      tt,
      drop-passes t cred a known.0.0 known.0.1 asked c.in-Ok-snapshot_named.found known.1 n c.in-Some.is,
      record {
        number = known.1 ∙ c.in-Some.is;
        before = drop-before t a.directory c.in-Ok.d known.0.0 c.requires known.0.1 known.0.2;
      },
    ))
    (gathers g.P.Pairs.told c.args.pairs.now c.see.new.pairs c.snapshot_named.new.pairs (IsSeen a.directory c.in-Ok.d) IsSound
    c.snapshot_named.ensures.goes
    (checked-as g.P.Pairs.told c.args.pairs.now c.see.new.pairs IsSound IsObject (λ directory t. find_object t directory)
    (Ok c.in-Ok.d) c.as_slice.ensures c.in-Ok.ensures.check)
    (λ t sound known. sound) (R a.name)
    (subst (λ (name : List ℕ). Reads g.P.Pairs.told c.see.new.pairs c.snapshot_named.new.pairs IsSound (R name))
    c.as_slice-name.ensures c.in-Ok-snapshot_named.ensures.ok))

pub returns-clause-goes : goal.returns-clause-goes
returns-clause-goes g c =
    goes-then g.P.Pairs.told c.args.pairs.now c.see.new.pairs c.snapshot_named.new.pairs 0 0 c.see.ensures.goes
    c.snapshot_named.ensures.goes

pub returns-clause-check : goal.returns-clause-check
returns-clause-check g c =
    let a = c.args.a.now in
    let cred = c.args.cred.now in
    let R : List ℕ → Tree → Type 0 = λ name t. option_map fileid_of (entry_at t SnapshotDirectory name) ≡ c.in-Ok-snapshot_named.found in
    let asked : need_droppable cred a.name ≡ Ok tt =
    ap (λ (name : List ℕ). need_droppable cred name) (sym c.as_slice-name.ensures) ∙ sym c.in-Ok-need_droppable.ensures in
    reads-more g.P.Pairs.told c.args.pairs.now c.snapshot_named.new.pairs IsSound IsSound
    (λ t. IsSeen a.directory c.in-Ok.d t × R a.name t) (λ t. drop_check t cred a ≡ Err NoEnt) (λ t sound. sound)
    (λ t sound known. drop-lacks t cred a known.0.0 known.0.1 asked c.in-Ok-snapshot_named.found known.1 c.in-None.is)
    (gathers g.P.Pairs.told c.args.pairs.now c.see.new.pairs c.snapshot_named.new.pairs (IsSeen a.directory c.in-Ok.d) IsSound
    c.snapshot_named.ensures.goes
    (checked-as g.P.Pairs.told c.args.pairs.now c.see.new.pairs IsSound IsObject (λ directory t. find_object t directory)
    (Ok c.in-Ok.d) c.as_slice.ensures c.in-Ok.ensures.check)
    (λ t sound known. sound) (R a.name)
    (subst (λ (name : List ℕ). Reads g.P.Pairs.told c.see.new.pairs c.snapshot_named.new.pairs IsSound (R name))
    c.as_slice-name.ensures c.in-Ok-snapshot_named.ensures.ok))
