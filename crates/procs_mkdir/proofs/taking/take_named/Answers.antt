-- What is needed is found, the snapshot is taken, and that is told.
use Rattle.std.proofs.Common.{◌≡◌, ℕ, ◌≤◌, List, Ok, length, refl, sym, ap, subst, arith}
use Rattle.std.specs.Prelude.{is_ok}
use Rattle.nfs3_types.specs.declared.body.Body.TheVariants.{Mkdir}
use Rattle.fs_rules.specs.Checks.{Row}
use Rattle.fs_rules.specs.Limits.{longest_name}
use Rattle.fs_rules.specs.Snapshots.{add_snapshot, mkdir}
use Rattle.fs_rules.specs.Sound.{IsSound}
use Rattle.fs_shows.specs.Steps.{Edits}
use Rattle.fs_shows.proofs.Doing.{goes-most, up-memory}
use Rattle.procs_object.proofs.Gathering.{edits-by, edit-halts-by, halts-by}
use Rattle.snap_ops.specs.Taking.{MayTake}
use Rattle.procs_names.proofs.Knowing.{check-ends}
use Rattle.procs_mkdir.specs.Taking.{IsTaking, snapshot_told, take_check}
use Rattle.procs_mkdir.proofs.Snapped.{take-done, take-fails, take-may}
use Rattle.procs_mkdir.proofs.taking.take_named.Goals as goal

pub find_taking-requires : goal.find_taking-requires
find_taking-requires g c = c.requires

pub returns-in-Err : goal.returns-in-Err
returns-in-Err g c =
    check-ends g.P.Pairs.told c.args.pairs.now c.find_taking.new.pairs IsTaking
    (λ t. take_check t c.args.cred.now c.args.a.now)
    (λ t. mkdir t c.args.cred.now c.args.a.now c.args.now c.args.lane) 5
    (goes-most g.P.Pairs.told c.args.pairs.now c.find_taking.new.pairs 0 5 (omega arith) c.find_taking.ensures.goes)
    (λ t status refused. take-fails t c.args.cred.now c.args.a.now c.args.now c.args.lane c.requires status refused)
    c.in-Err.halt c.in-Err.ensures.check

pub returns-in-Err-told_of : goal.returns-in-Err-told_of
returns-in-Err-told_of g c =
    halts-by g.P.Pairs.told c.args.pairs.now c.find_taking.new.pairs 5
    (λ t. mkdir t c.args.cred.now c.args.a.now c.args.now c.args.lane)
    (goes-most g.P.Pairs.told c.args.pairs.now c.find_taking.new.pairs 0 5 (omega arith) c.find_taking.ensures.goes)
    c.from.result (up-memory g.P.Pairs.told c.args.pairs.now c.find_taking.new.pairs IsSound c.from.result c.from.ensures)

pub add_snap-requires : goal.add_snap-requires
add_snap-requires g c =
    subst (λ (n : List ℕ). length n ≤ longest_name) (sym c.as_slice.ensures) c.in-Ok.ensures.short

pub returns-in-Ok-add_snap : goal.returns-in-Ok-add_snap
returns-in-Ok-add_snap g c =
    let a = c.args.a.now in
    edits-by g.P.Pairs.told c.args.pairs.now c.find_taking.new.pairs
    (λ t. mkdir t c.args.cred.now a c.args.now c.args.lane)
    (λ t. (u : Unit {0}) × (take_check t c.args.cred.now a ≡ Ok u) × IsTaking t c.in-Ok.x u) c.in-Ok.ensures.check
    c.add_snap.new.pairs 0 5 c.find_taking.ensures.goes
    (goes-most g.P.Pairs.told c.find_taking.new.pairs c.add_snap.new.pairs 3 5 (omega arith) c.add_snap.ensures.goes) MayTake
    (λ t sound known. take-may t c.args.cred.now a known.0 known.1) (Mkdir c.in-Ok-told_of.told)
    (add_snapshot c.args.now a.place.name)
    (λ t sound known. take-done t c.args.cred.now a c.args.now c.args.lane c.requires sound c.in-Ok.x known.0 known.1 known.2
    c.in-Ok-told_of.told c.in-Ok-told_of.ensures)
    (subst (λ (n : List ℕ). Edits g.P.Pairs.told c.find_taking.new.pairs c.add_snap.new.pairs MayTake
    (add_snapshot c.args.now n)) c.as_slice.ensures c.in-Ok-add_snap.ensures.ok)

pub returns-in-Err-add_snap : goal.returns-in-Err-add_snap
returns-in-Err-add_snap g c =
    let a = c.args.a.now in
    let x = c.in-Ok.x in
    edit-halts-by g.P.Pairs.told c.args.pairs.now c.find_taking.new.pairs
    (λ t. mkdir t c.args.cred.now a c.args.now c.args.lane)
    (λ t. (u : Unit {0}) × (take_check t c.args.cred.now a ≡ Ok u) × IsTaking t x u) c.in-Ok.ensures.check
    c.add_snap.new.pairs 0 5 c.find_taking.ensures.goes
    (goes-most g.P.Pairs.told c.find_taking.new.pairs c.add_snap.new.pairs 3 5 (omega arith) c.add_snap.ensures.goes) MayTake
    (λ t sound known. take-may t c.args.cred.now a known.0 known.1) (omega arith)
    (λ t sound known. ap (λ (r : Row). is_ok r) (take-done t c.args.cred.now a c.args.now c.args.lane c.requires sound x known.0
    known.1 known.2 (snapshot_told x.begins x.root x.directory c.args.now) refl))
    c.in-Err-add_snap.fault c.in-Err-add_snap.ensures.fault
