-- The snapshot is found, dropped, and that is told.
use Rattle.std.proofs.Common.{◌≡◌, refl, ap, Some, Ok, arith}
use Rattle.std.specs.Prelude.{⊤, is_ok}
use Rattle.nfs3_types.specs.declared.body.Body.TheVariants.{Rmdir}
use Rattle.pair_types.specs.declared.fault.PairFault.{PairFault}
use Rattle.pair_types.specs.declared.fault.PairFault.TheVariants.{Odd, HeightFull, Page}
use Rattle.pairs.specs.Told.{PairsTold}
use Rattle.fs_rules.specs.Attributes.{wcc_of}
use Rattle.fs_rules.specs.Checks.{Row}
use Rattle.fs_rules.specs.Snapshots.{drop_named, rmdir}
use Rattle.fs_rules.specs.Tree.{Tree}
use Rattle.fs_shows.specs.Steps.{EditGivesUp}
use Rattle.fs_shows.proofs.Doing.{goes-most}
use Rattle.procs_object.proofs.Gathering.{edits-by, edit-halts-by}
use Rattle.snap_ops.specs.Dropping.{IsNamed}
use Rattle.procs_names.specs.Naming.{IsDropping, drop_check}
use Rattle.procs_names.specs.Readying.{touched_less}
use Rattle.procs_names.proofs.Knowing.{check-ends}
use Rattle.procs_names.proofs.Dropped.{drop-can, drop-done, drop-fails}
use Rattle.procs_names.proofs.dropping.drop_named.Goals as goal

edit-up-given : {S W : Type 0} (told : PairsTold S W) (old new : S) (Given : Tree → Type 0) (fault : PairFault)
    → EditGivesUp told old new (λ t. ⊤) fault → EditGivesUp told old new Given fault
edit-up-given told old new Given Odd up = λ w t agrees lies is. up w t agrees lies tt
edit-up-given told old new Given HeightFull up = up
edit-up-given told old new Given (Page fault) up = up

pub find_dropping-requires : goal.find_dropping-requires
find_dropping-requires g c = c.requires

pub returns-in-Err : goal.returns-in-Err
returns-in-Err g c =
    check-ends g.P.Pairs.told c.args.pairs.now c.find_dropping.new.pairs (IsDropping c.args.a.now.name)
    (λ t. drop_check t c.args.cred.now c.args.a.now)
    (λ t. rmdir t c.args.cred.now c.args.a.now c.args.now) 2
    (goes-most g.P.Pairs.told c.args.pairs.now c.find_dropping.new.pairs 0 2 (omega arith) c.find_dropping.ensures.goes)
    (λ t status refused. drop-fails t c.args.cred.now c.args.a.now c.args.now c.requires status refused) c.in-Err.halt
    c.in-Err.ensures.check

pub returns-in-Ok-drop_snap : goal.returns-in-Ok-drop_snap
returns-in-Ok-drop_snap g c =
    let x = c.in-Ok.x in
    edits-by g.P.Pairs.told c.args.pairs.now c.find_dropping.new.pairs (λ t. rmdir t c.args.cred.now c.args.a.now c.args.now)
    (λ t. (asked : Unit {0}) × (drop_check t c.args.cred.now c.args.a.now ≡ Ok asked) × IsDropping c.args.a.now.name t x asked)
    c.in-Ok.ensures.check c.drop_snap.new.pairs 0 2 c.find_dropping.ensures.goes
    (goes-most g.P.Pairs.told c.find_dropping.new.pairs c.drop_snap.new.pairs 1 2 (omega arith) c.drop_snap.ensures.goes)
    (IsNamed x.number c.args.a.now.name)
    (λ t sound known. drop-can t c.args.cred.now c.args.a.now c.args.now c.requires sound x known.0 known.1 known.2)
    (Rmdir c.wcc_of.result) (drop_named c.args.now c.args.a.now.name)
    (λ t sound known. drop-done t c.args.cred.now c.args.a.now c.args.now c.requires sound x known.0 known.1 known.2
    c.wcc_of.result (rw c.touched_less-after.ensures at c.wcc_of.ensures))
    (c.in-Ok-drop_snap.ensures.ok c.args.a.now.name)

pub returns-in-Err-drop_snap : goal.returns-in-Err-drop_snap
returns-in-Err-drop_snap g c =
    let x = c.in-Ok.x in
    edit-halts-by g.P.Pairs.told c.args.pairs.now c.find_dropping.new.pairs (λ t. rmdir t c.args.cred.now c.args.a.now c.args.now)
    (λ t. (asked : Unit {0}) × (drop_check t c.args.cred.now c.args.a.now ≡ Ok asked) × IsDropping c.args.a.now.name t x asked)
    c.in-Ok.ensures.check c.drop_snap.new.pairs 0 2 c.find_dropping.ensures.goes
    (goes-most g.P.Pairs.told c.find_dropping.new.pairs c.drop_snap.new.pairs 1 2 (omega arith) c.drop_snap.ensures.goes)
    (IsNamed x.number c.args.a.now.name)
    (λ t sound known. drop-can t c.args.cred.now c.args.a.now c.args.now c.requires sound x known.0 known.1 known.2)
    (omega arith)
    (λ t sound known. ap (λ (r : Row). is_ok r) (drop-done t c.args.cred.now c.args.a.now c.args.now c.requires sound x known.0
    known.1 known.2 (wcc_of (Some x.directory) (Some (touched_less c.args.now x.directory))) refl))
    c.in-Err-drop_snap.fault
    (edit-up-given g.P.Pairs.told c.find_dropping.new.pairs c.drop_snap.new.pairs (IsNamed x.number c.args.a.now.name)
    c.in-Err-drop_snap.fault c.in-Err-drop_snap.ensures.fault)
