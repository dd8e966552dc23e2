-- The plan is made, done by two edits, and told.
use Rattle.std.proofs.Common.{◌≡◌, refl, ap, Some, Ok, arith}
use Rattle.std.specs.Prelude.{is_ok}
use Rattle.nfs3_types.specs.declared.body.Body.TheVariants.{Rmdir}
use Rattle.fs_rules.specs.declared.plans.RemovePlan.{RemovePlan}
use Rattle.fs_rules.specs.Attributes.{wcc_of}
use Rattle.fs_rules.specs.Checks.{Row}
use Rattle.fs_rules.specs.Removing.{drop_directory}
use Rattle.fs_rules.specs.Snapshots.{rmdir}
use Rattle.fs_shows.proofs.Doing.{goes-most}
use Rattle.procs_object.proofs.Gathering.{edits-by, edit-halts-by}
use Rattle.procs_names.specs.Naming.{IsRemoval, rmdir_plan}
use Rattle.procs_names.specs.Readying.{CanRemoveDirectory, touched_less}
use Rattle.procs_names.proofs.Knowing.{check-ends}
use Rattle.procs_names.proofs.Emptied.{rmdir_can, rmdir_done, rmdir_fails}
use Rattle.procs_names.proofs.emptying.remove_named.Goals as goal

pub returns-in-Err : goal.returns-in-Err
returns-in-Err g c =
    check-ends g.P.Pairs.told c.args.pairs.now c.find_emptied.new.pairs (IsRemoval c.args.a.now.name)
    (λ t. rmdir_plan t c.args.cred.now c.args.a.now)
    (λ t. rmdir t c.args.cred.now c.args.a.now c.args.now) 2
    (goes-most g.P.Pairs.told c.args.pairs.now c.find_emptied.new.pairs 0 2 (omega arith) c.find_emptied.ensures.goes)
    (λ t status refused. rmdir_fails t c.args.cred.now c.args.a.now c.args.now c.requires status refused) c.in-Err.halt
    c.in-Err.ensures.check

pub remove_directory-requires : goal.remove_directory-requires
remove_directory-requires g c = rw c.as_slice-name.ensures c.in-Ok.ensures.short

pub returns-in-Ok-remove_directory : goal.returns-in-Ok-remove_directory
returns-in-Ok-remove_directory g c =
    let x = c.in-Ok.r in
    edits-by g.P.Pairs.told c.args.pairs.now c.find_emptied.new.pairs (λ t. rmdir t c.args.cred.now c.args.a.now c.args.now)
    (λ t. (plan : RemovePlan) × (rmdir_plan t c.args.cred.now c.args.a.now ≡ Ok plan) × IsRemoval c.args.a.now.name t x plan)
    c.in-Ok.ensures.check c.remove_directory.new.pairs 0 2 c.find_emptied.ensures.goes c.remove_directory.ensures.goes
    (CanRemoveDirectory x.plan.directory c.args.a.now.name x.plan.fileid)
    (λ t sound known. rmdir_can t c.args.cred.now c.args.a.now c.args.now c.requires sound x known.0 known.1 known.2)
    (Rmdir c.wcc_of.result) (drop_directory c.args.now x.plan.directory c.args.a.now.name x.plan.fileid)
    (λ t sound known. rmdir_done t c.args.cred.now c.args.a.now c.args.now c.requires sound x known.0 known.1 known.2
    c.wcc_of.result
    (rw c.touched_less-after.ensures at c.wcc_of.ensures))
    (rw c.as_slice-name.ensures at c.in-Ok-remove_directory.ensures.ok)

pub returns-in-Err-remove_directory : goal.returns-in-Err-remove_directory
returns-in-Err-remove_directory g c =
    let x = c.in-Ok.r in
    edit-halts-by g.P.Pairs.told c.args.pairs.now c.find_emptied.new.pairs (λ t. rmdir t c.args.cred.now c.args.a.now c.args.now)
    (λ t. (plan : RemovePlan) × (rmdir_plan t c.args.cred.now c.args.a.now ≡ Ok plan) × IsRemoval c.args.a.now.name t x plan)
    c.in-Ok.ensures.check c.remove_directory.new.pairs 0 2 c.find_emptied.ensures.goes c.remove_directory.ensures.goes
    (CanRemoveDirectory x.plan.directory c.args.a.now.name x.plan.fileid)
    (λ t sound known. rmdir_can t c.args.cred.now c.args.a.now c.args.now c.requires sound x known.0 known.1 known.2)
    (omega arith)
    (λ t sound known. ap (λ (r : Row). is_ok r) (rmdir_done t c.args.cred.now c.args.a.now c.args.now c.requires sound x known.0
    known.1
    known.2 (wcc_of (Some x.directory) (Some (touched_less c.args.now x.directory))) refl))
    c.in-Err-remove_directory.fault (rw c.as_slice-name.ensures at c.in-Err-remove_directory.ensures.fault)
