-- The plan is made, done by two edits, and told.
use Rattle.std.proofs.Common.{◌≡◌, refl, ap, Some, Ok, arith}
use Rattle.std.specs.Prelude.{is_ok}
use Rattle.nfs3_types.specs.declared.body.Body.TheVariants.{Remove}
use Rattle.fs_rules.specs.declared.plans.RemovePlan.{RemovePlan}
use Rattle.fs_rules.specs.Attributes.{wcc_of}
use Rattle.fs_rules.specs.Checks.{Row}
use Rattle.fs_rules.specs.Removing.{remove, remove_file, remove_plan}
use Rattle.fs_shows.proofs.Doing.{goes-most}
use Rattle.procs_object.proofs.Gathering.{edits-by, edit-halts-by}
use Rattle.procs_names.specs.Naming.{IsRemoval}
use Rattle.procs_names.specs.Readying.{CanRemove, touched}
use Rattle.procs_names.proofs.Knowing.{check-ends}
use Rattle.procs_names.proofs.Rows.{remove_done, remove_refused, removal_can}
use Rattle.procs_names.proofs.removing.remove.Goals as goal

pub returns-in-Err : goal.returns-in-Err
returns-in-Err g c =
    check-ends g.P.Pairs.told c.args.pairs.now c.find_removal.new.pairs (IsRemoval c.args.a.now.name)
    (λ t. remove_plan t c.args.cred.now c.args.a.now)
    (λ t. remove t c.args.cred.now c.args.a.now c.args.now) 2
    (goes-most g.P.Pairs.told c.args.pairs.now c.find_removal.new.pairs 0 2 (omega arith) c.find_removal.ensures.goes)
    (λ t status refused. remove_refused t c.args.cred.now c.args.a.now c.args.now status refused) c.in-Err.halt
    c.in-Err.ensures.check

pub remove_file-requires : goal.remove_file-requires
remove_file-requires g c = rw c.as_slice.ensures c.in-Ok.ensures.short

pub returns-in-Ok-remove_file : goal.returns-in-Ok-remove_file
returns-in-Ok-remove_file g c =
    let x = c.in-Ok.r in
    edits-by g.P.Pairs.told c.args.pairs.now c.find_removal.new.pairs (λ t. remove t c.args.cred.now c.args.a.now c.args.now)
    (λ t. (plan : RemovePlan) × (remove_plan t c.args.cred.now c.args.a.now ≡ Ok plan) × IsRemoval c.args.a.now.name t x plan)
    c.in-Ok.ensures.check c.remove_file.new.pairs 0 2 c.find_removal.ensures.goes c.remove_file.ensures.goes
    (CanRemove c.args.now x.plan.directory c.args.a.now.name x.plan.fileid)
    (λ t sound known. removal_can t sound c.args.cred.now c.args.a.now c.args.now x known.0 known.1 known.2)
    (Remove c.wcc_of.result) (remove_file c.args.now x.plan.directory c.args.a.now.name x.plan.fileid)
    (λ t sound known. remove_done t sound c.args.cred.now c.args.a.now c.args.now x known.0 known.1 known.2 c.wcc_of.result
    (rw c.touched-after.ensures at c.wcc_of.ensures))
    (rw c.as_slice.ensures at c.in-Ok-remove_file.ensures.ok)

pub returns-in-Err-remove_file : goal.returns-in-Err-remove_file
returns-in-Err-remove_file g c =
    let x = c.in-Ok.r in
    edit-halts-by g.P.Pairs.told c.args.pairs.now c.find_removal.new.pairs (λ t. remove t c.args.cred.now c.args.a.now c.args.now)
    (λ t. (plan : RemovePlan) × (remove_plan t c.args.cred.now c.args.a.now ≡ Ok plan) × IsRemoval c.args.a.now.name t x plan)
    c.in-Ok.ensures.check c.remove_file.new.pairs 0 2 c.find_removal.ensures.goes c.remove_file.ensures.goes
    (CanRemove c.args.now x.plan.directory c.args.a.now.name x.plan.fileid)
    (λ t sound known. removal_can t sound c.args.cred.now c.args.a.now c.args.now x known.0 known.1 known.2)
    (omega arith)
    (λ t sound known. ap (λ (r : Row). is_ok r) (remove_done t sound c.args.cred.now c.args.a.now c.args.now x known.0 known.1
    known.2 (wcc_of (Some x.directory) (Some (touched c.args.now x.directory))) refl))
    c.in-Err-remove_file.fault (rw c.as_slice.ensures at c.in-Err-remove_file.ensures.fault)
