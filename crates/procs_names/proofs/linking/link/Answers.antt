-- The plan is made, done by two edits, and told.
use Rattle.std.proofs.Common.{◌≡◌, refl, ap, Some, Ok, arith}
use Rattle.std.specs.Prelude.{is_ok}
use Rattle.nfs3_types.specs.declared.body.Body.TheVariants.{Link}
use Rattle.fs_rules.specs.declared.plans.LinkPlan.{LinkPlan}
use Rattle.fs_rules.specs.Attributes.{wcc_of}
use Rattle.fs_rules.specs.Checks.{Row}
use Rattle.fs_rules.specs.Renaming.{link, link_plan}
use Rattle.fs_shows.proofs.Doing.{goes-most}
use Rattle.procs_object.proofs.Gathering.{edits-by, edit-halts-by}
use Rattle.procs_names.specs.Naming.{IsLinking}
use Rattle.procs_names.specs.Readying.{CanLink, linked, linked_more, touched}
use Rattle.procs_names.proofs.Knowing.{check-ends}
use Rattle.procs_names.proofs.Rows.{link_done, link_refused, linking_can, linking_few}
use Rattle.procs_names.proofs.linking.link.Goals as goal

pub returns-in-Err : goal.returns-in-Err
returns-in-Err g c =
    check-ends g.P.Pairs.told c.args.pairs.now c.find_linking.new.pairs (IsLinking c.args.a.now.link.name)
    (λ t. link_plan t c.args.cred.now c.args.a.now)
    (λ t. link t c.args.cred.now c.args.a.now c.args.now) 4
    (goes-most g.P.Pairs.told c.args.pairs.now c.find_linking.new.pairs 0 4 (omega arith) c.find_linking.ensures.goes)
    (λ t status refused. link_refused t c.args.cred.now c.args.a.now c.args.now status refused) c.in-Err.halt
    c.in-Err.ensures.check

pub add_link-requires-clause-name : goal.add_link-requires-clause-name
add_link-requires-clause-name g c = rw c.as_slice-name.ensures c.in-Ok.ensures.short

pub add_link-requires-clause-kind : goal.add_link-requires-clause-kind
add_link-requires-clause-kind g c = c.in-Ok.ensures.plain

pub returns-in-Ok-add_link : goal.returns-in-Ok-add_link
returns-in-Ok-add_link g c =
    let x = c.in-Ok.r in
    edits-by g.P.Pairs.told c.args.pairs.now c.find_linking.new.pairs (λ t. link t c.args.cred.now c.args.a.now c.args.now)
    (λ t. (plan : LinkPlan) × (link_plan t c.args.cred.now c.args.a.now ≡ Ok plan) × IsLinking c.args.a.now.link.name t x plan)
    c.in-Ok.ensures.check c.add_link.new.pairs 0 4 c.find_linking.ensures.goes c.add_link.ensures.goes
    (CanLink c.args.now x.plan.directory c.args.a.now.link.name x.plan.file)
    (λ t sound known. linking_can t sound c.args.cred.now c.args.a.now c.args.now x known.0 known.1 known.2)
    (Link (record { attributes = Some c.linked_more-file.result; directory = c.wcc_of.result }))
    (linked c.args.now x.plan.directory c.args.a.now.link.name x.plan.file)
    (λ t sound known. link_done t sound c.args.cred.now c.args.a.now c.args.now x known.0 known.1 known.2 c.wcc_of.result
    c.linked_more-file.result (rw c.touched-after.ensures at c.wcc_of.ensures)
    (c.linked_more-file.ensures (linking_few t sound c.args.cred.now c.args.a.now c.args.now x known.0 known.1 known.2)))
    (rw c.as_slice-name.ensures at c.in-Ok-add_link.ensures.ok)

pub returns-in-Err-add_link : goal.returns-in-Err-add_link
returns-in-Err-add_link g c =
    let x = c.in-Ok.r in
    edit-halts-by g.P.Pairs.told c.args.pairs.now c.find_linking.new.pairs (λ t. link t c.args.cred.now c.args.a.now c.args.now)
    (λ t. (plan : LinkPlan) × (link_plan t c.args.cred.now c.args.a.now ≡ Ok plan) × IsLinking c.args.a.now.link.name t x plan)
    c.in-Ok.ensures.check c.add_link.new.pairs 0 4 c.find_linking.ensures.goes c.add_link.ensures.goes
    (CanLink c.args.now x.plan.directory c.args.a.now.link.name x.plan.file)
    (λ t sound known. linking_can t sound c.args.cred.now c.args.a.now c.args.now x known.0 known.1 known.2)
    (omega arith)
    (λ t sound known. ap (λ (r : Row). is_ok r) (link_done t sound c.args.cred.now c.args.a.now c.args.now x known.0 known.1
    known.2
    (wcc_of (Some x.directory) (Some (touched c.args.now x.directory))) (linked_more c.args.now x.file) refl refl))
    c.in-Err-add_link.fault (rw c.as_slice-name.ensures at c.in-Err-add_link.ensures.fault)
