-- The plan is made from what the handle leads to, done by one edit, and told.
use Rattle.std.proofs.Common.{List, ℕ, Some, Ok, Err, refl, ap, subst, arith}
use Rattle.nfs3_types.specs.declared.body.Body.TheVariants.{SetAttr}
use Rattle.fs_rules.specs.declared.plans.SetAttrPlan.{SetAttrPlan}
use Rattle.fs_rules.specs.Attributes.{wcc_of}
use Rattle.fs_rules.specs.Checks.{find_object}
use Rattle.fs_rules.specs.Edits.{edit_node, set_attributes}
use Rattle.fs_rules.specs.Setting.{set_attr}
use Rattle.fs_rules.specs.Sound.{IsSound}
use Rattle.fs_shows.specs.Views.{IsThere}
use Rattle.fs_shows.proofs.Doing.{goes-most}
use Rattle.procs_object.specs.Finding.{IsObject, CheckedOn}
use Rattle.procs_object.proofs.Ending.{halts, refuses, edits, edit-halts}
use Rattle.procs_object.proofs.Told.{object-place, object-inode}
use Rattle.procs_object.proofs.Set.{set-halted, set-refused, set-there, set-done}
use Rattle.procs_object.proofs.setting.set_attr.Goals as goal

pub plan_of-requires : goal.plan_of-requires
plan_of-requires g c = c.requires

pub returns-in-Err : goal.returns-in-Err
returns-in-Err g c =
    let P : List ℕ → Type 0 = λ bytes.
    CheckedOn g.P.Pairs.told c.args.pairs.now c.see.new.pairs IsSound IsObject (λ t. find_object t bytes) (Err c.in-Err.halt) in
    halts g.P.Pairs.told c.args.pairs.now c.see.new.pairs (λ t. find_object t c.args.a.now.object)
    (λ t. set_attr t c.args.cred.now c.args.a.now c.args.now) 1
    (goes-most g.P.Pairs.told c.args.pairs.now c.see.new.pairs 0 1 (omega arith) c.see.ensures.goes)
    (λ t status refused. set-halted t c.args.cred.now c.args.a.now c.args.now status refused) c.in-Err.halt
    (subst P c.as_slice.ensures c.in-Err.ensures.check)

pub returns-in-Err-plan_of : goal.returns-in-Err-plan_of
returns-in-Err-plan_of g c =
    let P : List ℕ → Type 0 = λ bytes.
    CheckedOn g.P.Pairs.told c.args.pairs.now c.see.new.pairs IsSound IsObject (λ t. find_object t bytes) (Ok c.in-Ok.o) in
    refuses g.P.Pairs.told c.args.pairs.now c.see.new.pairs (λ t. find_object t c.args.a.now.object)
    (λ t. set_attr t c.args.cred.now c.args.a.now c.args.now) c.in-Ok.o (subst P c.as_slice.ensures c.in-Ok.ensures.check) 1
    c.in-Err-plan_of.status
    (goes-most g.P.Pairs.told c.args.pairs.now c.see.new.pairs 0 1 (omega arith) c.see.ensures.goes)
    (λ t o found is. set-refused t c.args.cred.now c.args.a.now c.args.now c.in-Ok.o o found is c.in-Err-plan_of.status
    (c.in-Err-plan_of.ensures.check o (object-place t c.in-Ok.o o is) (object-inode t c.in-Ok.o o is)))

pub returns-in-Ok-describe : goal.returns-in-Ok-describe
returns-in-Ok-describe g c =
    let p = c.in-Ok-plan_of.plan in
    let P : List ℕ → Type 0 = λ bytes.
    CheckedOn g.P.Pairs.told c.args.pairs.now c.see.new.pairs IsSound IsObject (λ t. find_object t bytes) (Ok c.in-Ok.o) in
    let id-is = ap (λ (p : SetAttrPlan). p.fileid) c.in-Ok-plan_of.ensures.plan in
    let at-is = ap (λ (p : SetAttrPlan). p.attributes) c.in-Ok-plan_of.ensures.plan in
    edits g.P.Pairs.told c.args.pairs.now c.see.new.pairs c.describe.new.pairs (λ t. find_object t c.args.a.now.object)
    (λ t. set_attr t c.args.cred.now c.args.a.now c.args.now) 0 1 c.see.ensures.goes c.describe.ensures.goes c.in-Ok.o
    (subst P c.as_slice.ensures c.in-Ok.ensures.check) (IsThere p.fileid) (SetAttr c.wcc_of.result)
    (edit_node p.fileid (set_attributes p.attributes))
    (λ t o found is. set-there t c.args.cred.now c.args.a.now c.args.now c.in-Ok.o o found is p c.requires
    c.in-Ok-plan_of.ensures.live id-is at-is)
    (λ t o found is. set-done t c.args.cred.now c.args.a.now c.args.now c.in-Ok.o o found is p c.requires
    c.in-Ok-plan_of.ensures.live id-is at-is c.wcc_of.result
    (c.in-Ok-plan_of.ensures.check o (object-place t c.in-Ok.o o is) (object-inode t c.in-Ok.o o is)) c.wcc_of.ensures)
    c.in-Ok-describe.ensures.ok

pub returns : goal.returns
returns g c =
    let p = c.in-Ok-plan_of.plan in
    let P : List ℕ → Type 0 = λ bytes.
    CheckedOn g.P.Pairs.told c.args.pairs.now c.see.new.pairs IsSound IsObject (λ t. find_object t bytes) (Ok c.in-Ok.o) in
    let id-is = ap (λ (p : SetAttrPlan). p.fileid) c.in-Ok-plan_of.ensures.plan in
    let at-is = ap (λ (p : SetAttrPlan). p.attributes) c.in-Ok-plan_of.ensures.plan in
    edit-halts g.P.Pairs.told c.args.pairs.now c.see.new.pairs c.describe.new.pairs (λ t. find_object t c.args.a.now.object)
    (λ t. set_attr t c.args.cred.now c.args.a.now c.args.now) 0 1 c.see.ensures.goes c.describe.ensures.goes c.in-Ok.o
    (subst P c.as_slice.ensures c.in-Ok.ensures.check) (IsThere p.fileid)
    (SetAttr (wcc_of (Some c.in-Ok.o.attributes) (Some p.attributes))) (edit_node p.fileid (set_attributes p.attributes))
    (λ t o found is. set-there t c.args.cred.now c.args.a.now c.args.now c.in-Ok.o o found is p c.requires
    c.in-Ok-plan_of.ensures.live id-is at-is)
    (λ t o found is. set-done t c.args.cred.now c.args.a.now c.args.now c.in-Ok.o o found is p c.requires
    c.in-Ok-plan_of.ensures.live id-is at-is (wcc_of (Some c.in-Ok.o.attributes) (Some p.attributes))
    (c.in-Ok-plan_of.ensures.check o (object-place t c.in-Ok.o o is) (object-inode t c.in-Ok.o o is)) refl)
    (omega arith) c.in-Err-describe.fault c.in-Err-describe.ensures.fault
