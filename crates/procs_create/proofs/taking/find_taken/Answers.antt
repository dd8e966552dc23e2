-- The file is read, and checked.
use Rattle.std.proofs.Common.{◌≡◌, Option, Some, None, Ok, Err, sym, subst}
use Rattle.std.specs.Prelude.{IfSome}
use Rattle.nfs3_types.specs.declared.status.Status.TheVariants.{Exist}
use Rattle.fs_rules.specs.declared.place.Place.TheVariants.{Live}
use Rattle.fs_rules.specs.Places.{Object, leads_to}
use Rattle.fs_rules.specs.Tree.{Tree}
use Rattle.procs_object.specs.declared.object.Found.{Found}
use Rattle.procs_object.specs.Finding.{IsLed, IsObject}
use Rattle.procs_object.proofs.Reading.{reads-more}
use Rattle.procs_create.specs.Taking.{taken_found}
use Rattle.procs_create.proofs.Taken.{taken-file, taken-none, taken-refused, taken-so}
use Rattle.procs_create.proofs.taking.find_taken.Goals as goal

led-as : (t : Tree) (o : Option Object) (i j : Option Found) → i ≡ j → IsLed t i o → IsLed t j o
led-as t o i j same led = let P : Option Found → Type 0 = λ i. IsLed t i o in subst P same led

pub returns-in-Err-clause-goes : goal.returns-in-Err-clause-goes
returns-in-Err-clause-goes g c = c.find_child.ensures.goes

pub returns-in-Err-clause-check : goal.returns-in-Err-clause-check
returns-in-Err-clause-check g c = c.in-Err.ensures.fault

pub returns-in_default-clause-goes : goal.returns-in_default-clause-goes
returns-in_default-clause-goes g c = c.find_child.ensures.goes

pub returns-in_default-clause-check : goal.returns-in_default-clause-check
returns-in_default-clause-check g c =
    let Here : Tree → Type 0 = λ t. t.fsid ≡ c.args.fsid in
    reads-more g.P.Pairs.told c.args.pairs.now c.find_child.new.pairs Here Here
    (λ t. IsLed t c.in-Ok.found (leads_to t (Live c.args.fileid)))
    (λ t. taken_found t c.args.cred.now c.args.how c.args.fileid ≡ Err Exist) (λ t here. here)
    (λ t here led. taken-none t c.args.cred.now c.args.how c.args.fileid
    (led-as t (leads_to t (Live c.args.fileid)) c.in-Ok.found None c.in_default.is led))
    c.in-Ok.ensures.ok

pub returns-in-Ok-check_taken-clause-goes : goal.returns-in-Ok-check_taken-clause-goes
returns-in-Ok-check_taken-clause-goes g c = c.find_child.ensures.goes

pub returns-in-Ok-check_taken-clause-check : goal.returns-in-Ok-check_taken-clause-check
returns-in-Ok-check_taken-clause-check g c =
    let Here : Tree → Type 0 = λ t. t.fsid ≡ c.args.fsid in
    reads-more g.P.Pairs.told c.args.pairs.now c.find_child.new.pairs Here Here
    (λ t. IsLed t c.in-Ok.found (leads_to t (Live c.args.fileid)))
    (λ t. (o : Object) × (taken_found t c.args.cred.now c.args.how c.args.fileid ≡ Ok o) × IsObject t c.in-Some.file o)
    (λ t here. here)
    (λ t here led. taken-so t c.args.cred.now c.args.how c.args.fileid c.in-Some.file
    (led-as t (leads_to t (Live c.args.fileid)) c.in-Ok.found (Some c.in-Some.file) c.in-Some.is led) c.in-Ok-check_taken.field-0
    (sym c.in-Ok-check_taken.ensures))
    c.in-Ok.ensures.ok

pub returns-in-Ok-check_taken-clause-place : goal.returns-in-Ok-check_taken-clause-place
returns-in-Ok-check_taken-clause-place g c =
    let P : Option Found → Type 0 = λ o. IfSome o (λ x. x.place ≡ Live c.args.fileid) in
    subst P c.in-Some.is c.in-Ok.ensures.place

pub returns-in-Ok-check_taken-clause-file : goal.returns-in-Ok-check_taken-clause-file
returns-in-Ok-check_taken-clause-file g c =
    taken-file c.args.cred.now c.args.how c.in-Some.file.inode.head.kept c.in-Some.file.inode.head.size
    c.in-Ok-check_taken.field-0 (sym c.in-Ok-check_taken.ensures)

pub returns-in-Err-check_taken-clause-goes : goal.returns-in-Err-check_taken-clause-goes
returns-in-Err-check_taken-clause-goes g c = c.find_child.ensures.goes

pub returns-in-Err-check_taken-clause-check : goal.returns-in-Err-check_taken-clause-check
returns-in-Err-check_taken-clause-check g c =
    let Here : Tree → Type 0 = λ t. t.fsid ≡ c.args.fsid in
    reads-more g.P.Pairs.told c.args.pairs.now c.find_child.new.pairs Here Here
    (λ t. IsLed t c.in-Ok.found (leads_to t (Live c.args.fileid)))
    (λ t. taken_found t c.args.cred.now c.args.how c.args.fileid ≡ Err c.in-Err-check_taken.status) (λ t here. here)
    (λ t here led. taken-refused t c.args.cred.now c.args.how c.args.fileid c.in-Some.file
    (led-as t (leads_to t (Live c.args.fileid)) c.in-Ok.found (Some c.in-Some.file) c.in-Some.is led) c.in-Err-check_taken.status
    (sym c.in-Err-check_taken.ensures))
    c.in-Ok.ensures.ok
