-- What the number leads to is found, or is not.
use Rattle.std.proofs.Common.{◌≡◌, Option, Some, None, Ok, Err, ap, subst}
use Rattle.std.specs.Prelude.{IfSome}
use Rattle.nfs3_types.specs.declared.status.Status.TheVariants.{NoEnt}
use Rattle.fs_rules.specs.declared.place.Place.{Place}
use Rattle.fs_rules.specs.declared.place.Place.TheVariants.{Live}
use Rattle.fs_rules.specs.Checks.{is_live, some_or}
use Rattle.fs_rules.specs.Places.{Object, leads_to}
use Rattle.fs_rules.specs.Tree.{Tree}
use Rattle.procs_object.specs.declared.object.Found.{Found}
use Rattle.procs_object.specs.Finding.{IsLed, IsObject}
use Rattle.procs_object.proofs.Handles.{led-nowhere, led-there}
use Rattle.procs_object.proofs.Reading.{reads-more}
use Rattle.procs_names.specs.Naming.{IsOf}
use Rattle.procs_names.proofs.finding.stand.Goals as goal

led-so : (t : Tree) (o : Option Object) (found x : Option Found) → found ≡ x → IsLed t found o → IsLed t x o
led-so t o found x same led = let P : Option Found → Type 0 = λ x. IsLed t x o in subst P same led

pub returns-in-Err-clause-goes : goal.returns-in-Err-clause-goes
returns-in-Err-clause-goes g c = c.find_child.ensures.goes

pub returns-in-Err-clause-check : goal.returns-in-Err-clause-check
returns-in-Err-clause-check g c = c.in-Err.ensures.fault

pub returns-in-Some-clause-goes : goal.returns-in-Some-clause-goes
returns-in-Some-clause-goes g c = c.find_child.ensures.goes

pub returns-in-Some-clause-check : goal.returns-in-Some-clause-check
returns-in-Some-clause-check g c =
    reads-more g.P.Pairs.told c.args.pairs.now c.find_child.new.pairs (IsOf c.args.fsid) (IsOf c.args.fsid)
    (λ t. IsLed t c.in-Ok.found (leads_to t (Live c.args.fileid)))
    (λ t. (o : Object) × (some_or (leads_to t (Live c.args.fileid)) NoEnt ≡ Ok o) × IsObject t c.in-Some.o o) (λ t own. own)
    (λ t own led.
    let there = led-there t c.in-Some.o (leads_to t (Live c.args.fileid))
    (led-so t (leads_to t (Live c.args.fileid)) c.in-Ok.found (Some c.in-Some.o) c.in-Some.is led) in
    (there.0, ap (λ (o : Option Object). some_or o NoEnt) there.1, there.2))
    c.in-Ok.ensures.ok

pub returns-in-None-clause-goes : goal.returns-in-None-clause-goes
returns-in-None-clause-goes g c = c.find_child.ensures.goes

pub returns-in-None-clause-check : goal.returns-in-None-clause-check
returns-in-None-clause-check g c =
    reads-more g.P.Pairs.told c.args.pairs.now c.find_child.new.pairs (IsOf c.args.fsid) (IsOf c.args.fsid)
    (λ t. IsLed t c.in-Ok.found (leads_to t (Live c.args.fileid)))
    (λ t. some_or (leads_to t (Live c.args.fileid)) NoEnt ≡ Err NoEnt) (λ t own. own)
    (λ t own led. ap (λ (o : Option Object). some_or o NoEnt) (led-nowhere t (leads_to t (Live c.args.fileid))
    (led-so t (leads_to t (Live c.args.fileid)) c.in-Ok.found None c.in-None.is led)))
    c.in-Ok.ensures.ok

pub returns-in-Some-clause-live : goal.returns-in-Some-clause-live
returns-in-Some-clause-live g c =
    ap (λ (p : Place). is_live p)
    (subst (λ (o : Option Found). IfSome o (λ x. x.place ≡ Live c.args.fileid)) c.in-Some.is c.in-Ok.ensures.place)
