-- What stands at the place is found, or is not.
use Rattle.std.proofs.Common.{◌≡◌, Option, Ok, Err, ap, subst}
use Rattle.nfs3_types.specs.declared.status.Status.TheVariants.{NoEnt}
use Rattle.fs_rules.specs.Checks.{some_or}
use Rattle.fs_rules.specs.Places.{Object, leads_to}
use Rattle.procs_object.specs.declared.object.Found.{Found}
use Rattle.procs_object.specs.Finding.{Begins, IsLed, IsObject}
use Rattle.procs_object.proofs.Handles.{led-nowhere, led-there}
use Rattle.procs_object.proofs.Reading.{reads-more}
use Rattle.procs_names.specs.Naming.{stands_at}
use Rattle.procs_names.proofs.ways.stand_at.Goals as goal

pub returns-in-Err-clause-goes : goal.returns-in-Err-clause-goes
returns-in-Err-clause-goes g c = c.find_place.ensures.goes

pub returns-in-Err-clause-check : goal.returns-in-Err-clause-check
returns-in-Err-clause-check g c = c.in-Err.ensures.fault

pub returns-in-Some-clause-goes : goal.returns-in-Some-clause-goes
returns-in-Some-clause-goes g c = c.find_place.ensures.goes

pub returns-in-Some-clause-check : goal.returns-in-Some-clause-check
returns-in-Some-clause-check g c =
    let p = c.args.place in
    reads-more g.P.Pairs.told c.args.pairs.now c.find_place.new.pairs (Begins c.args.begins.now) (Begins c.args.begins.now)
    (λ t. IsLed t c.in-Ok.found (leads_to t p))
    (λ t. (o : Object) × (stands_at t p ≡ Ok o) × IsObject t c.in-Some.o o) (λ t begins. begins)
    (λ t begins led.
    let there = led-there t c.in-Some.o (leads_to t p)
    (subst (λ (x : Option Found). IsLed t x (leads_to t p)) c.in-Some.is led) in
    (there.0, ap (λ (o : Option Object). some_or o NoEnt) there.1, there.2))
    c.in-Ok.ensures.ok

pub returns-in-None-clause-goes : goal.returns-in-None-clause-goes
returns-in-None-clause-goes g c = c.find_place.ensures.goes

pub returns-in-None-clause-check : goal.returns-in-None-clause-check
returns-in-None-clause-check g c =
    let p = c.args.place in
    reads-more g.P.Pairs.told c.args.pairs.now c.find_place.new.pairs (Begins c.args.begins.now) (Begins c.args.begins.now)
    (λ t. IsLed t c.in-Ok.found (leads_to t p)) (λ t. stands_at t p ≡ Err NoEnt) (λ t begins. begins)
    (λ t begins led. ap (λ (o : Option Object). some_or o NoEnt) (led-nowhere t (leads_to t p)
    (subst (λ (x : Option Found). IsLed t x (leads_to t p)) c.in-None.is led)))
    c.in-Ok.ensures.ok
