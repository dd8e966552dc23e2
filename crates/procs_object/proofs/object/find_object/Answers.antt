-- What the handle says, and where its place leads, decide.
use Rattle.std.proofs.Common.{◌≡◌, ◌∙◌, Option, None, Some, Ok, Err, sym, ap, subst}
use Rattle.nfs3_types.specs.declared.status.Status.TheVariants.{BadHandle, Stale}
use Rattle.fs_rules.specs.declared.place.Place.{Place}
use Rattle.fs_rules.specs.Checks.{find_object}
use Rattle.fs_rules.specs.Places.{Object, leads_to, place_of}
use Rattle.fs_rules.specs.Tree.{Tree}
use Rattle.fs_keys.specs.declared.rows.First.{First}
use Rattle.fs_shows.proofs.Doing.{goes-none}
use Rattle.procs_object.specs.Finding.{Begins, IsObject, IsLed}
use Rattle.procs_object.proofs.Reading.{reads-none, reads-more}
use Rattle.procs_object.proofs.Handles.{bad-handle, elsewhere, not-there, there}
use Rattle.procs_object.specs.declared.object.Found.{Found}
use Rattle.procs_object.proofs.object.find_object.Goals as goal

-- what was found at a place, as what was found at one that is the same
led-is : (t : Tree) (p q : Place) (a b : Option Found) → p ≡ q → a ≡ b → IsLed t a (leads_to t p) → IsLed t b (leads_to t q)
led-is t p q a b at same led =
    subst (λ (found : Option Found). IsLed t found (leads_to t q)) same (subst (λ (p : Place). IsLed t a (leads_to t p)) at led)

fsid-is : (row : First) (t : Tree) → Begins row t → t.fsid ≡ row.fsid
fsid-is row t given = ap (λ (r : First). r.fsid) given.first

pub returns-in_default-clause-goes : goal.returns-in_default-clause-goes
returns-in_default-clause-goes g c = goes-none g.P.Pairs.told c.args.pairs.now

pub returns-in_default-clause-check : goal.returns-in_default-clause-check
returns-in_default-clause-check g c =
    reads-none g.P.Pairs.told c.args.pairs.now (Begins c.args.begins.now) (λ t. find_object t c.args.handle.now ≡ Err BadHandle)
    (λ t given. bad-handle t c.args.handle.now (sym c.of.ensures.said ∙ c.in_default.is))

pub returns-then-h-begins-clause-goes : goal.returns-then-h-begins-clause-goes
returns-then-h-begins-clause-goes g c = goes-none g.P.Pairs.told c.args.pairs.now

pub returns-then-h-begins-clause-check : goal.returns-then-h-begins-clause-check
returns-then-h-begins-clause-check g c =
    reads-none g.P.Pairs.told c.args.pairs.now (Begins c.args.begins.now) (λ t. find_object t c.args.handle.now ≡ Err Stale)
    (λ t given. elsewhere t c.args.handle.now c.in-Some.h c.args.begins.now.fsid (sym c.of.ensures.said ∙ c.in-Some.is)
    (fsid-is c.args.begins.now t given) c.if-h-begins.true)

pub returns-in-Err-clause-goes : goal.returns-in-Err-clause-goes
returns-in-Err-clause-goes g c = c.find_place.ensures.goes

pub returns-in-Err-clause-check : goal.returns-in-Err-clause-check
returns-in-Err-clause-check g c = c.in-Err.ensures.fault

pub returns-in-None-clause-goes : goal.returns-in-None-clause-goes
returns-in-None-clause-goes g c = c.find_place.ensures.goes

pub returns-in-None-clause-check : goal.returns-in-None-clause-check
returns-in-None-clause-check g c =
    let said = sym c.of.ensures.said ∙ c.in-Some.is in
    reads-more g.P.Pairs.told c.args.pairs.now c.find_place.new.pairs (Begins c.args.begins.now) (Begins c.args.begins.now)
    (λ t. IsLed t c.in-Ok.found (leads_to t c.of-2.result)) (λ t. find_object t c.args.handle.now ≡ Err Stale)
    (λ t given. given)
    (λ t given led. not-there t c.args.handle.now c.in-Some.h said
    (c.if-h-begins.false ∙ sym (fsid-is c.args.begins.now t given))
    (led-is t c.of-2.result (place_of c.in-Some.h) c.in-Ok.found None c.of-2.ensures c.in-None.is led))
    c.in-Ok.ensures.ok

pub returns-in-Some-found-clause-goes : goal.returns-in-Some-found-clause-goes
returns-in-Some-found-clause-goes g c = c.find_place.ensures.goes

pub returns-in-Some-found-clause-check : goal.returns-in-Some-found-clause-check
returns-in-Some-found-clause-check g c =
    let said = sym c.of.ensures.said ∙ c.in-Some.is in
    reads-more g.P.Pairs.told c.args.pairs.now c.find_place.new.pairs (Begins c.args.begins.now) (Begins c.args.begins.now)
    (λ t. IsLed t c.in-Ok.found (leads_to t c.of-2.result))
    (λ t. (o : Object) × (find_object t c.args.handle.now ≡ Ok o) × IsObject t c.in-Some-found.x o)
    (λ t given. given)
    (λ t given led. there t c.args.handle.now c.in-Some.h said
    (c.if-h-begins.false ∙ sym (fsid-is c.args.begins.now t given)) c.in-Some-found.x
    (led-is t c.of-2.result (place_of c.in-Some.h) c.in-Ok.found (Some c.in-Some-found.x) c.of-2.ensures
    c.in-Some-found.is led))
    c.in-Ok.ensures.ok
