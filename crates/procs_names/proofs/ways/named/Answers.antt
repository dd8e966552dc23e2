-- Where the name leads is found, and what stands there.
use Rattle.std.proofs.Common.{◌≡◌, ◌∙◌, ℕ, List, Option, Some, None, Result, Ok, Err}
use Rattle.nfs3_types.specs.declared.status.Status.TheVariants.{NoEnt}
use Rattle.fs_rules.specs.declared.place.Place.{Place}
use Rattle.fs_rules.specs.Places.{Object, place_named}
use Rattle.fs_rules.specs.Tree.{Tree}
use Rattle.pairs.specs.Told.{PairsTold, Goes}
use Rattle.fs_keys.specs.declared.rows.First.{First}
use Rattle.fs_shows.specs.declared.halt.Halt.{Halt}
use Rattle.fs_shows.specs.declared.halt.Halt.TheVariants.{Refused, Fault}
use Rattle.fs_shows.specs.Steps.{Reads}
use Rattle.fs_shows.proofs.Doing.{goes-then, up-given}
use Rattle.procs_object.specs.declared.object.Found.{Found}
use Rattle.procs_object.specs.Finding.{Begins, CheckedOn, HasPlace, IsObject}
use Rattle.procs_object.proofs.Reading.{reads-more, reads-then, up-then}
use Rattle.procs_names.specs.Naming.{IsReady, leads_at, seen, stands_at}
use Rattle.procs_names.proofs.Leading.{leads-nowhere, leads-there}
use Rattle.procs_names.proofs.ways.named.Goals as goal

module _ {S W : Type 0} (told : PairsTold S W) (old mid : S) (row : First) (d : Found) (name : List ℕ) (found : Option Place)
    (read : Reads told old mid (HasPlace d.place) (λ t. place_named t (seen d) name ≡ found)) where
  way-read : (o : Option Place) → found ≡ o → Reads told old mid (IsReady row d.place) (λ t. place_named t (seen d) name ≡ o)
  way-read o is =
      reads-more told old mid (IsReady row d.place) (HasPlace d.place) (λ t. place_named t (seen d) name ≡ found)
      (λ t. place_named t (seen d) name ≡ o) (λ t ready. ready.there) (λ t ready said. said ∙ is) read

  module _ (new : S) (p : Place) (is : found ≡ Some p) (before : Goes told old mid 0) (goes : Goes told mid new 0) where
    way-then : (P : Tree → Type 0) → Reads told mid new (Begins row) P
        → Reads told old new (IsReady row d.place) (λ t. (place_named t (seen d) name ≡ Some p) × P t)
    way-then P then =
        reads-then told old mid new (IsReady row d.place) (λ t. place_named t (seen d) name ≡ Some p) (Begins row) goes
        (way-read (Some p) is) (λ t ready said. ready.begins) P then

    stood : (r : Result Found Halt) → CheckedOn told mid new (Begins row) IsObject (λ t. stands_at t p) r
        → CheckedOn told old new (IsReady row d.place) IsObject (λ t. leads_at t (seen d) name) r
    stood (Ok x) then =
        reads-more told old new (IsReady row d.place) (IsReady row d.place) _
        (λ t. (o : Object) × (leads_at t (seen d) name ≡ Ok o) × IsObject t x o) (λ t ready. ready)
        (λ t ready both. (both.1.0, leads-there t (seen d) name p both.0 ∙ both.1.1, both.1.2))
        (way-then (λ t. (o : Object) × (stands_at t p ≡ Ok o) × IsObject t x o) then)
    stood (Err (Refused status)) then =
        reads-more told old new (IsReady row d.place) (IsReady row d.place) _ (λ t. leads_at t (seen d) name ≡ Err status)
        (λ t ready. ready) (λ t ready both. leads-there t (seen d) name p both.0 ∙ both.1)
        (way-then (λ t. stands_at t p ≡ Err status) then)
    stood (Err (Fault fault)) then =
        up-then told old mid new (IsReady row d.place) (λ t. place_named t (seen d) name ≡ Some p) (Begins row) goes
        (way-read (Some p) is) (λ t ready said. ready.begins) 0 before fault then

pub returns-in-Err-clause-goes : goal.returns-in-Err-clause-goes
returns-in-Err-clause-goes g c = c.way.ensures.goes

pub returns-in-Err-clause-check : goal.returns-in-Err-clause-check
returns-in-Err-clause-check g c =
    up-given g.P.Pairs.told c.args.pairs.now c.way.new.pairs (IsReady c.args.begins.now c.args.d.now.place)
    (HasPlace c.args.d.now.place) (λ t ready. ready.there) c.in-Err.fault c.in-Err.ensures.fault

pub way-requires : goal.way-requires
way-requires g c = c.requires

pub returns-in-Some-clause-goes : goal.returns-in-Some-clause-goes
returns-in-Some-clause-goes g c =
    goes-then g.P.Pairs.told c.args.pairs.now c.way.new.pairs c.stand_at.new.pairs 0 0 c.way.ensures.goes c.stand_at.ensures.goes

pub returns-in-Some-clause-check : goal.returns-in-Some-clause-check
returns-in-Some-clause-check g c =
    stood g.P.Pairs.told c.args.pairs.now c.way.new.pairs c.args.begins.now c.args.d.now c.args.name.now c.in-Ok.found
    c.in-Ok.ensures.ok c.stand_at.new.pairs c.in-Some.place c.in-Some.is c.way.ensures.goes c.stand_at.ensures.goes
    c.stand_at.result c.stand_at.ensures.check

pub returns-in-None-clause-goes : goal.returns-in-None-clause-goes
returns-in-None-clause-goes g c = c.way.ensures.goes

pub returns-in-None-clause-check : goal.returns-in-None-clause-check
returns-in-None-clause-check g c =
    let d = c.args.d.now in
    reads-more g.P.Pairs.told c.args.pairs.now c.way.new.pairs (IsReady c.args.begins.now d.place)
    (IsReady c.args.begins.now d.place)
    (λ t. place_named t (seen d) c.args.name.now ≡ None) (λ t. leads_at t (seen d) c.args.name.now ≡ Err NoEnt)
    (λ t ready. ready) (λ t ready none. leads-nowhere t (seen d) c.args.name.now none)
    (way-read g.P.Pairs.told c.args.pairs.now c.way.new.pairs c.args.begins.now d c.args.name.now c.in-Ok.found
    c.in-Ok.ensures.ok None c.in-None.is)
