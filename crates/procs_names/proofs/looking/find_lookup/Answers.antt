-- The directory is found and asked, and then what the name leads to.
use Rattle.std.proofs.Common.{◌≡◌, ◌∙◌, ℕ, List, refl, sym, ap, Ok, Err}
use Rattle.fs_rules.specs.Checks.{find_object}
use Rattle.fs_rules.specs.Looking.{lookup}
use Rattle.fs_rules.specs.Sound.{IsSound}
use Rattle.nfs3_types.specs.declared.body.Body.{Body}
use Rattle.fs_shows.proofs.Doing.{goes-then, up-memory}
use Rattle.procs_object.specs.Finding.{IsBegun, IsObject}
use Rattle.procs_object.proofs.Gathering.{gathers}
use Rattle.procs_object.proofs.Reading.{reads-more}
use Rattle.procs_names.specs.Naming.{IsReady, IsTold, leads_at, need_lookup, seen}
use Rattle.procs_names.proofs.Knowing.{IsBegunAt, begun-ready, check-behind, check-halted, checked-as}
use Rattle.procs_names.proofs.Looked.{IsNamed, lookup_halted, lookup_lacks, lookup_refused, lookup_tells}
use Rattle.procs_names.proofs.looking.find_lookup.Goals as goal

pub returns-in-Err-clause-goes : goal.returns-in-Err-clause-goes
returns-in-Err-clause-goes g c = c.look.ensures.goes

pub returns-in-Err-clause-check : goal.returns-in-Err-clause-check
returns-in-Err-clause-check g c =
    check-halted g.P.Pairs.told IsBegun IsTold (λ t. find_object t c.args.a.now.directory)
    (λ t. lookup t c.args.cred.now c.args.a.now) c.args.pairs.now c.look.new.pairs IsSound
    (λ t status refused. lookup_halted t c.args.cred.now c.args.a.now status refused) c.in-Err.halt
    (checked-as g.P.Pairs.told c.args.pairs.now c.look.new.pairs IsSound IsBegun (λ directory t. find_object t directory)
    (Err c.in-Err.halt) c.as_slice.ensures c.in-Err.ensures.check)

pub returns-in-Err-need_lookup-clause-goes : goal.returns-in-Err-need_lookup-clause-goes
returns-in-Err-need_lookup-clause-goes g c = c.look.ensures.goes

pub returns-in-Err-need_lookup-clause-check : goal.returns-in-Err-need_lookup-clause-check
returns-in-Err-need_lookup-clause-check g c =
    let x = c.in-Ok.seen in
    reads-more g.P.Pairs.told c.args.pairs.now c.look.new.pairs IsSound IsSound (IsBegunAt c.args.a.now.directory x)
    (λ t. lookup t c.args.cred.now c.args.a.now ≡ Err c.in-Err-need_lookup.status) (λ t sound. sound)
    (λ t sound known. lookup_refused t c.args.cred.now c.args.a.now x.found known.0 known.1 known.2.object
    c.in-Err-need_lookup.status (ap (λ (name : List ℕ). need_lookup c.args.cred.now (seen x.found) name)
    (sym c.as_slice-name.ensures) ∙ sym c.in-Err-need_lookup.ensures.check))
    (checked-as g.P.Pairs.told c.args.pairs.now c.look.new.pairs IsSound IsBegun (λ directory t. find_object t directory)
    (Ok x) c.as_slice.ensures c.in-Ok.ensures.check)

pub named-requires : goal.named-requires
named-requires g c = c.in-Ok-need_lookup.ensures.short

pub returns-in-Err-named-clause-goes : goal.returns-in-Err-named-clause-goes
returns-in-Err-named-clause-goes g c =
    goes-then g.P.Pairs.told c.args.pairs.now c.look.new.pairs c.named.new.pairs 0 0 c.look.ensures.goes c.named.ensures.goes

pub returns-in-Err-named-clause-check : goal.returns-in-Err-named-clause-check
returns-in-Err-named-clause-check g c =
    let x = c.in-Ok.seen in
    let asked : need_lookup c.args.cred.now (seen x.found) c.args.a.now.name ≡ Ok tt =
    ap (λ (name : List ℕ). need_lookup c.args.cred.now (seen x.found) name) (sym c.as_slice-name.ensures)
    ∙ sym c.in-Ok-need_lookup.ensures.check in
    check-behind g.P.Pairs.told IsObject IsTold (λ t. leads_at t (seen x.found) c.args.a.now.name)
    (λ t. lookup t c.args.cred.now c.args.a.now) c.args.pairs.now c.look.new.pairs c.named.new.pairs 0
    (IsBegunAt c.args.a.now.directory x) (IsReady x.begins x.found.place) c.look.ensures.goes c.named.ensures.goes
    (checked-as g.P.Pairs.told c.args.pairs.now c.look.new.pairs IsSound IsBegun (λ directory t. find_object t directory)
    (Ok x) c.as_slice.ensures c.in-Ok.ensures.check)
    (λ t sound known. begun-ready t x known.0 sound known.2)
    (λ t status known refused. lookup_lacks t c.args.cred.now c.args.a.now x.found known.0 known.1 known.2.object asked
    status refused) c.in-Err-named.halt
    (checked-as g.P.Pairs.told c.look.new.pairs c.named.new.pairs (IsReady x.begins x.found.place) IsObject
    (λ name t. leads_at t (seen x.found) name) (Err c.in-Err-named.halt) c.as_slice-name.ensures
    c.in-Err-named.ensures.check)

pub returns-in-Ok-tell-clause-goes : goal.returns-in-Ok-tell-clause-goes
returns-in-Ok-tell-clause-goes g c =
    goes-then g.P.Pairs.told c.args.pairs.now c.look.new.pairs c.named.new.pairs 0 0 c.look.ensures.goes c.named.ensures.goes

pub returns-in-Ok-tell-clause-check : goal.returns-in-Ok-tell-clause-check
returns-in-Ok-tell-clause-check g c =
    let x = c.in-Ok.seen in
    let asked : need_lookup c.args.cred.now (seen x.found) c.args.a.now.name ≡ Ok tt =
    ap (λ (name : List ℕ). need_lookup c.args.cred.now (seen x.found) name) (sym c.as_slice-name.ensures)
    ∙ sym c.in-Ok-need_lookup.ensures.check in
    reads-more g.P.Pairs.told c.args.pairs.now c.named.new.pairs IsSound IsSound
    (λ t. IsBegunAt c.args.a.now.directory x t × IsNamed x.found c.args.a.now.name c.in-Ok-named.o t)
    (λ t. (body : Body) × (lookup t c.args.cred.now c.args.a.now ≡ Ok body) × IsTold t c.in-Ok-tell.body body) (λ t sound. sound)
    (λ t sound known. (
      c.in-Ok-tell.body,
      lookup_tells t c.args.cred.now c.args.a.now x.found known.0.0 known.0.1 known.0.2.object asked x.begins c.in-Ok-named.o
          known.1.0 known.0.2.first known.1.1 known.1.2
          ∙ ap (λ (body : Body). Ok body) (sym c.in-Ok-tell.ensures),
      refl,
    ))
    (gathers g.P.Pairs.told c.args.pairs.now c.look.new.pairs c.named.new.pairs (IsBegunAt c.args.a.now.directory x)
    (IsReady x.begins x.found.place) c.named.ensures.goes
    (checked-as g.P.Pairs.told c.args.pairs.now c.look.new.pairs IsSound IsBegun (λ directory t. find_object t directory)
    (Ok x) c.as_slice.ensures c.in-Ok.ensures.check)
    (λ t sound known. begun-ready t x known.0 sound known.2) (IsNamed x.found c.args.a.now.name c.in-Ok-named.o)
    (checked-as g.P.Pairs.told c.look.new.pairs c.named.new.pairs (IsReady x.begins x.found.place) IsObject
    (λ name t. leads_at t (seen x.found) name) (Ok c.in-Ok-named.o) c.as_slice-name.ensures
    c.in-Ok-named.ensures.check))

pub returns-clause-goes : goal.returns-clause-goes
returns-clause-goes g c =
    goes-then g.P.Pairs.told c.args.pairs.now c.look.new.pairs c.named.new.pairs 0 0 c.look.ensures.goes c.named.ensures.goes

pub returns-clause-check : goal.returns-clause-check
returns-clause-check g c =
    up-memory g.P.Pairs.told c.args.pairs.now c.named.new.pairs IsSound c.from.result c.from.ensures
