-- Each place is looked at in its own way.
use Rattle.std.proofs.Common.{◌≡◌, ◌∙◌, Some, sym, ap, subst}
use Rattle.std.specs.Prelude.{IfSome, IfOk}
use Rattle.std.proofs.lemmas.Result.{IfOk-weaker, IfErr-weaker}
use Rattle.fs_rules.specs.declared.place.Place.{Place}
use Rattle.fs_rules.specs.declared.place.Place.TheVariants.{Live as LivePlace}
use Rattle.fs_rules.specs.Places.{leads_to}
use Rattle.fs_rules.specs.Tree.{Tree}
use Rattle.fs_keys.specs.declared.rows.First.{First}
use Rattle.fs_shows.specs.Steps.{Reads}
use Rattle.fs_shows.proofs.Doing.{up-given}
use Rattle.procs_object.specs.Finding.{Begins, IsLed}
use Rattle.procs_object.proofs.Reading.{reads-more}
use Rattle.procs_object.proofs.object.find_place.Goals as goal

fsid-is : (row : First) (t : Tree) → Begins row t → t.fsid ≡ row.fsid
fsid-is row t begins = ap (λ (r : First). r.fsid) begins.first

pub returns-in-Live-clause-goes : goal.returns-in-Live-clause-goes
returns-in-Live-clause-goes g c = c.find_child.ensures.goes

pub returns-in-Live-clause-ok : goal.returns-in-Live-clause-ok
returns-in-Live-clause-ok g c =
    let row = c.args.begins.now in
    IfOk-weaker c.find_child.result _ _
    (λ found reads. reads-more g.P.Pairs.told c.args.pairs.now c.find_child.new.pairs (Begins row) (λ (t : Tree). t.fsid ≡ row.fsid)
    (λ t. IsLed t found (leads_to t (LivePlace c.in-Live.fileid))) (λ t. IsLed t found (leads_to t c.args.place))
    (fsid-is row) (λ t begins led. subst (λ (p : Place). IsLed t found (leads_to t p)) (sym c.in-Live.is) led) reads)
    c.find_child.ensures.ok

pub returns-in-Live-clause-place : goal.returns-in-Live-clause-place
returns-in-Live-clause-place g c =
    subst (λ (p : Place). IfOk c.find_child.result (λ found. IfSome found (λ x. x.place ≡ p))) (sym c.in-Live.is)
    c.find_child.ensures.place

pub returns-in-Live-clause-fault : goal.returns-in-Live-clause-fault
returns-in-Live-clause-fault g c =
    let row = c.args.begins.now in
    IfErr-weaker c.find_child.result _ _
    (λ fault up. up-given g.P.Pairs.told c.args.pairs.now c.find_child.new.pairs (Begins row) (λ (t : Tree). t.fsid ≡ row.fsid)
    (fsid-is row) fault up)
    c.find_child.ensures.fault

pub returns-in-Ok-clause-goes : goal.returns-in-Ok-clause-goes
returns-in-Ok-clause-goes g c = c.find_snapshots.ensures.goes

pub returns-in-Ok-clause-ok : goal.returns-in-Ok-clause-ok
returns-in-Ok-clause-ok g c =
    subst (λ (p : Place). Reads g.P.Pairs.told c.args.pairs.now c.find_snapshots.new.pairs (Begins c.args.begins.now)
    (λ t. IsLed t (Some c.in-Ok.x) (leads_to t p))) (sym c.in-SnapshotDirectory.is) c.in-Ok.ensures.ok

pub returns-in-Ok-clause-place : goal.returns-in-Ok-clause-place
returns-in-Ok-clause-place g c = c.in-Ok.ensures.place ∙ sym c.in-SnapshotDirectory.is

pub returns-in-Err-clause-goes : goal.returns-in-Err-clause-goes
returns-in-Err-clause-goes g c = c.find_snapshots.ensures.goes

pub returns-in-Err-clause-fault : goal.returns-in-Err-clause-fault
returns-in-Err-clause-fault g c = c.in-Err.ensures.fault

pub returns-in-Kept-clause-goes : goal.returns-in-Kept-clause-goes
returns-in-Kept-clause-goes g c = c.find_kept.ensures.goes

pub returns-in-Kept-clause-ok : goal.returns-in-Kept-clause-ok
returns-in-Kept-clause-ok g c =
    subst (λ (p : Place). IfOk c.find_kept.result (λ found. Reads g.P.Pairs.told c.args.pairs.now c.find_kept.new.pairs
    (Begins c.args.begins.now) (λ t. IsLed t found (leads_to t p)))) (sym c.in-Kept.is) c.find_kept.ensures.ok

pub returns-in-Kept-clause-place : goal.returns-in-Kept-clause-place
returns-in-Kept-clause-place g c =
    subst (λ (p : Place). IfOk c.find_kept.result (λ found. IfSome found (λ x. x.place ≡ p))) (sym c.in-Kept.is)
    c.find_kept.ensures.place

pub returns-in-Kept-clause-fault : goal.returns-in-Kept-clause-fault
returns-in-Kept-clause-fault g c = c.find_kept.ensures.fault
