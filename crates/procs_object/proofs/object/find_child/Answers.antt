-- The inode that is read is what the number leads to.
use Rattle.std.proofs.Common.{◌≡◌, ℕ, refl, subst, Option, Some, None}
use Rattle.fs_rules.specs.Places.{node_at, leads_to}
use Rattle.fs_rules.specs.Tree.{Tree}
use Rattle.fs_rules.specs.declared.place.Place.TheVariants.{Live as LivePlace}
use Rattle.fs_keys.specs.declared.inode.Inode.{Inode}
use Rattle.pairs.specs.declared.at.At.TheVariants.{Live}
use Rattle.fs_shows.specs.Views.{IsKept, IsFoundAs}
use Rattle.fs_shows.proofs.Doing.{up-given}
use Rattle.procs_object.specs.Finding.{IsLed}
use Rattle.procs_object.proofs.Reading.{reads-more}
use Rattle.procs_object.proofs.Handles.{led-none, led-some}
use Rattle.procs_object.proofs.object.find_child.Goals as goal

found-is : (t : Tree) (id : ℕ) (i j : Option Inode) → i ≡ j → IsFoundAs i (node_at t (LivePlace id))
    → IsFoundAs j (node_at t (LivePlace id))
found-is t id i j same is = let P : Option Inode → Type 0 = λ i. IsFoundAs i (node_at t (LivePlace id)) in subst P same is

pub returns-in-Err-clause-goes : goal.returns-in-Err-clause-goes
returns-in-Err-clause-goes g c = c.load.ensures.goes

pub returns-in-Err-clause-fault : goal.returns-in-Err-clause-fault
returns-in-Err-clause-fault g c =
    up-given g.P.Pairs.told c.args.pairs.now c.load.new.pairs (λ (t : Tree). t.fsid ≡ c.args.fsid) (IsKept Live) (λ t given. tt)
    c.in-Err.fault c.in-Err.ensures.fault

pub returns-in_default-clause-goes : goal.returns-in_default-clause-goes
returns-in_default-clause-goes g c = c.load.ensures.goes

pub returns-in_default-clause-ok : goal.returns-in_default-clause-ok
returns-in_default-clause-ok g c =
    reads-more g.P.Pairs.told c.args.pairs.now c.load.new.pairs (λ (t : Tree). t.fsid ≡ c.args.fsid) (IsKept Live)
    (λ t. IsFoundAs c.in-Ok.found (node_at t (LivePlace c.args.fileid)))
    (λ t. IsLed t None (leads_to t (LivePlace c.args.fileid))) (λ t given. tt)
    (λ t given is. led-none t (LivePlace c.args.fileid) (found-is t c.args.fileid c.in-Ok.found None c.in_default.is is))
    c.in-Ok.ensures.ok

pub returns-clause-goes : goal.returns-clause-goes
returns-clause-goes g c = c.load.ensures.goes

pub returns-clause-ok : goal.returns-clause-ok
returns-clause-ok g c =
    reads-more g.P.Pairs.told c.args.pairs.now c.load.new.pairs (λ (t : Tree). t.fsid ≡ c.args.fsid) (IsKept Live)
    (λ t. IsFoundAs c.in-Ok.found (node_at t (LivePlace c.args.fileid)))
    (λ t. IsLed t (Some (record {
      place = LivePlace c.args.fileid;
      inode = c.in-Some.inode;
      attributes = c.attributes-attributes.result;
    })) (leads_to t (LivePlace c.args.fileid)))
    (λ t given. tt)
    (λ t begins is. led-some t (LivePlace c.args.fileid) c.args.fsid c.in-Some.inode c.attributes-attributes.result begins
    c.attributes-attributes.ensures (found-is t c.args.fileid c.in-Ok.found (Some c.in-Some.inode) c.in-Some.is is))
    c.in-Ok.ensures.ok

pub returns-clause-place : goal.returns-clause-place
returns-clause-place g c = refl
