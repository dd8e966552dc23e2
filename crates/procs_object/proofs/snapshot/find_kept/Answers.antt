-- The snapshot is kept, and its inode is what the number leads to.
use Rattle.std.proofs.Common.{◌≡◌, ◌∙◌, ℕ, ◌+◌, Bool, true, false, refl, sym, ap, subst, Option, Some, None}
use Rattle.std.specs.Prelude.{⊤, is_some}
use Rattle.fs_rules.specs.declared.place.Place.TheVariants.{Kept as KeptPlace}
use Rattle.fs_rules.specs.Places.{node_at, leads_to, snapshot_numbered}
use Rattle.pairs.specs.declared.at.At.TheVariants.{Snap}
use Rattle.pairs.specs.Told.{PairsTold, Goes}
use Rattle.fs_keys.specs.declared.inode.Inode.{Inode}
use Rattle.fs_keys.specs.declared.rows.First.{First}
use Rattle.fs_shows.specs.Steps.{Reads}
use Rattle.fs_shows.specs.Views.{IsKept, IsFoundAs}
use Rattle.fs_shows.proofs.Doing.{goes-then, up-given}
use Rattle.procs_object.specs.Finding.{Begins, IsLed}
use Rattle.procs_object.proofs.Reading.{odd-by, reads-more, reads-then, up-then}
use Rattle.procs_object.proofs.Handles.{led-none, led-some}
use Rattle.procs_object.proofs.Snapshots.{is-kept, kept-none, sum-fits}
use Rattle.procs_object.proofs.snapshot.find_kept.Goals as goal

-- whether it is kept, as that was read
module _ {S W : Type 0} (told : PairsTold S W) (old mid : S) (row : First) (number : ℕ) (there b : Bool) (is : there ≡ b)
    (read : Reads told old mid (λ t. ⊤) (λ t. is_some (snapshot_numbered t number) ≡ there)) where
  kept-read : Reads told old mid (Begins row) (λ t. is_some (snapshot_numbered t number) ≡ b)
  kept-read =
      reads-more told old mid (Begins row) (λ t. ⊤) (λ t. is_some (snapshot_numbered t number) ≡ there)
      (λ t. is_some (snapshot_numbered t number) ≡ b) (λ t begins. tt) (λ t begins known. known ∙ is) read

  -- and then the inode
  module _ (new : S) (id : ℕ) (kept : there ≡ true) (goes : Goes told mid new 0) (found i : Option Inode) (so : found ≡ i)
      (then : Reads told mid new (IsKept (Snap number)) (λ t. IsFoundAs found (node_at t (KeptPlace number id)))) where
    inode-read : Reads told old new (Begins row)
        (λ t. (is_some (snapshot_numbered t number) ≡ true) × IsFoundAs i (node_at t (KeptPlace number id)))
    inode-read =
        reads-then told old mid new (Begins row) (λ t. is_some (snapshot_numbered t number) ≡ true) (IsKept (Snap number)) goes
        (reads-more told old mid (Begins row) (λ t. ⊤) (λ t. is_some (snapshot_numbered t number) ≡ there)
        (λ t. is_some (snapshot_numbered t number) ≡ true) (λ t begins. tt) (λ t begins known. known ∙ kept) read)
        (λ t begins known. is-kept t number known) (λ t. IsFoundAs i (node_at t (KeptPlace number id)))
        (subst (λ (o : Option Inode). Reads told mid new (IsKept (Snap number))
        (λ t. IsFoundAs o (node_at t (KeptPlace number id)))) so then)

pub returns-in-Err-clause-goes : goal.returns-in-Err-clause-goes
returns-in-Err-clause-goes g c = c.kept.ensures.goes

pub returns-in-Err-clause-fault : goal.returns-in-Err-clause-fault
returns-in-Err-clause-fault g c =
    up-given g.P.Pairs.told c.args.pairs.now c.kept.new.pairs (Begins c.args.begins.now) (λ t. ⊤) (λ t begins. tt) c.in-Err.fault
    c.in-Err.ensures.fault

pub returns-then-not-there-clause-goes : goal.returns-then-not-there-clause-goes
returns-then-not-there-clause-goes g c = c.kept.ensures.goes

pub returns-then-not-there-clause-ok : goal.returns-then-not-there-clause-ok
returns-then-not-there-clause-ok g c =
    reads-more g.P.Pairs.told c.args.pairs.now c.kept.new.pairs (Begins c.args.begins.now) (Begins c.args.begins.now)
    (λ t. is_some (snapshot_numbered t c.args.number) ≡ false)
    (λ t. IsLed t None (leads_to t (KeptPlace c.args.number c.args.fileid))) (λ t begins. begins)
    (λ t begins none. kept-none t c.args.number c.args.fileid none)
    (kept-read g.P.Pairs.told c.args.pairs.now c.kept.new.pairs c.args.begins.now c.args.number c.in-Ok.there false
    c.if-not-there.true c.in-Ok.ensures.ok)

pub returns-in_default-clause-goes : goal.returns-in_default-clause-goes
returns-in_default-clause-goes g c = c.kept.ensures.goes

pub returns-in_default-clause-fault : goal.returns-in_default-clause-fault
returns-in_default-clause-fault g c =
    odd-by g.P.Pairs.told c.args.pairs.now c.kept.new.pairs (Begins c.args.begins.now)
    (λ t. is_some (snapshot_numbered t c.args.number) ≡ true)
    (λ t begins there. c.in_default.ensures (sum-fits t c.args.number there c.args.begins.now begins))
    (kept-read g.P.Pairs.told c.args.pairs.now c.kept.new.pairs c.args.begins.now c.args.number c.in-Ok.there true
    c.if-not-there.false c.in-Ok.ensures.ok)

pub returns-in-Err-load-clause-goes : goal.returns-in-Err-load-clause-goes
returns-in-Err-load-clause-goes g c =
    goes-then g.P.Pairs.told c.args.pairs.now c.kept.new.pairs c.load.new.pairs 0 0 c.kept.ensures.goes c.load.ensures.goes

pub returns-in-Err-load-clause-fault : goal.returns-in-Err-load-clause-fault
returns-in-Err-load-clause-fault g c =
    up-then g.P.Pairs.told c.args.pairs.now c.kept.new.pairs c.load.new.pairs (Begins c.args.begins.now)
    (λ t. is_some (snapshot_numbered t c.args.number) ≡ true) (IsKept (Snap c.args.number)) c.load.ensures.goes
    (kept-read g.P.Pairs.told c.args.pairs.now c.kept.new.pairs c.args.begins.now c.args.number c.in-Ok.there true
    c.if-not-there.false c.in-Ok.ensures.ok)
    (λ t begins there. is-kept t c.args.number there) 0 c.kept.ensures.goes c.in-Err-load.fault c.in-Err-load.ensures.fault

pub returns-in_default-found-clause-goes : goal.returns-in_default-found-clause-goes
returns-in_default-found-clause-goes g c =
    goes-then g.P.Pairs.told c.args.pairs.now c.kept.new.pairs c.load.new.pairs 0 0 c.kept.ensures.goes c.load.ensures.goes

pub returns-in_default-found-clause-ok : goal.returns-in_default-found-clause-ok
returns-in_default-found-clause-ok g c =
    reads-more g.P.Pairs.told c.args.pairs.now c.load.new.pairs (Begins c.args.begins.now) (Begins c.args.begins.now)
    (λ t. (is_some (snapshot_numbered t c.args.number) ≡ true)
    × IsFoundAs None (node_at t (KeptPlace c.args.number c.args.fileid)))
    (λ t. IsLed t None (leads_to t (KeptPlace c.args.number c.args.fileid))) (λ t begins. begins)
    (λ t begins both. led-none t (KeptPlace c.args.number c.args.fileid) both.1)
    (inode-read g.P.Pairs.told c.args.pairs.now c.kept.new.pairs c.args.begins.now c.args.number c.in-Ok.there true
    c.if-not-there.false c.in-Ok.ensures.ok c.load.new.pairs c.args.fileid c.if-not-there.false c.load.ensures.goes
    c.in-Ok-load.found None c.in_default-found.is c.in-Ok-load.ensures.ok)

pub returns-clause-goes : goal.returns-clause-goes
returns-clause-goes g c =
    goes-then g.P.Pairs.told c.args.pairs.now c.kept.new.pairs c.load.new.pairs 0 0 c.kept.ensures.goes c.load.ensures.goes

pub returns-clause-ok : goal.returns-clause-ok
returns-clause-ok g c =
    let place = KeptPlace c.args.number c.args.fileid in
    let i = c.in-Some-found.inode in
    reads-more g.P.Pairs.told c.args.pairs.now c.load.new.pairs (Begins c.args.begins.now) (Begins c.args.begins.now)
    (λ t. (is_some (snapshot_numbered t c.args.number) ≡ true) × IsFoundAs (Some i) (node_at t place))
    (λ t. IsLed t (Some (record { place = place; inode = i; attributes = c.attributes-attributes.result })) (leads_to t place))
    (λ t begins. begins)
    (λ t begins both. led-some t place c.in-Some.fsid i c.attributes-attributes.result
    (ap (λ (row : First). row.fsid + c.args.number) begins.first ∙ sym c.in-Some.ensures.1) c.attributes-attributes.ensures both.1)
    (inode-read g.P.Pairs.told c.args.pairs.now c.kept.new.pairs c.args.begins.now c.args.number c.in-Ok.there true
    c.if-not-there.false c.in-Ok.ensures.ok c.load.new.pairs c.args.fileid c.if-not-there.false c.load.ensures.goes
    c.in-Ok-load.found (Some i) c.in-Some-found.is c.in-Ok-load.ensures.ok)

pub returns-clause-place : goal.returns-clause-place
returns-clause-place g c = refl
