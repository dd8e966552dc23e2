-- The directory is found and asked, and then what the name leads to in it.
use Rattle.std.proofs.Common.{◌≡◌, ◌∙◌, ℕ, List, true, sym, ap, subst, Ok, Err}
use Rattle.std.specs.Prelude.{◌≤◌, length}
use Rattle.fs_rules.specs.Limits.{longest_name}
use Rattle.nfs3_types.specs.declared.status.Status.TheVariants.{IsDir}
use Rattle.fs_rules.specs.declared.place.Place.TheVariants.{Live}
use Rattle.fs_rules.specs.declared.plans.RemovePlan.{RemovePlan}
use Rattle.fs_rules.specs.Checks.{find_directory}
use Rattle.fs_rules.specs.Places.{fileid_at}
use Rattle.fs_rules.specs.Removing.{remove_plan}
use Rattle.fs_rules.specs.Sound.{IsSound}
use Rattle.fs_shows.proofs.Doing.{goes-then}
use Rattle.procs_object.specs.Finding.{CheckedOn, IsObject}
use Rattle.procs_object.proofs.Gathering.{gathers}
use Rattle.procs_object.proofs.Reading.{reads-more}
use Rattle.procs_names.specs.declared.removing.Removal.{Removal}
use Rattle.procs_names.specs.Naming.{IsOf, IsRemoval, child_at, need_removable, removal_of, seen}
use Rattle.procs_names.proofs.Knowing.{check-behind, check-halted, checked-at}
use Rattle.procs_names.proofs.Checked.{IsChild, IsPlaceOf, found_fsid, place_in, remove_ends, remove_halted, remove_lacks}
use Rattle.procs_names.proofs.Checked.{remove_plans, remove_refused}
use Rattle.procs_names.proofs.removing.find_removal.Goals as goal

pub returns-in-Err-clause-goes : goal.returns-in-Err-clause-goes
returns-in-Err-clause-goes g c = c.find_directory.ensures.goes

pub returns-in-Err-clause-check : goal.returns-in-Err-clause-check
returns-in-Err-clause-check g c =
    check-halted g.P.Pairs.told IsObject (IsRemoval c.args.a.now.name) (λ t. find_directory t (place_in c.args.a.now))
    (λ t. remove_plan t c.args.cred.now c.args.a.now) c.args.pairs.now c.find_directory.new.pairs IsSound
    (λ t status refused. remove_halted t c.args.cred.now c.args.a.now status refused) c.in-Err.halt
    (checked-at g.P.Pairs.told c.args.pairs.now c.find_directory.new.pairs IsSound IsObject
    (λ directory name t. find_directory t (record { directory = directory; name = name })) (Err c.in-Err.halt) c.as_slice.ensures
    c.as_slice-name.ensures c.in-Err.ensures.check)

pub returns-in-Err-need_removable-clause-goes : goal.returns-in-Err-need_removable-clause-goes
returns-in-Err-need_removable-clause-goes g c = c.find_directory.ensures.goes

pub returns-in-Err-need_removable-clause-check : goal.returns-in-Err-need_removable-clause-check
returns-in-Err-need_removable-clause-check g c =
    reads-more g.P.Pairs.told c.args.pairs.now c.find_directory.new.pairs IsSound IsSound (IsPlaceOf c.args.a.now c.in-Ok.d)
    (λ t. remove_plan t c.args.cred.now c.args.a.now ≡ Err c.in-Err-need_removable.status) (λ t sound. sound)
    (λ t sound known. remove_refused t c.args.cred.now c.args.a.now c.in-Ok.d known.0 known.1 known.2
    c.in-Err-need_removable.status (ap (λ (name : List ℕ). need_removable c.args.cred.now (seen c.in-Ok.d) name)
    (sym c.as_slice-name.ensures) ∙ sym c.in-Err-need_removable.ensures))
    (checked-at g.P.Pairs.told c.args.pairs.now c.find_directory.new.pairs IsSound IsObject
    (λ directory name t. find_directory t (record { directory = directory; name = name })) (Ok c.in-Ok.d) c.as_slice.ensures
    c.as_slice-name.ensures c.in-Ok.ensures.check)

pub child-requires : goal.child-requires
child-requires g c = c.in-Ok.ensures.place.short

pub returns-in-Err-child-clause-goes : goal.returns-in-Err-child-clause-goes
returns-in-Err-child-clause-goes g c =
    goes-then g.P.Pairs.told c.args.pairs.now c.find_directory.new.pairs c.child.new.pairs 0 0 c.find_directory.ensures.goes
    c.child.ensures.goes

pub returns-in-Err-child-clause-check : goal.returns-in-Err-child-clause-check
returns-in-Err-child-clause-check g c =
    let asked : need_removable c.args.cred.now (seen c.in-Ok.d) c.args.a.now.name ≡ Ok tt =
    ap (λ (name : List ℕ). need_removable c.args.cred.now (seen c.in-Ok.d) name) (sym c.as_slice-name.ensures)
    ∙ sym c.in-Ok-need_removable.ensures in
    check-behind g.P.Pairs.told IsObject (IsRemoval c.args.a.now.name)
    (λ t. child_at t (Live (fileid_at c.in-Ok.d.place)) c.args.a.now.name)
    (λ t. remove_plan t c.args.cred.now c.args.a.now) c.args.pairs.now c.find_directory.new.pairs c.child.new.pairs 0
    (IsPlaceOf c.args.a.now c.in-Ok.d) (IsOf c.in-Ok.d.attributes.fsid) c.find_directory.ensures.goes c.child.ensures.goes
    (checked-at g.P.Pairs.told c.args.pairs.now c.find_directory.new.pairs IsSound IsObject
    (λ directory name t. find_directory t (record { directory = directory; name = name })) (Ok c.in-Ok.d) c.as_slice.ensures
    c.as_slice-name.ensures c.in-Ok.ensures.check)
    (λ t sound known. found_fsid t c.in-Ok.d known.0 known.2 c.in-Ok.ensures.place.live)
    (λ t status known refused. remove_lacks t c.args.cred.now c.args.a.now c.in-Ok.d known.0 known.1 known.2 asked
    c.in-Ok.ensures.place.live status refused) c.in-Err-child.halt
    (checked-at g.P.Pairs.told c.find_directory.new.pairs c.child.new.pairs (IsOf c.in-Ok.d.attributes.fsid) IsObject
    (λ id name t. child_at t (Live id) name) (Err c.in-Err-child.halt) c.fileid.ensures c.as_slice-name.ensures
    c.in-Err-child.ensures.check)

pub returns-then-is_directory-clause-goes : goal.returns-then-is_directory-clause-goes
returns-then-is_directory-clause-goes g c =
    goes-then g.P.Pairs.told c.args.pairs.now c.find_directory.new.pairs c.child.new.pairs 0 0 c.find_directory.ensures.goes
    c.child.ensures.goes

pub returns-then-is_directory-clause-check : goal.returns-then-is_directory-clause-check
returns-then-is_directory-clause-check g c =
    let asked : need_removable c.args.cred.now (seen c.in-Ok.d) c.args.a.now.name ≡ Ok tt =
    ap (λ (name : List ℕ). need_removable c.args.cred.now (seen c.in-Ok.d) name) (sym c.as_slice-name.ensures)
    ∙ sym c.in-Ok-need_removable.ensures in
    reads-more g.P.Pairs.told c.args.pairs.now c.child.new.pairs IsSound IsSound
    (λ t. IsPlaceOf c.args.a.now c.in-Ok.d t × IsChild (fileid_at c.in-Ok.d.place) c.args.a.now.name c.in-Ok-child.o t)
    (λ t. remove_plan t c.args.cred.now c.args.a.now ≡ Err IsDir) (λ t sound. sound)
    (λ t sound known. remove_ends t c.args.cred.now c.args.a.now c.in-Ok.d known.0.0 known.0.1 known.0.2 asked
    c.in-Ok.ensures.place.live c.in-Ok-child.o known.1.0 known.1.1 known.1.2 true
    (sym c.is_directory.ensures ∙ c.if-is_directory.true))
    (gathers g.P.Pairs.told c.args.pairs.now c.find_directory.new.pairs c.child.new.pairs (IsPlaceOf c.args.a.now c.in-Ok.d)
    (IsOf c.in-Ok.d.attributes.fsid) c.child.ensures.goes
    (checked-at g.P.Pairs.told c.args.pairs.now c.find_directory.new.pairs IsSound IsObject
    (λ directory name t. find_directory t (record { directory = directory; name = name })) (Ok c.in-Ok.d) c.as_slice.ensures
    c.as_slice-name.ensures c.in-Ok.ensures.check)
    (λ t sound known. found_fsid t c.in-Ok.d known.0 known.2 c.in-Ok.ensures.place.live)
    (IsChild (fileid_at c.in-Ok.d.place) c.args.a.now.name c.in-Ok-child.o)
    (checked-at g.P.Pairs.told c.find_directory.new.pairs c.child.new.pairs (IsOf c.in-Ok.d.attributes.fsid) IsObject
    (λ id name t. child_at t (Live id) name) (Ok c.in-Ok-child.o) c.fileid.ensures c.as_slice-name.ensures
    c.in-Ok-child.ensures.check))

pub returns-clause-goes : goal.returns-clause-goes
returns-clause-goes g c =
    goes-then g.P.Pairs.told c.args.pairs.now c.find_directory.new.pairs c.child.new.pairs 0 0 c.find_directory.ensures.goes
    c.child.ensures.goes

pub returns-clause-check : goal.returns-clause-check
returns-clause-check g c =
    let asked : need_removable c.args.cred.now (seen c.in-Ok.d) c.args.a.now.name ≡ Ok tt =
    ap (λ (name : List ℕ). need_removable c.args.cred.now (seen c.in-Ok.d) name) (sym c.as_slice-name.ensures)
    ∙ sym c.in-Ok-need_removable.ensures in
    subst (λ (x : Removal). CheckedOn g.P.Pairs.told c.args.pairs.now c.child.new.pairs IsSound (IsRemoval c.args.a.now.name)
    (λ t. remove_plan t c.args.cred.now c.args.a.now) (Ok x)) (sym c.removal_of.ensures)
    (reads-more g.P.Pairs.told c.args.pairs.now c.child.new.pairs IsSound IsSound
    (λ t. IsPlaceOf c.args.a.now c.in-Ok.d t × IsChild (fileid_at c.in-Ok.d.place) c.args.a.now.name c.in-Ok-child.o t)
    (λ t. (plan : RemovePlan) × (remove_plan t c.args.cred.now c.args.a.now ≡ Ok plan)
    × IsRemoval c.args.a.now.name t (removal_of c.in-Ok.d c.in-Ok-child.o) plan) (λ t sound. sound)
    (λ t sound known. remove_plans t c.args.cred.now c.args.a.now c.in-Ok.d known.0.0 known.0.1 known.0.2 asked
    c.in-Ok.ensures.place.live c.in-Ok-child.o known.1.0 known.1.1 known.1.2 sound c.in-Ok.ensures.place.directory
    c.in-Ok-child.ensures.live (sym c.is_directory.ensures ∙ c.if-is_directory.false))
    (gathers g.P.Pairs.told c.args.pairs.now c.find_directory.new.pairs c.child.new.pairs (IsPlaceOf c.args.a.now c.in-Ok.d)
    (IsOf c.in-Ok.d.attributes.fsid) c.child.ensures.goes
    (checked-at g.P.Pairs.told c.args.pairs.now c.find_directory.new.pairs IsSound IsObject
    (λ directory name t. find_directory t (record { directory = directory; name = name })) (Ok c.in-Ok.d) c.as_slice.ensures
    c.as_slice-name.ensures c.in-Ok.ensures.check)
    (λ t sound known. found_fsid t c.in-Ok.d known.0 known.2 c.in-Ok.ensures.place.live)
    (IsChild (fileid_at c.in-Ok.d.place) c.args.a.now.name c.in-Ok-child.o)
    (checked-at g.P.Pairs.told c.find_directory.new.pairs c.child.new.pairs (IsOf c.in-Ok.d.attributes.fsid) IsObject
    (λ id name t. child_at t (Live id) name) (Ok c.in-Ok-child.o) c.fileid.ensures c.as_slice-name.ensures
    c.in-Ok-child.ensures.check)))

pub returns-clause-short : goal.returns-clause-short
returns-clause-short g c =
    subst (λ (name : List ℕ). length name ≤ longest_name) c.as_slice-name.ensures c.in-Ok.ensures.place.short
