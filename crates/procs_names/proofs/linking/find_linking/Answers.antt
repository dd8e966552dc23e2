-- The file and the directory are found and asked, and then whether the directory has the name.
use Rattle.std.proofs.Common.{◌≡◌, ◌∙◌, ℕ, ◌≤◌, Bool, false, List, length, sym, ap, subst, Ok, Err}
use Rattle.std.specs.Prelude.{is_some}
use Rattle.pairs.specs.declared.at.At.TheVariants.{Live as LiveView}
use Rattle.fs_rules.specs.declared.plans.LinkPlan.{LinkPlan}
use Rattle.fs_rules.specs.Attributes.{is_directory}
use Rattle.fs_rules.specs.Checks.{find_object}
use Rattle.fs_rules.specs.Limits.{longest_name}
use Rattle.fs_rules.specs.Places.{fileid_at}
use Rattle.fs_rules.specs.Renaming.{link_plan}
use Rattle.fs_rules.specs.Sound.{IsSound}
use Rattle.fs_shows.specs.Steps.{Reads}
use Rattle.fs_shows.specs.Views.{IsKept}
use Rattle.fs_shows.proofs.Doing.{goes-then}
use Rattle.procs_object.specs.Finding.{CheckedOn, IsObject}
use Rattle.procs_object.proofs.Gathering.{gathers, gathers-up}
use Rattle.procs_object.proofs.Reading.{reads-more}
use Rattle.procs_names.specs.declared.linking.Linking.{Linking}
use Rattle.procs_names.specs.Naming.{IsLinking, is_taken_by, linking_of, need_linkable, need_room, seen}
use Rattle.procs_names.proofs.Knowing.{check-behind, check-halted, checked-as}
use Rattle.procs_names.proofs.Checked.{IsSeen}
use Rattle.procs_names.proofs.Joined.{HasRow, link_halted, link_lacks, link_lost, link_plans, link_refused}
use Rattle.procs_names.proofs.linking.find_linking.Goals as goal

pub returns-in-Err-clause-goes : goal.returns-in-Err-clause-goes
returns-in-Err-clause-goes g c = c.see.ensures.goes

pub returns-in-Err-clause-check : goal.returns-in-Err-clause-check
returns-in-Err-clause-check g c =
    check-halted g.P.Pairs.told IsObject (IsLinking c.args.a.now.link.name) (λ t. find_object t c.args.a.now.file)
    (λ t. link_plan t c.args.cred.now c.args.a.now) c.args.pairs.now c.see.new.pairs IsSound
    (λ t status refused. link_halted t c.args.cred.now c.args.a.now status refused) c.in-Err.halt
    (checked-as g.P.Pairs.told c.args.pairs.now c.see.new.pairs IsSound IsObject (λ handle t. find_object t handle)
    (Err c.in-Err.halt) c.as_slice.ensures c.in-Err.ensures.check)

pub returns-in-Err-see-clause-goes : goal.returns-in-Err-see-clause-goes
returns-in-Err-see-clause-goes g c =
    goes-then g.P.Pairs.told c.args.pairs.now c.see.new.pairs c.see-2.new.pairs 0 0 c.see.ensures.goes c.see-2.ensures.goes

pub returns-in-Err-see-clause-check : goal.returns-in-Err-see-clause-check
returns-in-Err-see-clause-check g c =
    check-behind g.P.Pairs.told IsObject (IsLinking c.args.a.now.link.name) (λ t. find_object t c.args.a.now.link.directory)
    (λ t. link_plan t c.args.cred.now c.args.a.now) c.args.pairs.now c.see.new.pairs c.see-2.new.pairs 0
    (IsSeen c.args.a.now.file c.in-Ok.file) IsSound c.see.ensures.goes c.see-2.ensures.goes
    (checked-as g.P.Pairs.told c.args.pairs.now c.see.new.pairs IsSound IsObject (λ handle t. find_object t handle)
    (Ok c.in-Ok.file) c.as_slice.ensures c.in-Ok.ensures.check)
    (λ t sound known. sound)
    (λ t status known refused. link_lost t c.args.cred.now c.args.a.now c.in-Ok.file known.0 known.1 known.2 status refused)
    c.in-Err-see.halt
    (checked-as g.P.Pairs.told c.see.new.pairs c.see-2.new.pairs IsSound IsObject (λ handle t. find_object t handle)
    (Err c.in-Err-see.halt) c.as_slice-2.ensures c.in-Err-see.ensures.check)

pub returns-in-Err-need_linkable-clause-goes : goal.returns-in-Err-need_linkable-clause-goes
returns-in-Err-need_linkable-clause-goes g c =
    goes-then g.P.Pairs.told c.args.pairs.now c.see.new.pairs c.see-2.new.pairs 0 0 c.see.ensures.goes c.see-2.ensures.goes

pub returns-in-Err-need_linkable-clause-check : goal.returns-in-Err-need_linkable-clause-check
returns-in-Err-need_linkable-clause-check g c =
    reads-more g.P.Pairs.told c.args.pairs.now c.see-2.new.pairs IsSound IsSound
    (λ t. IsSeen c.args.a.now.file c.in-Ok.file t × IsSeen c.args.a.now.link.directory c.in-Ok-see.d t)
    (λ t. link_plan t c.args.cred.now c.args.a.now ≡ Err c.in-Err-need_linkable.status) (λ t sound. sound)
    (λ t sound known. link_refused t c.args.cred.now c.args.a.now c.in-Ok.file known.0.0 known.0.1 known.0.2 c.in-Ok-see.d
    known.1.0 known.1.1 known.1.2 c.in-Err-need_linkable.status
    (ap (λ (name : List ℕ). need_linkable c.args.cred.now (seen c.in-Ok.file) (seen c.in-Ok-see.d) name)
    (sym c.as_slice-name.ensures) ∙ sym c.in-Err-need_linkable.ensures.check))
    (gathers g.P.Pairs.told c.args.pairs.now c.see.new.pairs c.see-2.new.pairs (IsSeen c.args.a.now.file c.in-Ok.file) IsSound
    c.see-2.ensures.goes
    (checked-as g.P.Pairs.told c.args.pairs.now c.see.new.pairs IsSound IsObject (λ handle t. find_object t handle)
    (Ok c.in-Ok.file) c.as_slice.ensures c.in-Ok.ensures.check)
    (λ t sound known. sound) (IsSeen c.args.a.now.link.directory c.in-Ok-see.d)
    (checked-as g.P.Pairs.told c.see.new.pairs c.see-2.new.pairs IsSound IsObject (λ handle t. find_object t handle)
    (Ok c.in-Ok-see.d) c.as_slice-2.ensures c.in-Ok-see.ensures.check))

pub look_up-requires : goal.look_up-requires
look_up-requires g c = c.in-Ok-need_linkable.ensures.short

pub returns-in-Err-look_up-clause-goes : goal.returns-in-Err-look_up-clause-goes
returns-in-Err-look_up-clause-goes g c =
    goes-then g.P.Pairs.told c.args.pairs.now c.see-2.new.pairs c.look_up.new.pairs 0 0
    (goes-then g.P.Pairs.told c.args.pairs.now c.see.new.pairs c.see-2.new.pairs 0 0 c.see.ensures.goes
    c.see-2.ensures.goes) c.look_up.ensures.goes

pub returns-in-Err-look_up-clause-check : goal.returns-in-Err-look_up-clause-check
returns-in-Err-look_up-clause-check g c =
    gathers-up g.P.Pairs.told c.args.pairs.now c.see-2.new.pairs c.look_up.new.pairs
    (λ t. IsSeen c.args.a.now.file c.in-Ok.file t × IsSeen c.args.a.now.link.directory c.in-Ok-see.d t) (IsKept LiveView)
    c.look_up.ensures.goes
    (gathers g.P.Pairs.told c.args.pairs.now c.see.new.pairs c.see-2.new.pairs (IsSeen c.args.a.now.file c.in-Ok.file) IsSound
    c.see-2.ensures.goes
    (checked-as g.P.Pairs.told c.args.pairs.now c.see.new.pairs IsSound IsObject (λ handle t. find_object t handle)
    (Ok c.in-Ok.file) c.as_slice.ensures c.in-Ok.ensures.check)
    (λ t sound known. sound) (IsSeen c.args.a.now.link.directory c.in-Ok-see.d)
    (checked-as g.P.Pairs.told c.see.new.pairs c.see-2.new.pairs IsSound IsObject (λ handle t. find_object t handle)
    (Ok c.in-Ok-see.d) c.as_slice-2.ensures c.in-Ok-see.ensures.check))
    (λ t sound known. tt) 0 (goes-then g.P.Pairs.told c.args.pairs.now c.see.new.pairs c.see-2.new.pairs 0 0 c.see.ensures.goes
    c.see-2.ensures.goes) c.in-Err-look_up.fault c.in-Err-look_up.ensures.fault

pub returns-clause-goes : goal.returns-clause-goes
returns-clause-goes g c =
    goes-then g.P.Pairs.told c.args.pairs.now c.see-2.new.pairs c.look_up.new.pairs 0 0
    (goes-then g.P.Pairs.told c.args.pairs.now c.see.new.pairs c.see-2.new.pairs 0 0 c.see.ensures.goes
    c.see-2.ensures.goes) c.look_up.ensures.goes

pub returns-clause-check : goal.returns-clause-check
returns-clause-check g c =
    let asked : need_linkable c.args.cred.now (seen c.in-Ok.file) (seen c.in-Ok-see.d) c.args.a.now.link.name ≡ Ok tt =
    ap (λ (name : List ℕ). need_linkable c.args.cred.now (seen c.in-Ok.file) (seen c.in-Ok-see.d) name)
    (sym c.as_slice-name.ensures) ∙ sym c.in-Ok-need_linkable.ensures.check in
    reads-more g.P.Pairs.told c.args.pairs.now c.look_up.new.pairs IsSound IsSound
    (λ t. (IsSeen c.args.a.now.file c.in-Ok.file t × IsSeen c.args.a.now.link.directory c.in-Ok-see.d t)
    × HasRow (fileid_at c.in-Ok-see.d.place) c.args.a.now.link.name c.in-Ok-look_up.found t)
    (λ t. link_plan t c.args.cred.now c.args.a.now ≡ Err c.in-Err-need_room.status) (λ t sound. sound)
    (λ t sound known. link_lacks t c.args.cred.now c.args.a.now c.in-Ok.file known.0.0.0 known.0.0.1 known.0.0.2
    c.in-Ok-see.d known.0.1.0 known.0.1.1 known.0.1.2 asked c.in-Ok-need_linkable.ensures.live c.in-Ok-look_up.found known.1
    c.in-Err-need_room.status (ap (λ (name : List ℕ). need_room c.args.cred.now (seen c.in-Ok.file) (seen c.in-Ok-see.d)
    (is_taken_by c.in-Ok-see.d.place name (is_some c.in-Ok-look_up.found))) (sym c.as_slice-name.ensures)
    ∙ ap (λ (b : Bool). need_room c.args.cred.now (seen c.in-Ok.file) (seen c.in-Ok-see.d)
    (is_taken_by c.in-Ok-see.d.place c.as_slice-name.result.now b)) (sym c.is_some.ensures)
    ∙ ap (λ (b : Bool). need_room c.args.cred.now (seen c.in-Ok.file) (seen c.in-Ok-see.d) b) (sym c.is_taken.ensures)
    ∙ sym c.in-Err-need_room.ensures))
    (gathers g.P.Pairs.told c.args.pairs.now c.see-2.new.pairs c.look_up.new.pairs
    (λ t. IsSeen c.args.a.now.file c.in-Ok.file t × IsSeen c.args.a.now.link.directory c.in-Ok-see.d t) (IsKept LiveView)
    c.look_up.ensures.goes
    (gathers g.P.Pairs.told c.args.pairs.now c.see.new.pairs c.see-2.new.pairs (IsSeen c.args.a.now.file c.in-Ok.file) IsSound
    c.see-2.ensures.goes
    (checked-as g.P.Pairs.told c.args.pairs.now c.see.new.pairs IsSound IsObject (λ handle t. find_object t handle)
    (Ok c.in-Ok.file) c.as_slice.ensures c.in-Ok.ensures.check)
    (λ t sound known. sound) (IsSeen c.args.a.now.link.directory c.in-Ok-see.d)
    (checked-as g.P.Pairs.told c.see.new.pairs c.see-2.new.pairs IsSound IsObject (λ handle t. find_object t handle)
    (Ok c.in-Ok-see.d) c.as_slice-2.ensures c.in-Ok-see.ensures.check))
    (λ t sound known. tt) (HasRow (fileid_at c.in-Ok-see.d.place) c.args.a.now.link.name c.in-Ok-look_up.found)
    (subst (λ (name : List ℕ). Reads g.P.Pairs.told c.see-2.new.pairs c.look_up.new.pairs (IsKept LiveView)
    (HasRow (fileid_at c.in-Ok-see.d.place) name c.in-Ok-look_up.found)) c.as_slice-name.ensures
    (subst (λ (id : ℕ). Reads g.P.Pairs.told c.see-2.new.pairs c.look_up.new.pairs (IsKept LiveView)
    (HasRow id c.as_slice-name.result.now c.in-Ok-look_up.found)) c.fileid.ensures c.in-Ok-look_up.ensures.ok)))

pub returns-in-Ok-need_room-clause-goes : goal.returns-in-Ok-need_room-clause-goes
returns-in-Ok-need_room-clause-goes g c =
    goes-then g.P.Pairs.told c.args.pairs.now c.see-2.new.pairs c.look_up.new.pairs 0 0
    (goes-then g.P.Pairs.told c.args.pairs.now c.see.new.pairs c.see-2.new.pairs 0 0 c.see.ensures.goes
    c.see-2.ensures.goes) c.look_up.ensures.goes

pub returns-in-Ok-need_room-clause-check : goal.returns-in-Ok-need_room-clause-check
returns-in-Ok-need_room-clause-check g c =
    let asked : need_linkable c.args.cred.now (seen c.in-Ok.file) (seen c.in-Ok-see.d) c.args.a.now.link.name ≡ Ok tt =
    ap (λ (name : List ℕ). need_linkable c.args.cred.now (seen c.in-Ok.file) (seen c.in-Ok-see.d) name)
    (sym c.as_slice-name.ensures) ∙ sym c.in-Ok-need_linkable.ensures.check in
    subst (λ (x : Linking). CheckedOn g.P.Pairs.told c.args.pairs.now c.look_up.new.pairs IsSound
    (IsLinking c.args.a.now.link.name) (λ t. link_plan t c.args.cred.now c.args.a.now) (Ok x)) (sym c.linking_of.ensures)
    (reads-more g.P.Pairs.told c.args.pairs.now c.look_up.new.pairs IsSound IsSound
    (λ t. (IsSeen c.args.a.now.file c.in-Ok.file t × IsSeen c.args.a.now.link.directory c.in-Ok-see.d t)
    × HasRow (fileid_at c.in-Ok-see.d.place) c.args.a.now.link.name c.in-Ok-look_up.found t)
    (λ t. (plan : LinkPlan) × (link_plan t c.args.cred.now c.args.a.now ≡ Ok plan)
    × IsLinking c.args.a.now.link.name t (linking_of c.in-Ok.file c.in-Ok-see.d) plan) (λ t sound. sound)
    (λ t sound known. link_plans t c.args.cred.now c.args.a.now c.in-Ok.file known.0.0.0 known.0.0.1 known.0.0.2
    c.in-Ok-see.d known.0.1.0 known.0.1.1 known.0.1.2 asked c.in-Ok-need_linkable.ensures.live c.in-Ok-look_up.found known.1
    c.in-Ok-need_linkable.ensures.plain c.in-Ok-need_linkable.ensures.directory c.in-Ok-need_linkable.ensures.file
    (ap (λ (name : List ℕ). need_room c.args.cred.now (seen c.in-Ok.file) (seen c.in-Ok-see.d)
    (is_taken_by c.in-Ok-see.d.place name (is_some c.in-Ok-look_up.found))) (sym c.as_slice-name.ensures)
    ∙ ap (λ (b : Bool). need_room c.args.cred.now (seen c.in-Ok.file) (seen c.in-Ok-see.d)
    (is_taken_by c.in-Ok-see.d.place c.as_slice-name.result.now b)) (sym c.is_some.ensures)
    ∙ ap (λ (b : Bool). need_room c.args.cred.now (seen c.in-Ok.file) (seen c.in-Ok-see.d) b) (sym c.is_taken.ensures)
    ∙ sym c.in-Ok-need_room.ensures))
    (gathers g.P.Pairs.told c.args.pairs.now c.see-2.new.pairs c.look_up.new.pairs
    (λ t. IsSeen c.args.a.now.file c.in-Ok.file t × IsSeen c.args.a.now.link.directory c.in-Ok-see.d t) (IsKept LiveView)
    c.look_up.ensures.goes
    (gathers g.P.Pairs.told c.args.pairs.now c.see.new.pairs c.see-2.new.pairs (IsSeen c.args.a.now.file c.in-Ok.file) IsSound
    c.see-2.ensures.goes
    (checked-as g.P.Pairs.told c.args.pairs.now c.see.new.pairs IsSound IsObject (λ handle t. find_object t handle)
    (Ok c.in-Ok.file) c.as_slice.ensures c.in-Ok.ensures.check)
    (λ t sound known. sound) (IsSeen c.args.a.now.link.directory c.in-Ok-see.d)
    (checked-as g.P.Pairs.told c.see.new.pairs c.see-2.new.pairs IsSound IsObject (λ handle t. find_object t handle)
    (Ok c.in-Ok-see.d) c.as_slice-2.ensures c.in-Ok-see.ensures.check))
    (λ t sound known. tt) (HasRow (fileid_at c.in-Ok-see.d.place) c.args.a.now.link.name c.in-Ok-look_up.found)
    (subst (λ (name : List ℕ). Reads g.P.Pairs.told c.see-2.new.pairs c.look_up.new.pairs (IsKept LiveView)
    (HasRow (fileid_at c.in-Ok-see.d.place) name c.in-Ok-look_up.found)) c.as_slice-name.ensures
    (subst (λ (id : ℕ). Reads g.P.Pairs.told c.see-2.new.pairs c.look_up.new.pairs (IsKept LiveView)
    (HasRow id c.as_slice-name.result.now c.in-Ok-look_up.found)) c.fileid.ensures c.in-Ok-look_up.ensures.ok))))

pub returns-in-Ok-need_room-clause-short : goal.returns-in-Ok-need_room-clause-short
returns-in-Ok-need_room-clause-short g c =
    subst (λ (name : List ℕ). length name ≤ longest_name) c.as_slice-name.ensures c.in-Ok-need_linkable.ensures.short

pub returns-in-Ok-need_room-clause-plain : goal.returns-in-Ok-need_room-clause-plain
returns-in-Ok-need_room-clause-plain g c =
    subst (λ (x : Linking). is_directory x.kind ≡ false) (sym c.linking_of.ensures) c.in-Ok-need_linkable.ensures.plain
