-- What is found is looked at, and then whether it can be done.
use Rattle.std.proofs.Common.{◌≡◌, Ok}
use Rattle.fs_rules.specs.Renaming.{rename_plan}
use Rattle.fs_rules.specs.Sound.{IsSound}
use Rattle.procs_object.proofs.Gathering.{gathers}
use Rattle.procs_object.proofs.Reading.{reads-more}
use Rattle.procs_rename.specs.Seeing.{IsSeen, renaming_by, other_room, IsPlanned}
use Rattle.procs_rename.proofs.Gathered.{ended-so, ends-behind}
use Rattle.procs_rename.proofs.Plans.{plan-refused, planned-as}
use Rattle.procs_rename.proofs.planning.make_plan.Goals as goal

pub returns-in-Err-clause-sees : goal.returns-in-Err-clause-sees
returns-in-Err-clause-sees g c =
    ended-so g.P.Pairs.told c.args.pairs.now c.find_renaming.new.pairs (IsSeen c.args.cred.now c.args.a.now)
    (IsPlanned c.args.cred.now c.args.a.now) (λ t. rename_plan t c.args.cred.now c.args.a.now) c.in-Err.halt c.in-Err.ensures.sees

pub need_other_room-requires : goal.need_other_room-requires
need_other_room-requires g c = c.in-Ok.ensures.open.target

pub returns-in-Err-need_other_room-clause-sees : goal.returns-in-Err-need_other_room-clause-sees
returns-in-Err-need_other_room-clause-sees g c =
    let a = c.args.a.now in
    let cred = c.args.cred.now in
    let x = c.in-Ok.x in
    ends-behind g.P.Pairs.told c.args.pairs.now c.find_renaming.new.pairs c.need_other_room.new.pairs (IsSeen cred a x) IsSound
    (λ t (u v : Unit {0}). u ≡ v) (λ t. other_room t (renaming_by x)) (IsPlanned cred a) (λ t. rename_plan t cred a)
    c.in-Ok.ensures.goes c.in-Err-need_other_room.ensures.goes c.in-Ok.ensures.sees (λ t sound learned. sound)
    (λ t status sound learned refused. plan-refused t cred a x learned status refused) c.in-Err-need_other_room.halt
    c.in-Err-need_other_room.ensures.check

pub returns-clause-sees : goal.returns-clause-sees
returns-clause-sees g c =
    let a = c.args.a.now in
    let cred = c.args.cred.now in
    let x = c.in-Ok.x in
    reads-more g.P.Pairs.told c.args.pairs.now c.need_other_room.new.pairs IsSound IsSound
    (λ t. IsSeen cred a x t × ((u : Unit {0}) × (other_room t (renaming_by x) ≡ Ok u) × (tt ≡ u)))
    (IsPlanned cred a (record { plan = c.plan_of.result; from = x.from.attributes; to = x.to.attributes })) (λ t sound. sound)
    (λ t sound learned. planned-as t cred a x learned.0 c.in-Ok.ensures.open sound learned.1.0 learned.1.1 c.plan_of.result
    c.plan_of.ensures)
    (gathers g.P.Pairs.told c.args.pairs.now c.find_renaming.new.pairs c.need_other_room.new.pairs (IsSeen cred a x) IsSound
    c.in-Ok-need_other_room.ensures.goes c.in-Ok.ensures.sees (λ t sound learned. sound)
    (λ t. (u : Unit {0}) × (other_room t (renaming_by x) ≡ Ok u) × (tt ≡ u)) c.in-Ok-need_other_room.ensures.check)

pub returns-clause-short : goal.returns-clause-short
returns-clause-short g c = c.in-Ok.ensures.open.ends.short
