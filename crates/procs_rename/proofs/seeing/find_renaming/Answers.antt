-- What both handles lead to, then what has the old name, then what has the new one.
use Rattle.std.proofs.Common.{◌≡◌, ◌≤◌, List, ℕ, Ok, Err, length, sym, subst}
use Rattle.fs_rules.specs.declared.place.Place.TheVariants.{Live as LivePlace}
use Rattle.fs_rules.specs.Limits.{longest_name}
use Rattle.fs_rules.specs.Places.{Object, entry_at, fileid_at}
use Rattle.fs_rules.specs.Renaming.{rename_plan, target_at}
use Rattle.fs_rules.specs.Sound.{IsSound}
use Rattle.fs_rules.specs.Tree.{Tree}
use Rattle.fs_shows.specs.Steps.{Reads}
use Rattle.fs_shows.proofs.Doing.{goes-then}
use Rattle.procs_object.specs.Finding.{IsLed, CheckedOn}
use Rattle.procs_object.proofs.Gathering.{gathers, gathers-up}
use Rattle.procs_object.proofs.Reading.{reads-more}
use Rattle.procs_rename.specs.Seeing.{AreEnds, source_at, IsNamed, IsSeen}
use Rattle.procs_rename.proofs.Gathered.{ended-so, ends-behind}
use Rattle.procs_rename.proofs.Sights.{ends-fsid, source-refused, all-seen}
use Rattle.procs_rename.proofs.seeing.find_renaming.Goals as goal

pub returns-in-Err-clause-sees : goal.returns-in-Err-clause-sees
returns-in-Err-clause-sees g c =
    ended-so g.P.Pairs.told c.args.pairs.now c.find_ends.new.pairs (AreEnds c.args.cred.now c.args.a.now)
    (IsSeen c.args.cred.now c.args.a.now) (λ t. rename_plan t c.args.cred.now c.args.a.now) c.in-Err.halt c.in-Err.ensures.sees

pub find_source-requires : goal.find_source-requires
find_source-requires g c =
    subst (λ (name : List ℕ). length name ≤ longest_name) (sym c.as_slice.ensures) c.in-Ok.ensures.open.short.from

pub returns-in-Err-find_source-clause-sees : goal.returns-in-Err-find_source-clause-sees
returns-in-Err-find_source-clause-sees g c =
    let a = c.args.a.now in
    let cred = c.args.cred.now in
    let ends = c.in-Ok.ends in
    let Given : Tree → Type 0 = λ t. t.fsid ≡ ends.from.attributes.fsid in
    let P : ℕ → List ℕ → Type 0 = λ d name.
    CheckedOn g.P.Pairs.told c.find_ends.new.pairs c.find_source.new.pairs Given (IsNamed d name) (λ t. source_at t d name)
    (Err c.in-Err-find_source.halt) in
    ends-behind g.P.Pairs.told c.args.pairs.now c.find_ends.new.pairs c.find_source.new.pairs (AreEnds cred a ends) Given
    (IsNamed (fileid_at ends.from.place) a.from.name) (λ t. source_at t (fileid_at ends.from.place) a.from.name)
    (IsSeen cred a) (λ t. rename_plan t cred a) c.in-Ok.ensures.goes c.in-Err-find_source.ensures.goes c.in-Ok.ensures.sees
    (λ t sound learned. ends-fsid t cred a ends learned c.in-Ok.ensures.open)
    (λ t status sound learned refused. source-refused t cred a ends learned c.in-Ok.ensures.open status refused)
    c.in-Err-find_source.halt
    (subst (λ (d : ℕ). P d a.from.name) c.fileid.ensures
    (subst (λ (name : List ℕ). P c.fileid.result name) c.as_slice.ensures c.in-Err-find_source.ensures.check))

pub find_target-requires : goal.find_target-requires
find_target-requires g c =
    subst (λ (name : List ℕ). length name ≤ longest_name) (sym c.as_slice-2.ensures) c.in-Ok.ensures.open.short.to

pub returns-in-Err-find_target-clause-sees : goal.returns-in-Err-find_target-clause-sees
returns-in-Err-find_target-clause-sees g c =
    let a = c.args.a.now in
    let cred = c.args.cred.now in
    let ends = c.in-Ok.ends in
    gathers-up g.P.Pairs.told c.args.pairs.now c.find_source.new.pairs c.find_target.new.pairs
    (λ t. AreEnds cred a ends t × ((o : Object) × (source_at t c.fileid.result c.as_slice.result.now ≡ Ok o)
    × IsNamed c.fileid.result c.as_slice.result.now t c.in-Ok-find_source.source o))
    (λ (t : Tree). t.fsid ≡ ends.from.attributes.fsid) c.in-Err-find_target.ensures.goes
    (gathers g.P.Pairs.told c.args.pairs.now c.find_ends.new.pairs c.find_source.new.pairs (AreEnds cred a ends)
    (λ (t : Tree). t.fsid ≡ ends.from.attributes.fsid) c.in-Ok-find_source.ensures.goes c.in-Ok.ensures.sees
    (λ t sound learned. ends-fsid t cred a ends learned c.in-Ok.ensures.open)
    (λ t. (o : Object) × (source_at t c.fileid.result c.as_slice.result.now ≡ Ok o)
    × IsNamed c.fileid.result c.as_slice.result.now t c.in-Ok-find_source.source o)
    c.in-Ok-find_source.ensures.check)
    (λ t sound learned. ends-fsid t cred a ends learned.0 c.in-Ok.ensures.open) 0
    (goes-then g.P.Pairs.told c.args.pairs.now c.find_ends.new.pairs c.find_source.new.pairs 0 0 c.in-Ok.ensures.goes
    c.in-Ok-find_source.ensures.goes) c.in-Err-find_target.fault c.in-Err-find_target.ensures.fault

pub returns-clause-sees : goal.returns-clause-sees
returns-clause-sees g c =
    let a = c.args.a.now in
    let cred = c.args.cred.now in
    let ends = c.in-Ok.ends in
    let source = c.in-Ok-find_source.source in
    let target = c.in-Ok-find_target.target in
    let Given : Tree → Type 0 = λ t. t.fsid ≡ ends.from.attributes.fsid in
    let S : ℕ → List ℕ → Tree → Type 0 = λ d name t. (o : Object) × (source_at t d name ≡ Ok o) × IsNamed d name t source o in
    let T : ℕ → List ℕ → Tree → Type 0 = λ d name t. IsLed t target (target_at t (entry_at t (LivePlace d) name)) in
    let P : ℕ → List ℕ → Type 0 = λ d name. Reads g.P.Pairs.told c.find_ends.new.pairs c.find_source.new.pairs Given (S d name) in
    let Q : ℕ → List ℕ → Type 0 = λ d name. Reads g.P.Pairs.told c.find_source.new.pairs c.find_target.new.pairs Given
    (T d name) in
    let d = fileid_at ends.from.place in
    let e = fileid_at ends.to.place in
    reads-more g.P.Pairs.told c.args.pairs.now c.find_target.new.pairs IsSound IsSound
    (λ t. (AreEnds cred a ends t × S d a.from.name t) × T e a.to.name t)
    (IsSeen cred a (record { from = ends.from; to = ends.to; source = source; target = target })) (λ t sound. sound)
    (λ t sound learned. all-seen t cred a ends learned.0.0 c.in-Ok.ensures.open source target learned.0.1.0 learned.0.1.1
    learned.0.1.2 learned.1)
    (gathers g.P.Pairs.told c.args.pairs.now c.find_source.new.pairs c.find_target.new.pairs
    (λ t. AreEnds cred a ends t × S d a.from.name t) Given c.in-Ok-find_target.ensures.goes
    (gathers g.P.Pairs.told c.args.pairs.now c.find_ends.new.pairs c.find_source.new.pairs (AreEnds cred a ends) Given
    c.in-Ok-find_source.ensures.goes c.in-Ok.ensures.sees
    (λ t sound learned. ends-fsid t cred a ends learned c.in-Ok.ensures.open) (S d a.from.name)
    (subst (λ (d : ℕ). P d a.from.name) c.fileid.ensures
    (subst (λ (name : List ℕ). P c.fileid.result name) c.as_slice.ensures c.in-Ok-find_source.ensures.check)))
    (λ t sound learned. ends-fsid t cred a ends learned.0 c.in-Ok.ensures.open) (T e a.to.name)
    (subst (λ (d : ℕ). Q d a.to.name) c.fileid-2.ensures
    (subst (λ (name : List ℕ). Q c.fileid-2.result name) c.as_slice-2.ensures c.in-Ok-find_target.ensures.ok)))

pub returns-clause-open : goal.returns-clause-open
returns-clause-open g c = record {
  ends = c.in-Ok.ensures.open;
  source = c.in-Ok-find_source.ensures.live;
  target = c.in-Ok-find_target.ensures.live;
}
