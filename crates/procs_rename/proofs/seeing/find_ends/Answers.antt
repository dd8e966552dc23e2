-- Both handles are looked at, and then what is found is checked.
use Rattle.std.proofs.Common.{◌≡◌, List, ℕ, Ok, Err, subst}
use Rattle.std.specs.Prelude.{⊤}
use Rattle.fs_rules.specs.Checks.{find_object}
use Rattle.fs_rules.specs.Places.{Object}
use Rattle.fs_rules.specs.Renaming.{rename_plan}
use Rattle.fs_rules.specs.Sound.{IsSound}
use Rattle.fs_shows.proofs.Doing.{goes-none, goes-then}
use Rattle.procs_object.specs.Finding.{IsObject, CheckedOn}
use Rattle.procs_object.proofs.Gathering.{gathers}
use Rattle.procs_object.proofs.Reading.{reads-none, reads-more}
use Rattle.procs_rename.specs.Seeing.{AreEnds}
use Rattle.procs_rename.proofs.Gathered.{ends-behind}
use Rattle.procs_rename.proofs.Sights.{from-refused, to-refused, ends-refused, ends-passed}
use Rattle.procs_rename.proofs.seeing.find_ends.Goals as goal

pub returns-in-Err-clause-sees : goal.returns-in-Err-clause-sees
returns-in-Err-clause-sees g c =
    let a = c.args.a.now in
    let P : List ℕ → Type 0 = λ bytes.
    CheckedOn g.P.Pairs.told c.args.pairs.now c.see.new.pairs IsSound IsObject (λ t. find_object t bytes) (Err c.in-Err.halt) in
    ends-behind g.P.Pairs.told c.args.pairs.now c.args.pairs.now c.see.new.pairs (λ t. ⊤) IsSound IsObject
    (λ t. find_object t a.from.directory) (AreEnds c.args.cred.now a) (λ t. rename_plan t c.args.cred.now a)
    (goes-none g.P.Pairs.told c.args.pairs.now) c.in-Err.ensures.goes
    (reads-none g.P.Pairs.told c.args.pairs.now IsSound (λ t. ⊤) (λ t sound. tt)) (λ t sound learned. sound)
    (λ t status sound learned refused. from-refused t c.args.cred.now a status refused) c.in-Err.halt
    (subst P c.as_slice.ensures c.in-Err.ensures.check)

pub returns-in-Err-see-clause-sees : goal.returns-in-Err-see-clause-sees
returns-in-Err-see-clause-sees g c =
    let a = c.args.a.now in
    let x = c.in-Ok.from in
    let F : List ℕ → Type 0 = λ bytes.
    CheckedOn g.P.Pairs.told c.args.pairs.now c.see.new.pairs IsSound IsObject (λ t. find_object t bytes) (Ok x) in
    let P : List ℕ → Type 0 = λ bytes.
    CheckedOn g.P.Pairs.told c.see.new.pairs c.see-2.new.pairs IsSound IsObject (λ t. find_object t bytes)
    (Err c.in-Err-see.halt) in
    ends-behind g.P.Pairs.told c.args.pairs.now c.see.new.pairs c.see-2.new.pairs
    (λ t. (o : Object) × (find_object t a.from.directory ≡ Ok o) × IsObject t x o) IsSound IsObject
    (λ t. find_object t a.to.directory) (AreEnds c.args.cred.now a) (λ t. rename_plan t c.args.cred.now a)
    c.in-Ok.ensures.goes c.in-Err-see.ensures.goes (subst F c.as_slice.ensures c.in-Ok.ensures.check)
    (λ t sound learned. sound)
    (λ t status sound learned refused. to-refused t c.args.cred.now a learned.0 status learned.1 refused) c.in-Err-see.halt
    (subst P c.as_slice-2.ensures c.in-Err-see.ensures.check)

pub returns-in-Ok-check_ends-clause-sees : goal.returns-in-Ok-check_ends-clause-sees
returns-in-Ok-check_ends-clause-sees g c =
    let a = c.args.a.now in
    let x = c.in-Ok.from in
    let y = c.in-Ok-see.to in
    let F : List ℕ → Type 0 = λ bytes.
    CheckedOn g.P.Pairs.told c.args.pairs.now c.see.new.pairs IsSound IsObject (λ t. find_object t bytes) (Ok x) in
    let P : List ℕ → Type 0 = λ bytes.
    CheckedOn g.P.Pairs.told c.see.new.pairs c.see-2.new.pairs IsSound IsObject (λ t. find_object t bytes) (Ok y) in
    reads-more g.P.Pairs.told c.args.pairs.now c.see-2.new.pairs IsSound IsSound
    (λ t. ((o : Object) × (find_object t a.from.directory ≡ Ok o) × IsObject t x o)
    × ((o : Object) × (find_object t a.to.directory ≡ Ok o) × IsObject t y o))
    (AreEnds c.args.cred.now a (record { from = x; to = y })) (λ t sound. sound)
    (λ t sound learned. ends-passed t c.args.cred.now a learned.0.0 learned.1.0 learned.0.1 learned.1.1 x y learned.0.2
    learned.1.2
    c.in-Ok-check_ends.ensures.check)
    (gathers g.P.Pairs.told c.args.pairs.now c.see.new.pairs c.see-2.new.pairs
    (λ t. (o : Object) × (find_object t a.from.directory ≡ Ok o) × IsObject t x o) IsSound c.in-Ok-see.ensures.goes
    (subst F c.as_slice.ensures c.in-Ok.ensures.check) (λ t sound learned. sound)
    (λ t. (o : Object) × (find_object t a.to.directory ≡ Ok o) × IsObject t y o)
    (subst P c.as_slice-2.ensures c.in-Ok-see.ensures.check))

pub returns-in-Err-check_ends-clause-sees : goal.returns-in-Err-check_ends-clause-sees
returns-in-Err-check_ends-clause-sees g c =
    let a = c.args.a.now in
    let x = c.in-Ok.from in
    let y = c.in-Ok-see.to in
    let F : List ℕ → Type 0 = λ bytes.
    CheckedOn g.P.Pairs.told c.args.pairs.now c.see.new.pairs IsSound IsObject (λ t. find_object t bytes) (Ok x) in
    let P : List ℕ → Type 0 = λ bytes.
    CheckedOn g.P.Pairs.told c.see.new.pairs c.see-2.new.pairs IsSound IsObject (λ t. find_object t bytes) (Ok y) in
    reads-more g.P.Pairs.told c.args.pairs.now c.see-2.new.pairs IsSound IsSound
    (λ t. ((o : Object) × (find_object t a.from.directory ≡ Ok o) × IsObject t x o)
    × ((o : Object) × (find_object t a.to.directory ≡ Ok o) × IsObject t y o))
    (λ t. rename_plan t c.args.cred.now a ≡ Err c.in-Err-check_ends.status) (λ t sound. sound)
    (λ t sound learned. ends-refused t c.args.cred.now a learned.0.0 learned.1.0 learned.0.1 learned.1.1 x y learned.0.2
    learned.1.2 c.in-Err-check_ends.status c.in-Err-check_ends.ensures.check)
    (gathers g.P.Pairs.told c.args.pairs.now c.see.new.pairs c.see-2.new.pairs
    (λ t. (o : Object) × (find_object t a.from.directory ≡ Ok o) × IsObject t x o) IsSound c.in-Ok-see.ensures.goes
    (subst F c.as_slice.ensures c.in-Ok.ensures.check) (λ t sound learned. sound)
    (λ t. (o : Object) × (find_object t a.to.directory ≡ Ok o) × IsObject t y o)
    (subst P c.as_slice-2.ensures c.in-Ok-see.ensures.check))

pub returns-in-Ok-check_ends-clause-open : goal.returns-in-Ok-check_ends-clause-open
returns-in-Ok-check_ends-clause-open g c = c.in-Ok-check_ends.ensures.open

pub returns-in-Ok-check_ends-clause-goes : goal.returns-in-Ok-check_ends-clause-goes
returns-in-Ok-check_ends-clause-goes g c =
    goes-then g.P.Pairs.told c.args.pairs.now c.see.new.pairs c.see-2.new.pairs 0 0 c.see.ensures.goes c.see-2.ensures.goes

pub returns-in-Err-check_ends-clause-goes : goal.returns-in-Err-check_ends-clause-goes
returns-in-Err-check_ends-clause-goes g c =
    goes-then g.P.Pairs.told c.args.pairs.now c.see.new.pairs c.see-2.new.pairs 0 0 c.see.ensures.goes c.see-2.ensures.goes

pub returns-in-Err-see-clause-goes : goal.returns-in-Err-see-clause-goes
returns-in-Err-see-clause-goes g c =
    goes-then g.P.Pairs.told c.args.pairs.now c.see.new.pairs c.see-2.new.pairs 0 0 c.see.ensures.goes c.see-2.ensures.goes
