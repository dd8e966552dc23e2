-- The way is looked at, then what is in the way, and then what was found is checked.
use Rattle.std.proofs.Common.{◌≡◌, ◌∙◌, Ok, Err, refl, sym}
use Rattle.std.specs.Prelude.{⊤}
use Rattle.fs_rules.specs.Attributes.{given}
use Rattle.fs_rules.specs.Renaming.{is_in_the_way, need_room}
use Rattle.fs_rules.specs.Sound.{IsSound}
use Rattle.fs_rules.specs.Tree.{Tree}
use Rattle.fs_shows.proofs.Doing.{goes-none}
use Rattle.procs_object.proofs.Gathering.{gathers, gathers-up}
use Rattle.procs_object.proofs.Reading.{reads-none, reads-more}
use Rattle.procs_rename.specs.Seeing.{renaming_by, way_for}
use Rattle.procs_rename.proofs.Gathered.{ends-behind, as-checked}
use Rattle.procs_rename.proofs.Plans.{room-refused, room-as}
use Rattle.procs_rename.proofs.planning.need_room.Goals as goal

pub returns-in-Err-clause-check : goal.returns-in-Err-clause-check
returns-in-Err-clause-check g c =
    let r = renaming_by c.args.x.now in
    as-checked g.P.Pairs.told c.args.pairs.now c.need_way.new.pairs (λ (u : Unit {0}) (t : Tree). ⊤)
    (λ t (u v : Unit {0}). u ≡ v) (λ t. need_room t r) c.in-Err.halt
    (ends-behind g.P.Pairs.told c.args.pairs.now c.args.pairs.now c.need_way.new.pairs (λ t. ⊤) IsSound
    (λ t (u v : Unit {0}). u ≡ v) (λ t. way_for t r) (λ (u : Unit {0}) (t : Tree). ⊤) (λ t. need_room t r)
    (goes-none g.P.Pairs.told c.args.pairs.now) c.in-Err.ensures.goes
    (reads-none g.P.Pairs.told c.args.pairs.now IsSound (λ t. ⊤) (λ t sound. tt)) (λ t sound learned. sound)
    (λ t status sound learned refused. room-refused t r status refused) c.in-Err.halt c.in-Err.ensures.check)

pub returns-in-Err-is_in_the_way-clause-check : goal.returns-in-Err-is_in_the_way-clause-check
returns-in-Err-is_in_the_way-clause-check g c =
    let r = renaming_by c.args.x.now in
    gathers-up g.P.Pairs.told c.args.pairs.now c.need_way.new.pairs c.is_in_the_way.new.pairs
    (λ t. (u : Unit {0}) × (way_for t r ≡ Ok u) × (tt ≡ u)) IsSound c.in-Err-is_in_the_way.ensures.goes c.in-Ok.ensures.check
    (λ t sound learned. sound) 0 c.in-Ok.ensures.goes c.in-Err-is_in_the_way.fault c.in-Err-is_in_the_way.ensures.fault

pub returns-in-Ok-check_room-clause-check : goal.returns-in-Ok-check_room-clause-check
returns-in-Ok-check_room-clause-check g c =
    let r = renaming_by c.args.x.now in
    let b = c.in-Ok-is_in_the_way.blocked in
    reads-more g.P.Pairs.told c.args.pairs.now c.is_in_the_way.new.pairs IsSound IsSound
    (λ t. ((u : Unit {0}) × (way_for t r ≡ Ok u) × (tt ≡ u)) × (given r.target (is_in_the_way t r.source) ≡ b))
    (λ t. (u : Unit {0}) × (need_room t r ≡ Ok u) × (tt ≡ u)) (λ t sound. sound)
    (λ t sound learned. (
      c.in-Ok-check_room.field-0,
      room-as t r learned.0.0 b learned.0.1 learned.1 ∙ sym c.check_room.ensures ∙ c.in-Ok-check_room.is,
      refl,
    ))
    (gathers g.P.Pairs.told c.args.pairs.now c.need_way.new.pairs c.is_in_the_way.new.pairs
    (λ t. (u : Unit {0}) × (way_for t r ≡ Ok u) × (tt ≡ u)) IsSound c.in-Ok-is_in_the_way.ensures.goes c.in-Ok.ensures.check
    (λ t sound learned. sound) (λ t. given r.target (is_in_the_way t r.source) ≡ b) c.in-Ok-is_in_the_way.ensures.ok)

pub returns-in-Err-check_room-clause-check : goal.returns-in-Err-check_room-clause-check
returns-in-Err-check_room-clause-check g c =
    let r = renaming_by c.args.x.now in
    let b = c.in-Ok-is_in_the_way.blocked in
    reads-more g.P.Pairs.told c.args.pairs.now c.is_in_the_way.new.pairs IsSound IsSound
    (λ t. ((u : Unit {0}) × (way_for t r ≡ Ok u) × (tt ≡ u)) × (given r.target (is_in_the_way t r.source) ≡ b))
    (λ t. need_room t r ≡ Err c.in-Err-check_room.status) (λ t sound. sound)
    (λ t sound learned.
    room-as t r learned.0.0 b learned.0.1 learned.1 ∙ sym c.check_room.ensures ∙ c.in-Err-check_room.is)
    (gathers g.P.Pairs.told c.args.pairs.now c.need_way.new.pairs c.is_in_the_way.new.pairs
    (λ t. (u : Unit {0}) × (way_for t r ≡ Ok u) × (tt ≡ u)) IsSound c.in-Ok-is_in_the_way.ensures.goes c.in-Ok.ensures.check
    (λ t sound learned. sound) (λ t. given r.target (is_in_the_way t r.source) ≡ b) c.in-Ok-is_in_the_way.ensures.ok)
