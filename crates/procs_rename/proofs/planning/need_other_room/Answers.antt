-- Whether both names are one node's decides what is asked.
use Rattle.std.proofs.Common.{◌≡◌, ◌∙◌, Bool, Ok, if◌then◌else◌, refl, sym, ap, subst}
use Rattle.fs_rules.specs.Renaming.{need_room}
use Rattle.fs_rules.specs.Sound.{IsSound}
use Rattle.procs_object.specs.Finding.{CheckedOn}
use Rattle.procs_object.proofs.Reading.{reads-none}
use Rattle.procs_rename.specs.Seeing.{renaming_by, other_room}
use Rattle.procs_rename.proofs.planning.need_other_room.Goals as goal

pub returns-then-is_same_node-clause-check : goal.returns-then-is_same_node-clause-check
returns-then-is_same_node-clause-check g c =
    let r = renaming_by c.args.x.now in
    reads-none g.P.Pairs.told c.args.pairs.now IsSound (λ t. (u : Unit {0}) × (other_room t r ≡ Ok u) × (tt ≡ u))
    (λ t sound. (
      tt,
      ap (λ (b : Bool). if b then Ok tt else need_room t r) (sym c.is_same_node.ensures ∙ c.if-is_same_node.true),
      refl,
    ))

pub returns-clause-check : goal.returns-clause-check
returns-clause-check g c =
    let r = renaming_by c.args.x.now in
    let P : Bool → Type 0 = λ b.
    CheckedOn g.P.Pairs.told c.args.pairs.now c.need_room.new.pairs IsSound (λ t (u v : Unit {0}). u ≡ v)
    (λ t. if b then Ok tt else need_room t r) c.need_room.result in
    subst P (sym (sym c.is_same_node.ensures ∙ c.if-is_same_node.false)) c.need_room.ensures.check
