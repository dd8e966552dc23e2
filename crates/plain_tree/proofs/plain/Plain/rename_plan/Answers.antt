use Rattle.std.proofs.Common.{◌≡◌, false, rules}
use Rattle.fs_rules.specs.Renaming.{is_same_node}
use Rattle.plain_tree.specs.Trees.{tree_of}
use Rattle.plain_tree.proofs.Ready.{can_move}
use Rattle.plain_tree.proofs.plain.Plain.rename_plan.Goals as goal

pub returns-clause-ready : goal.returns-clause-ready
returns-clause-ready c = λ other.
    let r = c.in_ok-r.r in
    let differ : is_same_node r ≡ false = search rules in
    can_move (tree_of c.args.self.now) r _ c.in_ok-r.ensures.stands c.in_ok-r.ensures.live
    (c.in_ok-need_other_room.ensures.room differ)
    (search rules) (search rules) (search rules)
