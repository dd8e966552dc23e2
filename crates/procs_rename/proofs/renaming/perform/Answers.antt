-- The move is made, and both directories are looked at again.
use Rattle.std.specs.Prelude.{⊤}
use Rattle.fs_rules.specs.Renaming.{move_node}
use Rattle.fs_shows.proofs.Doing.{goes-then, up-edit}
use Rattle.fs_shows.proofs.Passing.{edits_both}
use Rattle.procs_object.proofs.Gathering.{edit-up-behind}
use Rattle.procs_rename.specs.Doing.{CanTell, CanDo}
use Rattle.procs_rename.specs.Moving.{CanMove}
use Rattle.procs_rename.proofs.Chaining.{edits-given, edit-up-given}
use Rattle.procs_rename.proofs.Rows.{from-tells, to-tells, told-so}
use Rattle.procs_rename.proofs.renaming.perform.Goals as goal

pub move_node-requires-clause-old : goal.move_node-requires-clause-old
move_node-requires-clause-old g c = c.requires.from

pub move_node-requires-clause-new : goal.move_node-requires-clause-new
move_node-requires-clause-new g c = c.requires.to

pub returns-in-Err-clause-fault : goal.returns-in-Err-clause-fault
returns-in-Err-clause-fault g c =
    let a = c.args.a.now in
    let x = c.args.x.now in
    edit-up-given g.P.Pairs.told c.args.pairs.now c.move_node.new.pairs (CanDo a x) (CanMove a x.plan) (λ t can. can.moves)
    c.in-Err.fault c.in-Err.ensures.fault

pub returns-in-Err-see_again-clause-goes : goal.returns-in-Err-see_again-clause-goes
returns-in-Err-see_again-clause-goes g c =
    goes-then g.P.Pairs.told c.args.pairs.now c.move_node.new.pairs c.see_again.new.pairs 9 0 c.in-Ok.ensures.goes
    c.see_again.ensures.goes

pub returns-in-Err-see_again-clause-fault : goal.returns-in-Err-see_again-clause-fault
returns-in-Err-see_again-clause-fault g c =
    let a = c.args.a.now in
    let x = c.args.x.now in
    let edit = move_node c.args.now a x.plan in
    edit-up-behind g.P.Pairs.told c.args.pairs.now c.move_node.new.pairs c.see_again.new.pairs 9 0 (CanDo a x)
    (CanTell x.from.fsid x.plan.from) edit c.in-Ok.ensures.goes c.see_again.ensures.goes
    (edits-given g.P.Pairs.told c.args.pairs.now c.move_node.new.pairs (CanDo a x) (CanMove a x.plan) (λ t can. can.moves) edit
    c.in-Ok.ensures.ok)
    (from-tells a x c.args.now) c.in-Err-see_again.fault
    (up-edit g.P.Pairs.told c.move_node.new.pairs c.see_again.new.pairs (CanTell x.from.fsid x.plan.from) c.in-Err-see_again.fault
    c.in-Err-see_again.ensures.fault)

pub returns-in-Err-see_again-2-clause-goes : goal.returns-in-Err-see_again-2-clause-goes
returns-in-Err-see_again-2-clause-goes g c =
    goes-then g.P.Pairs.told c.args.pairs.now c.see_again.new.pairs c.see_again-2.new.pairs 9 0
    (goes-then g.P.Pairs.told c.args.pairs.now c.move_node.new.pairs c.see_again.new.pairs 9 0 c.in-Ok.ensures.goes
    c.see_again.ensures.goes) c.see_again-2.ensures.goes

pub returns-in-Err-see_again-2-clause-fault : goal.returns-in-Err-see_again-2-clause-fault
returns-in-Err-see_again-2-clause-fault g c =
    let a = c.args.a.now in
    let x = c.args.x.now in
    let edit = move_node c.args.now a x.plan in
    edit-up-behind g.P.Pairs.told c.args.pairs.now c.see_again.new.pairs c.see_again-2.new.pairs 9 0 (CanDo a x)
    (CanTell x.from.fsid x.plan.to) edit
    (goes-then g.P.Pairs.told c.args.pairs.now c.move_node.new.pairs c.see_again.new.pairs 9 0 c.in-Ok.ensures.goes
    c.see_again.ensures.goes) c.see_again-2.ensures.goes
    (edits_both g.P.Pairs.told c.args.pairs.now c.move_node.new.pairs c.see_again.new.pairs 0 (CanDo a x) (λ t. ⊤) edit (λ t. t)
    c.see_again.ensures.goes
    (edits-given g.P.Pairs.told c.args.pairs.now c.move_node.new.pairs (CanDo a x) (CanMove a x.plan) (λ t can. can.moves) edit
    c.in-Ok.ensures.ok)
    (λ t can. tt) c.in-Ok-see_again.ensures.ok.stays)
    (to-tells a x c.args.now) c.in-Err-see_again-2.fault
    (up-edit g.P.Pairs.told c.see_again.new.pairs c.see_again-2.new.pairs (CanTell x.from.fsid x.plan.to)
    c.in-Err-see_again-2.fault c.in-Err-see_again-2.ensures.fault)

pub returns-clause-goes : goal.returns-clause-goes
returns-clause-goes g c =
    goes-then g.P.Pairs.told c.args.pairs.now c.see_again.new.pairs c.see_again-2.new.pairs 9 0
    (goes-then g.P.Pairs.told c.args.pairs.now c.move_node.new.pairs c.see_again.new.pairs 9 0 c.in-Ok.ensures.goes
    c.in-Ok-see_again.ensures.goes) c.in-Ok-see_again-2.ensures.goes

pub returns-clause-edits : goal.returns-clause-edits
returns-clause-edits g c = λ w t agrees lies can.
    let mid = c.in-Ok-see_again-2.ensures.goes.agreed w agrees in
    let first = c.in-Ok.ensures.ok w t (c.in-Ok-see_again.ensures.goes.agreed w mid) lies can.moves in
    let after = move_node c.args.now c.args.a.now c.args.x.now.plan t in
    c.in-Ok-see_again-2.ensures.ok.stays w after agrees (c.in-Ok-see_again.ensures.ok.stays w after mid first tt) tt

pub returns-clause-told : goal.returns-clause-told
returns-clause-told g c = λ w t agrees lies can.
    let x = c.args.x.now in
    let mid = c.in-Ok-see_again-2.ensures.goes.agreed w agrees in
    let first = c.in-Ok.ensures.ok w t (c.in-Ok-see_again.ensures.goes.agreed w mid) lies can.moves in
    let after = move_node c.args.now c.args.a.now x.plan t in
    let second = c.in-Ok-see_again.ensures.ok.stays w after mid first tt in
    told-so c.args.a.now x c.args.now t can c.in-Ok-see_again.from c.in-Ok-see_again-2.to c.wcc_of.result c.wcc_of-2.result
    (c.in-Ok-see_again.ensures.ok.learns w after mid first (from-tells c.args.a.now x c.args.now t can))
    (c.in-Ok-see_again-2.ensures.ok.learns w after agrees second (to-tells c.args.a.now x c.args.now t can))
    c.wcc_of.ensures c.wcc_of-2.ensures
