use Rattle.std.proofs.Common.{Some, arith}
use Rattle.std.proofs.lemmas.Result.{on_ok_weaker, IfErr-weaker}
use Rattle.fs_rules.specs.Edits.{edit_node, drop_node}
use Rattle.fs_rules.specs.Removing.{lose_name}
use Rattle.fs_shows.specs.Files.{MayGo}
use Rattle.fs_shows.specs.Views.{IsThere, IsFoundAs}
use Rattle.fs_shows.proofs.Doing.{edits-as, up-given, up-edit, up-after-read}
use Rattle.inode_ops.specs.declared.change.Change.TheVariants.{Unlink}
use Rattle.inode_ops.specs.Changes.{Allows, edited_by}
use Rattle.inode_ops.specs.Losing.{MayLose}
use Rattle.inode_ops.proofs.Losing.{loses-link, loses-last}
use Rattle.inode_ops.proofs.nodes.lose_name.Goals as goal

pub returns-in-Err-clause-fault : goal.returns-in-Err-clause-fault
returns-in-Err-clause-fault g c =
    up-edit g.P.Pairs.told c.args.pairs.now c.load_live.new.pairs (MayLose c.args.id) c.in-Err.fault
    (up-given g.P.Pairs.told c.args.pairs.now c.load_live.new.pairs (MayLose c.args.id) (IsThere c.args.id)
    (λ t may. may.there) c.in-Err.fault c.in-Err.ensures.fault)

pub returns-then-inode-gt1-clause-ok : goal.returns-then-inode-gt1-clause-ok
returns-then-inode-gt1-clause-ok g c =
    on_ok_weaker c.revise.result
    (λ edits. edits-as g.P.Pairs.told c.args.pairs.now c.load_live.new.pairs c.revise.new.pairs 1 (IsThere c.args.id)
    (MayLose c.args.id) (Allows c.args.id (Unlink c.args.now))
    (λ t. IsFoundAs (Some c.in-Ok.inode) (t.nodes c.args.id))
    (edit_node c.args.id (edited_by (Unlink c.args.now)))
    (lose_name c.args.now c.args.id) c.revise.ensures.goes c.in-Ok.ensures.ok
    (λ t may. may.there) (λ t may. may.there) edits
    (λ t may found. loses-link c.args.now c.args.id c.in-Ok.inode t (omega (arith, c.if-inode-gt1.true)) found))
    c.revise.ensures.ok

pub returns-then-inode-gt1-clause-fault : goal.returns-then-inode-gt1-clause-fault
returns-then-inode-gt1-clause-fault g c =
    IfErr-weaker c.revise.result _ _
    (λ fault up. up-after-read g.P.Pairs.told c.args.pairs.now c.load_live.new.pairs c.revise.new.pairs 0 1 (IsThere c.args.id)
    (MayLose c.args.id)
    (Allows c.args.id (Unlink c.args.now)) (λ t. IsFoundAs (Some c.in-Ok.inode) (t.nodes c.args.id)) fault
    c.in-Ok.ensures.goes c.revise.ensures.goes c.in-Ok.ensures.ok (λ t may. may.there) up)
    c.revise.ensures.fault

pub returns-clause-ok : goal.returns-clause-ok
returns-clause-ok g c =
    on_ok_weaker c.forget.result
    (λ edits. edits-as g.P.Pairs.told c.args.pairs.now c.load_live.new.pairs c.forget.new.pairs 1 (IsThere c.args.id)
    (MayLose c.args.id) (MayGo c.args.id)
    (λ t. IsFoundAs (Some c.in-Ok.inode) (t.nodes c.args.id))
    (drop_node c.args.id) (lose_name c.args.now c.args.id) c.forget.ensures.goes c.in-Ok.ensures.ok
    (λ t may. may.there) (λ t may. may.go) edits
    (λ t may found. loses-last c.args.now c.args.id c.in-Ok.inode t (omega (arith, c.if-inode-gt1.false)) found))
    c.forget.ensures.ok

pub returns-clause-fault : goal.returns-clause-fault
returns-clause-fault g c =
    IfErr-weaker c.forget.result _ _
    (λ fault up. up-after-read g.P.Pairs.told c.args.pairs.now c.load_live.new.pairs c.forget.new.pairs 0 1 (IsThere c.args.id)
    (MayLose c.args.id) (MayGo c.args.id)
    (λ t. IsFoundAs (Some c.in-Ok.inode) (t.nodes c.args.id)) fault
    c.in-Ok.ensures.goes c.forget.ensures.goes c.in-Ok.ensures.ok (λ t may. may.go) up)
    c.forget.ensures.fault
