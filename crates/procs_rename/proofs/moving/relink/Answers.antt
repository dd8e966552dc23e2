-- Both links are changed, where the plan asks for it.
use Rattle.fs_rules.specs.Edits.{edit_node, add_link, drop_link}
use Rattle.fs_rules.specs.Renaming.{relink}
use Rattle.fs_shows.specs.Views.{IsThere}
use Rattle.inode_ops.specs.Changes.{HasLinkLeft}
use Rattle.procs_rename.specs.Moving.{CanRelink}
use Rattle.procs_rename.proofs.Chaining.{both-edit, both-up, edits-given, edit-up-given, edit-same}
use Rattle.procs_rename.proofs.Moves.{relinked, linkable}
use Rattle.procs_rename.proofs.moving.relink.Goals as goal

pub returns-in-Err-clause-fault : goal.returns-in-Err-clause-fault
returns-in-Err-clause-fault g c =
    let p = c.args.plan.now in
    edit-up-given g.P.Pairs.told c.args.pairs.now c.drop_link.new.pairs (CanRelink p) (IsThere p.from)
    (λ t can. can.from c.if-not-plan.false) c.in-Err.fault c.in-Err.ensures.fault

pub returns-clause-ok : goal.returns-clause-ok
returns-clause-ok g c =
    let p = c.args.plan.now in
    edit-same g.P.Pairs.told c.args.pairs.now c.add_link.new.pairs (CanRelink p)
    (λ t. edit_node p.to add_link (edit_node p.from drop_link t)) (relink p) c.add_link.result
    (λ t. relinked p t c.if-not-plan.false)
    (both-edit g.P.Pairs.told c.args.pairs.now c.drop_link.new.pairs c.add_link.new.pairs 1 1 c.in-Ok.ensures.goes
    c.add_link.ensures.goes (CanRelink p) (HasLinkLeft p.to) (edit_node p.from drop_link) (edit_node p.to add_link)
    (edits-given g.P.Pairs.told c.args.pairs.now c.drop_link.new.pairs (CanRelink p) (IsThere p.from)
    (λ t can. can.from c.if-not-plan.false) (edit_node p.from drop_link) c.in-Ok.ensures.ok)
    (λ t can. linkable p t can c.if-not-plan.false) c.add_link.result c.add_link.ensures.ok)

pub returns-clause-fault : goal.returns-clause-fault
returns-clause-fault g c =
    let p = c.args.plan.now in
    both-up g.P.Pairs.told c.args.pairs.now c.drop_link.new.pairs c.add_link.new.pairs 1 1 c.in-Ok.ensures.goes
    c.add_link.ensures.goes (CanRelink p) (HasLinkLeft p.to) (edit_node p.from drop_link) (edit_node p.to add_link)
    (edits-given g.P.Pairs.told c.args.pairs.now c.drop_link.new.pairs (CanRelink p) (IsThere p.from)
    (λ t can. can.from c.if-not-plan.false) (edit_node p.from drop_link) c.in-Ok.ensures.ok)
    (λ t can. linkable p t can c.if-not-plan.false) c.add_link.result c.add_link.ensures.fault
