use Rattle.fs_rules.specs.Renaming.{replace, relink}
use Rattle.procs_rename.specs.Moving.{CanReplace, CanRelink, CanClear}
use Rattle.procs_rename.proofs.Chaining.{both-edit, both-up, edits-given, edit-up-given}
use Rattle.procs_rename.proofs.moving.clear.Goals as goal

pub returns-in-Err-clause-fault : goal.returns-in-Err-clause-fault
returns-in-Err-clause-fault g c =
    let p = c.args.plan.now in
    edit-up-given g.P.Pairs.told c.args.pairs.now c.replace.new.pairs (CanClear c.args.now c.args.name.now p)
    (CanReplace p.to c.args.name.now p.replaced) (λ t can. can.first) c.in-Err.fault c.in-Err.ensures.fault

pub returns-clause-ok : goal.returns-clause-ok
returns-clause-ok g c =
    let p = c.args.plan.now in
    both-edit g.P.Pairs.told c.args.pairs.now c.replace.new.pairs c.relink.new.pairs 2 2 c.in-Ok.ensures.goes
    c.relink.ensures.goes (CanClear c.args.now c.args.name.now p) (CanRelink p)
    (replace c.args.now p.to c.args.name.now p.replaced)
    (relink p)
    (edits-given g.P.Pairs.told c.args.pairs.now c.replace.new.pairs (CanClear c.args.now c.args.name.now p)
    (CanReplace p.to c.args.name.now p.replaced) (λ t can. can.first) (replace c.args.now p.to c.args.name.now p.replaced)
    c.in-Ok.ensures.ok)
    (λ t can. can.then) c.relink.result c.relink.ensures.ok

pub returns-clause-fault : goal.returns-clause-fault
returns-clause-fault g c =
    let p = c.args.plan.now in
    both-up g.P.Pairs.told c.args.pairs.now c.replace.new.pairs c.relink.new.pairs 2 2 c.in-Ok.ensures.goes
    c.relink.ensures.goes (CanClear c.args.now c.args.name.now p) (CanRelink p)
    (replace c.args.now p.to c.args.name.now p.replaced)
    (relink p)
    (edits-given g.P.Pairs.told c.args.pairs.now c.replace.new.pairs (CanClear c.args.now c.args.name.now p)
    (CanReplace p.to c.args.name.now p.replaced) (λ t can. can.first) (replace c.args.now p.to c.args.name.now p.replaced)
    c.in-Ok.ensures.ok)
    (λ t can. can.then) c.relink.result c.relink.ensures.fault
