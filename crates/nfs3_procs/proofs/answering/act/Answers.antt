-- A call can change the tree, or it can not.
use Rattle.std.proofs.Common.{sym, ◌∙◌}
use Rattle.fs_rules.specs.Answers.{row_of}
use Rattle.nfs3_procs.proofs.Ended.{changes, looks}
use Rattle.nfs3_procs.proofs.answering.act.Goals as goal

pub change-requires-clause-lane : goal.change-requires-clause-lane
change-requires-clause-lane g c = c.requires

pub change-requires-clause-changes : goal.change-requires-clause-changes
change-requires-clause-changes g c = sym c.is_changing.ensures ∙ c.if-is_changing.true

pub look-requires : goal.look-requires
look-requires g c = sym c.is_changing.ensures ∙ c.if-is_changing.false

pub returns-then-is_changing : goal.returns-then-is_changing
returns-then-is_changing g c =
    changes g.P.Pairs.told c.args.pairs.now c.change.new.pairs c.args.call.now
    (λ t. row_of t c.args.cred.now c.args.now c.args.lane c.args.call.now) c.change.result
    (sym c.is_changing.ensures ∙ c.if-is_changing.true) c.change.ensures

pub returns : goal.returns
returns g c =
    looks g.P.Pairs.told c.args.pairs.now c.look.new.pairs c.args.call.now
    (λ t. row_of t c.args.cred.now c.args.now c.args.lane c.args.call.now) c.look.result c.stopped.result
    (sym c.is_changing.ensures ∙ c.if-is_changing.false) c.stopped.ensures c.look.ensures
