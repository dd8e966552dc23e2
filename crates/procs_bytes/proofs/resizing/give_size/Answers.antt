-- The size is set, and then the times; or the size waits.
use Rattle.std.proofs.Common.{subst, arith}
use Rattle.fs_rules.specs.Edits.{edit_node, set_size, touch}
use Rattle.fs_shows.specs.Steps.{Lies}
use Rattle.fs_shows.specs.Views.{IsThere}
use Rattle.fs_shows.proofs.Doing.{goes-then, goes-most}
use Rattle.fs_shows.proofs.Passing.{edits_both}
use Rattle.procs_object.proofs.Gathering.{edit-up-behind}
use Rattle.file_ops.specs.Given.{MaySize}
use Rattle.file_ops.specs.Sizes.{SizesOrWaits}
use Rattle.procs_bytes.proofs.SizeSet.{sized-still, given-so}
use Rattle.procs_bytes.proofs.resizing.give_size.Goals as goal

pub returns-in-Err-clause-goes : goal.returns-in-Err-clause-goes
returns-in-Err-clause-goes g c = goes-most g.P.Pairs.told c.args.pairs.now c.set_size.new.pairs 3 4 (omega arith)
    c.set_size.ensures.goes

pub returns-in-Err-clause-fault : goal.returns-in-Err-clause-fault
returns-in-Err-clause-fault g c = c.in-Err.ensures.fault

pub returns-in-Ok-touch-clause-goes : goal.returns-in-Ok-touch-clause-goes
returns-in-Ok-touch-clause-goes g c =
    goes-then g.P.Pairs.told c.args.pairs.now c.set_size.new.pairs c.touch.new.pairs 3 1 c.set_size.ensures.goes
    c.touch.ensures.goes

pub returns-in-Ok-touch-clause-ok : goal.returns-in-Ok-touch-clause-ok
returns-in-Ok-touch-clause-ok g c = λ w t agrees lies may.
    subst (Lies g.P.Pairs.told c.touch.new.pairs w) (given-so c.args.id c.args.size c.args.now t)
    (edits_both g.P.Pairs.told c.args.pairs.now c.set_size.new.pairs c.touch.new.pairs 1 (MaySize c.args.id) (IsThere c.args.id)
    (edit_node c.args.id (set_size c.args.size)) (edit_node c.args.id (touch c.args.now)) c.touch.ensures.goes
    (subst (SizesOrWaits g.P.Pairs.told c.args.pairs.now c.set_size.new.pairs c.args.id c.args.size) c.if-is_set.true
    c.in-Ok.ensures.ok) (λ t may. sized-still c.args.id c.args.size t may) c.in-Ok-touch.ensures.ok w t agrees lies may)

pub returns-in-Err-touch-clause-goes : goal.returns-in-Err-touch-clause-goes
returns-in-Err-touch-clause-goes g c =
    goes-then g.P.Pairs.told c.args.pairs.now c.set_size.new.pairs c.touch.new.pairs 3 1 c.set_size.ensures.goes
    c.touch.ensures.goes

pub returns-in-Err-touch-clause-fault : goal.returns-in-Err-touch-clause-fault
returns-in-Err-touch-clause-fault g c =
    edit-up-behind g.P.Pairs.told c.args.pairs.now c.set_size.new.pairs c.touch.new.pairs 3 1 (MaySize c.args.id)
    (IsThere c.args.id) (edit_node c.args.id (set_size c.args.size)) c.set_size.ensures.goes c.touch.ensures.goes
    (subst (SizesOrWaits g.P.Pairs.told c.args.pairs.now c.set_size.new.pairs c.args.id c.args.size) c.if-is_set.true
    c.in-Ok.ensures.ok) (λ t may. sized-still c.args.id c.args.size t may) c.in-Err-touch.fault c.in-Err-touch.ensures.fault

pub returns-else-is_set-clause-goes : goal.returns-else-is_set-clause-goes
returns-else-is_set-clause-goes g c = goes-most g.P.Pairs.told c.args.pairs.now c.set_size.new.pairs 3 4 (omega arith)
    c.set_size.ensures.goes

pub returns-else-is_set-clause-ok : goal.returns-else-is_set-clause-ok
returns-else-is_set-clause-ok g c =
    subst (SizesOrWaits g.P.Pairs.told c.args.pairs.now c.set_size.new.pairs c.args.id c.args.size) c.if-is_set.false
    c.in-Ok.ensures.ok
