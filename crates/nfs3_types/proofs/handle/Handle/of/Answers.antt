use Rattle.nfs3_types.proofs.HandleLaws.{handle_in-wrong, handle_in-right}
use Rattle.nfs3_types.proofs.handle.Handle.of.Goals as goal

pub returns-then-text-ne24-clause-said : goal.returns-then-text-ne24-clause-said
returns-then-text-ne24-clause-said c = handle_in-wrong c.args.text.now c.if-text-ne24.true

pub returns-clause-said : goal.returns-clause-said
returns-clause-said c = rw (c.read_u64.ensures, c.read_u64-2.ensures, c.read_u64-3.ensures)
    (handle_in-right c.args.text.now c.if-text-ne24.false)
