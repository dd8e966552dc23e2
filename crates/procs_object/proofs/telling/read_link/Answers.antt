-- What the handle leads to is a link, and is told; or it is none.
use Rattle.std.proofs.Common.{◌∙◌, sym}
use Rattle.nfs3_types.specs.declared.status.Status.TheVariants.{Inval}
use Rattle.fs_rules.specs.Checks.{find_object, told}
use Rattle.fs_rules.specs.Telling.{read_link}
use Rattle.procs_object.proofs.Ending.{halts, refuses, tells}
use Rattle.procs_object.proofs.Told.{read_link-refused, read_link-told, read_link-inval, link-body}
use Rattle.procs_object.proofs.telling.read_link.Goals as goal

pub returns-in-Err : goal.returns-in-Err
returns-in-Err g c =
    halts g.P.Pairs.told c.args.pairs.now c.see.new.pairs (λ t. find_object t c.args.handle.now)
    (λ t. told t (read_link t c.args.handle.now)) 0 c.see.ensures.goes
    (λ t status refused. read_link-refused t c.args.handle.now status refused) c.in-Err.halt c.in-Err.ensures.check

pub returns-then-is_link : goal.returns-then-is_link
returns-then-is_link g c =
    tells g.P.Pairs.told c.args.pairs.now c.see.new.pairs (λ t. find_object t c.args.handle.now)
    (λ t. told t (read_link t c.args.handle.now)) c.in-Ok.o c.in-Ok.ensures.check 0
    (link-body c.in-Ok.o.attributes c.in-Ok.o.inode.target) c.see.ensures.goes
    (λ t o found is. read_link-told t c.args.handle.now c.in-Ok.o o found is (sym c.is_link.ensures ∙ c.if-is_link.true))

pub returns-else-is_link : goal.returns-else-is_link
returns-else-is_link g c =
    refuses g.P.Pairs.told c.args.pairs.now c.see.new.pairs (λ t. find_object t c.args.handle.now)
    (λ t. told t (read_link t c.args.handle.now)) c.in-Ok.o c.in-Ok.ensures.check 0 Inval c.see.ensures.goes
    (λ t o found is. read_link-inval t c.args.handle.now c.in-Ok.o o found is (sym c.is_link.ensures ∙ c.if-is_link.false))
