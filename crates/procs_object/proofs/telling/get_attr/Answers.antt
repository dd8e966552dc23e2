-- What the handle leads to is told.
use Rattle.nfs3_types.specs.declared.body.Body.TheVariants.{GetAttr}
use Rattle.fs_rules.specs.Checks.{find_object, told}
use Rattle.fs_rules.specs.Telling.{get_attr}
use Rattle.procs_object.proofs.Ending.{halts, tells}
use Rattle.procs_object.proofs.Told.{get_attr-refused, get_attr-told}
use Rattle.procs_object.proofs.telling.get_attr.Goals as goal

pub returns-in-Ok : goal.returns-in-Ok
returns-in-Ok g c =
    tells g.P.Pairs.told c.args.pairs.now c.see.new.pairs (λ t. find_object t c.args.handle.now)
    (λ t. told t (get_attr t c.args.handle.now))
    c.in-Ok.o c.in-Ok.ensures.check 0 (GetAttr c.in-Ok.o.attributes) c.see.ensures.goes
    (λ t o found is. get_attr-told t c.args.handle.now c.in-Ok.o o found is)

pub returns-in-Err : goal.returns-in-Err
returns-in-Err g c =
    halts g.P.Pairs.told c.args.pairs.now c.see.new.pairs (λ t. find_object t c.args.handle.now)
    (λ t. told t (get_attr t c.args.handle.now)) 0
    c.see.ensures.goes (λ t status refused. get_attr-refused t c.args.handle.now status refused) c.in-Err.halt
    c.in-Err.ensures.check
