-- What the handle leads to is told.
use Rattle.std.proofs.Common.{Fits-lit}
use Rattle.fs_rules.specs.Checks.{find_object, told}
use Rattle.fs_rules.specs.Telling.{path_conf}
use Rattle.procs_object.proofs.Ending.{halts, tells}
use Rattle.procs_object.proofs.Told.{path_conf-refused, path_conf-told, conf-body}
use Rattle.procs_object.proofs.telling.path_conf.Goals as goal

pub overflow_cast-result : goal.overflow_cast-result
overflow_cast-result g c = Fits-lit tt

pub returns-in-Ok : goal.returns-in-Ok
returns-in-Ok g c =
    tells g.P.Pairs.told c.args.pairs.now c.see.new.pairs (λ t. find_object t c.args.handle.now)
    (λ t. told t (path_conf t c.args.handle.now))
    c.in-Ok.o c.in-Ok.ensures.check 0 (conf-body c.in-Ok.o.attributes) c.see.ensures.goes
    (λ t o found is. path_conf-told t c.args.handle.now c.in-Ok.o o found is)

pub returns-in-Err : goal.returns-in-Err
returns-in-Err g c =
    halts g.P.Pairs.told c.args.pairs.now c.see.new.pairs (λ t. find_object t c.args.handle.now)
    (λ t. told t (path_conf t c.args.handle.now)) 0
    c.see.ensures.goes (λ t status refused. path_conf-refused t c.args.handle.now status refused) c.in-Err.halt
    c.in-Err.ensures.check
