-- What the handle leads to is told.
use Rattle.fs_rules.specs.Checks.{find_object, told}
use Rattle.fs_rules.specs.Telling.{fs_info}
use Rattle.procs_object.proofs.Ending.{halts, tells}
use Rattle.procs_object.proofs.Told.{fs_info-refused, fs_info-told, info-body}
use Rattle.procs_object.proofs.telling.fs_info.Goals as goal

pub returns-in-Ok : goal.returns-in-Ok
returns-in-Ok g c =
    tells g.P.Pairs.told c.args.pairs.now c.see.new.pairs (λ t. find_object t c.args.handle.now)
    (λ t. told t (fs_info t c.args.handle.now))
    c.in-Ok.o c.in-Ok.ensures.check 0 (info-body c.in-Ok.o.attributes) c.see.ensures.goes
    (λ t o found is. fs_info-told t c.args.handle.now c.in-Ok.o o found is)

pub returns-in-Err : goal.returns-in-Err
returns-in-Err g c =
    halts g.P.Pairs.told c.args.pairs.now c.see.new.pairs (λ t. find_object t c.args.handle.now)
    (λ t. told t (fs_info t c.args.handle.now)) 0
    c.see.ensures.goes (λ t status refused. fs_info-refused t c.args.handle.now status refused) c.in-Err.halt
    c.in-Err.ensures.check
