-- The first record is read, and then what the handle leads to by it.
use Rattle.std.specs.Prelude.{⊤}
use Rattle.fs_rules.specs.Checks.{find_object}
use Rattle.fs_rules.specs.Sound.{IsSound}
use Rattle.fs_shows.proofs.Doing.{goes-then, up-given}
use Rattle.procs_object.specs.Finding.{IsObject}
use Rattle.procs_object.proofs.Reading.{begins-then}
use Rattle.procs_object.proofs.object.see.Goals as goal

pub returns-in-Err-clause-goes : goal.returns-in-Err-clause-goes
returns-in-Err-clause-goes g c = c.first.ensures.goes

pub returns-in-Err-clause-check : goal.returns-in-Err-clause-check
returns-in-Err-clause-check g c =
    up-given g.P.Pairs.told c.args.pairs.now c.first.new.pairs IsSound (λ t. ⊤)
    (λ t sound. tt) c.in-Err.fault c.in-Err.ensures.fault

pub returns-clause-goes : goal.returns-clause-goes
returns-clause-goes g c =
    goes-then g.P.Pairs.told c.args.pairs.now c.first.new.pairs c.find_object.new.pairs 0 0 c.first.ensures.goes
    c.find_object.ensures.goes

pub returns-clause-check : goal.returns-clause-check
returns-clause-check g c =
    begins-then g.P.Pairs.told c.args.pairs.now c.first.new.pairs c.find_object.new.pairs c.in-Ok.begins IsObject
    (λ t. find_object t c.args.handle.now) c.find_object.result c.first.ensures.goes c.find_object.ensures.goes c.in-Ok.ensures.ok
    c.find_object.ensures.check
