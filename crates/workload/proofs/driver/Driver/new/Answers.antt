use Rattle.std.proofs.Common.{refl, rules}
use Rattle.workload.proofs.Moves.{starts}
use Rattle.workload.proofs.driver.Driver.new.Goals as goal

pub returns : goal.returns
returns c = starts c.args.number c.args.rough _ refl refl refl (search rules) refl refl
