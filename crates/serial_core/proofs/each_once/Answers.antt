use Rattle.serial_core.proofs.Once.{each_once}
use Rattle.serial_core.proofs.each_once.Goals as goal

pub returns : goal.returns
returns g c origin es law = each_once (g.M.Meaning.stands origin) g.M.Meaning.next origin es law
