use Rattle.serial_core.proofs.Serves.{versions_rise}
use Rattle.serial_core.proofs.versions_rise.Goals as goal

pub returns : goal.returns
returns g c origin later es law = versions_rise (g.M.Meaning.stands origin) g.M.Meaning.next origin later es law
