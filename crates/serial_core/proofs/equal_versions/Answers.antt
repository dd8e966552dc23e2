use Rattle.serial_core.proofs.Serves.{equal_versions}
use Rattle.serial_core.proofs.equal_versions.Goals as goal

pub returns : goal.returns
returns g c origin later es law = equal_versions (g.M.Meaning.stands origin) g.M.Meaning.next origin later es law
