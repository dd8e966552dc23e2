use Rattle.serial_core.proofs.Serves.{is_serial}
use Rattle.serial_core.proofs.serial.Goals as goal

pub returns : goal.returns
returns g c origin first es st law = is_serial (g.M.Meaning.stands origin) g.M.Meaning.next origin first es st law
