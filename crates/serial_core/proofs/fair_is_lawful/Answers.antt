use Rattle.serial_core.proofs.Fairly.{all_fair}
use Rattle.serial_core.proofs.fair_is_lawful.Goals as goal

pub returns : goal.returns
returns g c origin es answered fair = all_fair (g.M.Meaning.stands origin) g.M.Meaning.next origin es answered fair
