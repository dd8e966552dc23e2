use Rattle.steady_law.proofs.Telling.{own_steady}
use Rattle.steady_law.proofs.lawful_is_steady.Goals as goal

pub returns : goal.returns
returns g c origin es law pass = own_steady (g.M.Meaning.stands origin) g.M.Meaning.next origin es law pass
