use Rattle.call_accounts.proofs.Accounting.{are_accounted}
use Rattle.call_accounts.proofs.calls_are_accounted.Goals as goal

pub returns : goal.returns
returns g c origin es s asked law of calls =
    are_accounted (g.M.Meaning.stands origin) g.M.Meaning.next origin es law asked s of calls
