use Rattle.fss_meaning.proofs.First.{first-stands}
use Rattle.fss_meaning.proofs.laws.first_page_stands.Goals as goal

pub returns : goal.returns
returns c = first-stands
