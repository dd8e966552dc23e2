use Rattle.nfs3_fits.proofs.Replies.{reply_short}
use Rattle.nfs3_fits.proofs.laws.replies_are_short.Goals as goal

pub returns : goal.returns
returns c = reply_short
