use Rattle.nfs3_fits.proofs.Replies.{spelled_by}
use Rattle.nfs3_fits.proofs.reply.spelled.Goals as goal

pub returns : goal.returns
returns c = spelled_by c.args.r.now c.requires c.said_fits.ensures
