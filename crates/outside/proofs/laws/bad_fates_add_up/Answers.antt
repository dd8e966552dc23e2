use Rattle.outside.proofs.FateLaws.{bad_fates-le, bad_fates-same, bad_fates-rose}
use Rattle.outside.proofs.laws.bad_fates_add_up.Goals as goal

pub returns : goal.returns
returns c = record { never_falls = bad_fates-le; stays = bad_fates-same; rises = bad_fates-rose }
