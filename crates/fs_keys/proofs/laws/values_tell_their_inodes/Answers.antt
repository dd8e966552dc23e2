use Rattle.fs_keys.proofs.Strict.{inode-found}
use Rattle.fs_keys.proofs.InodeLaws.{head-laws, inode-again, inode-fits, inode-short}
use Rattle.fs_keys.proofs.laws.values_tell_their_inodes.Goals as goal

pub returns-clause-head : goal.returns-clause-head
returns-clause-head c = head-laws

pub returns-clause-again : goal.returns-clause-again
returns-clause-again c = inode-again

pub returns-clause-fits : goal.returns-clause-fits
returns-clause-fits c = inode-fits

pub returns-clause-short : goal.returns-clause-short
returns-clause-short c = inode-short

pub returns-clause-found : goal.returns-clause-found
returns-clause-found c = inode-found
