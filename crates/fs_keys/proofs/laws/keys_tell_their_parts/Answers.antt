use Rattle.fs_keys.proofs.KeyLaws.{said-again, said-found, said-bounds, key-short}
use Rattle.fs_keys.proofs.laws.keys_tell_their_parts.Goals as goal

pub returns-clause-again : goal.returns-clause-again
returns-clause-again c = said-again

pub returns-clause-found : goal.returns-clause-found
returns-clause-found c = said-found

pub returns-clause-bounds : goal.returns-clause-bounds
returns-clause-bounds c = said-bounds

pub returns-clause-short : goal.returns-clause-short
returns-clause-short c = key-short
