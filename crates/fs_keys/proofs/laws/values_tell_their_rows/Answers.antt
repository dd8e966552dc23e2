use Rattle.fs_keys.proofs.ValueLaws.{first-laws, name-laws, extent-laws, times-laws, cookie-again}
use Rattle.fs_keys.proofs.laws.values_tell_their_rows.Goals as goal

pub returns-clause-first : goal.returns-clause-first
returns-clause-first c = first-laws

pub returns-clause-name : goal.returns-clause-name
returns-clause-name c = name-laws

pub returns-clause-extent : goal.returns-clause-extent
returns-clause-extent c = extent-laws

pub returns-clause-times : goal.returns-clause-times
returns-clause-times c = times-laws

pub returns-clause-cookie : goal.returns-clause-cookie
returns-clause-cookie c = cookie-again
