use Rattle.service.proofs.Readings.{one_records, one_end, one_reading, one_front}
use Rattle.service.proofs.laws.one_reading.Goals as goal

pub returns-clause-records : goal.returns-clause-records
returns-clause-records g c = one_records g.T.Tree.answering

pub returns-clause-end : goal.returns-clause-end
returns-clause-end g c = one_end g.T.Tree.answering

pub returns-clause-same : goal.returns-clause-same
returns-clause-same g c = one_reading g.T.Tree.answering

pub returns-clause-front : goal.returns-clause-front
returns-clause-front g c = one_front g.T.Tree.answering
