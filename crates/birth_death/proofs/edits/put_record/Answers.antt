use Rattle.birth_death.proofs.edits.put_record.Goals as goal

pub returns-in-None-clause-ok : goal.returns-in-None-clause-ok
returns-in-None-clause-ok g c = rw c.in-None.is c.put_first.ensures.ok

pub returns-in-None-clause-fault : goal.returns-in-None-clause-fault
returns-in-None-clause-fault g c = rw c.in-None.is c.put_first.ensures.fault

pub returns-then-birth-q-clause-ok : goal.returns-then-birth-q-clause-ok
returns-then-birth-q-clause-ok g c = rw (c.in-Some.is, c.if-birth-q.true) c.put_over.ensures.ok

pub returns-then-birth-q-clause-fault : goal.returns-then-birth-q-clause-fault
returns-then-birth-q-clause-fault g c = rw (c.in-Some.is, c.if-birth-q.true) c.put_over.ensures.fault

pub returns-else-birth-q-clause-ok : goal.returns-else-birth-q-clause-ok
returns-else-birth-q-clause-ok g c = rw c.in-Some.is c.put_after.ensures.ok

pub returns-else-birth-q-clause-fault : goal.returns-else-birth-q-clause-fault
returns-else-birth-q-clause-fault g c = rw c.in-Some.is c.put_after.ensures.fault
