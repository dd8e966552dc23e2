use Rattle.btree_edit.proofs.Tops.{put_edits, put_misses, put_grows, put_stays, put_faults}
use Rattle.btree_edit.proofs.edit.replace.Goals as goal

pub returns-clause-replaced : goal.returns-clause-replaced
returns-clause-replaced g c = put_edits _ _ _ _ c.put.result c.put.ensures

pub returns-clause-lacking : goal.returns-clause-lacking
returns-clause-lacking g c = put_misses _ _ _ _ c.put.result c.put.ensures

pub returns-clause-goes_on : goal.returns-clause-goes_on
returns-clause-goes_on g c = c.put.ensures.goes_on

pub returns-clause-root : goal.returns-clause-root
returns-clause-root g c = put_grows _ _ _ _ c.put.result c.put.ensures

pub returns-clause-root_stays : goal.returns-clause-root_stays
returns-clause-root_stays g c = put_stays _ _ _ _ c.put.result c.put.ensures

pub returns-clause-fault : goal.returns-clause-fault
returns-clause-fault g c = put_faults _ _ _ _ c.put.result c.put.ensures
