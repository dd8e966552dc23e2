use Rattle.btree_edit.proofs.leaf.edit_leaf.Goals as goal

pub returns-in-Ok : goal.returns-in-Ok
returns-in-Ok c = rw c.in-Remove.is c.in-Ok.ensures

pub returns-in-Ok-replace_in : goal.returns-in-Ok-replace_in
returns-in-Ok-replace_in c = rw c.in-Replace.is c.in-Ok-replace_in.ensures

pub returns-in-Insert : goal.returns-in-Insert
returns-in-Insert c = rw c.in-Insert.is c.insert_into.ensures

pub returns-in-Err : goal.returns-in-Err
returns-in-Err c = rw c.in-Remove.is c.from.ensures

pub returns-in-Err-replace_in : goal.returns-in-Err-replace_in
returns-in-Err-replace_in c = rw c.in-Replace.is c.from-in-Err-replace_in.ensures

pub returns-in-Ok-end_in : goal.returns-in-Ok-end_in
returns-in-Ok-end_in c = rw c.in-End.is c.in-Ok-end_in.ensures

pub returns-in-Err-end_in : goal.returns-in-Err-end_in
returns-in-Err-end_in c = rw c.in-End.is c.from-in-Err-end_in.ensures
