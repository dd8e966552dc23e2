use Rattle.fs_rules.specs.Answers.{row}
use Rattle.plain_tree.proofs.plain.Plain.act.Goals as goal

pub returns-in-SetAttr : goal.returns-in-SetAttr
unfolding row
returns-in-SetAttr c = rw c.in-SetAttr.is (c.does.ensures _ _ _ c.set_attr.ensures)

pub returns-in-Write : goal.returns-in-Write
unfolding row
returns-in-Write c = rw c.in-Write.is c.write.ensures

pub returns-in-Create : goal.returns-in-Create
unfolding row
returns-in-Create c = rw c.in-Create.is c.create.ensures

pub returns-in-Mkdir : goal.returns-in-Mkdir
unfolding row
returns-in-Mkdir c = rw c.in-Mkdir.is c.mkdir.ensures

pub returns-in-Symlink : goal.returns-in-Symlink
unfolding row
returns-in-Symlink c = rw c.in-Symlink.is c.symlink.ensures

pub returns-in-Remove : goal.returns-in-Remove
unfolding row
returns-in-Remove c = rw c.in-Remove.is (c.does-in-Remove.ensures _ _ _ c.remove.ensures)

pub returns-in-Rmdir : goal.returns-in-Rmdir
unfolding row
returns-in-Rmdir c = rw c.in-Rmdir.is (c.does-in-Rmdir.ensures _ _ _ c.rmdir.ensures)

pub returns-in-Rename : goal.returns-in-Rename
unfolding row
returns-in-Rename c = rw c.in-Rename.is c.rename.ensures

pub returns-in-Link : goal.returns-in-Link
unfolding row
returns-in-Link c = rw c.in-Link.is c.link.ensures
