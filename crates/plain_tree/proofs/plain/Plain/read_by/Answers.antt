use Rattle.fs_rules.specs.Answers.{row}
use Rattle.plain_tree.proofs.plain.Plain.read_by.Goals as goal

pub returns-in-GetAttr : goal.returns-in-GetAttr
unfolding row
returns-in-GetAttr c = rw c.in-GetAttr.is (c.tells.ensures _ _ c.get_attr.ensures)

pub returns-in-Lookup : goal.returns-in-Lookup
unfolding row
returns-in-Lookup c = rw c.in-Lookup.is (c.tells_unless.ensures _ _ c.lookup.ensures)

pub returns-in-Access : goal.returns-in-Access
unfolding row
returns-in-Access c = rw c.in-Access.is (c.tells-in-Access.ensures _ _ c.access.ensures)

pub returns-in-ReadLink : goal.returns-in-ReadLink
unfolding row
returns-in-ReadLink c = rw c.in-ReadLink.is (c.tells_unless-in-ReadLink.ensures _ _ c.read_link.ensures)

pub returns-in-Read : goal.returns-in-Read
unfolding row
returns-in-Read c = rw c.in-Read.is (c.tells_unless-in-Read.ensures _ _ c.read.ensures)

pub returns-in-ReadDir : goal.returns-in-ReadDir
unfolding row
returns-in-ReadDir c = rw c.in-ReadDir.is (c.tells_unless-in-ReadDir.ensures _ _ c.read_dir.ensures)

pub returns-in-ReadDirPlus : goal.returns-in-ReadDirPlus
unfolding row
returns-in-ReadDirPlus c = rw c.in-ReadDirPlus.is (c.tells_unless-in-ReadDirPlus.ensures _ _ c.read_dir_plus.ensures)

pub returns-in-FsStat : goal.returns-in-FsStat
unfolding row
returns-in-FsStat c = rw c.in-FsStat.is (c.tells-in-FsStat.ensures _ _ c.fs_stat.ensures)

pub returns-in-FsInfo : goal.returns-in-FsInfo
unfolding row
returns-in-FsInfo c = rw c.in-FsInfo.is (c.tells-in-FsInfo.ensures _ _ c.fs_info.ensures)

pub returns-in-PathConf : goal.returns-in-PathConf
unfolding row
returns-in-PathConf c = rw c.in-PathConf.is (c.tells-in-PathConf.ensures _ _ c.path_conf.ensures)

pub returns-in-Commit : goal.returns-in-Commit
unfolding row
returns-in-Commit c = rw c.in-Commit.is (c.tells-in-Commit.ensures _ _ c.commit.ensures)
