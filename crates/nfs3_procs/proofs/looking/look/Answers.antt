-- Each call that changes nothing, by its procedure.
use Rattle.fs_rules.specs.Checks.{told}
use Rattle.fs_rules.specs.Telling.{fs_info, fs_stat, get_attr, path_conf, read_link}
use Rattle.nfs3_procs.proofs.Ended.{by-handle, refuses-all, tells-null}
use Rattle.nfs3_procs.proofs.looking.look.Goals as goal

pub returns-in-Null : goal.returns-in-Null
returns-in-Null g c = rw c.in-Null.is (tells-null g.P.Pairs.told c.args.pairs.now)

pub returns-in-Mknod : goal.returns-in-Mknod
returns-in-Mknod g c = rw c.in-Mknod.is (refuses-all g.P.Pairs.told c.args.pairs.now)

pub returns-in-GetAttr : goal.returns-in-GetAttr
returns-in-GetAttr g c =
    rw c.in-GetAttr.is (by-handle g.P.Pairs.told c.args.pairs.now c.get_attr.new.pairs
    (λ h t. told t (get_attr t h)) c.get_attr.result _ _
    c.as_slice.ensures c.get_attr.ensures)

pub returns-in-Lookup : goal.returns-in-Lookup
returns-in-Lookup g c = rw c.in-Lookup.is c.lookup.ensures

pub returns-in-Access : goal.returns-in-Access
returns-in-Access g c = rw c.in-Access.is c.access.ensures

pub returns-in-ReadLink : goal.returns-in-ReadLink
returns-in-ReadLink g c =
    rw c.in-ReadLink.is (by-handle g.P.Pairs.told c.args.pairs.now c.read_link.new.pairs
    (λ h t. told t (read_link t h)) c.read_link.result _ _
    c.as_slice-in-ReadLink.ensures c.read_link.ensures)

pub returns-in-Read : goal.returns-in-Read
returns-in-Read g c = rw c.in-Read.is c.read.ensures

pub returns-in-ReadDir : goal.returns-in-ReadDir
returns-in-ReadDir g c = rw c.in-ReadDir.is c.read_dir.ensures

pub returns-in-ReadDirPlus : goal.returns-in-ReadDirPlus
returns-in-ReadDirPlus g c = rw c.in-ReadDirPlus.is c.read_dir_plus.ensures

pub returns-in-FsStat : goal.returns-in-FsStat
returns-in-FsStat g c =
    rw c.in-FsStat.is (by-handle g.P.Pairs.told c.args.pairs.now c.fs_stat.new.pairs
    (λ h t. told t (fs_stat t h)) c.fs_stat.result _ _
    c.as_slice-in-FsStat.ensures c.fs_stat.ensures)

pub returns-in-FsInfo : goal.returns-in-FsInfo
returns-in-FsInfo g c =
    rw c.in-FsInfo.is (by-handle g.P.Pairs.told c.args.pairs.now c.fs_info.new.pairs
    (λ h t. told t (fs_info t h)) c.fs_info.result _ _
    c.as_slice-in-FsInfo.ensures c.fs_info.ensures)

pub returns-in-PathConf : goal.returns-in-PathConf
returns-in-PathConf g c =
    rw c.in-PathConf.is (by-handle g.P.Pairs.told c.args.pairs.now c.path_conf.new.pairs
    (λ h t. told t (path_conf t h)) c.path_conf.result _ _
    c.as_slice-in-PathConf.ensures c.path_conf.ensures)

pub returns-in-Commit : goal.returns-in-Commit
returns-in-Commit g c = rw c.in-Commit.is c.commit.ensures
