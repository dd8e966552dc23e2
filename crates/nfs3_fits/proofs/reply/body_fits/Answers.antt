use Rattle.std.proofs.Common.{refl}
use Rattle.nfs3_types.specs.Replies.{ok_body}
use Rattle.nfs3_fits.proofs.reply.body_fits.Goals as goal

pub returns-in-Null : goal.returns-in-Null
unfolding ok_body
returns-in-Null c = rw c.in-Null.is refl

pub returns-in-GetAttr : goal.returns-in-GetAttr
unfolding ok_body
returns-in-GetAttr c = rw c.in-GetAttr.is (record { value = c.in-GetAttr.ok; made = refl; fits = c.fattr_fits.ensures })

pub returns-in-SetAttr : goal.returns-in-SetAttr
unfolding ok_body
returns-in-SetAttr c = rw c.in-SetAttr.is (record { value = c.in-SetAttr.ok; made = refl; fits = c.wcc_fits.ensures })

pub returns-in-Lookup : goal.returns-in-Lookup
unfolding ok_body
returns-in-Lookup c = rw c.in-Lookup.is (record { value = c.in-Lookup.ok; made = refl; fits = c.lookup_fits.ensures })

pub returns-in-Access : goal.returns-in-Access
unfolding ok_body
returns-in-Access c = rw c.in-Access.is (record { value = c.in-Access.ok; made = refl; fits = c.access_fits.ensures })

pub returns-in-ReadLink : goal.returns-in-ReadLink
unfolding ok_body
returns-in-ReadLink c = rw c.in-ReadLink.is (record { value = c.in-ReadLink.ok; made = refl; fits = c.read_link_fits.ensures })

pub returns-in-Read : goal.returns-in-Read
unfolding ok_body
returns-in-Read c = rw c.in-Read.is (record { value = c.in-Read.ok; made = refl; fits = c.read_fits.ensures })

pub returns-in-Write : goal.returns-in-Write
unfolding ok_body
returns-in-Write c = rw c.in-Write.is (record { value = c.in-Write.ok; made = refl; fits = c.write_fits.ensures })

pub returns-in-Create : goal.returns-in-Create
unfolding ok_body
returns-in-Create c = rw c.in-Create.is (record { value = c.in-Create.ok; made = refl; fits = c.create_fits.ensures })

pub returns-in-Mkdir : goal.returns-in-Mkdir
unfolding ok_body
returns-in-Mkdir c = rw c.in-Mkdir.is (record { value = c.in-Mkdir.ok; made = refl; fits = c.create_fits-in-Mkdir.ensures })

pub returns-in-Symlink : goal.returns-in-Symlink
unfolding ok_body
returns-in-Symlink c = rw c.in-Symlink.is (record {
  value = c.in-Symlink.ok;
  made = refl;
  fits =
      c.create_fits-in-Symlink.ensures;
})

pub returns-in-Remove : goal.returns-in-Remove
unfolding ok_body
returns-in-Remove c = rw c.in-Remove.is (record { value = c.in-Remove.ok; made = refl; fits = c.wcc_fits-in-Remove.ensures })

pub returns-in-Rmdir : goal.returns-in-Rmdir
unfolding ok_body
returns-in-Rmdir c = rw c.in-Rmdir.is (record { value = c.in-Rmdir.ok; made = refl; fits = c.wcc_fits-in-Rmdir.ensures })

pub returns-in-Rename : goal.returns-in-Rename
unfolding ok_body
returns-in-Rename c = rw c.in-Rename.is (record { value = c.in-Rename.ok; made = refl; fits = c.rename_fits.ensures })

pub returns-in-Link : goal.returns-in-Link
unfolding ok_body
returns-in-Link c = rw c.in-Link.is (record { value = c.in-Link.ok; made = refl; fits = c.link_fits.ensures })

pub returns-in-ReadDir : goal.returns-in-ReadDir
unfolding ok_body
returns-in-ReadDir c = rw c.in-ReadDir.is (record { value = c.in-ReadDir.ok; made = refl; fits = c.read_dir_fits.ensures })

pub returns-in-ReadDirPlus : goal.returns-in-ReadDirPlus
unfolding ok_body
returns-in-ReadDirPlus c = rw c.in-ReadDirPlus.is (record {
  value = c.in-ReadDirPlus.ok;
  made = refl;
  fits =
      c.read_dir_plus_fits.ensures;
})

pub returns-in-FsStat : goal.returns-in-FsStat
unfolding ok_body
returns-in-FsStat c = rw c.in-FsStat.is (record { value = c.in-FsStat.ok; made = refl; fits = c.fs_stat_fits.ensures })

pub returns-in-FsInfo : goal.returns-in-FsInfo
unfolding ok_body
returns-in-FsInfo c = rw c.in-FsInfo.is (record { value = c.in-FsInfo.ok; made = refl; fits = c.fs_info_fits.ensures })

pub returns-in-PathConf : goal.returns-in-PathConf
unfolding ok_body
returns-in-PathConf c = rw c.in-PathConf.is (record { value = c.in-PathConf.ok; made = refl; fits = c.path_conf_fits.ensures })

pub returns-in-Commit : goal.returns-in-Commit
unfolding ok_body
returns-in-Commit c = rw c.in-Commit.is (record { value = c.in-Commit.ok; made = refl; fits = c.commit_fits.ensures })
