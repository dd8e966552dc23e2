-- Replies that leave nothing out: what a body may leave out (RFC 1813, section 2.6: post_op_attr, pre_op_attr and
-- post_op_fh3) is there.
use Rattle.std.specs.Prelude.{◌≡◌, All, is_some, true, ⊤}
use Rattle.nfs3_types.specs.declared.attributes.Wcc.{Wcc}
use Rattle.nfs3_types.specs.declared.body.Body.{Body}
use Rattle.nfs3_types.specs.declared.body.Body.TheVariants.{SetAttr, Lookup, Access, ReadLink, Read, Write, Create, Mkdir}
use Rattle.nfs3_types.specs.declared.body.Body.TheVariants.{Symlink, Remove, Rmdir, Rename, Link, ReadDir, ReadDirPlus}
use Rattle.nfs3_types.specs.declared.body.Body.TheVariants.{FsStat, FsInfo, PathConf, Commit}
use Rattle.nfs3_types.specs.declared.body.CreateOk.{CreateOk}
use Rattle.nfs3_types.specs.declared.body.DirEntryPlus.{DirEntryPlus}

-- the attributes before and after
pub record IsWholeChange (w : Wcc) : Type 0 where
  pub before : is_some w.before ≡ true
  pub after : is_some w.after ≡ true

-- the handle and the attributes of what was made, and those of its directory
pub record IsWholeNew (n : CreateOk) : Type 0 where
  pub object : is_some n.object ≡ true
  pub attributes : is_some n.attributes ≡ true
  pub directory : IsWholeChange n.directory

-- the handle and the attributes of what is listed
pub record IsWholeEntry (e : DirEntryPlus) : Type 0 where
  pub object : is_some e.object ≡ true
  pub attributes : is_some e.attributes ≡ true

-- a body that leaves nothing out; those that are not named have nothing that they may leave out
abbrev pub IsWhole : Body → Type 0
IsWhole (SetAttr file) = IsWholeChange file
IsWhole (Lookup ok) = (is_some ok.attributes ≡ true) × (is_some ok.directory ≡ true)
IsWhole (Access ok) = is_some ok.attributes ≡ true
IsWhole (ReadLink ok) = is_some ok.attributes ≡ true
IsWhole (Read ok) = is_some ok.attributes ≡ true
IsWhole (Write ok) = IsWholeChange ok.file
IsWhole (Create ok) = IsWholeNew ok
IsWhole (Mkdir ok) = IsWholeNew ok
IsWhole (Symlink ok) = IsWholeNew ok
IsWhole (Remove directory) = IsWholeChange directory
IsWhole (Rmdir directory) = IsWholeChange directory
IsWhole (Rename ok) = IsWholeChange ok.from × IsWholeChange ok.to
IsWhole (Link ok) = (is_some ok.attributes ≡ true) × IsWholeChange ok.directory
IsWhole (ReadDir ok) = is_some ok.attributes ≡ true
IsWhole (ReadDirPlus ok) = (is_some ok.attributes ≡ true) × All IsWholeEntry ok.entries
IsWhole (FsStat ok) = is_some ok.attributes ≡ true
IsWhole (FsInfo ok) = is_some ok.attributes ≡ true
IsWhole (PathConf ok) = is_some ok.attributes ≡ true
IsWhole (Commit ok) = IsWholeChange ok.file
IsWhole body = ⊤
