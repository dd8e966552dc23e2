-- The arguments of a call can be spelled, said variant by variant.
use Rattle.std.specs.Prelude.{⊤}
use Rattle.nfs3_types.specs.declared.call.CallOver.TheVariants.{Null, GetAttr, SetAttr, Lookup, Access, ReadLink, Read, Write}
use Rattle.nfs3_types.specs.declared.call.CallOver.TheVariants.{Create, Mkdir, Symlink, Mknod, Remove, Rmdir, Rename, Link}
use Rattle.nfs3_types.specs.declared.call.CallOver.TheVariants.{ReadDir, ReadDirPlus, FsStat, FsInfo, PathConf, Commit}
use Rattle.nfs3_types.specs.Handles.{file_handle}
use Rattle.nfs3_types.specs.Calls.{Call, access_args, create_args, dir_op, file_range, link_args, mkdir_args, mknod_args}
use Rattle.nfs3_types.specs.Calls.{read_dir_args, read_dir_plus_args, rename_args, set_attr_args, symlink_args, write_args}

abbrev pub CanBeSpelled : Call → Type 0
CanBeSpelled Null = ⊤
CanBeSpelled (GetAttr a) = file_handle.Fits a
CanBeSpelled (SetAttr a) = set_attr_args.Fits a
CanBeSpelled (Lookup a) = dir_op.Fits a
CanBeSpelled (Access a) = access_args.Fits a
CanBeSpelled (ReadLink a) = file_handle.Fits a
CanBeSpelled (Read a) = file_range.Fits a
CanBeSpelled (Write a) = write_args.Fits a
CanBeSpelled (Create a) = create_args.Fits a
CanBeSpelled (Mkdir a) = mkdir_args.Fits a
CanBeSpelled (Symlink a) = symlink_args.Fits a
CanBeSpelled (Mknod a) = mknod_args.Fits a
CanBeSpelled (Remove a) = dir_op.Fits a
CanBeSpelled (Rmdir a) = dir_op.Fits a
CanBeSpelled (Rename a) = rename_args.Fits a
CanBeSpelled (Link a) = link_args.Fits a
CanBeSpelled (ReadDir a) = read_dir_args.Fits a
CanBeSpelled (ReadDirPlus a) = read_dir_plus_args.Fits a
CanBeSpelled (FsStat a) = file_handle.Fits a
CanBeSpelled (FsInfo a) = file_handle.Fits a
CanBeSpelled (PathConf a) = file_handle.Fits a
CanBeSpelled (Commit a) = file_range.Fits a
