-- What definitions are said in, to be imported from one place: std's words, the types of NFS version 3, and this crate's.
pub use Rattle.std.specs.Prelude.{⊤, ℕ, zero, suc, nat_le, nat_lt, min, bit_and, Bool, true, false, not, List, [], length, map}
pub use Rattle.std.specs.Prelude.{find, filter, take, drop, replicate, slice_index_or, slice_set, codes, bytes_eq, Option, Some}
pub use Rattle.std.specs.Prelude.{None, All, IfSome, is_some, is_none, unwrap_or, option_map, option_and_then, Result, Ok, Err}
pub use Rattle.nfs3_types.specs.declared.args.{AccessArgs.AccessArgs, CreateArgs.CreateArgs, CreateHow.CreateHow, DirOp.DirOp}
pub use Rattle.nfs3_types.specs.declared.args.{FileRange.FileRange, LinkArgs.LinkArgs, MkdirArgs.MkdirArgs}
pub use Rattle.nfs3_types.specs.declared.args.{ReadDirArgs.ReadDirArgs, ReadDirPlusArgs.ReadDirPlusArgs, RenameArgs.RenameArgs}
pub use Rattle.nfs3_types.specs.declared.args.{SetAttrArgs.SetAttrArgs, SymlinkArgs.SymlinkArgs, WriteArgs.WriteArgs}
pub use Rattle.nfs3_types.specs.declared.args.CreateHow.TheVariants.{Unchecked, Guarded, Exclusive}
pub use Rattle.nfs3_types.specs.declared.attributes.{Fattr.Fattr, Sattr.Sattr, SetTime.SetTime, Wcc.Wcc, WccAttr.WccAttr}
pub use Rattle.nfs3_types.specs.declared.attributes.SetTime.TheVariants.{DontChange, ServerTime, ClientTime}
pub use Rattle.nfs3_types.specs.declared.body.{Body.Body, CreateOk.CreateOk, DirEntry.DirEntry, DirEntryPlus.DirEntryPlus}
pub use Rattle.nfs3_types.specs.declared.body.Body.TheVariants.{Null as NullBody, Nothing, GetAttr, SetAttr, Lookup, Access, Read}
pub use Rattle.nfs3_types.specs.declared.body.Body.TheVariants.{Write, Create, Mkdir, Symlink, Remove, Rmdir, Rename, Link}
pub use Rattle.nfs3_types.specs.declared.body.Body.TheVariants.{ReadLink, ReadDir, ReadDirPlus, FsStat, FsInfo, PathConf, Commit}
pub use Rattle.nfs3_types.specs.declared.{cred.Cred.Cred, file_type.FileType.FileType, handle.Handle.Handle, moment.Moment.Moment}
pub use Rattle.nfs3_types.specs.declared.{reply.Reply.Reply, stable_how.StableHow.TheVariants.FileSync, status.Status.Status}
pub use Rattle.nfs3_types.specs.declared.file_type.FileType.TheVariants.{Reg, Dir, Lnk}
pub use Rattle.nfs3_types.specs.declared.status.Status.TheVariants.{Ok as StatusOk, Perm, NoEnt, Acces, Exist, Xdev, NotDir}
pub use Rattle.nfs3_types.specs.declared.status.Status.TheVariants.{IsDir, Inval, FBig, NoSpc, Rofs, MLink, NameTooLong, NotEmpty}
pub use Rattle.nfs3_types.specs.declared.status.Status.TheVariants.{Stale, BadHandle, NotSync, BadCookie, NotSupp, TooSmall}
pub use Rattle.nfs3_types.specs.{Calls.Call, Calls.procedure_of, FileTypes.type_number, Handles.handle, Handles.handle_in}
pub use Rattle.fs_rules.specs.declared.{inode.Inode.Inode, name_entry.NameEntry.NameEntry, place.Place.Place, times.Times.Times}
pub use Rattle.fs_rules.specs.declared.place.Place.TheVariants.{Live, SnapshotDirectory, Kept}
pub use Rattle.fs_rules.specs.declared.plans.{Climb.Climb, CreatePlan.CreatePlan, LinkPlan.LinkPlan, NewPlan.NewPlan}
pub use Rattle.fs_rules.specs.declared.plans.{RemovePlan.RemovePlan, RenamePlan.RenamePlan, Replaced.Replaced}
pub use Rattle.fs_rules.specs.declared.plans.{SetAttrPlan.SetAttrPlan, WritePlan.WritePlan}
pub use Rattle.fs_rules.specs.declared.plans.Climb.TheVariants.{TooDeep, Found, Root}
pub use Rattle.byteorder.specs.Endian.{big_number}
