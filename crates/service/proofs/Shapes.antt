-- A reply has its shape in one way, so that the shape follows of a truncated fact.
use Rattle.std.proofs.Common.{ℕ, Bool, true, false}
use Rattle.std.proofs.Props.{props}
use Rattle.nfs3_types.specs.declared.body.Body.{Body}
use Rattle.nfs3_types.specs.declared.body.Body.TheVariants.{Null, GetAttr, SetAttr, Lookup, Access, ReadLink, Read, Write}
use Rattle.nfs3_types.specs.declared.body.Body.TheVariants.{Create, Mkdir, Symlink, Remove, Rmdir, Rename, Link, ReadDir}
use Rattle.nfs3_types.specs.declared.body.Body.TheVariants.{ReadDirPlus, FsStat, FsInfo, PathConf, Commit, Nothing}
use Rattle.nfs3_types.specs.declared.reply.Reply.{Reply}
use Rattle.nfs3_types.specs.Replies.{is_ok}
use Rattle.nfs3_fits.specs.Shape.{HasShape, IsBodyOf, IsWithin, Says}

within_prop : (body : Body) → IsProp (IsWithin body)
within_prop Null = Prim.hlevel props
within_prop (GetAttr ok) = Prim.hlevel props
within_prop (SetAttr ok) = Prim.hlevel props
within_prop (Lookup ok) = Prim.hlevel props
within_prop (Access ok) = Prim.hlevel props
within_prop (ReadLink ok) = Prim.hlevel props
within_prop (Read ok) = Prim.hlevel props
within_prop (Write ok) = Prim.hlevel props
within_prop (Create ok) = Prim.hlevel props
within_prop (Mkdir ok) = Prim.hlevel props
within_prop (Symlink ok) = Prim.hlevel props
within_prop (Remove ok) = Prim.hlevel props
within_prop (Rmdir ok) = Prim.hlevel props
within_prop (Rename ok) = Prim.hlevel props
within_prop (Link ok) = Prim.hlevel props
within_prop (ReadDir ok) = Prim.hlevel props
within_prop (ReadDirPlus ok) = Prim.hlevel props
within_prop (FsStat ok) = Prim.hlevel props
within_prop (FsInfo ok) = Prim.hlevel props
within_prop (PathConf ok) = Prim.hlevel props
within_prop (Commit ok) = Prim.hlevel props
within_prop Nothing = Prim.hlevel props

body_prop : (procedure : ℕ) (body : Body) → IsProp (IsBodyOf procedure body)
body_prop procedure body = Prim.hlevel (props, within_prop)

says_prop : (said : Bool) (procedure : ℕ) (body : Body) → IsProp (Says said procedure body)
says_prop true procedure body = body_prop procedure body
says_prop false procedure body = Prim.hlevel props

pub shape_prop : (reply : Reply) → IsProp (HasShape reply)
shape_prop reply = says_prop (is_ok reply.status) reply.procedure reply.body
