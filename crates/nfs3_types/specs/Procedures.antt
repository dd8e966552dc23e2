-- The procedures (RFC 1813, section 3.3), and their numbers.
use Rattle.std.specs.Prelude.{ℕ, Bool, true, false, List, [], ◌∷◌, Option}
use Rattle.xdr_grammar.specs.Enumerations.{named, or_else}
use Rattle.nfs3_types.specs.declared.procedure.Procedure.{Procedure}
use Rattle.nfs3_types.specs.declared.procedure.Procedure.TheVariants.{Null, GetAttr, SetAttr, Lookup, Access, ReadLink, Read}
use Rattle.nfs3_types.specs.declared.procedure.Procedure.TheVariants.{Write, Create, Mkdir, Symlink, Mknod, Remove, Rmdir, Rename}
use Rattle.nfs3_types.specs.declared.procedure.Procedure.TheVariants.{Link, ReadDir, ReadDirPlus, FsStat, FsInfo, PathConf}
use Rattle.nfs3_types.specs.declared.procedure.Procedure.TheVariants.{Commit}

abbrev pub procedure_number : Procedure → ℕ
procedure_number Null = 0
procedure_number GetAttr = 1
procedure_number SetAttr = 2
procedure_number Lookup = 3
procedure_number Access = 4
procedure_number ReadLink = 5
procedure_number Read = 6
procedure_number Write = 7
procedure_number Create = 8
procedure_number Mkdir = 9
procedure_number Symlink = 10
procedure_number Mknod = 11
procedure_number Remove = 12
procedure_number Rmdir = 13
procedure_number Rename = 14
procedure_number Link = 15
procedure_number ReadDir = 16
procedure_number ReadDirPlus = 17
procedure_number FsStat = 18
procedure_number FsInfo = 19
procedure_number PathConf = 20
procedure_number Commit = 21

abbrev pub procedures : List Procedure
procedures =
    Null ∷ GetAttr ∷ SetAttr ∷ Lookup ∷ Access ∷ ReadLink ∷ Read ∷ Write ∷ Create ∷ Mkdir ∷ Symlink ∷
    Mknod ∷ Remove ∷ Rmdir ∷ Rename ∷ Link ∷ ReadDir ∷ ReadDirPlus ∷ FsStat ∷ FsInfo ∷ PathConf ∷ Commit ∷ []

-- the procedure of a number
unfoldable pub procedure_named : ℕ → Option Procedure
procedure_named n = named procedure_number procedures n

-- the procedure as which a number is spelled: what is no procedure, as NULL
abbrev pub procedure_at : ℕ → Procedure
procedure_at n = or_else Null (procedure_named n)

-- whether its result begins with a status: NULL's does not
abbrev pub has_status : Procedure → Bool
has_status Null = false
has_status _ = true
