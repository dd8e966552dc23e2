-- Procedures and their numbers.
use Rattle.std.proofs.Common.{◌≡◌, ℕ, zero, suc, ◌≤◌, refl, arith}
use Rattle.nfs3_types.specs.declared.procedure.Procedure.{Procedure}
use Rattle.nfs3_types.specs.declared.procedure.Procedure.TheVariants.{Null, GetAttr, SetAttr, Lookup, Access, ReadLink, Read}
use Rattle.nfs3_types.specs.declared.procedure.Procedure.TheVariants.{Write, Create, Mkdir, Symlink, Mknod, Remove, Rmdir, Rename}
use Rattle.nfs3_types.specs.declared.procedure.Procedure.TheVariants.{Link, ReadDir, ReadDirPlus, FsStat, FsInfo, PathConf}
use Rattle.nfs3_types.specs.declared.procedure.Procedure.TheVariants.{Commit}
use Rattle.nfs3_types.specs.Procedures.{procedure_number, procedure_named, procedure_at}

-- a procedure is that of its number
pub procedure_at-number : (p : Procedure) → procedure_at (procedure_number p) ≡ p
unfolding procedure_named
procedure_at-number Null = refl
procedure_at-number GetAttr = refl
procedure_at-number SetAttr = refl
procedure_at-number Lookup = refl
procedure_at-number Access = refl
procedure_at-number ReadLink = refl
procedure_at-number Read = refl
procedure_at-number Write = refl
procedure_at-number Create = refl
procedure_at-number Mkdir = refl
procedure_at-number Symlink = refl
procedure_at-number Mknod = refl
procedure_at-number Remove = refl
procedure_at-number Rmdir = refl
procedure_at-number Rename = refl
procedure_at-number Link = refl
procedure_at-number ReadDir = refl
procedure_at-number ReadDirPlus = refl
procedure_at-number FsStat = refl
procedure_at-number FsInfo = refl
procedure_at-number PathConf = refl
procedure_at-number Commit = refl

-- a number up to 21 is that of its procedure
pub number-procedure_at : (n : ℕ) → n ≤ 21 → procedure_number (procedure_at n) ≡ n
unfolding procedure_named
number-procedure_at zero le = refl
number-procedure_at (suc zero) le = refl
number-procedure_at (suc (suc zero)) le = refl
number-procedure_at (suc (suc (suc zero))) le = refl
number-procedure_at (suc (suc (suc (suc zero)))) le = refl
number-procedure_at (suc (suc (suc (suc (suc zero))))) le = refl
number-procedure_at (suc (suc (suc (suc (suc (suc zero)))))) le = refl
number-procedure_at (suc (suc (suc (suc (suc (suc (suc zero))))))) le = refl
number-procedure_at (suc (suc (suc (suc (suc (suc (suc (suc zero)))))))) le = refl
number-procedure_at (suc (suc (suc (suc (suc (suc (suc (suc (suc zero))))))))) le = refl
number-procedure_at (suc (suc (suc (suc (suc (suc (suc (suc (suc (suc zero)))))))))) le = refl
number-procedure_at (suc (suc (suc (suc (suc (suc (suc (suc (suc (suc (suc zero))))))))))) le = refl
number-procedure_at (suc (suc (suc (suc (suc (suc (suc (suc (suc (suc (suc (suc zero)))))))))))) le = refl
number-procedure_at (suc (suc (suc (suc (suc (suc (suc (suc (suc (suc (suc (suc (suc zero))))))))))))) le = refl
number-procedure_at (suc (suc (suc (suc (suc (suc (suc (suc (suc (suc (suc (suc (suc (suc zero)))))))))))))) le = refl
number-procedure_at (suc (suc (suc (suc (suc (suc (suc (suc (suc (suc (suc (suc (suc (suc (suc zero))))))))))))))) le = refl
number-procedure_at (suc (suc (suc (suc (suc (suc (suc (suc (suc (suc (suc (suc (suc (suc (suc (suc zero)))))))))))))))) le = refl
number-procedure_at (suc (suc (suc (suc (suc (suc (suc (suc (suc (suc (suc (suc (suc (suc (suc (suc (suc zero)))))))))))))))))
    le = refl
number-procedure_at (suc (suc
    (suc (suc (suc (suc (suc (suc (suc (suc (suc (suc (suc (suc (suc (suc (suc (suc zero)))))))))))))))))) le = refl
number-procedure_at (suc (suc
    (suc (suc (suc (suc (suc (suc (suc (suc (suc (suc (suc (suc (suc (suc (suc (suc (suc zero))))))))))))))))))) le = refl
number-procedure_at (suc (suc
    (suc (suc (suc (suc (suc (suc (suc (suc (suc (suc (suc (suc (suc (suc (suc (suc (suc (suc zero)))))))))))))))))))) le = refl
number-procedure_at (suc (suc
    (suc (suc (suc (suc (suc (suc (suc (suc (suc (suc (suc (suc (suc (suc (suc (suc (suc (suc (suc zero))))))))))))))))))))) le =
    refl
number-procedure_at (suc (suc
    (suc (suc (suc (suc (suc (suc (suc (suc (suc (suc (suc (suc (suc (suc (suc (suc (suc (suc (suc (suc n))))))))))))))))))))))
    le = absurd (omega arith)
