-- A call that a procedure's grammar spells is that procedure's.
use Rattle.std.proofs.Common.{◌≡◌, ℕ, ◌≤◌, ap, ◌∙◌}
use Rattle.xdr_grammar.specs.Laws.{AllSpelled}
use Rattle.xdr_grammar.proofs.Rules.{grammar_laws}
use Rattle.nfs3_types.specs.declared.procedure.Procedure.{Procedure}
use Rattle.nfs3_types.specs.declared.procedure.Procedure.TheVariants.{Null, GetAttr, SetAttr, Lookup, Access, ReadLink, Read}
use Rattle.nfs3_types.specs.declared.procedure.Procedure.TheVariants.{Write, Create, Mkdir, Symlink, Mknod, Remove, Rmdir, Rename}
use Rattle.nfs3_types.specs.declared.procedure.Procedure.TheVariants.{Link, ReadDir, ReadDirPlus, FsStat, FsInfo, PathConf}
use Rattle.nfs3_types.specs.declared.procedure.Procedure.TheVariants.{Commit}
use Rattle.nfs3_types.specs.Procedures.{procedure_number, procedure_at}
use Rattle.nfs3_types.specs.Calls.{called, procedure_of, arguments, call_of}
use Rattle.nfs3_types.proofs.ProcedureLaws.{number-procedure_at}

arguments-called : (p : Procedure) → AllSpelled (arguments p) (λ lent. called lent ≡ p)
unfolding arguments
arguments-called Null = search grammar_laws
arguments-called GetAttr = search grammar_laws
arguments-called SetAttr = search grammar_laws
arguments-called Lookup = search grammar_laws
arguments-called Access = search grammar_laws
arguments-called ReadLink = search grammar_laws
arguments-called Read = search grammar_laws
arguments-called Write = search grammar_laws
arguments-called Create = search grammar_laws
arguments-called Mkdir = search grammar_laws
arguments-called Symlink = search grammar_laws
arguments-called Mknod = search grammar_laws
arguments-called Remove = search grammar_laws
arguments-called Rmdir = search grammar_laws
arguments-called Rename = search grammar_laws
arguments-called Link = search grammar_laws
arguments-called ReadDir = search grammar_laws
arguments-called ReadDirPlus = search grammar_laws
arguments-called FsStat = search grammar_laws
arguments-called FsInfo = search grammar_laws
arguments-called PathConf = search grammar_laws
arguments-called Commit = search grammar_laws

pub call_of-procedure : (n : ℕ) → n ≤ 21 → AllSpelled (call_of n) (λ lent. procedure_of lent ≡ n)
unfolding call_of
call_of-procedure n small lent bytes s = ap procedure_number (arguments-called (procedure_at n) lent bytes s)
    ∙ number-procedure_at n small
