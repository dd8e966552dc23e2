-- The laws of the calls' grammars.
use Rattle.std.proofs.Common.{◌≡◌, ℕ, zero, suc, true, false, List, refl, sym, arith}
use Rattle.std.specs.Prelude.{◌==◌}
use Rattle.std.proofs.lemmas.Bool.{eqb-true}
use Rattle.xdr_grammar.specs.Items.{pick}
use Rattle.xdr_grammar.specs.Laws.{Laws, AllSpelled}
use Rattle.xdr_grammar.proofs.Rules.{grammar_laws, picked}
use Rattle.nfs3_types.specs.declared.file_type.FileType.{FileType}
use Rattle.nfs3_types.specs.declared.file_type.FileType.TheVariants.{Reg, Dir, Blk, Chr, Lnk, Sock, Fifo}
use Rattle.nfs3_types.specs.declared.procedure.Procedure.{Procedure}
use Rattle.nfs3_types.specs.declared.procedure.Procedure.TheVariants.{Null, GetAttr, SetAttr, Lookup, Access, ReadLink, Read}
use Rattle.nfs3_types.specs.declared.procedure.Procedure.TheVariants.{Write, Create, Mkdir, Symlink, Mknod, Remove, Rmdir, Rename}
use Rattle.nfs3_types.specs.declared.procedure.Procedure.TheVariants.{Link, ReadDir, ReadDirPlus, FsStat, FsInfo, PathConf}
use Rattle.nfs3_types.specs.declared.procedure.Procedure.TheVariants.{Commit}
use Rattle.nfs3_types.specs.Procedures.{procedure_at}
use Rattle.nfs3_types.specs.Stability.{stable_how}
use Rattle.nfs3_types.specs.Calls.{what_type, of_type, text, verifier, dir_op, set_attr_args, access_args, file_range, write_args}
use Rattle.nfs3_types.specs.Calls.{create_how, create_args, mkdir_args, symlink_args, device_data, mknod_data, mknod_args}
use Rattle.nfs3_types.specs.Calls.{rename_args, link_args, read_dir_args, read_dir_plus_args, arguments, call_of}
use Rattle.nfs3_types.proofs.HandleLaws.{file_handle-laws}
use Rattle.nfs3_types.proofs.AttributeLaws.{file_type-laws, spec_data-laws, optional_time-laws, sattr-laws}

pub stable_how-laws : Laws stable_how
unfolding stable_how
stable_how-laws = search grammar_laws

pub text-laws : Laws text
unfolding text
text-laws = search grammar_laws depth 40

pub verifier-laws : Laws verifier
unfolding verifier
verifier-laws = search grammar_laws depth 40

dir_op-laws : Laws dir_op
unfolding dir_op
dir_op-laws = search (grammar_laws, file_handle-laws, text-laws) depth 40

set_attr_args-laws : Laws set_attr_args
unfolding set_attr_args
set_attr_args-laws = search (grammar_laws, file_handle-laws, optional_time-laws, sattr-laws) depth 40

access_args-laws : Laws access_args
unfolding access_args
access_args-laws = search (grammar_laws, file_handle-laws) depth 40

file_range-laws : Laws file_range
unfolding file_range
file_range-laws = search (grammar_laws, file_handle-laws) depth 40

write_args-laws : Laws write_args
unfolding write_args
write_args-laws = search (grammar_laws, stable_how-laws, file_handle-laws, text-laws) depth 40

-- the mode of what it chooses
is_mode : (k mode : ℕ) → (mode == k) ≡ true → k ≡ mode
is_mode k mode h = sym (eqb-true mode k h)

is_exclusive : (mode : ℕ) (front : List ℕ) → (pick 0 2).Spells mode front → (mode == 0) ≡ false → (mode == 1) ≡ false → 2 ≡ mode
is_exclusive zero front s h k = absurd cc
is_exclusive (suc zero) front s h k = absurd cc
is_exclusive (suc (suc zero)) front s h k = refl
is_exclusive (suc (suc (suc n))) front s h k = absurd (omega (arith, picked 0 2 (suc (suc (suc n))) front s))

create_how-laws : Laws create_how
unfolding create_how
create_how-laws = search (grammar_laws, sattr-laws, verifier-laws, is_mode, is_exclusive) depth 40

create_args-laws : Laws create_args
unfolding create_args
create_args-laws = search (grammar_laws, dir_op-laws, create_how-laws) depth 40

mkdir_args-laws : Laws mkdir_args
unfolding mkdir_args
mkdir_args-laws = search (grammar_laws, sattr-laws, dir_op-laws) depth 40

symlink_args-laws : Laws symlink_args
unfolding symlink_args
symlink_args-laws = search (grammar_laws, sattr-laws, text-laws, dir_op-laws) depth 40

device_data-laws : Laws device_data
unfolding device_data
device_data-laws = search (grammar_laws, spec_data-laws, sattr-laws) depth 40

of_type-laws : (kind : FileType) → Laws (of_type kind)
unfolding of_type
of_type-laws Reg = search grammar_laws
of_type-laws Dir = search grammar_laws
of_type-laws Lnk = search grammar_laws
of_type-laws Blk = search (grammar_laws, device_data-laws)
of_type-laws Chr = search (grammar_laws, device_data-laws)
of_type-laws Sock = search (grammar_laws, sattr-laws)
of_type-laws Fifo = search (grammar_laws, sattr-laws)

-- what stands behind a type is of that type
of_type-keeps : (kind : FileType) → AllSpelled (of_type kind) (λ d. what_type d ≡ kind)
unfolding of_type
of_type-keeps Reg = search grammar_laws
of_type-keeps Dir = search grammar_laws
of_type-keeps Lnk = search grammar_laws
of_type-keeps Blk = search grammar_laws
of_type-keeps Chr = search grammar_laws
of_type-keeps Sock = search grammar_laws
of_type-keeps Fifo = search grammar_laws

mknod_data-laws : Laws mknod_data
unfolding mknod_data
mknod_data-laws = search (grammar_laws, file_type-laws, of_type-laws, of_type-keeps) depth 40

mknod_args-laws : Laws mknod_args
unfolding mknod_args
mknod_args-laws = search (grammar_laws, dir_op-laws, mknod_data-laws) depth 40

rename_args-laws : Laws rename_args
unfolding rename_args
rename_args-laws = search (grammar_laws, dir_op-laws) depth 40

link_args-laws : Laws link_args
unfolding link_args
link_args-laws = search (grammar_laws, file_handle-laws, dir_op-laws) depth 40

read_dir_args-laws : Laws read_dir_args
unfolding read_dir_args
read_dir_args-laws = search (grammar_laws, file_handle-laws, verifier-laws) depth 40

read_dir_plus_args-laws : Laws read_dir_plus_args
unfolding read_dir_plus_args
read_dir_plus_args-laws = search (grammar_laws, file_handle-laws, verifier-laws) depth 40

arguments-laws : (p : Procedure) → Laws (arguments p)
unfolding arguments
arguments-laws Null = search grammar_laws
arguments-laws GetAttr = search (grammar_laws, file_handle-laws)
arguments-laws SetAttr = search (grammar_laws, set_attr_args-laws)
arguments-laws Lookup = search (grammar_laws, dir_op-laws)
arguments-laws Access = search (grammar_laws, access_args-laws)
arguments-laws ReadLink = search (grammar_laws, file_handle-laws)
arguments-laws Read = search (grammar_laws, file_range-laws)
arguments-laws Write = search (grammar_laws, write_args-laws)
arguments-laws Create = search (grammar_laws, create_args-laws)
arguments-laws Mkdir = search (grammar_laws, mkdir_args-laws)
arguments-laws Symlink = search (grammar_laws, symlink_args-laws)
arguments-laws Mknod = search (grammar_laws, mknod_args-laws)
arguments-laws Remove = search (grammar_laws, dir_op-laws)
arguments-laws Rmdir = search (grammar_laws, dir_op-laws)
arguments-laws Rename = search (grammar_laws, rename_args-laws)
arguments-laws Link = search (grammar_laws, link_args-laws)
arguments-laws ReadDir = search (grammar_laws, read_dir_args-laws)
arguments-laws ReadDirPlus = search (grammar_laws, read_dir_plus_args-laws)
arguments-laws FsStat = search (grammar_laws, file_handle-laws)
arguments-laws FsInfo = search (grammar_laws, file_handle-laws)
arguments-laws PathConf = search (grammar_laws, file_handle-laws)
arguments-laws Commit = search (grammar_laws, file_range-laws)

pub call_of-laws : (n : ℕ) → Laws (call_of n)
unfolding call_of
call_of-laws n = arguments-laws (procedure_at n)
