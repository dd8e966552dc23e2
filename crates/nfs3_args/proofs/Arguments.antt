-- A call that its grammar can spell has arguments that theirs can.
use Rattle.std.proofs.Common.{◌≡◌, Option, Some, refl, sym, ap, subst, ◌∙◌}
use Rattle.xdr_grammar.specs.Grammar.{Grammar}
use Rattle.xdr_grammar.specs.Choices.{FitsCase}
use Rattle.xdr_grammar.specs.Laws.{GivesBack}
use Rattle.nfs3_types.specs.declared.call.CallOver.TheVariants.{Null, GetAttr, SetAttr, Lookup, Access, ReadLink, Read, Write}
use Rattle.nfs3_types.specs.declared.call.CallOver.TheVariants.{Create, Mkdir, Symlink, Mknod, Remove, Rmdir, Rename, Link}
use Rattle.nfs3_types.specs.declared.call.CallOver.TheVariants.{ReadDir, ReadDirPlus, FsStat, FsInfo, PathConf, Commit}
use Rattle.nfs3_types.specs.Handles.{file_handle}
use Rattle.nfs3_types.specs.Calls.{Call, called, procedure_of, arguments, call_of, access_args, create_args, dir_op, file_range}
use Rattle.nfs3_types.specs.Calls.{link_args, mkdir_args, mknod_args, read_dir_args, read_dir_plus_args, rename_args}
use Rattle.nfs3_types.specs.Calls.{set_attr_args, symlink_args, write_args, get_attr_in, set_attr_in, lookup_in, access_in}
use Rattle.nfs3_types.specs.Calls.{read_link_in, read_in, write_in, create_in, mkdir_in, symlink_in, mknod_in, remove_in}
use Rattle.nfs3_types.specs.Calls.{rmdir_in, rename_in, link_in, read_dir_in, read_dir_plus_in, fs_stat_in, fs_info_in}
use Rattle.nfs3_types.specs.Calls.{path_conf_in, commit_in}
use Rattle.nfs3_types.proofs.ProcedureLaws.{procedure_at-number}
use Rattle.nfs3_args.specs.Fitting.{CanBeSpelled}

some_is : {A : Type 0} (a b : A) → Some a ≡ Some b → a ≡ b
some_is a b e = cc

case_fits : {A B : Type 0} (make : B → A) (content : A → Option B) (g : Grammar B) (v : B) → GivesBack make content
    → FitsCase make g (make v) → g.Fits v
case_fits make content g v back f = subst g.Fits (some_is f.value v (sym (back f.value) ∙ ap content (sym f.made) ∙ back v))
    f.fits

-- the grammar of a call's number is that of its procedure
pub call_of-called : (lent : Call) → call_of (procedure_of lent) ≡ arguments (called lent)
unfolding call_of
call_of-called lent = ap arguments (procedure_at-number (called lent))

pub arguments_fit : (lent : Call) → (arguments (called lent)).Fits lent → CanBeSpelled lent
unfolding arguments
arguments_fit Null f = tt
arguments_fit (GetAttr a) f = case_fits GetAttr get_attr_in file_handle a (λ b. refl) f
arguments_fit (SetAttr a) f = case_fits SetAttr set_attr_in set_attr_args a (λ b. refl) f
arguments_fit (Lookup a) f = case_fits Lookup lookup_in dir_op a (λ b. refl) f
arguments_fit (Access a) f = case_fits Access access_in access_args a (λ b. refl) f
arguments_fit (ReadLink a) f = case_fits ReadLink read_link_in file_handle a (λ b. refl) f
arguments_fit (Read a) f = case_fits Read read_in file_range a (λ b. refl) f
arguments_fit (Write a) f = case_fits Write write_in write_args a (λ b. refl) f
arguments_fit (Create a) f = case_fits Create create_in create_args a (λ b. refl) f
arguments_fit (Mkdir a) f = case_fits Mkdir mkdir_in mkdir_args a (λ b. refl) f
arguments_fit (Symlink a) f = case_fits Symlink symlink_in symlink_args a (λ b. refl) f
arguments_fit (Mknod a) f = case_fits Mknod mknod_in mknod_args a (λ b. refl) f
arguments_fit (Remove a) f = case_fits Remove remove_in dir_op a (λ b. refl) f
arguments_fit (Rmdir a) f = case_fits Rmdir rmdir_in dir_op a (λ b. refl) f
arguments_fit (Rename a) f = case_fits Rename rename_in rename_args a (λ b. refl) f
arguments_fit (Link a) f = case_fits Link link_in link_args a (λ b. refl) f
arguments_fit (ReadDir a) f = case_fits ReadDir read_dir_in read_dir_args a (λ b. refl) f
arguments_fit (ReadDirPlus a) f = case_fits ReadDirPlus read_dir_plus_in read_dir_plus_args a (λ b. refl) f
arguments_fit (FsStat a) f = case_fits FsStat fs_stat_in file_handle a (λ b. refl) f
arguments_fit (FsInfo a) f = case_fits FsInfo fs_info_in file_handle a (λ b. refl) f
arguments_fit (PathConf a) f = case_fits PathConf path_conf_in file_handle a (λ b. refl) f
arguments_fit (Commit a) f = case_fits Commit commit_in file_range a (λ b. refl) f
