-- The laws of the results' grammars.
use Rattle.std.proofs.Common.{◌≡◌, ℕ, true, refl}
use Rattle.xdr_grammar.specs.Laws.{Laws}
use Rattle.xdr_grammar.proofs.Rules.{grammar_laws}
use Rattle.nfs3_types.specs.declared.procedure.Procedure.{Procedure}
use Rattle.nfs3_types.specs.declared.procedure.Procedure.TheVariants.{Null, GetAttr, SetAttr, Lookup, Access, ReadLink, Read}
use Rattle.nfs3_types.specs.declared.procedure.Procedure.TheVariants.{Write, Create, Mkdir, Symlink, Mknod, Remove, Rmdir, Rename}
use Rattle.nfs3_types.specs.declared.procedure.Procedure.TheVariants.{Link, ReadDir, ReadDirPlus, FsStat, FsInfo, PathConf}
use Rattle.nfs3_types.specs.declared.procedure.Procedure.TheVariants.{Commit}
use Rattle.nfs3_types.specs.declared.status.Status.{Status}
use Rattle.nfs3_types.specs.declared.status.Status.TheVariants.{Ok as StatusOk}
use Rattle.nfs3_types.specs.Procedures.{procedure_at}
use Rattle.nfs3_types.specs.Statuses.{status}
use Rattle.nfs3_types.specs.Replies.{lookup_ok, access_ok, read_link_ok, read_ok, write_ok, create_ok, rename_ok, link_ok}
use Rattle.nfs3_types.specs.Replies.{dir_entry, read_dir_ok, dir_entry_plus, read_dir_plus_ok, fs_stat_ok, fs_info_ok}
use Rattle.nfs3_types.specs.Replies.{path_conf_ok, commit_ok, ok_body, Telling, told, is_ok, result_with_status, result}
use Rattle.nfs3_types.specs.Replies.{result_of}
use Rattle.nfs3_types.specs.Replies.Telling.{Nought, Attributes, BeforeAndAfter, OfRename, OfLink}
use Rattle.nfs3_types.proofs.HandleLaws.{file_handle-laws, post_op_handle-laws}
use Rattle.nfs3_types.proofs.AttributeLaws.{time-laws, fattr-laws, post_op_attr-laws, wcc_data-laws}
use Rattle.nfs3_types.proofs.CallLaws.{text-laws, verifier-laws, stable_how-laws}

pub status-laws : Laws status
unfolding status
status-laws = search grammar_laws

lookup_ok-laws : Laws lookup_ok
unfolding lookup_ok
lookup_ok-laws = search (grammar_laws, file_handle-laws, post_op_attr-laws) depth 60

access_ok-laws : Laws access_ok
unfolding access_ok
access_ok-laws = search (grammar_laws, post_op_attr-laws) depth 60

read_link_ok-laws : Laws read_link_ok
unfolding read_link_ok
read_link_ok-laws = search (grammar_laws, post_op_attr-laws, text-laws) depth 60

read_ok-laws : Laws read_ok
unfolding read_ok
read_ok-laws = search (grammar_laws, post_op_attr-laws, text-laws) depth 60

write_ok-laws : Laws write_ok
unfolding write_ok
write_ok-laws = search (grammar_laws, wcc_data-laws, verifier-laws, stable_how-laws) depth 60

create_ok-laws : Laws create_ok
unfolding create_ok
create_ok-laws = search (grammar_laws, post_op_handle-laws, post_op_attr-laws, wcc_data-laws) depth 60

rename_ok-laws : Laws rename_ok
unfolding rename_ok
rename_ok-laws = search (grammar_laws, wcc_data-laws) depth 60

link_ok-laws : Laws link_ok
unfolding link_ok
link_ok-laws = search (grammar_laws, post_op_attr-laws, wcc_data-laws) depth 60

dir_entry-laws : Laws dir_entry
unfolding dir_entry
dir_entry-laws = search (grammar_laws, text-laws) depth 60

read_dir_ok-laws : Laws read_dir_ok
unfolding read_dir_ok
read_dir_ok-laws = search (grammar_laws, post_op_attr-laws, verifier-laws, dir_entry-laws) depth 60

dir_entry_plus-laws : Laws dir_entry_plus
unfolding dir_entry_plus
dir_entry_plus-laws = search (grammar_laws, post_op_handle-laws, post_op_attr-laws, text-laws) depth 60

read_dir_plus_ok-laws : Laws read_dir_plus_ok
unfolding read_dir_plus_ok
read_dir_plus_ok-laws = search (grammar_laws, post_op_attr-laws, verifier-laws, dir_entry_plus-laws) depth 60

fs_stat_ok-laws : Laws fs_stat_ok
unfolding fs_stat_ok
fs_stat_ok-laws = search (grammar_laws, post_op_attr-laws) depth 60

fs_info_ok-laws : Laws fs_info_ok
unfolding fs_info_ok
fs_info_ok-laws = search (grammar_laws, time-laws, post_op_attr-laws) depth 60

path_conf_ok-laws : Laws path_conf_ok
unfolding path_conf_ok
path_conf_ok-laws = search (grammar_laws, post_op_attr-laws) depth 60

commit_ok-laws : Laws commit_ok
unfolding commit_ok
commit_ok-laws = search (grammar_laws, wcc_data-laws, verifier-laws) depth 60

ok_body-laws : (p : Procedure) → Laws (ok_body p)
unfolding ok_body
ok_body-laws Null = search grammar_laws
ok_body-laws GetAttr = search (grammar_laws, fattr-laws)
ok_body-laws SetAttr = search (grammar_laws, wcc_data-laws)
ok_body-laws Lookup = search (grammar_laws, lookup_ok-laws)
ok_body-laws Access = search (grammar_laws, access_ok-laws)
ok_body-laws ReadLink = search (grammar_laws, read_link_ok-laws)
ok_body-laws Read = search (grammar_laws, read_ok-laws)
ok_body-laws Write = search (grammar_laws, write_ok-laws)
ok_body-laws Create = search (grammar_laws, create_ok-laws)
ok_body-laws Mkdir = search (grammar_laws, create_ok-laws)
ok_body-laws Symlink = search (grammar_laws, create_ok-laws)
ok_body-laws Mknod = search grammar_laws
ok_body-laws Remove = search (grammar_laws, wcc_data-laws)
ok_body-laws Rmdir = search (grammar_laws, wcc_data-laws)
ok_body-laws Rename = search (grammar_laws, rename_ok-laws)
ok_body-laws Link = search (grammar_laws, link_ok-laws)
ok_body-laws ReadDir = search (grammar_laws, read_dir_ok-laws)
ok_body-laws ReadDirPlus = search (grammar_laws, read_dir_plus_ok-laws)
ok_body-laws FsStat = search (grammar_laws, fs_stat_ok-laws)
ok_body-laws FsInfo = search (grammar_laws, fs_info_ok-laws)
ok_body-laws PathConf = search (grammar_laws, path_conf_ok-laws)
ok_body-laws Commit = search (grammar_laws, commit_ok-laws)

told-laws : (t : Telling) → Laws (told t)
unfolding told
told-laws Nought = search grammar_laws
told-laws Attributes = search (grammar_laws, post_op_attr-laws)
told-laws BeforeAndAfter = search (grammar_laws, wcc_data-laws)
told-laws OfRename = search (grammar_laws, rename_ok-laws)
told-laws OfLink = search (grammar_laws, link_ok-laws)

-- the status of a ok_body
ok_is : (s : Status) → is_ok s ≡ true → StatusOk ≡ s
ok_is StatusOk h = refl
ok_is _ h = absurd cc

result_with_status-laws : (p : Procedure) → Laws (result_with_status p)
unfolding result_with_status
result_with_status-laws p = search (grammar_laws, status-laws, ok_body-laws, told-laws, ok_is) depth 20

result-laws : (p : Procedure) → Laws (result p)
unfolding result
result-laws p = search (grammar_laws, result_with_status-laws)

pub result_of-laws : (n : ℕ) → Laws (result_of n)
unfolding result_of
result_of-laws n = result-laws (procedure_at n)
