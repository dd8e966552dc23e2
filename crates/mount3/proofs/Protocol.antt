-- The laws of the protocol's grammars.
use Rattle.std.proofs.Common.{◌≡◌, ℕ, true, sym}
use Rattle.std.specs.Prelude.{◌==◌}
use Rattle.std.proofs.lemmas.Bool.{eqb-true}
use Rattle.xdr_grammar.specs.Laws.{Laws}
use Rattle.xdr_grammar.proofs.Rules.{grammar_laws}
use Rattle.mount3.specs.Protocol.{dirpath, name, arguments, mounted, mount_result, mount_entry, mount_list, export, exports}

pub arguments-laws : (procedure : ℕ) → Laws (arguments procedure)
unfolding arguments dirpath
arguments-laws procedure = search grammar_laws

mounted-laws : Laws mounted
unfolding mounted
mounted-laws = search grammar_laws

-- the status of a success
is_ok : (status : ℕ) → (status == 0) ≡ true → 0 ≡ status
is_ok status h = sym (eqb-true status 0 h)

pub mount_result-laws : Laws mount_result
unfolding mount_result
mount_result-laws = search (grammar_laws, mounted-laws, is_ok)

mount_entry-laws : Laws mount_entry
unfolding mount_entry name dirpath
mount_entry-laws = search grammar_laws

pub mount_list-laws : Laws mount_list
unfolding mount_list
mount_list-laws = search (grammar_laws, mount_entry-laws)

export-laws : Laws export
unfolding export name dirpath
export-laws = search grammar_laws

pub exports-laws : Laws exports
unfolding exports
exports-laws = search (grammar_laws, export-laws)
