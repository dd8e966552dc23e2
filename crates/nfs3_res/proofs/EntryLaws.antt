-- The laws of the grammars of entries.
use Rattle.xdr_grammar.specs.Laws.{Laws}
use Rattle.xdr_grammar.proofs.Rules.{grammar_laws}
use Rattle.nfs3_types.specs.Replies.{dir_entry, dir_entry_plus}
use Rattle.nfs3_types.proofs.HandleLaws.{post_op_handle-laws}
use Rattle.nfs3_types.proofs.AttributeLaws.{post_op_attr-laws}
use Rattle.nfs3_types.proofs.CallLaws.{text-laws}

pub dir_entry-laws : Laws dir_entry
unfolding dir_entry
dir_entry-laws = search (grammar_laws, text-laws) depth 60

pub dir_entry_plus-laws : Laws dir_entry_plus
unfolding dir_entry_plus
dir_entry_plus-laws = search (grammar_laws, post_op_handle-laws, post_op_attr-laws, text-laws) depth 60
