-- The record of a reply to a call of NFS.
use Rattle.std.specs.Prelude.{ℕ, List}
use Rattle.rpc_msg.specs.Replies.{accepted_record}
use Rattle.nfs3_types.specs.declared.reply.Reply.{Reply}
use Rattle.nfs3_types.specs.Replies.{result_of, outcome_of}

-- the call succeeded as RPC has it (SUCCESS, 0), and its results are the one spelling of the reply's result
unfoldable pub sealed : ℕ → Reply → List ℕ
sealed xid reply = accepted_record xid 0 ((result_of reply.procedure).spelling (outcome_of reply))
