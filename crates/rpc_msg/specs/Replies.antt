-- How replies to RPC calls begin (RFC 5531, section 9), each as one record of one fragment (section 11).
use Rattle.std.specs.Prelude.{ℕ, ◌+◌, ◌^◌, List, [], ◌++◌, take}
use Rattle.xdr_grammar.specs.Grammar.{Grammar, ◌at◌, ◌>>=◌, done}
use Rattle.xdr_grammar.specs.Items.{word}
use Rattle.xdr_grammar.specs.Arrays.{items}
use Rattle.rpc_records.specs.Reading.{marked}
use Rattle.rpc_msg.specs.Auth.{OpaqueAuth, opaque_auth}

-- the words before what a reply says: the kind is 1 for a reply, and the stat is MSG_ACCEPTED, 0, or
-- MSG_DENIED, 1
pub record ReplyHead : Type 0 where
  pub xid : ℕ
  pub kind : ℕ
  pub stat : ℕ

unfoldable pub reply_head : Grammar ReplyHead
reply_head = do
  xid ← word at (λ r. r.xid)
  kind ← word at (λ r. r.kind)
  stat ← word at (λ r. r.stat)
  done (record { xid = xid; kind = kind; stat = stat })

-- an accepted reply (accepted_reply), up to its results: the server's verifier and how the call went
pub record AcceptedReply : Type 0 where
  pub head : ReplyHead
  pub verifier : OpaqueAuth
  pub stat : ℕ

unfoldable pub accepted_reply : Grammar AcceptedReply
accepted_reply = do
  head ← reply_head at (λ r. r.head)
  verifier ← opaque_auth at (λ r. r.verifier)
  stat ← word at (λ r. r.stat)
  done (record { head = head; verifier = verifier; stat = stat })

-- the reply to this call, with a verifier of flavor AUTH_NONE
abbrev pub accepted : ℕ → ℕ → AcceptedReply
accepted xid stat = record {
  head = record { xid = xid; kind = 1; stat = 0 };
  verifier = record { flavor = 0; body = [] };
  stat = stat;
}

-- an item behind the mark of the record that it begins
pub record Marked (A : Type 0) : Type 0 where
  pub mark : ℕ
  pub item : A

unfoldable pub behind_mark : {A : Type 0} → Grammar A → Grammar (Marked A)
behind_mark g = do
  mark ← word at (λ m. m.mark)
  item ← g at (λ m. m.item)
  done (record { mark = mark; item = item })

-- the mark of a record of so many bytes in one fragment, and the head of a reply in it
abbrev pub marked_head : ℕ → ℕ → ℕ → Marked ReplyHead
marked_head size xid stat = record { mark = 2 ^ 31 + size; item = record { xid = xid; kind = 1; stat = stat } }

-- what stands before the results of an accepted reply, of so many bytes of results: the mark and the head
abbrev pub accepted_head : ℕ → ℕ → ℕ → Marked AcceptedReply
accepted_head size xid stat = record { mark = 2 ^ 31 + (24 + size); item = accepted xid stat }

-- the record of an accepted reply with these results
unfoldable pub accepted_record : ℕ → ℕ → List ℕ → List ℕ
accepted_record xid stat results = marked (accepted_reply.spelling (accepted xid stat) ++ results)

-- the record of a denied reply (rejected_reply): RPC_MISMATCH, 0, with the lowest and the highest version, or
-- AUTH_ERROR, 1, with what is wrong
unfoldable pub denied_record : ℕ → ℕ → List ℕ → List ℕ
denied_record xid count words =
    marked (reply_head.spelling (record { xid = xid; kind = 1; stat = 1 }) ++ (items count word).spelling (take count words))
