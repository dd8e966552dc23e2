-- How an RPC message begins (RFC 5531, section 9).
use Rattle.std.specs.Prelude.{◌≡◌, ◌≢◌, ℕ, List, take, drop, Ok}
use Rattle.byteorder.specs.Endian.{big_number}
use Rattle.rpc_msg.specs.declared.call.CallHead.{CallHead}
use Rattle.xdr_grammar.specs.Grammar.{Grammar, ◌at◌, ◌>>=◌, done}
use Rattle.xdr_grammar.specs.Items.{word}

-- the words before the credential; the kind is 0 for a call and 1 for a reply
pub record MessageHead : Type 0 where
  pub xid : ℕ
  pub kind : ℕ
  pub rpcvers : ℕ
  pub prog : ℕ
  pub vers : ℕ
  pub procedure : ℕ

unfoldable pub message_head : Grammar MessageHead
message_head = do
  xid ← word at (λ m. m.xid)
  kind ← word at (λ m. m.kind)
  rpcvers ← word at (λ m. m.rpcvers)
  prog ← word at (λ m. m.prog)
  vers ← word at (λ m. m.vers)
  procedure ← word at (λ m. m.procedure)
  done (record { xid = xid; kind = kind; rpcvers = rpcvers; prog = prog; vers = vers; procedure = procedure })

-- the second word of a text
unfoldable pub kind_of : List ℕ → ℕ
kind_of text = big_number 4 (take 4 (drop 4 text))

-- no head of a call begins the text
abbrev pub HasNoCall : List ℕ → Type 0
HasNoCall text = (m : MessageHead) (rest : List ℕ) → message_head.read text ≡ Ok (m, rest) → m.kind ≢ 0

-- what a call's head says
abbrev pub view : CallHead → MessageHead
view head = record {
  xid = head.xid;
  kind = 0;
  rpcvers = head.rpcvers;
  prog = head.prog;
  vers = head.vers;
  procedure = head.procedure;
}
