-- How a record was routed.
use Rattle.std.specs.Prelude.{◌≡◌, ℕ, ◌%◌, List, ◌++◌, length, Result, Ok, Err}
use Rattle.rpc_msg.specs.Message.{MessageHead, message_head}
use Rattle.rpc_msg.specs.declared.call.HeadFault.{HeadFault}
use Rattle.rpc_msg.specs.declared.credential.Who.{Who}
use Rattle.rpc_msg.specs.Auth.{Caller, words_in}
use Rattle.nfs3_types.specs.Calls.{Call}
use Rattle.rpc_route.specs.declared.routed.Routed.{Routed}
use Rattle.rpc_route.specs.declared.routed.Routed.TheVariants.{Nfs, Ready}
use Rattle.rpc_route.specs.declared.routed.RouteFault.{RouteFault}
use Rattle.rpc_route.specs.declared.routed.RouteFault.TheVariants.{BadRecord, NoMemory}
use Rattle.rpc_route.specs.Immediate.{Immediate, Bad, Replied, Needs}

-- who calls, where the group ids are left where they stand
abbrev pub caller_of : Who → Caller
caller_of who = record { uid = who.uid; gid = who.gid; gids = words_in who.gids.now }

-- the buffer gained the record of the reply
pub record HasReply (immediate : Immediate) (old new : List ℕ) : Type 0 where
  pub reply : List ℕ
  pub is : immediate ≡ Replied reply
  pub gained : new ≡ old ++ reply

-- the tree is needed, and the buffer is as it was; the group ids that are lent are four bytes each and no more
pub record NeedsTree (immediate : Immediate) (xid : ℕ) (who : Who) (lent : Call) (old new : List ℕ) : Type 0 where
  pub is : immediate ≡ Needs xid (caller_of who) lent
  pub whole : length who.gids.now % 4 ≡ 0
  pub same : new ≡ old

-- the record is no call, and the buffer is as it was
pub record IsBad (immediate : Immediate) (fault : HeadFault) (old new : List ℕ) : Type 0 where
  pub is : immediate ≡ Bad fault
  pub same : new ≡ old

-- there was no memory for the reply, and the buffer is as it was
pub record LacksMemory (immediate : Immediate) (old new : List ℕ) : Type 0 where
  pub reply : List ℕ
  pub is : immediate ≡ Replied reply
  pub same : new ≡ old

-- what the routing of a record answers, and the transaction id that it tells where memory lacks
abbrev pub Routes : Immediate → ℕ → List ℕ → List ℕ → Result Routed RouteFault → Type 0
Routes immediate xid old new (Ok Ready) = HasReply immediate old new
Routes immediate xid old new (Ok (Nfs x who lent)) = NeedsTree immediate x who lent old new
Routes immediate xid old new (Err (BadRecord fault)) = IsBad immediate fault old new
Routes immediate xid old new (Err (NoMemory x)) = LacksMemory immediate old new × (x ≡ xid)

-- the record begins with the head of a message of this transaction id
pub record HasXid (text : List ℕ) (xid : ℕ) : Type 0 where
  pub head : MessageHead
  pub rest : List ℕ
  pub read : message_head.read text ≡ Ok (head, rest)
  pub is : head.xid ≡ xid

-- what the routing of a whole record answers
abbrev pub RoutesRecord : Immediate → List ℕ → List ℕ → List ℕ → Result Routed RouteFault → Type 0
RoutesRecord immediate text old new (Err (NoMemory x)) = LacksMemory immediate old new × HasXid text x
RoutesRecord immediate text old new (Err (BadRecord fault)) = IsBad immediate fault old new
RoutesRecord immediate text old new (Ok routed) = Routes immediate 0 old new (Ok routed)
