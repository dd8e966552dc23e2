-- What is answered to the records of one stream, one after another: what is written for them, which knows no
-- tree; and which replies a tree told.
use Rattle.std.specs.Prelude.{ℕ, ◌≡◌, Bool, true, false, List, [], ◌∷◌, map}
use Rattle.std.specs.List.{flat_map}
use Rattle.xdr_grammar.specs.Items.{word}
use Rattle.rpc_msg.specs.Auth.{Caller}
use Rattle.rpc_msg.specs.Replies.{accepted_record}
use Rattle.nfs3_types.specs.declared.moment.Moment.{Moment}
use Rattle.nfs3_types.specs.declared.cred.Cred.{Cred}
use Rattle.nfs3_types.specs.declared.reply.Reply.{Reply}
use Rattle.nfs3_types.specs.Calls.{Call}
use Rattle.rpc_route.specs.Immediate.{Immediate, Bad, Replied, Needs, immediate_reply}
use Rattle.rpc_route.specs.Sealing.{sealed}

-- How a file system answers: which one is exported; the reply to a call of this caller at this moment; and the
-- tree after it.
pub record Answering (T : Type 0) : Type 0 where
  pub fsid : ℕ
  pub answer : T → Cred → Call → Moment → Reply
  pub after : T → Cred → Call → Moment → T

-- How a record was answered: without the tree; or the tree was asked at this moment, and told this reply, or
-- memory ran out before the call took effect.
pub data Outcome : Type 0 where
  Ready : Outcome
  Told : Moment → Reply → Outcome
  Starved : Moment → Outcome

-- a record that was answered, and how
pub record Turn : Type 0 where
  pub content : List ℕ
  pub outcome : Outcome

abbrev pub contents : List Turn → List (List ℕ)
contents turns = map (λ t. t.content) turns

-- a call that needs the tree takes one moment, and nothing else takes any
abbrev pub moment_of : Outcome → List Moment
moment_of Ready = []
moment_of (Told moment reply) = moment ∷ []
moment_of (Starved moment) = moment ∷ []

abbrev pub moments_of : List Turn → List Moment
moments_of turns = flat_map (λ t. moment_of t.outcome) turns

-- ---- what is written

-- the reply that says that memory ran out (SYSTEM_ERR; RFC 5531, section 9)
abbrev pub no_memory : ℕ → List ℕ
no_memory xid = accepted_record xid 5 []

-- the reply record to a call of this transaction id
abbrev pub seal_of : ℕ → Outcome → List ℕ
seal_of xid Ready = []
seal_of xid (Told moment reply) = sealed xid reply
seal_of xid (Starved moment) = no_memory xid

-- the same, by the immediate reply to its record; a record that is no call has none
abbrev pub reply_by : Immediate → Outcome → List ℕ
reply_by (Bad fault) outcome = []
reply_by (Replied reply) outcome = reply
reply_by (Needs xid caller call) outcome = seal_of xid outcome

unfoldable pub reply_to : ℕ → Turn → List ℕ
reply_to fsid t = reply_by (immediate_reply fsid t.content) t.outcome

-- WRITTEN: the replies of turns one after another, where this file system is exported
abbrev pub written : ℕ → List Turn → List ℕ
written fsid turns = flat_map (reply_to fsid) turns

-- whether a record has no reply: it is no call
abbrev pub is_no_call : Immediate → Bool
is_no_call (Bad fault) = true
is_no_call (Replied reply) = false
is_no_call (Needs xid caller call) = false

unfoldable pub no_reply : ℕ → List ℕ → Bool
no_reply fsid content = is_no_call (immediate_reply fsid content)

-- ---- what is told

-- who calls, as the tree is told: the groups are spelled as words
abbrev pub cred_of : Caller → Cred
cred_of caller = record { uid = caller.uid; gid = caller.gid; gids = flat_map word.spelling caller.gids }

-- from old to new a tree answered a call so; where memory ran out, it stayed as it was
abbrev pub TellsCall : {T : Type 0} → Answering T → T → T → Cred → Call → Outcome → Type 0
TellsCall a old new cred call Ready = ⊥
TellsCall a old new cred call (Told moment reply) = (reply ≡ a.answer old cred call moment) × (new ≡ a.after old cred call moment)
TellsCall a old new cred call (Starved moment) = new ≡ old

-- the same of a record, by its immediate reply: one that needs no tree leaves it
abbrev pub TellsBy : {T : Type 0} → Answering T → T → T → Immediate → Outcome → Type 0
TellsBy a old new (Bad fault) outcome = ⊥
TellsBy a old new (Replied reply) outcome = (outcome ≡ Ready) × (new ≡ old)
TellsBy a old new (Needs xid caller call) outcome = TellsCall a old new (cred_of caller) call outcome

unfoldable pub TellsTurn : {T : Type 0} → Answering T → T → T → Turn → Type 0
TellsTurn a old new t = TellsBy a old new (immediate_reply a.fsid t.content) t.outcome

-- TOLD: from old to new a tree told these turns, from turn to turn
abbrev pub Tells : {T : Type 0} → Answering T → T → T → List Turn → Type 0
Tells a old new [] = new ≡ old
Tells {T = T} a old new (t ∷ turns) = (next : T) × TellsTurn a old next t × Tells a next new turns
