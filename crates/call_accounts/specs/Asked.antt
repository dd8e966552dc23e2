-- Calls that were asked of a tree, and how each was answered.
use Rattle.std.specs.Prelude.{ℕ, Bool, true, false, if◌then◌else◌, List, [], ◌∷◌, ◌++◌}
use Rattle.pair_types.specs.declared.slot.Tid.{Tid}
use Rattle.nfs3_types.specs.Calls.{Call}
use Rattle.nfs3_types.specs.declared.cred.Cred.{Cred}
use Rattle.nfs3_types.specs.declared.moment.Moment.{Moment}
use Rattle.nfs3_types.specs.declared.reply.Reply.{Reply}
use Rattle.nfs3_types.specs.declared.entry.Entry.{Entry}

-- How a call was answered: by a reply of the tree's; that other transactions crossed it too often (JUKEBOX); that a store fell
-- silent (SERVERFAULT); that memory lacked (SYSTEM_ERR); or not at all, or not as a whole.
pub data Given : Type 0 where
  Replied : Reply → Given
  Jukebox : Given
  Serverfault : Given
  LacksMemory : Given
  Unanswered : Given

-- who called, what, at which moment, and in which lane: of which series of file ids a new file takes its number
pub record Called : Type 0 where
  pub cred : Cred
  pub call : Call
  pub moment : Moment
  pub lane : ℕ

pub record Asked : Type 0 where
  pub called : Called
  pub given : Given

-- a call and the tree's reply to it
pub record Told : Type 0 where
  pub called : Called
  pub reply : Reply

-- what an entry of a history says of its call
abbrev pub called_in : Entry → Called
called_in e = record { cred = e.cred; call = e.call; moment = e.moment; lane = e.lane }

abbrev pub told_in : Entry → Told
told_in e = record { called = called_in e; reply = e.reply }

-- the entry of a call that a transaction served
abbrev pub entry_by : Tid → Called → Reply → Entry
entry_by tid c reply =
    record {
      pass = tid.pass;
      serial = tid.serial;
      cred = c.cred;
      call = c.call;
      moment = c.moment;
      lane = c.lane;
      reply = reply;
    }

-- the calls that were acknowledged, each with its reply; and those of which it is open whether they took effect
abbrev pub acknowledged : List Asked → List Told
acknowledged [] = []
acknowledged (a ∷ asked) = by_reply a.called a.given ++ acknowledged asked
  where
    by_reply : Called → Given → List Told
    by_reply called (Replied reply) = record { called = called; reply = reply } ∷ []
    by_reply called given = []

abbrev pub open_calls : List Asked → List Called
open_calls [] = []
open_calls (a ∷ asked) = if is_open a.given then a.called ∷ open_calls asked else open_calls asked
  where
    is_open : Given → Bool
    is_open (Replied reply) = false
    is_open Jukebox = false
    is_open Serverfault = true
    is_open LacksMemory = true
    is_open Unanswered = true
