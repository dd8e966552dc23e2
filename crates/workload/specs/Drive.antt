-- The workload of a number: each call, by the replies so far. It looks back over all of them, and keeps no table.
use Rattle.std.specs.Prelude.{ℕ, ◌+◌, ◌%◌, ◌==◌, List, [], ◌∷◌, length, Option, Some, None, if◌then◌else◌, option_and_then}
use Rattle.nfs3_types.specs.declared.body.Body.{Body}
use Rattle.nfs3_types.specs.declared.body.Body.TheVariants.{Lookup, Create}
use Rattle.nfs3_types.specs.declared.handle.Handle.{Handle}
use Rattle.nfs3_types.specs.declared.moment.Moment.{Moment}
use Rattle.nfs3_types.specs.declared.reply.Reply.{Reply}
use Rattle.nfs3_types.specs.declared.status.Status.{Status}
use Rattle.nfs3_types.specs.declared.status.Status.TheVariants.{Ok}
use Rattle.nfs3_types.specs.Calls.{Call}
use Rattle.nfs3_types.specs.Handles.{handle_in}
use Rattle.workload.specs.declared.choice.Choice.{Choice}
use Rattle.workload.specs.declared.choice.Kind.{Kind}
use Rattle.workload.specs.declared.choice.Kind.TheVariants.{Finding, Removing, Making}
use Rattle.workload.specs.Draws.{drawn}
use Rattle.workload.specs.Calls.{call_of, choice_at, fuse_of}

-- for each call so far its reply, or None where it had none; the newest first
abbrev pub Replies : Type 0
Replies = List (Option Reply)

-- the generator's state after the calls with these replies: three draws each
unfoldable pub seed : ℕ → Replies → ℕ
seed number [] = number % 2147483648
seed number (reply ∷ replies) = drawn (drawn (drawn (seed number replies)))

-- what the next call is
unfoldable pub choice : ℕ → Replies → Choice
choice number replies = choice_at (length replies + 1) (seed number replies)

-- ---- the handles that are known

-- the first handle where there is one, else the other
abbrev pub or_else : Option Handle → Option Handle → Option Handle
or_else (Some h) old = Some h
or_else None old = old

-- the handle that is known for the name of a call of this kind, after a reply of status OK with this body
abbrev pub learned_by : Kind → Body → Option Handle → Option Handle
learned_by Finding (Lookup found) old = or_else (handle_in found.object) old
learned_by Making (Create made) old = or_else (option_and_then handle_in made.object) old
learned_by Removing body old = None
learned_by kind body old = old

abbrev pub learned_of : Kind → Status → Body → Option Handle → Option Handle
learned_of kind Ok body old = learned_by kind body old
learned_of kind status body old = old

-- no reply teaches nothing, as each does that is not OK
abbrev pub learned : Kind → Option Reply → Option Handle → Option Handle
learned kind None old = old
learned kind (Some reply) old = learned_of kind reply.status reply.body old

-- the handle that is known for the name of this number
unfoldable pub known : ℕ → Replies → ℕ → Option Handle
known number [] name = None
known number (reply ∷ replies) name = if name == (choice number replies).name
    then learned (choice number replies).kind reply (known number replies name) else known number replies name

-- ---- the next call

-- a call, the pass that serves it, its moment, and after how many steps the pass's way to the stores is cut
pub record Drive : Type 0 where
  pub call : Call
  pub pass : ℕ
  pub moment : Moment
  pub fuse : Option ℕ

-- the next call of the workload of this number, after calls with these replies
unfoldable pub drive : ℕ → ℕ → Replies → Drive
drive number rough replies =
    let next = choice number replies in
    record {
      call = call_of (length replies + 1) next (known number replies next.name);
      pass = length replies % 4;
      moment = record { seconds = length replies + 1; nanos = 0 };
      fuse = fuse_of rough (length replies + 1) next.piece;
    }

-- the last call's fuse
unfoldable pub last_fuse : ℕ → ℕ → Replies → Option ℕ
last_fuse number rough [] = None
last_fuse number rough (reply ∷ replies) = (drive number rough replies).fuse
