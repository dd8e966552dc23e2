-- The trees of a session are sound.
use Rattle.std.proofs.Common.{◌<◌, List, [], ◌∷◌, sym, subst, arith}
use Rattle.nfs3_types.specs.declared.cred.Cred.{Cred}
use Rattle.nfs3_types.specs.Calls.{Call}
use Rattle.fs_rules.specs.Answers.{Asked, after}
use Rattle.fs_rules.specs.Tree.{Tree}
use Rattle.fs_rules.specs.Sound.{IsSound}
use Rattle.rpc_route.specs.Immediate.{Immediate, Bad, Replied, Needs, immediate_reply}
use Rattle.service.specs.Served.{answering, after_in_lane, fsid}
use Rattle.service.specs.Turns.{Outcome, Ready, Told, Starved, Turn, Tells, TellsBy, TellsCall, TellsTurn, cred_of}

-- every call keeps trees sound
abbrev KeepSound : Type 0
KeepSound = (t : Tree) (a : Asked) → a.lane < 16 → IsSound t → IsSound (after t a)

call_sound : KeepSound → (old new : Tree) (cred : Cred) (lent : Call) (o : Outcome) → TellsCall answering old new cred lent o
    → IsSound old → IsSound new
unfolding after_in_lane
call_sound keep old new cred lent Ready tells sound = absurd tells
call_sound keep old new cred lent (Told moment reply) tells sound =
    subst IsSound (sym tells.1) (keep old (record { cred = cred; call = lent; now = moment; lane = 0 }) (omega arith) sound)
call_sound keep old new cred lent (Starved moment) tells sound = subst IsSound (sym tells) sound

by_sound : KeepSound → (old new : Tree) (i : Immediate) (o : Outcome) → TellsBy answering old new i o → IsSound old → IsSound new
by_sound keep old new (Bad fault) o tells sound = absurd tells
by_sound keep old new (Replied reply) o tells sound = subst IsSound (sym tells.1) sound
by_sound keep old new (Needs xid caller lent) o tells sound = call_sound keep old new (cred_of caller) lent o tells sound

turn_sound : KeepSound → (old new : Tree) (t : Turn) → TellsTurn answering old new t → IsSound old → IsSound new
unfolding TellsTurn
turn_sound keep old new t tells sound = by_sound keep old new (immediate_reply fsid t.content) t.outcome tells sound

pub tells_sound : KeepSound → (old new : Tree) (turns : List Turn) → Tells answering old new turns → IsSound old → IsSound new
tells_sound keep old new [] tells sound = subst IsSound (sym tells) sound
tells_sound keep old new (t ∷ turns) tells sound =
    tells_sound keep tells.0 new turns tells.2 (turn_sound keep old tells.0 t tells.1 sound)
