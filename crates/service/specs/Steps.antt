-- Parts of a session: what is read of a text and answered, behind what was read and answered before.
use Rattle.std.specs.Prelude.{◌≡◌, ℕ, ◌<◌, ◌≤◌, Bool, false, List, [], ◌∷◌, ◌++◌, length, Result, IsErrOf}
use Rattle.nfs3_types.specs.Count.{Rose}
use Rattle.nfs3_types.specs.Calls.{Call}
use Rattle.nfs3_types.specs.declared.moment.Moment.{Moment}
use Rattle.outside.specs.Told.{SinkTold, GotBytes}
use Rattle.outside.specs.Clock.{ClockTold, GaveMoments}
use Rattle.rpc_msg.specs.Auth.{Caller}
use Rattle.rpc_records.specs.Progress.{Progress, IsUnfinished}
use Rattle.rpc_records.specs.Stream.{HasRead}
use Rattle.service.specs.declared.answering.Stop.{Stop}
use Rattle.service.specs.declared.answering.Stop.TheVariants as stops
use Rattle.service.specs.declared.session.SessionEnd.{SessionEnd}
use Rattle.service.specs.declared.session.SessionEnd.TheVariants.{TooLong, BadRecord, WriteFault}
use Rattle.service.specs.Turns.{Answering, Outcome, Turn, TellsCall, TellsTurn, contents, cred_of, moment_of, reply_to}
use Rattle.service.specs.Turns.{seal_of, written, no_reply}
use Rattle.service.specs.Course.{Course, course, course_of, followed_by}
use Rattle.service.specs.Session.{DeskTold, Desk, Serves, Follows, Wrote}

-- ---- one record

-- A call that needs the tree was answered at this moment by this reply record.
pub record TakesCall {T : Type 0} (a : Answering T) (trees : T × T) (caller : Caller) (call : Call) (moment : Moment) (xid : ℕ)
    (reply : List ℕ) : Type 0 where
  pub outcome : Outcome
  pub tells : TellsCall a trees.0 trees.1 (cred_of caller) call outcome
  pub moment_is : moment_of outcome ≡ moment ∷ []
  pub reply_is : reply ≡ seal_of xid outcome

-- A record was answered by this reply, in a turn from a tree and a clock to others.
pub record TakesTurn {T C : Type 0} (a : Answering T) (told : ClockTold C) (before now : T × C) (content reply : List ℕ) : Type
    0 where
  pub outcome : Outcome
  pub answered : no_reply a.fsid content ≡ false
  pub tells : TellsTurn a before.0 now.0 (record { content = content; outcome = outcome })
  pub gave : GaveMoments told before.1 now.1 (moment_of outcome)
  pub reply_is : reply ≡ reply_to a.fsid (record { content = content; outcome = outcome })

-- ---- writing

-- the sink got a front of the part, and not all of it
pub record GotFront {K : Type 0} (told : SinkTold K) (before now : K) (part : List ℕ) : Type 0 where
  pub bytes : List ℕ
  pub rest : List ℕ
  pub whole : part ≡ bytes ++ rest
  pub some : 0 < length rest
  pub got : GotBytes told before now bytes

-- a front of the part was put, and the rest was not yet
pub record PutSoFar {K : Type 0} (told : SinkTold K) (before now : K) (part rest : List ℕ) : Type 0 where
  pub bytes : List ℕ
  pub whole : part ≡ bytes ++ rest
  pub got : GotBytes told before now bytes
  pub never_falls : told.faults before ≤ told.faults now

-- ---- the text

-- a reader of some text that keeps no whole record and did not refuse
pub record IsReading (now : Progress) : Type 0 where
  pub text : List ℕ
  pub dropped : List (List ℕ)
  pub read : HasRead text dropped now
  pub unfinished : IsUnfinished now

-- from old to new a reader took this part of its text, and these records were dropped
abbrev pub Went : Progress → Progress → List ℕ → List (List ℕ) → Type 0
Went old new part dropped = (text : List ℕ) (before : List (List ℕ)) → HasRead text before old
    → HasRead (text ++ part) (before ++ dropped) new

-- each of the records has a reply
abbrev pub AreAnswered : (List ℕ → Bool) → List (List ℕ) → Type 0
AreAnswered none records = (others : Course) → course_of none records others ≡ followed_by records others

-- a part of the text was read, and all records of which it has the end were answered
pub record GoesOn (none : List ℕ → Bool) (old new : Progress) (part : List ℕ) (records : List (List ℕ)) : Type 0 where
  pub went : Went old new part records
  pub answered : AreAnswered none records

-- the session ends so within the part, whatever was read and answered before
abbrev pub StopsAs : (List ℕ → Bool) → SessionEnd → Progress → List ℕ → List (List ℕ) → Type 0
StopsAs none end old part records =
    (text : List ℕ) (before : List (List ℕ)) → HasRead text before old → AreAnswered none before
    → Follows end (course none (text ++ part)) (before ++ records)

-- ---- what was served of it

-- a part of the text was read, and all records of which it has the end were answered whole
pub record AnsweredAll {T C K : Type 0} (told : DeskTold T C K) (before now : Desk T C K) (old new : Progress) (part : List ℕ) :
    Type 0 where
  pub turns : List Turn
  pub serves : Serves told before now turns (written told.answering.fsid turns)
  pub goes_on : GoesOn (no_reply told.answering.fsid) old new part (contents turns)

-- the session ended so within the part
pub record AnsweredUntil {T C K : Type 0} (told : DeskTold T C K) (before now : Desk T C K) (end : SessionEnd) (old : Progress)
    (part : List ℕ) : Type 0 where
  pub turns : List Turn
  pub bytes : List ℕ
  pub serves : Serves told before now turns bytes
  pub wrote : Wrote told.answering.fsid end turns bytes
  pub stops : StopsAs (no_reply told.answering.fsid) end old part (contents turns)

-- the end of a session whose answering stopped
abbrev pub end_of : Stop → SessionEnd
end_of stops.TooLong = TooLong
end_of stops.BadRecord = BadRecord
end_of stops.WriteFault = WriteFault

-- a sink's count of faults did not fall, and rose where writing stopped the answering
pub record StopHasCause (before now : ℕ) (result : Result (Unit {0}) Stop) : Type 0 where
  pub never_falls : before ≤ now
  pub write_fault : IsErrOf result stops.WriteFault → Rose before now
