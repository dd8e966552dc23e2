-- What a run does, by its words, its exit status and the line that it tells.
use Rattle.std.specs.Prelude.{◌≡◌, ℕ, ◌≤◌, nat_le, ◌&&◌, Bool, true, false, List, [], ◌∷◌, ◌++◌, length, map, codes}
use Rattle.std.specs.Prelude.{Option, Some, String, ◌⊎◌, ⊤}
use Rattle.std.specs.String.{string_bytes}
use Rattle.std.specs.declared.alloc.Global.{Global}
use Rattle.nfs3_types.specs.declared.moment.Moment.{Moment}
use Rattle.nfs3_types.specs.Count.{Rose}
use Rattle.outside.specs.Told.{SinkTold, SourceTold, GaveBytes, GotBytes}
use Rattle.outside.specs.Clock.{GaveMoments}
use Rattle.outside.specs.Seen.{StreamsTold, Streams, Seen, Outside}
use Rattle.service.specs.declared.session.SessionEnd.{SessionEnd}
use Rattle.service.specs.declared.session.SessionEnd.TheVariants.{Done, ReadFault, WriteFault, CutRecord, TooLong, BadRecord}
use Rattle.service.specs.declared.session.SessionEnd.TheVariants.{ManyReads}
use Rattle.service.specs.declared.command.RunEnd.{RunEnd}
use Rattle.service.specs.declared.command.RunEnd.TheVariants.{Usage, NoMemory, Session}
use Rattle.fs_rules.specs.Tree.{Tree}
use Rattle.fss_words.specs.Commands.{meaning}
use Rattle.fss_words.specs.declared.wanted.Wanted.{Wanted}
use Rattle.fss_words.specs.declared.wanted.Wanted.TheVariants.{Feed}
use Rattle.service.specs.Turns.{no_reply}
use Rattle.service.specs.Course.{course}
use Rattle.service.specs.Session.{IsFront, SessionTold, SessionAt, SessionRuns, desk, desk_told, session_at, session_told}
use Rattle.service.specs.Served.{fsid, answering, made_at}

abbrev pub means_feed : Option Wanted → Bool
means_feed (Some (Feed stores replicas)) = true
means_feed wanted = false

-- the words ask for `feed`, without a shape of stores: it serves none yet
abbrev pub means_plain_feed : List (String Global) → Bool
means_plain_feed words = means_feed (meaning (map string_bytes words)) && nat_le (length words) 2

abbrev pub IsFeed : List (String Global) → Type 0
IsFeed words = means_plain_feed words ≡ true

abbrev pub status_of : RunEnd → ℕ
status_of (Session Done) = 0
status_of Usage = 1
status_of (Session ReadFault) = 2
status_of (Session WriteFault) = 3
status_of (Session CutRecord) = 4
status_of (Session TooLong) = 5
status_of (Session BadRecord) = 6
status_of NoMemory = 7
status_of (Session ManyReads) = 8

-- a text and a line feed
abbrev pub line : List ℕ → List ℕ
line text = text ++ 10 ∷ []

abbrev pub usage : List ℕ
usage = codes "fss: usage: fss feed [STORES REPLICAS] | fss work NUMBER CALLS [STORES REPLICAS LOST ROUGH] | fss serve ADDRESS WORKERS CONNECTIONS STORES REPLICAS"

unfoldable pub line_of : RunEnd → List ℕ
line_of (Session Done) = []
line_of Usage = line usage
line_of (Session ReadFault) = line (codes "fss: input failed")
line_of (Session WriteFault) = line (codes "fss: output failed")
line_of (Session CutRecord) = line (codes "fss: input ended inside a record")
line_of (Session TooLong) = line (codes "fss: record too long")
line_of (Session BadRecord) = line (codes "fss: bad record")
line_of NoMemory = line (codes "fss: no memory")
line_of (Session ManyReads) = line (codes "fss: too many reads")

-- the sink got the line, or a front of it where it failed
pub record GotLine {E : Type 0} (told : SinkTold E) (before now : E) (text : List ℕ) : Type 0 where
  pub bytes : List ℕ
  pub front : IsFront bytes text
  pub got : GotBytes told before now bytes
  pub never_falls : told.faults before ≤ told.faults now
  pub cause : (bytes ≡ text) ⊎ Rose (told.faults before) (told.faults now)

-- what is told in the session of a run, and where it stands
abbrev pub told_in : {S C K : Type 0} → StreamsTold S C K → SessionTold Tree S C K
told_in told = session_told told.source (desk_told answering told.clock told.sink)

abbrev pub at : {S C K : Type 0} → Streams S C K → Tree → C → SessionAt Tree S C K
at objects tree clock = session_at objects.source (desk tree clock objects.sink)

-- The clock gave the first moment, and then a session ran on the tree that was made at it, and led to another.
pub record Feeds {S C K : Type 0} (told : StreamsTold S C K) (before now : Streams S C K) (end : SessionEnd) : Type 0 where
  pub first : Moment
  pub begun : C
  pub gave : GaveMoments told.clock before.clock begun (first ∷ [])
  pub tree : Tree
  pub session : SessionRuns (told_in told) (at before (made_at first) begun) (at now tree now.clock) end

-- What the command of the words did, where it ended so: without a session nothing was read, taken of the clock
-- or written.
abbrev pub Did : {S C K : Type 0} → StreamsTold S C K → Streams S C K → Streams S C K → RunEnd → Type 0
Did told before now (Session end) = Feeds told before now end
Did told before now Usage = now ≡ before
Did told before now NoMemory = now ≡ before

-- what the end says of the words: want of memory may come before they are read
abbrev pub Says : RunEnd → List (String Global) → Type 0
Says Usage words = means_plain_feed words ≡ false
Says (Session end) words = IsFeed words
Says NoMemory words = ⊤

pub record Outcome {S C K : Type 0} (told : StreamsTold S C K) (words : List (String Global)) (before now : Streams S C K)
    (end : RunEnd) : Type 0 where
  pub says : Says end words
  pub did : Did told before now end

-- A run: it ended in one way, which its status and the line on the error sink say.
pub record Runs {S C K E : Type 0} (seen : Seen S C K E) (words : List (String Global)) (before now : Outside S C K E)
    (status : ℕ) : Type 0 where
  pub end : RunEnd
  pub status_is : status ≡ status_of end
  pub outcome : Outcome seen.streams words before.streams now.streams end
  pub line : GotLine seen.errors before.errors now.errors (line_of end)

-- a status for something else than the bytes that were read: the words, a fault, memory or the number of takes
abbrev pub IsApart : ℕ → Type 0
IsApart status = (status ≡ 1) ⊎ (status ≡ 2) ⊎ (status ≡ 3) ⊎ (status ≡ 7) ⊎ (status ≡ 8)

-- The status is that of the course of the text that the source gave, whatever the tree and the moments are.
pub record EndsByText {S : Type 0} (told : SourceTold S) (before now : S) (status : ℕ) : Type 0 where
  pub text : List ℕ
  pub takes : ℕ
  pub gave : GaveBytes told before now takes text
  pub status_is : status ≡ status_of (Session (course (no_reply fsid) text).end)
