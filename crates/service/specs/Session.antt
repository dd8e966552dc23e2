-- What a session does: which records it answers, what it takes of the clock and writes for them, which tree
-- they leave, and how it ends.
use Rattle.std.specs.Prelude.{◌≡◌, ℕ, ◌^◌, ◌*◌, ◌<◌, ◌≤◌, List, [], ◌∷◌, ◌++◌, length, ◌⊎◌}
use Rattle.nfs3_types.specs.Count.{Rose}
use Rattle.outside.specs.Told.{SourceTold, SinkTold, GaveBytes, GotBytes, IsUsedUp}
use Rattle.outside.specs.Clock.{ClockTold, GaveMoments}
use Rattle.service.specs.declared.session.SessionEnd.{SessionEnd}
use Rattle.service.specs.declared.session.SessionEnd.TheVariants.{Done, ReadFault, WriteFault, CutRecord, ManyReads}
use Rattle.service.specs.Turns.{Answering, Turn, Tells, contents, moments_of, no_reply, reply_to, written}
use Rattle.service.specs.Course.{Course, course}

-- ---- what is seen, and where it stands

-- what is told where records are answered: by the file system, the clock, and where replies go
pub record DeskTold (T C K : Type 0) : Type 0 where
  pub answering : Answering T
  pub clock : ClockTold C
  pub sink : SinkTold K

pub record Desk (T C K : Type 0) : Type 0 where
  pub tree : T
  pub clock : C
  pub sink : K

-- what is told in a session: beside that, by where the records come from
pub record SessionTold (T S C K : Type 0) : Type 0 where
  pub source : SourceTold S
  pub desk : DeskTold T C K

pub record SessionAt (T S C K : Type 0) : Type 0 where
  pub source : S
  pub desk : Desk T C K

abbrev pub desk_told : {T C K : Type 0} → Answering T → ClockTold C → SinkTold K → DeskTold T C K
desk_told answering clock sink = record { answering = answering; clock = clock; sink = sink }

abbrev pub desk : {T C K : Type 0} → T → C → K → Desk T C K
desk tree clock sink = record { tree = tree; clock = clock; sink = sink }

abbrev pub session_told : {T S C K : Type 0} → SourceTold S → DeskTold T C K → SessionTold T S C K
session_told source desk = record { source = source; desk = desk }

abbrev pub session_at : {T S C K : Type 0} → S → Desk T C K → SessionAt T S C K
session_at source desk = record { source = source; desk = desk }

-- the items are the first of those
pub record IsFront {X : Type 0} (items all : List X) : Type 0 where
  pub rest : List X
  pub whole : all ≡ items ++ rest

-- From before to now these turns were served: the tree told them, the clock gave exactly the moments that they
-- take, and the sink got these bytes.
pub record Serves {T C K : Type 0} (told : DeskTold T C K) (before now : Desk T C K) (turns : List Turn) (bytes : List ℕ) : Type
    0 where
  pub tells : Tells told.answering before.tree now.tree turns
  pub gave : GaveMoments told.clock before.clock now.clock (moments_of turns)
  pub got : GotBytes told.sink before.sink now.sink bytes

-- ---- what the end says of the records that were answered, by the course of the text

-- they are all that the course has, and it ends so
abbrev pub ConsistsOf : Course → List (List ℕ) → SessionEnd → Type 0
ConsistsOf c records end = c ≡ record { answered = records; end = end }

-- they are all that the course has, and it ends with the text alone
pub record AnswersAll (c : Course) (records : List (List ℕ)) : Type 0 where
  pub all : ConsistsOf c records c.end
  pub open_end : (c.end ≡ Done) ⊎ (c.end ≡ CutRecord)

-- they are the first of the course
pub record BreaksOff (c : Course) (records : List (List ℕ)) : Type 0 where
  pub others : List (List ℕ)
  pub first : c.answered ≡ records ++ others

-- An end that is no fault, and not for the number of takes, is the course's.
abbrev pub Follows : SessionEnd → Course → List (List ℕ) → Type 0
Follows ReadFault c records = AnswersAll c records
Follows ManyReads c records = AnswersAll c records
Follows WriteFault c records = BreaksOff c records
Follows end c records = ConsistsOf c records end

-- ---- what it says of the bytes that were written

-- the replies of all turns but the last, and a front of the last one's
pub record BreaksIn (fsid : ℕ) (turns : List Turn) (bytes : List ℕ) : Type 0 where
  pub answered : List Turn
  pub last : Turn
  pub turns_are : turns ≡ answered ++ last ∷ []
  pub front : List ℕ
  pub rest : List ℕ
  pub reply : reply_to fsid last ≡ front ++ rest
  pub not_whole : 0 < length rest
  pub bytes_are : bytes ≡ written fsid answered ++ front

-- all replies, and where writing failed the first of them
abbrev pub Wrote : ℕ → SessionEnd → List Turn → List ℕ → Type 0
Wrote fsid WriteFault turns bytes = BreaksIn fsid turns bytes
Wrote fsid end turns bytes = bytes ≡ written fsid turns

-- How a session ended, by the text that it took, the turns that it served and the bytes that it wrote.
pub record EndsAs (fsid : ℕ) (end : SessionEnd) (text : List ℕ) (turns : List Turn) (bytes : List ℕ) : Type 0 where
  pub follows : Follows end (course (no_reply fsid) text) (contents turns)
  pub wrote : Wrote fsid end turns bytes

-- the ends that a text alone may bring
abbrev pub IsByText : SessionEnd → Type 0
IsByText ReadFault = ⊥
IsByText ManyReads = ⊥
IsByText WriteFault = ⊥
IsByText end = Unit {0}

-- ---- when it reads

-- Before the last take all whole records of what had been read were answered, each reply whole; and they had
-- not ended the session.
pub record ReadsNotAhead (fsid : ℕ) (end : SessionEnd) (text : List ℕ) (turns : List Turn) : Type 0 where
  pub earlier : List ℕ
  pub last : List ℕ
  pub text_is : text ≡ earlier ++ last
  pub one_take : length last ≤ 4096
  pub answered : List Turn
  pub others : List Turn
  pub turns_are : turns ≡ answered ++ others
  pub all : AnswersAll (course (no_reply fsid) earlier) (contents answered)
  pub whole : end ≡ WriteFault → 0 < length others

-- ---- why it ended

-- The input was read to its end where the session ended so; it was not read 2 ^ 48 times where it did
-- not end for that; and each fault has its cause.
pub record EndsBy {T S C K : Type 0} (told : SessionTold T S C K) (before now : SessionAt T S C K) (takes : ℕ)
    (end : SessionEnd) : Type 0 where
  pub used_up : (end ≡ Done) ⊎ (end ≡ CutRecord) → IsUsedUp (told.source.left now.source)
  pub many : end ≡ ManyReads → takes ≡ 2 ^ 48
  pub not_many : (end ≡ Done) ⊎ (end ≡ CutRecord) ⊎ (end ≡ ReadFault) → takes < 2 ^ 48
  pub most : takes ≤ 2 ^ 48
  pub reads_never_fall : told.source.faults before.source ≤ told.source.faults now.source
  pub writes_never_fall : told.desk.sink.faults before.desk.sink ≤ told.desk.sink.faults now.desk.sink
  pub read_fault : end ≡ ReadFault → Rose (told.source.faults before.source) (told.source.faults now.source)
  pub write_fault : end ≡ WriteFault → Rose (told.desk.sink.faults before.desk.sink) (told.desk.sink.faults now.desk.sink)

-- ---- a whole session

-- The source gave this text, in so many takes of at most 4,096 bytes that gave a byte. Records of it were
-- answered in these turns and by these bytes, up to the place where the session ended, and the end has its
-- cause.
pub record SessionRuns {T S C K : Type 0} (told : SessionTold T S C K) (before now : SessionAt T S C K) (end : SessionEnd) :
    Type 0 where
  pub text : List ℕ
  pub takes : ℕ
  pub gave : GaveBytes told.source before.source now.source takes text
  pub fewest : takes ≤ length text
  pub most : length text ≤ 4096 * takes
  pub turns : List Turn
  pub bytes : List ℕ
  pub serves : Serves told.desk before.desk now.desk turns bytes
  pub ends : EndsAs told.desk.answering.fsid end text turns bytes
  pub not_ahead : ReadsNotAhead told.desk.answering.fsid end text turns
  pub ended : EndsBy told before now takes end
