-- The course of a text: which of its records are answered, up to the place where it ends, and how it ends
-- there. It hangs on the text alone, whatever the tree and the moments are.
use Rattle.std.specs.Prelude.{ℕ, Bool, true, false, List, [], ◌∷◌, ◌++◌, Option, Some, None}
use Rattle.rpc_records.specs.declared.fault.RecordFault.{RecordFault}
use Rattle.rpc_records.specs.Marking.{Marking, marking}
use Rattle.service.specs.declared.session.SessionEnd.{SessionEnd}
use Rattle.service.specs.declared.session.SessionEnd.TheVariants.{Done, CutRecord, TooLong, BadRecord}

pub record Course : Type 0 where
  -- the records that are answered
  pub answered : List (List ℕ)
  pub end : SessionEnd

-- nothing more is answered
abbrev pub ending : SessionEnd → Course
ending end = record { answered = []; end = end }

-- these records are answered, and then come the others
abbrev pub followed_by : List (List ℕ) → Course → Course
followed_by records others = record { answered = records ++ others.answered; end = others.end }

-- a record has no reply, which ends it; or it is answered, and then come the others
abbrev pub begun_by : List ℕ → Bool → Course → Course
begun_by content true others = ending BadRecord
begun_by content false others = followed_by (content ∷ []) others

-- the course of records, and of what stands behind them
abbrev pub course_of : (List ℕ → Bool) → List (List ℕ) → Course → Course
course_of no_reply [] others = others
course_of no_reply (content ∷ records) others = begun_by content (no_reply content) (course_of no_reply records others)

-- how a text ends behind its whole records, by the refusal and by the bytes that are left
abbrev pub end_behind : Option RecordFault → List ℕ → SessionEnd
end_behind (Some fault) rest = TooLong
end_behind None [] = Done
end_behind None (byte ∷ rest) = CutRecord

-- the course of a text that record marking cuts so
abbrev pub course_by : (List ℕ → Bool) → Marking → Course
course_by no_reply m = course_of no_reply m.records (ending (end_behind m.refusal m.rest))

-- the course of a text, where these records have no reply
abbrev pub course : (List ℕ → Bool) → List ℕ → Course
course no_reply text = course_by no_reply (marking text)
