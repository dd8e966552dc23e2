-- A reader over a whole stream, in whatever pieces it comes.
use Rattle.std.specs.Prelude.{◌≡◌, ℕ, ◌==◌, List, [], ◌∷◌, ◌++◌, length, take, Result, Ok, Err, None}
use Rattle.rpc_records.specs.declared.fault.RecordFault.{RecordFault}
use Rattle.rpc_records.specs.Reading.{first_record}
use Rattle.rpc_records.specs.Reading.Reading.{Partial}
use Rattle.rpc_records.specs.Marking.{marking}
use Rattle.rpc_records.specs.Progress.{Progress, IsUnfinished, reading_of, taken_of, is_at_edge, kept_by, refusal_of, Feeds}
use Rattle.rpc_records.specs.Progress.{after_next}

-- the bytes of a piece that count as taken: those that the answer tells, and at a refusal all
abbrev pub taken_part : Result ℕ RecordFault → List ℕ → List ℕ
taken_part (Ok n) piece = take n piece
taken_part (Err fault) piece = piece

-- A reader took this text from its beginning, and dropped these records of it.
pub record HasRead (text : List ℕ) (dropped : List (List ℕ)) (now : Progress) : Type 0 where
  -- the text of the dropped records, and the bytes behind them
  pub front : List ℕ
  pub present : List ℕ
  pub parts : text ≡ front ++ present
  pub front_is : marking front ≡ record { records = dropped; rest = []; refusal = None }
  -- what comes next is read behind the present bytes
  pub reads : (more : List ℕ) → reading_of now more ≡ first_record (present ++ more)
  -- an unfinished record is these bytes
  pub partial : IsUnfinished now → first_record present ≡ Partial
  pub taken : IsUnfinished now → taken_of now ≡ length present

-- the reader agrees with record marking of the text
pub record FollowsMarking (text : List ℕ) (dropped : List (List ℕ)) (now : Progress) : Type 0 where
  -- the dropped records and the kept one, in order, are the records of the text
  pub records : (marking text).records ≡ dropped ++ kept_by now
  -- it refuses exactly where the text is refused, for the same reason
  pub refusal : (marking text).refusal ≡ refusal_of now
  -- it is between two records exactly where no byte stands behind the last one
  pub edge : is_at_edge now ≡ (length (marking text).rest == 0)

-- ---- calls one after another

pub data Call : Type 0 where
  -- this piece was fed, with this answer
  Feed : (piece : List ℕ) (result : Result ℕ RecordFault) → Call
  -- the kept record was dropped
  Next : Call

-- from old, these calls in this order take this text, drop these records and lead to now
abbrev pub Runs : Progress → List Call → List ℕ → List (List ℕ) → Progress → Type 0
Runs old [] text dropped now = (text ≡ []) × (dropped ≡ []) × (now ≡ old)
Runs old (Feed piece result ∷ calls) text dropped now =
    (new : Progress) × (others : List ℕ) × Feeds old piece result new × (text ≡ taken_part result piece ++ others)
    × Runs new calls others dropped now
Runs old (Next ∷ calls) text dropped now =
    (others : List (List ℕ)) × (dropped ≡ kept_by old ++ others) × Runs (after_next old) calls text others now

-- two readers of one text agree
pub record IsSameReading (dropped : List (List ℕ)) (now : Progress) (dropped' : List (List ℕ)) (now' : Progress) : Type 0 where
  pub records : dropped ++ kept_by now ≡ dropped' ++ kept_by now'
  pub refusal : refusal_of now ≡ refusal_of now'
  pub edge : is_at_edge now ≡ is_at_edge now'
