-- Record marking of a whole text: its records in order, and what stands behind them.
use Rattle.std.specs.Prelude.{ℕ, zero, suc, ◌≤◌, List, [], ◌∷◌, ◌++◌, length, Option, Some, None}
use Rattle.rpc_records.specs.declared.fault.RecordFault.{RecordFault}
use Rattle.rpc_records.specs.declared.limits.TheConstants.{MOST_BYTES}
use Rattle.rpc_records.specs.Reading.{Reading, first_record}
use Rattle.rpc_records.specs.Reading.Reading.{Whole, Partial, Refused}

pub record Marking : Type 0 where
  -- the contents of the whole records, in order
  pub records : List (List ℕ)
  -- the bytes behind the last of them
  pub rest : List ℕ
  -- why the rest is refused, if it is
  pub refusal : Option RecordFault

-- no whole record
abbrev pub none_whole : List ℕ → Option RecordFault → Marking
none_whole text refusal = record { records = []; rest = text; refusal = refusal }

-- these records, and then those of the marking
abbrev pub with_records : List (List ℕ) → Marking → Marking
with_records records marking = record { records = records ++ marking.records; rest = marking.rest; refusal = marking.refusal }

-- the marking of a text by the record at its front, where `go_on` gives that of what stands behind
abbrev pub marked_from : (List ℕ → Marking) → List ℕ → Reading → Marking
marked_from go_on text (Whole content rest) = with_records (content ∷ []) (go_on rest)
marked_from go_on text Partial = none_whole text None
marked_from go_on text (Refused fault) = none_whole text (Some fault)

-- record marking, up to so many records
unfoldable pub marking_within : ℕ → List ℕ → Marking
marking_within zero text = none_whole text None
marking_within (suc bound) text = marked_from (marking_within bound) text (first_record text)

-- Record marking. A record takes four bytes or more, so a text has no more records than bytes.
unfoldable pub marking : List ℕ → Marking
marking text = marking_within (length text) text

-- a record that fits the limit
abbrev pub IsShort : List ℕ → Type 0
IsShort content = length content ≤ MOST_BYTES
