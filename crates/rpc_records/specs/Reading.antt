-- One record at the front of a text (RFC 5531, section 11). A record is one or more fragments. Each
-- stands behind a head of four bytes, whose top bit says whether the fragment is the last one, and
-- whose other 31 bits are its length. The record's content is that of its fragments, one after another.
use Rattle.std.specs.Prelude.{ℕ, zero, suc, ◌+◌, ◌^◌, ◌%◌, Bool, nat_lt, nat_le, if◌then◌else◌, List, [], ◌++◌, length, take}
use Rattle.std.specs.Prelude.{drop}
use Rattle.byteorder.specs.Endian.{big_number}
use Rattle.xdr_grammar.specs.Items.{word}
use Rattle.rpc_records.specs.declared.fault.RecordFault.{RecordFault}
use Rattle.rpc_records.specs.declared.fault.RecordFault.TheVariants.{TooLong, TooManyFragments}
use Rattle.rpc_records.specs.declared.limits.TheConstants.{MOST_BYTES, MOST_FRAGMENTS}

-- a record as one fragment, which is the last one
unfoldable pub marked : List ℕ → List ℕ
marked content = word.spelling (2 ^ 31 + length content) ++ content

-- the number in the first four bytes
unfoldable pub head_of : List ℕ → ℕ
head_of text = big_number 4 text

-- a head's top bit: no fragment of the record follows
abbrev pub is_last : ℕ → Bool
is_last head = nat_le (2 ^ 31) head

-- a head's other bits: how many bytes its fragment has
abbrev pub fragment_length : ℕ → ℕ
fragment_length head = head % 2 ^ 31

-- what stands at the front of a text
pub data Reading : Type 0 where
  -- a whole record with this content, and this text behind it
  Whole : (content rest : List ℕ) → Reading
  -- no whole record yet, and no fault
  Partial : Reading
  -- the text is refused, however it goes on
  Refused : (fault : RecordFault) → Reading

-- The text begins with so many bytes of a fragment, behind this content of the record. Where they
-- are all there, they are content too: the record ends if the fragment is the last, and else goes on.
unfoldable pub fragment_at : (List ℕ → List ℕ → Reading) → Bool → ℕ → List ℕ → List ℕ → Reading
fragment_at go_on last size content text =
    if nat_lt (length text) size then Partial
    else if last then Whole (content ++ take size text) (drop size text)
    else go_on (content ++ take size text) (drop size text)

-- The text begins with a head, behind this content of the record, and so many fragments may begin.
-- A head that none may have is refused first, and then one that makes the record too long.
unfoldable pub record_at : ℕ → List ℕ → List ℕ → Reading
record_at zero content text = if nat_lt (length text) 4 then Partial else Refused TooManyFragments
record_at (suc fragments) content text =
    if nat_lt (length text) 4 then Partial
    else if nat_lt MOST_BYTES (length content + fragment_length (head_of text)) then Refused TooLong
    else fragment_at (record_at fragments) (is_last (head_of text)) (fragment_length (head_of text)) content (drop 4 text)

-- the record at the front of a text
abbrev pub first_record : List ℕ → Reading
first_record text = record_at MOST_FRAGMENTS [] text
