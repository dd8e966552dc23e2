-- The laws of record marking.
use Rattle.std.proofs.Common.{◌≡◌, ℕ, zero, suc, ◌-◌, ◌<◌, ◌≤◌, List, [], ◌∷◌, ◌++◌, length, Option, Some, None, refl, sym, ap}
use Rattle.std.proofs.Common.{subst, ◌∙◌, append_assoc, arith}
use Rattle.std.specs.Prelude.{All}
use Rattle.std.specs.List.{flat_map}
use Rattle.std.proofs.lemmas.List.Elements.{All-nil, All-cons}
use Rattle.xdr_grammar.proofs.Steps.{All-first, All-others}
use Rattle.rpc_records.specs.declared.limits.TheConstants.{MOST_FRAGMENTS}
use Rattle.rpc_records.specs.declared.fault.RecordFault.{RecordFault}
use Rattle.rpc_records.specs.Reading.{Reading, marked, first_record}
use Rattle.rpc_records.specs.Reading.Reading.{Whole, Partial, Refused}
use Rattle.rpc_records.specs.Fragments.{in_fragments, joined}
use Rattle.rpc_records.specs.Marking.{Marking, none_whole, with_records, marked_from, marking_within, marking, IsShort}
use Rattle.rpc_records.proofs.RecordLaws.{record_at-short, record_at-longer, record_at-leaves, record_at-marked}
use Rattle.rpc_records.proofs.RecordLaws.{record_at-fragments, record_at-content}

-- ---- the record at the front

pub first_record-marked : (content more : List ℕ) → IsShort content → first_record (marked content ++ more) ≡ Whole content more
first_record-marked content more h = record_at-marked 63 content more h

pub first_record-fragments : (parts : List (List ℕ)) (last more : List ℕ) → length parts < MOST_FRAGMENTS
    → IsShort (joined parts last) → first_record (in_fragments parts last ++ more) ≡ Whole (joined parts last) more
first_record-fragments parts last more few short = record_at-fragments parts 63 [] last more (omega arith) (omega arith)

pub first_record-longer_whole : (text more content rest : List ℕ) → first_record text ≡ Whole content rest
    → first_record (text ++ more) ≡ Whole content (rest ++ more)
first_record-longer_whole text more content rest e = rw e at (record_at-longer MOST_FRAGMENTS [] text more)

pub first_record-longer_refused : (text more : List ℕ) (fault : RecordFault) → first_record text ≡ Refused fault
    → first_record (text ++ more) ≡ Refused fault
first_record-longer_refused text more fault e = rw e at (record_at-longer MOST_FRAGMENTS [] text more)

pub first_record-shorter : (text content rest : List ℕ) → first_record text ≡ Whole content rest → length rest ≤ length text - 4
first_record-shorter text content rest e = rw e at (record_at-leaves MOST_FRAGMENTS [] text)

-- ---- the bound does not matter

marked_from-same : (first second : List ℕ → Marking) (text : List ℕ) (reading : Reading)
    → ((content rest : List ℕ) → reading ≡ Whole content rest → first rest ≡ second rest)
    → marked_from first text reading ≡ marked_from second text reading
marked_from-same first second text (Whole content rest) h = ap (with_records (content ∷ [])) (h content rest refl)
marked_from-same first second text Partial h = refl
marked_from-same first second text (Refused fault) h = refl

marking_within-same : (m n : ℕ) (text : List ℕ) → length text ≤ m → length text ≤ n
    → marking_within m text ≡ marking_within n text
unfolding marking_within
marking_within-same zero zero text h k = refl
marking_within-same zero (suc n) text h k = rw (record_at-short MOST_FRAGMENTS [] text (omega arith)) refl
marking_within-same (suc m) zero text h k = rw (record_at-short MOST_FRAGMENTS [] text (omega arith)) refl
marking_within-same (suc m) (suc n) text h k =
    marked_from-same (marking_within m) (marking_within n) text (first_record text)
    (λ content rest e. let short = first_record-shorter text content rest e in
    marking_within-same m n rest (omega arith) (omega arith))

-- a larger bound gives the same
pub marking_within-is : (bound : ℕ) (text : List ℕ) → length text ≤ bound → marking_within bound text ≡ marking text
unfolding marking
marking_within-is bound text h = marking_within-same bound (length text) text h (omega arith)

-- record marking by the record at the front
pub marking-from : (text : List ℕ) → marking text ≡ marked_from marking text (first_record text)
unfolding marking_within
marking-from text =
    let larger : marking_within (suc (length text)) text ≡ marking text =
    marking_within-is (suc (length text)) text (omega arith) in
    sym larger ∙ marked_from-same (marking_within (length text)) marking text (first_record text)
    (λ content rest e. let short = first_record-shorter text content rest e in marking_within-is (length text) rest (omega arith))

pub marking-whole : (text content rest : List ℕ) → first_record text ≡ Whole content rest
    → marking text ≡ with_records (content ∷ []) (marking rest)
marking-whole text content rest e = marking-from text ∙ ap (marked_from marking text) e

pub marking-partial : (text : List ℕ) → first_record text ≡ Partial → marking text ≡ none_whole text None
marking-partial text e = marking-from text ∙ ap (marked_from marking text) e

pub marking-refused : (text : List ℕ) (fault : RecordFault) → first_record text ≡ Refused fault
    → marking text ≡ none_whole text (Some fault)
marking-refused text fault e = marking-from text ∙ ap (marked_from marking text) e

pub marking-marked : (records : List (List ℕ)) (tail : List ℕ) → All IsShort records
    → marking (flat_map marked records ++ tail) ≡ with_records records (marking tail)
marking-marked [] tail h = refl
marking-marked (content ∷ records) tail h =
    let others = marking-marked records tail (All-others IsShort content records h) in
    let front = first_record-marked content (flat_map marked records ++ tail) (All-first IsShort content records h) in
    ap marking (append_assoc (marked content) (flat_map marked records) tail)
    ∙ (marking-whole _ content (flat_map marked records ++ tail) front ∙ ap (with_records (content ∷ [])) others)

-- ---- how long the records are

first_record-short : (text content rest : List ℕ) → first_record text ≡ Whole content rest → IsShort content
first_record-short text content rest e = rw e at (record_at-content MOST_FRAGMENTS [] text (omega arith))

records-short_within : (bound : ℕ) (text : List ℕ) → length text ≤ bound → All IsShort (marking text).records
records-short_within zero text h =
    subst (λ (m : Marking). All IsShort m.records)
    (sym (marking-partial text (record_at-short MOST_FRAGMENTS [] text (omega arith)))) (All-nil IsShort)
records-short_within (suc bound) text h =
    (elim (first_record text) as (λ (r : Reading). first_record text ≡ r → All IsShort (marking text).records) [
      | Whole content rest ↦ λ e.
          let short = first_record-shorter text content rest e in
          let others = records-short_within bound rest (omega arith) in
          subst (λ (m : Marking). All IsShort m.records) (sym (marking-whole text content rest e))
          (All-cons IsShort content (marking rest).records (first_record-short text content rest e) others)
      | Partial ↦ λ e. subst (λ (m : Marking). All IsShort m.records) (sym (marking-partial text e)) (All-nil IsShort)
      | Refused fault ↦ λ e. subst (λ (m : Marking). All IsShort m.records) (sym (marking-refused text fault e)) (All-nil IsShort)
    ]) refl

pub records-short : (text : List ℕ) → All IsShort (marking text).records
records-short text = records-short_within (length text) text (omega arith)

-- ---- a longer text

-- the marking of a text, as it goes on
abbrev pub gone_on : Marking → Option RecordFault → List ℕ → Marking
gone_on m None more = with_records m.records (marking (m.rest ++ more))
gone_on m (Some fault) more = with_records m.records (none_whole (m.rest ++ more) (Some fault))

gone_on-behind : (content : List ℕ) (m : Marking) (refusal : Option RecordFault) (more : List ℕ)
    → with_records (content ∷ []) (gone_on m refusal more) ≡ gone_on (with_records (content ∷ []) m) refusal more
gone_on-behind content m None more = refl
gone_on-behind content m (Some fault) more = refl

marking-append_within : (bound : ℕ) (text more : List ℕ) → length text ≤ bound
    → marking (text ++ more) ≡ gone_on (marking text) (marking text).refusal more
marking-append_within zero text more h =
    let front = marking-partial text (record_at-short MOST_FRAGMENTS [] text (omega arith)) in
    sym (ap (λ (m : Marking). gone_on m m.refusal more) front)
marking-append_within (suc bound) text more h =
    (elim (first_record text) as
    (λ (r : Reading). first_record text ≡ r → marking (text ++ more) ≡ gone_on (marking text) (marking text).refusal more) [
      | Whole content rest ↦ λ e.
          let short = first_record-shorter text content rest e in
          let front = marking-whole text content rest e in
          let front_more = marking-whole (text ++ more) content (rest ++ more)
          (first_record-longer_whole text more content rest e) in
          let others = marking-append_within bound rest more (omega arith) in
          front_more ∙ (ap (with_records (content ∷ [])) others
          ∙ (gone_on-behind content (marking rest) (marking rest).refusal more
          ∙ sym (ap (λ (m : Marking). gone_on m m.refusal more) front)))
      | Partial ↦ λ e. sym (ap (λ (m : Marking). gone_on m m.refusal more) (marking-partial text e))
      | Refused fault ↦ λ e.
          marking-refused (text ++ more) fault (first_record-longer_refused text more fault e)
          ∙ sym (ap (λ (m : Marking). gone_on m m.refusal more) (marking-refused text fault e))
    ]) refl

pub marking-append : (text more : List ℕ) → marking (text ++ more) ≡ gone_on (marking text) (marking text).refusal more
marking-append text more = marking-append_within (length text) text more (omega arith)

pub marking-append_none : (text more : List ℕ) → (marking text).refusal ≡ None
    → marking (text ++ more) ≡ with_records (marking text).records (marking ((marking text).rest ++ more))
marking-append_none text more e = marking-append text more ∙ ap (λ (r : Option RecordFault). gone_on (marking text) r more) e

pub marking-append_refused : (text more : List ℕ) (fault : RecordFault) → (marking text).refusal ≡ Some fault
    → marking (text ++ more) ≡ with_records (marking text).records (none_whole ((marking text).rest ++ more) (Some fault))
marking-append_refused text more fault e = marking-append text more
    ∙ ap (λ (r : Option RecordFault). gone_on (marking text) r more) e

-- ---- the rest

-- what stands at the front of the rest, by the refusal
abbrev pub rest_reading : Option RecordFault → Reading
rest_reading None = Partial
rest_reading (Some fault) = Refused fault

first_record-rest_within : (bound : ℕ) (text : List ℕ) → length text ≤ bound
    → first_record (marking text).rest ≡ rest_reading (marking text).refusal
first_record-rest_within zero text h =
    let short = record_at-short MOST_FRAGMENTS [] text (omega arith) in
    subst (λ (m : Marking). first_record m.rest ≡ rest_reading m.refusal) (sym (marking-partial text short)) short
first_record-rest_within (suc bound) text h =
    (elim (first_record text) as
    (λ (r : Reading). first_record text ≡ r → first_record (marking text).rest ≡ rest_reading (marking text).refusal) [
      | Whole content rest ↦ λ e.
          let short = first_record-shorter text content rest e in
          let others = first_record-rest_within bound rest (omega arith) in
          subst (λ (m : Marking). first_record m.rest ≡ rest_reading m.refusal) (sym (marking-whole text content rest e)) others
      | Partial ↦ λ e. subst (λ (m : Marking). first_record m.rest ≡ rest_reading m.refusal) (sym (marking-partial text e)) e
      | Refused fault ↦ λ e. subst (λ (m : Marking). first_record m.rest ≡ rest_reading m.refusal)
          (sym (marking-refused text fault e)) e
    ]) refl

pub first_record-rest : (text : List ℕ) → first_record (marking text).rest ≡ rest_reading (marking text).refusal
first_record-rest text = first_record-rest_within (length text) text (omega arith)

pub first_record-rest_partial : (text : List ℕ) → (marking text).refusal ≡ None → first_record (marking text).rest ≡ Partial
first_record-rest_partial text e = first_record-rest text ∙ ap rest_reading e

pub first_record-rest_refused : (text : List ℕ) (fault : RecordFault) → (marking text).refusal ≡ Some fault
    → first_record (marking text).rest ≡ Refused fault
first_record-rest_refused text fault e = first_record-rest text ∙ ap rest_reading e
