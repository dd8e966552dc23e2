-- The record at the front of a text: its cases, a longer text, and a record that was written.
use Rattle.std.proofs.Common.{◌≡◌, ℕ, zero, suc, ◌+◌, ◌-◌, ◌^◌, ◌%◌, ◌<◌, ◌≤◌, Bool, true, false, List, [], ◌∷◌, ◌++◌, length}
use Rattle.std.proofs.Common.{take, drop, refl, sym, ap, ◌∙◌, inl, inr, append_assoc, length-append, length-take, length-drop}
use Rattle.std.proofs.Common.{arith}
use Rattle.std.specs.Prelude.{nat_lt}
use Rattle.std.specs.List.{flat_map}
use Rattle.std.proofs.Math.Nat.{add-mod_left, mod-eq_of_lt}
use Rattle.std.proofs.lemmas.Bool.{lt-ltb, le-ltb, le-leb, lt-leb, cases_lt}
use Rattle.std.proofs.lemmas.List.{take-append-le, drop-append-le, take_at, drop_at, append-nil}
use Rattle.std.proofs.Math.Seq.{take-append-add, drop-append-add}
use Rattle.byteorder.specs.Endian.{big_number, big_bytes}
use Rattle.byteorder.specs.Numbers.{big_from-append, big_number-reads_back, length-bytes_high_first}
use Rattle.xdr_grammar.specs.Items.{word}
use Rattle.rpc_records.specs.declared.limits.TheConstants.{MOST_BYTES}
use Rattle.rpc_records.specs.declared.fault.RecordFault.TheVariants.{TooLong, TooManyFragments}
use Rattle.rpc_records.specs.Reading.{Reading, marked, head_of, is_last, fragment_length, fragment_at, record_at}
use Rattle.rpc_records.specs.Reading.Reading.{Whole, Partial, Refused}
use Rattle.rpc_records.specs.Fragments.{unmarked, in_fragments, joined}

-- ---- the cases

pub fragment_at-short : (go_on : List ℕ → List ℕ → Reading) (last : Bool) (size : ℕ) (content text : List ℕ)
    → length text < size → fragment_at go_on last size content text ≡ Partial
unfolding fragment_at
fragment_at-short go_on last size content text h = let e : nat_lt (length text) size ≡ true = lt-ltb _ _ h in rw e refl

pub fragment_at-last : (go_on : List ℕ → List ℕ → Reading) (size : ℕ) (content text : List ℕ) → size ≤ length text
    → fragment_at go_on true size content text ≡ Whole (content ++ take size text) (drop size text)
unfolding fragment_at
fragment_at-last go_on size content text h = let e : nat_lt (length text) size ≡ false = le-ltb _ _ h in rw e refl

pub fragment_at-more : (go_on : List ℕ → List ℕ → Reading) (size : ℕ) (content text : List ℕ) → size ≤ length text
    → fragment_at go_on false size content text ≡ go_on (content ++ take size text) (drop size text)
unfolding fragment_at
fragment_at-more go_on size content text h = let e : nat_lt (length text) size ≡ false = le-ltb _ _ h in rw e refl

pub record_at-short : (n : ℕ) (content text : List ℕ) → length text < 4 → record_at n content text ≡ Partial
unfolding record_at
record_at-short zero content text h = let e : nat_lt (length text) 4 ≡ true = lt-ltb _ _ h in rw e refl
record_at-short (suc n) content text h = let e : nat_lt (length text) 4 ≡ true = lt-ltb _ _ h in rw e refl

pub record_at-none : (content text : List ℕ) → 4 ≤ length text → record_at 0 content text ≡ Refused TooManyFragments
unfolding record_at
record_at-none content text h = let e : nat_lt (length text) 4 ≡ false = le-ltb _ _ h in rw e refl

pub record_at-long : (n : ℕ) (content text : List ℕ) → 4 ≤ length text
    → MOST_BYTES < length content + fragment_length (head_of text) → record_at (suc n) content text ≡ Refused TooLong
unfolding record_at
record_at-long n content text h long =
    let e : nat_lt (length text) 4 ≡ false = le-ltb _ _ h in
    let l : nat_lt MOST_BYTES (length content + fragment_length (head_of text)) ≡ true = lt-ltb _ _ long in
    rw (e, l) refl

pub record_at-fits : (n : ℕ) (content text : List ℕ) → 4 ≤ length text
    → length content + fragment_length (head_of text) ≤ MOST_BYTES
    → record_at (suc n) content text ≡ fragment_at (record_at n) (is_last (head_of text))
    (fragment_length (head_of text)) content (drop 4 text)
unfolding record_at
record_at-fits n content text h fits =
    let e : nat_lt (length text) 4 ≡ false = le-ltb _ _ h in
    let l : nat_lt MOST_BYTES (length content + fragment_length (head_of text)) ≡ false = le-ltb _ _ fits in
    rw (e, l) refl

-- ---- a longer text

pub head_of-append : (text more : List ℕ) → 4 ≤ length text → head_of (text ++ more) ≡ head_of text
unfolding head_of
head_of-append text more h = big_from-append 4 text more h

-- the reading of a longer text, where that of the shorter one is known
abbrev pub IsLonger : List ℕ → Reading → Reading → Type 0
IsLonger more (Whole content rest) longer = longer ≡ Whole content (rest ++ more)
IsLonger more Partial longer = Unit {0}
IsLonger more (Refused fault) longer = longer ≡ Refused fault

IsLonger-refused : (more : List ℕ) (short long : Reading) → short ≡ long
    → ((content rest : List ℕ) → short ≡ Whole content rest → ⊥) → IsLonger more short long
IsLonger-refused more (Whole content rest) long e not_whole = absurd (not_whole content rest refl)
IsLonger-refused more Partial long e not_whole = tt
IsLonger-refused more (Refused fault) long e not_whole = sym e

pub fragment_at-longer : (go_on : List ℕ → List ℕ → Reading) (last : Bool) (size : ℕ) (content text more : List ℕ)
    → ((c t : List ℕ) → IsLonger more (go_on c t) (go_on c (t ++ more)))
    → IsLonger more (fragment_at go_on last size content text) (fragment_at go_on last size content (text ++ more))
fragment_at-longer go_on last size content text more longer = elim (cases_lt (length text) size) [
  | inl short ↦ rw (fragment_at-short go_on last size content text short) tt
  | inr enough ↦
      let enough_more : size ≤ length (text ++ more) = omega (arith, length-append text more) in
      let front = take-append-le size text more enough in
      let back = drop-append-le size text more enough in
      elim last as (λ b. IsLonger more (fragment_at go_on b size content text)
      (fragment_at go_on b size content (text ++ more))) [
        | true ↦ rw (
          fragment_at-last go_on size content text enough,
          fragment_at-last go_on size content
              (text ++ more) enough_more,
          front,
          back,
        ) refl
        | false ↦ rw (
          fragment_at-more go_on size content text enough,
          fragment_at-more go_on size content
              (text ++ more) enough_more,
          front,
          back,
        ) (longer (content ++ take size text) (drop size text))
      ]
]

pub record_at-longer : (n : ℕ) (content text more : List ℕ)
    → IsLonger more (record_at n content text) (record_at n content (text ++ more))
record_at-longer zero content text more = elim (cases_lt (length text) 4) [
  | inl short ↦ rw (record_at-short 0 content text short) tt
  | inr enough ↦
      let enough_more : 4 ≤ length (text ++ more) = omega (arith, length-append text more) in
      rw (record_at-none content text enough, record_at-none content (text ++ more) enough_more) refl
]
record_at-longer (suc n) content text more = elim (cases_lt (length text) 4) [
  | inl short ↦ rw (record_at-short (suc n) content text short) tt
  | inr enough ↦
      let enough_more : 4 ≤ length (text ++ more) = omega (arith, length-append text more) in
      let head = head_of-append text more enough in
      elim (cases_lt MOST_BYTES (length content + fragment_length (head_of text))) [
        | inl long ↦
            let long_more : MOST_BYTES < length content + fragment_length (head_of (text ++ more)) = rw head long in
            rw (record_at-long n content text enough long, record_at-long n content (text ++ more) enough_more long_more) refl
        | inr fits ↦
            let fits_more : length content + fragment_length (head_of (text ++ more)) ≤ MOST_BYTES = rw head fits in
            rw (
              record_at-fits n content text enough fits,
              record_at-fits n content (text ++ more) enough_more fits_more,
              head,
              drop-append-le 4 text more enough,
            )
            (fragment_at-longer (record_at n) (is_last (head_of text)) (fragment_length (head_of text)) content
            (drop 4 text) more (λ c t. record_at-longer n c t more))
      ]
]

-- ---- what stands behind a record

-- at most so many bytes stand behind a whole record
abbrev pub Leaves : ℕ → Reading → Type 0
Leaves most (Whole content rest) = length rest ≤ most
Leaves most Partial = Unit {0}
Leaves most (Refused fault) = Unit {0}

Leaves-more : (few most : ℕ) (reading : Reading) → few ≤ most → Leaves few reading → Leaves most reading
Leaves-more few most (Whole content rest) h l = omega arith
Leaves-more few most Partial h l = tt
Leaves-more few most (Refused fault) h l = tt

fragment_at-leaves : (go_on : List ℕ → List ℕ → Reading) (last : Bool) (size : ℕ) (content text : List ℕ)
    → ((c t : List ℕ) → Leaves (length t) (go_on c t)) → Leaves (length text) (fragment_at go_on last size content text)
fragment_at-leaves go_on last size content text leaves = elim (cases_lt (length text) size) [
  | inl short ↦ rw (fragment_at-short go_on last size content text short) tt
  | inr enough ↦ elim last as (λ b. Leaves (length text) (fragment_at go_on b size content text)) [
    | true ↦ rw (fragment_at-last go_on size content text enough) (omega (arith, length-drop size text))
    | false ↦ rw (fragment_at-more go_on size content text enough)
        (Leaves-more (length (drop size text)) (length text) _ (omega (arith, length-drop size text))
        (leaves (content ++ take size text) (drop size text)))
  ]
]

pub record_at-leaves : (n : ℕ) (content text : List ℕ) → Leaves (length text - 4) (record_at n content text)
record_at-leaves zero content text = elim (cases_lt (length text) 4) [
  | inl short ↦ rw (record_at-short 0 content text short) tt
  | inr enough ↦ rw (record_at-none content text enough) tt
]
record_at-leaves (suc n) content text = elim (cases_lt (length text) 4) [
  | inl short ↦ rw (record_at-short (suc n) content text short) tt
  | inr enough ↦ elim (cases_lt MOST_BYTES (length content + fragment_length (head_of text))) [
    | inl long ↦ rw (record_at-long n content text enough long) tt
    | inr fits ↦ rw (record_at-fits n content text enough fits, ← length-drop 4 text)
        (fragment_at-leaves (record_at n) (is_last (head_of text)) (fragment_length (head_of text)) content (drop 4 text)
        (λ c t. Leaves-more (length t - 4) (length t) (record_at n c t) (omega arith) (record_at-leaves n c t)))
  ]
]

-- ---- how long a record is

-- the content of a whole record fits the limit
abbrev pub HasShort : Reading → Type 0
HasShort (Whole content rest) = length content ≤ MOST_BYTES
HasShort Partial = Unit {0}
HasShort (Refused fault) = Unit {0}

fragment_at-content : (go_on : List ℕ → List ℕ → Reading) (last : Bool) (size : ℕ) (content text : List ℕ)
    → length content + size ≤ MOST_BYTES
    → ((c t : List ℕ) → length c ≤ MOST_BYTES → HasShort (go_on c t)) → HasShort (fragment_at go_on last size content text)
fragment_at-content go_on last size content text fits short = elim (cases_lt (length text) size) [
  | inl few ↦ rw (fragment_at-short go_on last size content text few) tt
  | inr enough ↦
      let all : length (content ++ take size text) ≤ MOST_BYTES =
      omega (arith, length-append content (take size text), length-take size text) in
      elim last as (λ b. HasShort (fragment_at go_on b size content text)) [
        | true ↦ rw (fragment_at-last go_on size content text enough) all
        | false ↦ rw (fragment_at-more go_on size content text enough) (short (content ++ take size text) (drop size text) all)
      ]
]

pub record_at-content : (n : ℕ) (content text : List ℕ) → length content ≤ MOST_BYTES → HasShort (record_at n content text)
record_at-content zero content text h = elim (cases_lt (length text) 4) [
  | inl short ↦ rw (record_at-short 0 content text short) tt
  | inr enough ↦ rw (record_at-none content text enough) tt
]
record_at-content (suc n) content text h = elim (cases_lt (length text) 4) [
  | inl short ↦ rw (record_at-short (suc n) content text short) tt
  | inr enough ↦ elim (cases_lt MOST_BYTES (length content + fragment_length (head_of text))) [
    | inl long ↦ rw (record_at-long n content text enough long) tt
    | inr fits ↦ rw (record_at-fits n content text enough fits)
        (fragment_at-content (record_at n) (is_last (head_of text)) (fragment_length (head_of text)) content (drop 4 text) fits
        (λ c t k. record_at-content n c t k))
  ]
]

-- ---- a head

-- reading goes on behind a head
pub record_at-head : (n x : ℕ) (content mark more : List ℕ) → length mark ≡ 4 → head_of mark ≡ x
    → length content + fragment_length x ≤ MOST_BYTES
    → record_at (suc n) content (mark ++ more) ≡ fragment_at (record_at n) (is_last x) (fragment_length x) content more
record_at-head n x content mark more long is fits =
    let enough : 4 ≤ length (mark ++ more) = omega (arith, length-append mark more, long) in
    let head : head_of (mark ++ more) ≡ x = head_of-append mark more (omega arith) ∙ is in
    let fits_head : length content + fragment_length (head_of (mark ++ more)) ≤ MOST_BYTES = rw head fits in
    rw (record_at-fits n content (mark ++ more) enough fits_head, head, drop_at mark more 4 long) refl

pub record_at-head_long : (n x : ℕ) (content mark more : List ℕ) → length mark ≡ 4 → head_of mark ≡ x
    → MOST_BYTES < length content + fragment_length x
    → record_at (suc n) content (mark ++ more) ≡ Refused TooLong
record_at-head_long n x content mark more long is passes =
    let enough : 4 ≤ length (mark ++ more) = omega (arith, length-append mark more, long) in
    let head : head_of (mark ++ more) ≡ x = head_of-append mark more (omega arith) ∙ is in
    record_at-long n content (mark ++ more) enough (rw head passes)

-- ---- a piece of a fragment

-- bytes of a fragment are content
pub fragment_at-part : (go_on : List ℕ → List ℕ → Reading) (last : Bool) (left : ℕ) (content part more : List ℕ)
    → fragment_at go_on last (length part + left) content (part ++ more) ≡ fragment_at go_on last left (content ++ part) more
fragment_at-part go_on last left content part more = elim (cases_lt (length more) left) [
  | inl short ↦
      let short_all : length (part ++ more) < length part + left = omega (arith, length-append part more) in
      fragment_at-short go_on last (length part + left) content (part ++ more) short_all
      ∙ sym (fragment_at-short go_on last left (content ++ part) more short)
  | inr enough ↦
      let enough_all : length part + left ≤ length (part ++ more) = omega (arith, length-append part more) in
      let front : content ++ take (length part + left) (part ++ more) ≡ (content ++ part) ++ take left more =
      ap (λ (t : List ℕ). content ++ t) (take-append-add part more left) ∙ sym (append_assoc content part (take left more)) in
      let back = drop-append-add part more left in
      elim last as (λ b. fragment_at go_on b (length part + left) content (part ++ more) ≡ fragment_at go_on b left
      (content ++ part) more) [
        | true ↦ rw (
          fragment_at-last go_on (length part + left) content (part ++ more) enough_all,
          fragment_at-last go_on left (content ++ part) more enough,
          front,
          back,
        ) refl
        | false ↦ rw (
          fragment_at-more go_on (length part + left) content (part ++ more) enough_all,
          fragment_at-more go_on left (content ++ part) more enough,
          front,
          back,
        ) refl
      ]
]

-- a fragment of which nothing is left
pub fragment_at-ended_last : (go_on : List ℕ → List ℕ → Reading) (left : ℕ) (content text : List ℕ) → left ≤ 0
    → fragment_at go_on true left content text ≡ Whole content text
fragment_at-ended_last go_on zero content text h = fragment_at-last go_on 0 content text (omega arith)
    ∙ ap (λ (t : List ℕ). Whole t text) (append-nil content)
fragment_at-ended_last go_on (suc left) content text h = absurd (omega arith)

pub fragment_at-ended_more : (go_on : List ℕ → List ℕ → Reading) (left : ℕ) (content text : List ℕ) → left ≤ 0
    → fragment_at go_on false left content text ≡ go_on content text
fragment_at-ended_more go_on zero content text h = fragment_at-more go_on 0 content text (omega arith)
    ∙ ap (λ (t : List ℕ). go_on t text) (append-nil content)
fragment_at-ended_more go_on (suc left) content text h = absurd (omega arith)

-- ---- a record that was written

length-mark : (x : ℕ) → length (word.spelling x) ≡ 4
unfolding word
length-mark x = length-bytes_high_first 4 x

head_of-mark : (x : ℕ) → x < 256 ^ 4 → head_of (word.spelling x) ≡ x
unfolding word head_of
head_of-mark x h = ap (big_number 4) (sym (append-nil (big_bytes 4 x))) ∙ big_number-reads_back 4 x [] h

-- the length under the top bit
length_under : (top n : ℕ) → n < top → (top + n) % top ≡ n
length_under top n h = add-mod_left top n ∙ mod-eq_of_lt h

-- reading goes on behind a head that was written
pub record_at-mark : (n x : ℕ) (content more : List ℕ) → x < 2 ^ 32 → length content + fragment_length x ≤ MOST_BYTES
    → record_at (suc n) content (word.spelling x ++ more) ≡ fragment_at (record_at n) (is_last x) (fragment_length x) content more
record_at-mark n x content more small fits =
    record_at-head n x content (word.spelling x) more (length-mark x) (head_of-mark x (omega arith)) fits

-- the last fragment, behind other content
pub record_at-last : (n : ℕ) (content part more : List ℕ) → length content + length part ≤ MOST_BYTES
    → record_at (suc n) content (marked part ++ more) ≡ Whole (content ++ part) more
unfolding marked
record_at-last n content part more h =
    let size = length part in
    let last : is_last (2 ^ 31 + size) ≡ true = le-leb _ _ (omega arith) in
    let long : fragment_length (2 ^ 31 + size) ≡ size = length_under (2 ^ 31) size (omega arith) in
    let step = record_at-mark n (2 ^ 31 + size) content (part ++ more) (omega arith) (rw long h) in
    let enough : size ≤ length (part ++ more) = omega (arith, length-append part more) in
    rw (
      append_assoc (word.spelling (2 ^ 31 + size)) part more,
      step,
      last,
      long,
      fragment_at-last (record_at n) size content
          (part ++ more) enough,
      take_at part more size refl,
      drop_at part more size refl,
    ) refl

-- a fragment that another one follows
pub record_at-unmarked : (n : ℕ) (content part more : List ℕ) → length content + length part ≤ MOST_BYTES
    → record_at (suc n) content (unmarked part ++ more) ≡ record_at n (content ++ part) more
unfolding unmarked
record_at-unmarked n content part more h =
    let size = length part in
    let last : is_last size ≡ false = lt-leb _ _ (omega arith) in
    let long : fragment_length size ≡ size = mod-eq_of_lt (omega arith) in
    let step = record_at-mark n size content (part ++ more) (omega arith) (rw long h) in
    let enough : size ≤ length (part ++ more) = omega (arith, length-append part more) in
    rw (
      append_assoc (word.spelling size) part more,
      step,
      last,
      long,
      fragment_at-more (record_at n) size content
          (part ++ more) enough,
      take_at part more size refl,
      drop_at part more size refl,
    ) refl

pub record_at-marked : (n : ℕ) (content more : List ℕ) → length content ≤ MOST_BYTES
    → record_at (suc n) [] (marked content ++ more) ≡ Whole content more
record_at-marked n content more h = record_at-last n [] content more (omega arith)

-- fragments one behind another
pub record_at-fragments : (parts : List (List ℕ)) (n : ℕ) (content last more : List ℕ) → length parts ≤ n
    → length content + length (joined parts last) ≤ MOST_BYTES
    → record_at (suc n) content (in_fragments parts last ++ more) ≡ Whole (content ++ joined parts last) more
record_at-fragments [] n content last more few fits = record_at-last n content last more fits
record_at-fragments (part ∷ parts) zero content last more few fits = absurd (omega arith)
record_at-fragments (part ∷ parts) (suc n) content last more few fits =
    let others = flat_map (λ (p : List ℕ). p) parts in
    let size : length (joined (part ∷ parts) last) ≡ length part + length (joined parts last) =
    ap length (append_assoc part others last) ∙ length-append part (joined parts last) in
    let first = record_at-unmarked (suc n) content part (in_fragments parts last ++ more) (omega arith) in
    let behind = record_at-fragments parts n (content ++ part) last more (omega arith)
    (omega (arith, length-append content part)) in
    let text : in_fragments (part ∷ parts) last ++ more ≡ unmarked part ++ (in_fragments parts last ++ more) =
    ap (λ (t : List ℕ). t ++ more) (append_assoc (unmarked part) (flat_map unmarked parts) (marked last))
    ∙ append_assoc (unmarked part) (in_fragments parts last) more in
    let whole : (content ++ part) ++ joined parts last ≡ content ++ joined (part ∷ parts) last =
    append_assoc content part (joined parts last) ∙ ap (λ (t : List ℕ). content ++ t) (sym (append_assoc part others last)) in
    ap (record_at (suc (suc n)) content) text ∙ (first ∙ (behind ∙ ap (λ (t : List ℕ). Whole t more) whole))
