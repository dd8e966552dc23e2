-- A whole record that is read was written so, in fragments.
use Rattle.std.proofs.Common.{◌≡◌, ℕ, zero, suc, ◌+◌, ◌^◌, ◌%◌, ◌<◌, ◌≤◌, Bool, true, false, List, [], ◌∷◌, ◌++◌, length, take}
use Rattle.std.proofs.Common.{drop, refl, sym, ap, subst, ◌∙◌, inl, inr, append_assoc, length-take, arith}
use Rattle.std.specs.List.{flat_map}
use Rattle.std.proofs.lemmas.Bool.{leb-true, leb-false, cases_lt}
use Rattle.std.proofs.lemmas.List.{take-append-drop}
use Rattle.std.proofs.lemmas.Nat.{be_bytes_4}
use Rattle.byteorder.specs.Endian.{big_number}
use Rattle.byteorder.specs.Numbers.{big_from-take, big_from-lt}
use Rattle.xdr_grammar.specs.Items.{word}
use Rattle.xdr_grammar.specs.Laws.{AreBytes}
use Rattle.xdr_grammar.proofs.Steps.{AreBytes-front, AreBytes-back}
use Rattle.rpc_records.specs.declared.limits.TheConstants.{MOST_BYTES, MOST_FRAGMENTS}
use Rattle.rpc_records.specs.Reading.{Reading, marked, head_of, is_last, fragment_length, fragment_at, record_at, first_record}
use Rattle.rpc_records.specs.Reading.Reading.{Whole, Partial, Refused}
use Rattle.rpc_records.specs.Fragments.{unmarked, in_fragments, joined, IsInFragments}
use Rattle.rpc_records.proofs.RecordLaws.{fragment_at-short, fragment_at-last, fragment_at-more, record_at-short, record_at-none}
use Rattle.rpc_records.proofs.RecordLaws.{record_at-long, record_at-fits}

-- ---- a head

front_bytes : (n : ℕ) (text : List ℕ) → AreBytes text → AreBytes (take n text)
front_bytes n text bytes = AreBytes-front (take n text) (drop n text) (subst AreBytes (sym (take-append-drop n text)) bytes)

back_bytes : (n : ℕ) (text : List ℕ) → AreBytes text → AreBytes (drop n text)
back_bytes n text bytes = AreBytes-back (take n text) (drop n text) (subst AreBytes (sym (take-append-drop n text)) bytes)

-- the bytes of a head are those of its number
spelling-head : (text : List ℕ) → 4 ≤ length text → AreBytes text → word.spelling (head_of text) ≡ take 4 text
unfolding word head_of
spelling-head text enough bytes =
    let front = take 4 text in
    let number : big_number 4 text ≡ big_number 4 front = sym (big_from-take 0 4 4 text (omega arith)) in
    be_bytes_4 front (big_number 4 text) (omega (arith, length-take 4 text)) (front_bytes 4 text bytes) (number ∙ omega arith)

head_of-lt : (text : List ℕ) → AreBytes text → head_of text < 2 ^ 32
unfolding head_of
head_of-lt text bytes = let h = big_from-lt 0 4 text bytes in omega arith

-- a head and its fragment
head_and_part : (text : List ℕ) (size : ℕ) → text ≡ take 4 text ++ (take size (drop 4 text) ++ drop size (drop 4 text))
head_and_part text size = sym (take-append-drop 4 text)
    ∙ ap (λ (t : List ℕ). take 4 text ++ t) (sym (take-append-drop size (drop 4 text)))

top_bit : (x : ℕ) → x < 2 ^ 32 → 2 ^ 31 ≤ x → 2 ^ 31 + x % 2 ^ 31 ≡ x
top_bit x small large = omega arith

no_top_bit : (x : ℕ) → x < 2 ^ 31 → x % 2 ^ 31 ≡ x
no_top_bit x small = omega arith

last-found : (text : List ℕ) (size : ℕ) → 4 ≤ length text → AreBytes text → is_last (head_of text) ≡ true
    → fragment_length (head_of text) ≡ size → size ≤ length (drop 4 text)
    → text ≡ marked (take size (drop 4 text)) ++ drop size (drop 4 text)
unfolding marked
last-found text size enough bytes last long all =
    let part = take size (drop 4 text) in
    let after = drop size (drop 4 text) in
    let number : 2 ^ 31 + length part ≡ head_of text =
    ap (λ (n : ℕ). 2 ^ 31 + n) (omega (arith, length-take size (drop 4 text)))
    ∙ top_bit (head_of text) (head_of-lt text bytes) (leb-true _ _ last) in
    let mark : word.spelling (2 ^ 31 + length part) ≡ take 4 text = ap word.spelling number ∙ spelling-head text enough bytes in
    head_and_part text size ∙ (sym (append_assoc (take 4 text) part after) ∙ ap (λ (m : List ℕ). (m ++ part) ++ after) (sym mark))

more-found : (text : List ℕ) (size : ℕ) → 4 ≤ length text → AreBytes text → is_last (head_of text) ≡ false
    → fragment_length (head_of text) ≡ size → size ≤ length (drop 4 text)
    → text ≡ unmarked (take size (drop 4 text)) ++ drop size (drop 4 text)
unfolding unmarked
more-found text size enough bytes last long all =
    let part = take size (drop 4 text) in
    let after = drop size (drop 4 text) in
    let number : length part ≡ head_of text =
    (let e : length part ≡ fragment_length (head_of text) = omega (arith, length-take size (drop 4 text)) in e)
    ∙ no_top_bit (head_of text) (leb-false _ _ last) in
    let mark : word.spelling (length part) ≡ take 4 text = ap word.spelling number ∙ spelling-head text enough bytes in
    head_and_part text size ∙ (sym (append_assoc (take 4 text) part after) ∙ ap (λ (m : List ℕ). (m ++ part) ++ after) (sym mark))

-- ---- a record

-- a whole record is so written, behind this content, in at most so many fragments
abbrev pub IsFound : ℕ → List ℕ → List ℕ → Reading → Type 0
IsFound n before text (Whole content rest) =
    (parts : List (List ℕ)) × (last : List ℕ) × (text ≡ in_fragments parts last ++ rest) ×
    (content ≡ before ++ joined parts last) × (length parts < n)
IsFound n before text Partial = Unit {0}
IsFound n before text (Refused fault) = Unit {0}

-- one fragment more in front
found-more : (n : ℕ) (before part text after : List ℕ) (reading : Reading) → text ≡ unmarked part ++ after
    → IsFound n (before ++ part) after reading → IsFound (suc n) before text reading
found-more n before part text after (Whole content rest) is f =
    let parts = f.0 in
    let last = f.1 in
    let all : text ≡ in_fragments (part ∷ parts) last ++ rest =
    is ∙ (ap (λ (t : List ℕ). unmarked part ++ t) f.2 ∙ (sym (append_assoc (unmarked part) (in_fragments parts last) rest)
    ∙ ap (λ (t : List ℕ). t ++ rest) (sym (append_assoc (unmarked part) (flat_map unmarked parts) (marked last))))) in
    let whole : content ≡ before ++ joined (part ∷ parts) last =
    f.3 ∙ (append_assoc before part (joined parts last)
    ∙ ap (λ (t : List ℕ). before ++ t) (sym (append_assoc part (flat_map (λ (p : List ℕ). p) parts) last))) in
    (part ∷ parts, last, all, whole, omega (arith, f.4))
found-more n before part text after Partial is f = tt
found-more n before part text after (Refused fault) is f = tt

record_at-found : (n : ℕ) (before text : List ℕ) → AreBytes text → IsFound n before text (record_at n before text)
record_at-found zero before text bytes = elim (cases_lt (length text) 4) [
  | inl short ↦ rw (record_at-short 0 before text short) tt
  | inr enough ↦ rw (record_at-none before text enough) tt
]
record_at-found (suc n) before text bytes = elim (cases_lt (length text) 4) [
  | inl short ↦ rw (record_at-short (suc n) before text short) tt
  | inr enough ↦ elim (cases_lt MOST_BYTES (length before + fragment_length (head_of text))) [
    | inl long ↦ rw (record_at-long n before text enough long) tt
    | inr fits ↦
        let size = fragment_length (head_of text) in
        let behind = drop 4 text in
        let part = take size behind in
        let after = drop size behind in
        rw (record_at-fits n before text enough fits) (elim (cases_lt (length behind) size) [
          | inl short ↦ rw (fragment_at-short (record_at n) (is_last (head_of text)) size before behind short) tt
          | inr all ↦ (elim (is_last (head_of text)) as
              (λ (b : Bool). is_last (head_of text) ≡ b
              → IsFound (suc n) before text (fragment_at (record_at n) b size before behind)) [
                | true ↦ λ e. rw (fragment_at-last (record_at n) size before behind all)
                    ([], part, last-found text size enough bytes e refl all, refl, omega arith)
                | false ↦ λ e. rw (fragment_at-more (record_at n) size before behind all)
                    (found-more n before part text after (record_at n (before ++ part) after)
                    (more-found text size enough bytes e refl all)
                    (record_at-found n (before ++ part) after (back_bytes size behind (back_bytes 4 text bytes))))
              ]) refl
        ])
  ]
]

pub first_record-found : (text content rest : List ℕ) → AreBytes text → first_record text ≡ Whole content rest
    → IsInFragments text content rest
first_record-found text content rest bytes e =
    let f = subst (IsFound MOST_FRAGMENTS [] text) e (record_at-found MOST_FRAGMENTS [] text bytes) in
    record { parts = f.0; last = f.1; text_is = f.2; content_is = f.3; few = f.4 }
