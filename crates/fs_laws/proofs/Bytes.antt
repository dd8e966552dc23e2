-- The byte at an offset of a content that is given a size, and of one that is written.
use Rattle.std.proofs.Common.{◌≡◌, ℕ, ◌+◌, ◌-◌, ◌≤◌, ◌<◌, nat_lt, List, ◌++◌, length, take, drop}
use Rattle.std.proofs.Common.{slice_index_or, sym, ap, ◌∙◌, arith, inl, inr, length-append}
use Rattle.std.proofs.Math.ListN.{length-replicate}
use Rattle.std.proofs.lemmas.Bool.{cases_Bool, ltb-false, ltb-true}
use Rattle.std.proofs.lemmas.List.{get_or-append_right, get_or-drop, get_or-replicate, get_or-take, get_or_append_left}
use Rattle.std.proofs.lemmas.List.{get_or_past, length-take}
use Rattle.fs_rules.specs.Edits.{resized, written, zeros}

-- up to the size it is what it was, or zero
pub resized_below : (size k : ℕ) (content : List ℕ) → k < size
    → slice_index_or (resized size content) k 0 ≡ slice_index_or content k 0
unfolding resized
resized_below size k content low = elim (cases_Bool (nat_lt k (length content))) [
  | inl in' ↦
      let there = ltb-true k (length content) in' in
      get_or_append_left (take size content) (zeros (size - length content)) 0 k
      (omega (arith, length-take size content, there, low))
      ∙ get_or-take size content k 0 low
  | inr out ↦
      let past = ltb-false k (length content) out in
      get_or-append_right (take size content) (zeros (size - length content)) (length content) k 0
      (omega (arith, length-take size content, past, low)) past
      ∙ get_or-replicate (size - length content) (k - length content) 0 0 (omega (arith, past, low))
      ∙ sym (get_or_past content k 0 past)
]

pub resized_long : (size : ℕ) (content : List ℕ) → length (resized size content) ≡ size
unfolding resized
resized_long size content =
    omega (
      arith,
      length-append (take size content) (zeros (size - length content)),
      length-take size content,
      length-replicate
          {A = ℕ} (size - length content) 0,
    )

-- nothing stands behind it
pub resized_behind : (size k : ℕ) (content : List ℕ) → size ≤ k → slice_index_or (resized size content) k 0 ≡ 0
resized_behind size k content high = get_or_past (resized size content) k 0 (omega (arith, resized_long size content, high))

-- before what is written it is what it was
pub written_before : (offset k : ℕ) (bytes content : List ℕ) → k < offset
    → slice_index_or (written offset bytes content) k 0 ≡ slice_index_or content k 0
unfolding written
written_before offset k bytes content low =
    get_or_append_left (resized offset content) (bytes ++ drop (offset + length bytes) content) 0 k
    (omega (arith, resized_long offset content, low))
    ∙ resized_below offset k content low

-- then it is what is written
pub written_within : (offset k : ℕ) (bytes content : List ℕ) → k < length bytes
    → slice_index_or (written offset bytes content) (offset + k) 0 ≡ slice_index_or bytes k 0
unfolding written
written_within offset k bytes content low =
    get_or-append_right (resized offset content) (bytes ++ drop (offset + length bytes) content) offset (offset + k) 0
    (resized_long offset content) (omega arith)
    ∙ ap (λ (i : ℕ). slice_index_or (bytes ++ drop (offset + length bytes) content) i 0) (omega arith)
    ∙ get_or_append_left bytes (drop (offset + length bytes) content) 0 k low

-- and behind it what it was
pub written_behind : (offset k : ℕ) (bytes content : List ℕ) → offset + length bytes ≤ k
    → slice_index_or (written offset bytes content) k 0 ≡ slice_index_or content k 0
unfolding written
written_behind offset k bytes content high =
    get_or-append_right (resized offset content) (bytes ++ drop (offset + length bytes) content) offset k 0
    (resized_long offset content) (omega (arith, high))
    ∙ get_or-append_right bytes (drop (offset + length bytes) content) (length bytes) (k - offset) 0 (omega arith)
    (omega (arith, high))
    ∙ get_or-drop (offset + length bytes) content (k - offset - length bytes) 0
    ∙ ap (λ (i : ℕ). slice_index_or content i 0) (omega (arith, high))
