-- Ranges that are read, written and cut, as contents.
use Rattle.std.proofs.Common.{◌≡◌, ◌⊎◌, inl, inr, ℕ, ◌+◌, ◌-◌, ◌<◌, ◌≤◌, ◌^◌, List, ◌++◌, length, take, drop, replicate}
use Rattle.std.proofs.Common.{slice_index, Some, ap, sym, ◌∙◌, refl, arith}
use Rattle.std.proofs.lemmas.List.{length-take, length-drop, length-replicate, length-append, get_or_append_left}
use Rattle.std.proofs.lemmas.List.{get_or-append_right, get_or-take, get_or-drop, get_or_past, ext_get_or}
use Rattle.pairs.specs.declared.at.At.{At}
use Rattle.pairs.specs.declared.at.At.TheVariants.{Live}
use Rattle.pairs.specs.Versions.{Versions}
use Rattle.fs_rules.specs.Edits.{resized, written}
use Rattle.fs_shows.specs.Extents.{Marks, byte_at, ShowsContent}
use Rattle.fs_shows.specs.Shows.{KeepsBlocks, live_marks, MarksStale}
use Rattle.extent_ops.specs.Blocks.{overlaid}
use Rattle.extent_ops.specs.Ranges.{ReadsBytes, Writes}
use Rattle.extent_ops.specs.Cuts.{cut_marks, trimmed, Cuts}
use Rattle.extent_ops.proofs.Filling.{below_or, zero_at}
use Rattle.extent_ops.proofs.Overlaying.{in_or, overlaid-in, overlaid-out, overlaid-over}
use Rattle.extent_ops.proofs.Trimming.{trimmed-below, trimmed-behind}

pub length-resized : (size : ℕ) (content : List ℕ) → length (resized size content) ≡ size
unfolding resized
length-resized size content =
    let z : List ℕ = replicate (size - length content) 0 in
    let long : length z ≡ size - length content = length-replicate (size - length content) 0 in
    omega (arith, length-append (take size content) z, length-take size content, long)

resized-below : (size : ℕ) (content : List ℕ) (o : ℕ) → o < size → slice_index (resized size content) o ≡ slice_index content o
unfolding resized
resized-below size content o less = elim (below_or o (length content)) [
  | inl h ↦ get_or_append_left (take size content) (replicate (size - length content) 0) 0 o
      (omega (arith, length-take size content))
      ∙ get_or-take size content o 0 less
  | inr h ↦ get_or-append_right (take size content) (replicate (size - length content) 0) (length content) o 0
      (omega (arith, length-take size content)) h
      ∙ zero_at (size - length content) (o - length content) ∙ sym (get_or_past content o 0 h)
]

resized_byte : (size : ℕ) (content : List ℕ) (o : ℕ)
    → slice_index (resized size content) o ≡ trimmed size (λ p. slice_index content p) o
resized_byte size content o = elim (below_or o size) [
  | inl h ↦ resized-below size content o h ∙ sym (trimmed-below size (λ p. slice_index content p) o h)
  | inr h ↦ get_or_past (resized size content) o 0 (omega (arith, length-resized size content))
      ∙ sym (trimmed-behind size (λ p. slice_index content p) o h)
]

written_byte : (offset : ℕ) (bytes content : List ℕ) (o : ℕ)
    → slice_index (written offset bytes content) o ≡ overlaid offset (length bytes) bytes (λ p. slice_index content p) o
unfolding written
written_byte offset bytes content o = elim (in_or offset (length bytes) o) [
  | inl h ↦ get_or-append_right (resized offset content) (bytes ++ drop (offset + length bytes) content) offset o 0
      (length-resized offset content) h.0
      ∙ get_or_append_left bytes (drop (offset + length bytes) content) 0 (o - offset) (omega arith)
      ∙ sym (overlaid-in offset (length bytes) bytes (λ p. slice_index content p) o h.0 h.1)
  | inr h ↦ outside h ∙ sym (overlaid-out offset (length bytes) bytes (λ p. slice_index content p) o h)
]
  where
    behind : offset + length bytes ≤ o → offset + length bytes + (o - offset - length bytes) ≡ o
    behind k = omega arith

    outside : (o < offset) ⊎ (offset + length bytes ≤ o)
        → slice_index (resized offset content ++ (bytes ++ drop (offset + length bytes) content)) o ≡ slice_index content o
    outside (inl k) =
        get_or_append_left (resized offset content) (bytes ++ drop (offset + length bytes) content) 0 o
        (omega (arith, length-resized offset content))
        ∙ resized-below offset content o k
    outside (inr k) =
        get_or-append_right (resized offset content) (bytes ++ drop (offset + length bytes) content) offset o 0
        (length-resized offset content) (omega arith)
        ∙ get_or-append_right bytes (drop (offset + length bytes) content) (length bytes) (o - offset) 0 refl (omega arith)
        ∙ get_or-drop (offset + length bytes) content (o - offset - length bytes) 0
        ∙ ap (slice_index content) (behind k)

pub writes_content : (v z : Versions) (file : ℕ) (m : Marks) (offset : ℕ) (bytes content : List ℕ)
    → ShowsContent v Live file m content → Writes file m offset (length bytes) bytes v z
    → ShowsContent z Live file m (written offset bytes content)
writes_content v z file m offset bytes content was writes = record {
  bytes = λ o small.
      written_byte offset bytes content o
      ∙ overlaid-over offset (length bytes) bytes (λ p. slice_index content p) (byte_at v Live file m) o (was.bytes o small)
      ∙ sym (writes.live o small);
}

trimmed-over : (size : ℕ) (f g : ℕ → ℕ) (o : ℕ) → f o ≡ g o → trimmed size f o ≡ trimmed size g o
trimmed-over size f g o same = elim (below_or o size) [
  | inl h ↦ trimmed-below size f o h ∙ same ∙ sym (trimmed-below size g o h)
  | inr h ↦ trimmed-behind size f o h ∙ sym (trimmed-behind size g o h)
]

pub cuts_content : (v z : Versions) (file : ℕ) (m : Marks) (size : ℕ) (content : List ℕ)
    → live_marks v file ≡ Some m → MarksStale v → ShowsContent v Live file m content → Cuts file m size v z
    → ShowsContent z Live file (cut_marks size m) (resized size content)
cuts_content v z file m size content marks stale was cuts = record {
  bytes = λ o small.
      resized_byte size content o
      ∙ trimmed-over size (λ p. slice_index content p) (byte_at v Live file m) o (was.bytes o small)
      ∙ sym (cuts.live marks stale o small);
}

pub reads_content : (v : Versions) (at : At) (file : ℕ) (m : Marks) (offset : ℕ) (room content : List ℕ) → KeepsBlocks v
    → offset + length room ≤ length content → length content ≤ 2 ^ 64 → ShowsContent v at file m content
    → ReadsBytes at file m offset (length room) room v → room ≡ take (length room) (drop offset content)
reads_content v at file m offset room content keeps long fits was reads =
    ext_get_or 0 room (take (length room) (drop offset content))
    (omega (arith, length-take (length room) (drop offset content), length-drop offset content))
    (λ k less. reads.bytes keeps k less ∙ sym (was.bytes (offset + k) (omega arith))
    ∙ sym (get_or-take (length room) (drop offset content) k 0 less ∙ get_or-drop offset content k 0))
