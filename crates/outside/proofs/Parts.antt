-- The next part of a text, in front of a room.
use Rattle.std.proofs.Common.{◌≡◌, ℕ, ◌+◌, ◌-◌, ◌≤◌, List, ◌++◌, length, take, drop, sym, ◌∙◌, ap, arith}
use Rattle.std.proofs.Math.Seq.{take-add}
use Rattle.std.proofs.lemmas.List.{drop-drop, take-append-drop, length-take, length-drop}

-- n bytes from place p on, in front of the room
pub record IsNextPart (content room : List ℕ) (p n : ℕ) : Type 0 where
  pub before : take (p + n) content ≡ take p content ++ take n room
  pub after : drop p content ≡ take n room ++ drop (p + n) content

length_part : (content : List ℕ) (p n : ℕ) → p + n ≤ length content → length (take n (drop p content)) ≡ n
length_part content p n h = simp (length-take, length-drop) (omega arith)

pub next_part : (content room : List ℕ) (p n : ℕ) → p + n ≤ length content
    → take (length (take (p + n - p) (drop p content))) room ≡ take (p + n - p) (drop p content) → IsNextPart content room p n
next_part content room p n h filled =
    let less : p + n - p ≡ n = omega arith in
    let filled_n : take (length (take n (drop p content))) room ≡ take n (drop p content) = rw less at filled in
    let part : take n room ≡ take n (drop p content) = rw (length_part content p n h) at filled_n in
    record {
      before = take-add p n content ∙ ap (λ xs. take p content ++ xs) (sym part);
      after = sym (take-append-drop n (drop p content)) ∙ ap (λ xs. xs ++ drop n (drop p content)) (sym part) ∙
          ap (λ xs. take n room ++ xs) (drop-drop n p content);
    }
