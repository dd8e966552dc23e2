-- Steps of writing a whole part.
use Rattle.std.proofs.Common.{ℕ, ◌-◌, ◌≤◌, List, ◌++◌, length, take, drop, sym, ◌∙◌, ap, arith, append_assoc}
use Rattle.std.proofs.lemmas.List.{take-append-drop, take_rest}
use Rattle.outside.specs.Told.{SinkTold, GotBytes}
use Rattle.outside.proofs.ToldLaws.{got_bytes-append}
use Rattle.service.specs.Steps.{PutSoFar}

-- one more put of the rest's first n bytes
pub put_more : {K : Type 0} (told : SinkTold K) (old now next : K) (part rest : List ℕ) (n : ℕ)
    → PutSoFar told old now part rest → GotBytes told now next (take n rest) → told.faults now ≤ told.faults next
    → PutSoFar told old next part (take (length rest - n) (drop n rest))
put_more told old now next part rest n so_far got le = record {
  bytes = so_far.bytes ++ take n rest;
  whole = so_far.whole
      ∙ ap (λ xs. so_far.bytes ++ xs) (sym (take-append-drop n rest) ∙ ap (λ xs. take n rest ++ xs) (sym (take_rest rest n)))
      ∙ sym (append_assoc so_far.bytes (take n rest) (take (length rest - n) (drop n rest)));
  got = got_bytes-append told old now next so_far.bytes (take n rest) so_far.got got;
  never_falls = omega (arith, so_far.never_falls);
}
