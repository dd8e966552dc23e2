-- One call of a clock over a list.
use Rattle.std.proofs.Common.{◌≡◌, ℕ, zero, suc, ◌+◌, ◌-◌, ◌^◌, ◌<◌, ◌≤◌, min, List, [], ◌∷◌, ◌++◌, length, take, refl, sym}
use Rattle.std.proofs.Common.{◌∙◌, ap, arith, add-one, ⊎_elim, slice_index_or}
use Rattle.std.proofs.Math.Path.{fun_ext}
use Rattle.std.proofs.lemmas.List.{take_all, length_push, append-nil}
use Rattle.std.proofs.lemmas.Bool.{cases_lt}
use Rattle.nfs3_types.specs.declared.moment.Moment.{Moment}
use Rattle.outside.specs.Clock.{GaveMoments, most_moments, followed_by}
use Rattle.outside.specs.ListClock.{MomentList, list_told, firsts, moment_at}

length-firsts : (f : ℕ → Moment) (n : ℕ) → length (firsts f n) ≡ n
length-firsts f zero = refl
length-firsts f (suc n) = length_push (firsts f n) (f n) ∙ ap (λ k. k + 1) (length-firsts f n) ∙ add-one n

-- one more of the first moments, up to a limit
firsts-one_more : (f : ℕ → Moment) (limit n next : ℕ) → n ≤ limit → next ≡ min (n + 1) limit
    → firsts f next ≡ firsts f n ++ take (limit - length (firsts f n)) (f n ∷ [])
firsts-one_more f limit n next h e =
    ⊎_elim (λ (lt : n < limit).
    let e' : next ≡ suc n = omega arith in
    let fits : 1 ≤ limit - length (firsts f n) = rw length-firsts (omega arith) in
    ap (firsts f) e' ∙ ap (λ xs. firsts f n ++ xs) (sym (take_all (limit - length (firsts f n)) (f n ∷ []) fits)))
    (λ (ge : limit ≤ n).
    let e' : next ≡ n = omega arith in
    let full : limit - length (firsts f n) ≡ 0 = rw length-firsts (omega arith) in
    ap (firsts f) e' ∙ sym (ap (λ k. firsts f n ++ take k (f n ∷ [])) full ∙ append-nil (firsts f n)))
    (cases_lt n limit)

later : (moments : List Moment) (n next limit : ℕ) → length moments ≤ limit → next ≡ min (n + 1) limit → (k : ℕ)
    → moment_at moments (n + k) ≡ followed_by (moment_at moments n ∷ []) (λ j. moment_at moments (next + j)) k
later moments n next limit small e zero = ap (λ j. moment_at moments j) (omega arith)
later moments n next limit small e (suc k) =
    let same : min (n + suc k) (length moments - 1) ≡ min (next + k) (length moments - 1) = omega arith in
    ap (λ j. slice_index_or moments j (record { seconds = 0; nanos = 0 })) same

most_is : most_moments ≡ 2 ^ 64 - 1
unfolding most_moments
most_is = refl

-- what a call of a clock over a list does is what a clock's call is to do
pub gave_one : (clock : MomentList) (next : ℕ) → clock.calls < 2 ^ 64 → length clock.moments < 2 ^ 64
    → next ≡ min (clock.calls + 1) (2 ^ 64 - 1) → GaveMoments list_told clock (record {
      moments = clock.moments;
      calls =
          next;
    }) (moment_at clock.moments clock.calls ∷ [])
gave_one clock next h small e =
    let e' : next ≡ min (clock.calls + 1) most_moments = rw most_is e in
    let h' : clock.calls ≤ most_moments = omega (arith, most_is) in
    let small' : length clock.moments ≤ most_moments = omega (arith, most_is) in
    record {
      gained = firsts-one_more (moment_at clock.moments) most_moments clock.calls next h' e';
      lost = fun_ext (later clock.moments clock.calls next most_moments small' e');
    }
