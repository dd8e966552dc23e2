-- Calls of a clock in a row: what each gave, they gave in a row, and no call gives nothing.
use Rattle.std.proofs.Common.{◌≡◌, ℕ, zero, suc, ◌+◌, ◌-◌, ◌<◌, ◌≤◌, List, [], ◌∷◌, ◌++◌, length, take, Option, Some, None}
use Rattle.std.proofs.Common.{refl, sym, ◌∙◌, ap, arith, append_assoc, ⊎_elim}
use Rattle.std.proofs.Math.Path.{fun_ext}
use Rattle.std.proofs.Math.Seq.{take-append-add}
use Rattle.std.proofs.lemmas.List.{take_all, take-append-le, append-nil, length-append, length-take}
use Rattle.std.proofs.lemmas.Bool.{cases_lt}
use Rattle.nfs3_types.specs.declared.moment.Moment.{Moment}
use Rattle.outside.specs.Clock.{GainsMoments, LosesMoments, ClockTold, GaveMoments, most_moments, followed_by}

-- the first n of two lists in a row
take-append : {X : Type 0} (n : ℕ) (p q : List X) → take n (p ++ q) ≡ take n p ++ take (n - length p) q
take-append n p q =
    ⊎_elim (λ (lt : n < length p).
    let within : n ≤ length p = omega arith in
    let none : n - length p ≡ 0 = omega arith in
    take-append-le n p q within ∙ sym (ap (λ k. take n p ++ take k q) none ∙ append-nil (take n p)))
    (λ (ge : length p ≤ n).
    let whole : length p + (n - length p) ≡ n = omega arith in
    sym (ap (λ k. take k (p ++ q)) whole) ∙ take-append-add p q (n - length p) ∙
    ap (λ l. l ++ take (n - length p) q) (sym (take_all n p ge)))
    (cases_lt n (length p))

-- growing twice up to a length is growing once
grown-append : {X : Type 0} (limit : ℕ) (before p q : List X)
    → (before ++ take (limit - length before) p) ++ take (limit - length (before ++ take (limit - length before) p)) q
    ≡ before ++ take (limit - length before) (p ++ q)
grown-append limit before p q =
    let same : limit - length (before ++ take (limit - length before) p) ≡ limit - length before - length p =
    simp (length-append, length-take) (omega arith) in
    append_assoc before (take (limit - length before) p) _ ∙ ap
    (λ k. before ++ (take (limit - length before) p ++ take k q)) same ∙
    ap (λ l. before ++ l) (sym (take-append (limit - length before) p q))

pub gains_moments-nil : (told : Option (List Moment)) → GainsMoments told told []
gains_moments-nil None = tt
gains_moments-nil (Some before) = sym (ap (λ l. before ++ l) (take_all (most_moments - length before) [] (omega arith)) ∙
    append-nil before)

pub gains_moments-append : (old mid now : Option (List Moment)) (p q : List Moment) → GainsMoments old mid p
    → GainsMoments mid now q → GainsMoments old now (p ++ q)
gains_moments-append None mid now p q first then = tt
gains_moments-append (Some x) None now p q first then = absurd first
gains_moments-append (Some x) (Some y) None p q first then = absurd then
gains_moments-append (Some x) (Some y) (Some z) p q first then = then ∙ ap (λ l. l ++ take (most_moments - length l) q) first ∙
    grown-append most_moments x p q

followed_by-append : (p q : List Moment) (others : ℕ → Moment) (k : ℕ)
    → followed_by p (followed_by q others) k ≡ followed_by (p ++ q) others k
followed_by-append [] q others k = refl
followed_by-append (first ∷ rest) q others zero = refl
followed_by-append (first ∷ rest) q others (suc k) = followed_by-append rest q others k

pub loses_moments-nil : (told : Option (ℕ → Moment)) → LosesMoments told told []
loses_moments-nil None = tt
loses_moments-nil (Some before) = refl

pub loses_moments-append : (old mid now : Option (ℕ → Moment)) (p q : List Moment) → LosesMoments old mid p
    → LosesMoments mid now q → LosesMoments old now (p ++ q)
loses_moments-append None mid now p q first then = tt
loses_moments-append (Some x) None now p q first then = absurd first
loses_moments-append (Some x) (Some y) None p q first then = absurd then
loses_moments-append (Some x) (Some y) (Some z) p q first then = first ∙ ap (followed_by p) then ∙
    fun_ext (followed_by-append p q z)

pub gave_moments-nil : {C : Type 0} (told : ClockTold C) (clock : C) → GaveMoments told clock clock []
gave_moments-nil told clock = record {
  gained = gains_moments-nil (told.given clock);
  lost = loses_moments-nil
      (told.to_come clock);
}

pub gave_moments-append : {C : Type 0} (told : ClockTold C) (old mid now : C) (p q : List Moment) → GaveMoments told old mid p
    → GaveMoments told mid now q → GaveMoments told old now (p ++ q)
gave_moments-append told old mid now p q first then = record {
  gained = gains_moments-append (told.given old) (told.given mid) (told.given now) p q first.gained then.gained;
  lost = loses_moments-append (told.to_come old) (told.to_come mid) (told.to_come now) p q first.lost then.lost;
}
