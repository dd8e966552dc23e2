-- What a fate does to the counts of a weather that is not rough.
use Rattle.std.proofs.Common.{◌≡◌, ◌∙◌, ◌≤◌, ◌&&◌, ◌==◌, ℕ, Bool, cond, true, false, refl, sym, ap, subst, List, eqb-true, nat_lt}
use Rattle.std.proofs.lemmas.Bool.{le-ltb}
use Rattle.outside.specs.declared.weather.Fate.{Fate}
use Rattle.outside.specs.declared.weather.Fate.TheVariants.{Deliver, Lose}
use Rattle.outside.specs.declared.weather.MessageName.{MessageName}
use Rattle.outside.specs.BadFates.{counted, counts_at}
use Rattle.outside.specs.Weather.{Counts, MetFate, MetNone, concerns, is_bad}
use Rattle.nfs3_types.specs.Count.{one_more}
use Rattle.workload.specs.Rough.{IsClear, Rough, fate_of, met, rough_told, state_after}

both_true : (a b : Bool) → (a && b) ≡ true → (a ≡ true) × (b ≡ true)
both_true true true e = (refl, refl)
both_true true false e = cc
both_true false b e = cc

-- a message of a lost replica is lost
pub loses : (w : Rough) (m : MessageName) → nat_lt m.replica w.lost ≡ true → fate_of w m ≡ Lose
loses w m e = rw e refl

-- another one comes, where the weather is not rough
delivers : (w : Rough) (m : MessageName) → w.rough ≡ 0 → w.lost ≤ m.replica → fate_of w m ≡ Deliver
delivers w m calm high = rw (le-ltb m.replica w.lost high, calm) refl

not_counted : (bad of : Bool) (x y : ℕ) → (of ≡ true → bad ≡ false) → cond (bad && of) x y ≡ y
not_counted false of x y good = refl
not_counted true false x y good = refl
not_counted true true x y good = let bad : true ≡ false = good refl in cc

pub stays_clear : (w : Rough) (m : MessageName) (now : List ℕ) (fate : Fate) → fate ≡ fate_of w m
    → Counts (counts_at w.bad) (counts_at now) m fate → IsClear w.rough w.lost w.bad → IsClear w.rough w.lost now
stays_clear w m now fate is counts clear = λ calm s r hs hr high.
    let good : concerns m s r ≡ true → is_bad fate ≡ false = λ e.
    let replica : m.replica ≡ r = eqb-true m.replica r (both_true (m.store == s) (m.replica == r) e).1 in
    rw (is, delivers w m calm (subst (λ (x : ℕ). w.lost ≤ x) (sym replica) high)) refl in
    counts.exact s r hs hr
    ∙ not_counted (is_bad fate) (concerns m s r) (one_more (counts_at w.bad s r)) (counts_at w.bad s r) good
    ∙ clear calm s r hs hr high

-- ---- a message met its fate

abbrev pub whole : ℕ → ℕ → ℕ → List ℕ → Rough
whole state lost rough bad = record { state = state; lost = lost; rough = rough; bad = bad }

-- the fields after the draw, where there was one
abbrev pub Drew : Rough → MessageName → Rough → Type 0
Drew old m new = new ≡ record old { state = state_after old m }

pub clear_after : (old : Rough) (m : MessageName) (s l q : ℕ) (b now : List ℕ) (fate : Fate) → Drew old m (whole s l q b)
    → fate ≡ fate_of old m → Counts (counts_at b) (counts_at now) m fate → IsClear q l b → IsClear q l now
clear_after old m s l q b now fate e f counts clear =
    let same_lost : old.lost ≡ l = sym (ap (λ (r : Rough). r.lost) e) in
    let same_rough : old.rough ≡ q = sym (ap (λ (r : Rough). r.rough) e) in
    let same_bad : old.bad ≡ b = sym (ap (λ (r : Rough). r.bad) e) in
    let counts_old : Counts (counts_at old.bad) (counts_at now) m fate =
    subst (λ (c : List ℕ). Counts (counts_at c) (counts_at now) m fate) (sym same_bad) counts in
    let clear_old : IsClear old.rough old.lost old.bad =
    subst (λ (x : ℕ). IsClear x old.lost old.bad) (sym same_rough)
    (subst (λ (x : ℕ). IsClear q x old.bad) (sym same_lost) (subst (λ (x : List ℕ). IsClear q l x) (sym same_bad) clear)) in
    subst (λ (x : ℕ). IsClear x l now) same_rough
    (subst (λ (x : ℕ). IsClear old.rough x now) same_lost (stays_clear old m now fate f counts_old clear_old))

pub met_is : (old : Rough) (m : MessageName) (s l q : ℕ) (b now : List ℕ) (fate : Fate) → Drew old m (whole s l q b)
    → fate ≡ fate_of old m → now ≡ counted b m fate → whole s l q now ≡ met old m
met_is old m s l q b now fate e f n =
    ap (λ (c : List ℕ). whole s l q c) n
    ∙ ap (λ (r : Rough). record r { bad = counted r.bad m fate }) e
    ∙ ap (λ (x : Fate). record old { state = state_after old m; bad = counted old.bad m x }) f

pub fate_met : (old : Rough) (m : MessageName) (s l q : ℕ) (b now : List ℕ) (fate : Fate) → Drew old m (whole s l q b)
    → fate ≡ fate_of old m → Counts (counts_at b) (counts_at now) m fate → MetFate rough_told old (whole s l q now) m fate
fate_met old m s l q b now fate e f counts = record {
  counts = subst (λ (c : List ℕ). Counts (counts_at c) (counts_at now) m fate) (ap (λ (r : Rough). r.bad) e) counts;
  draws = tt;
  lost = λ silent. f ∙ loses old m silent;
  same_silence = λ store replica kind. ap (λ (x : ℕ). nat_lt replica x) (ap (λ (r : Rough). r.lost) e);
}

-- nothing met a fate where only the state moved
pub none_met : (old new : Rough) (s : ℕ) → new ≡ record old { state = s } → MetNone rough_told old new
none_met old new s e = subst (λ (r : Rough). MetNone rough_told old r) (sym e) (record {
  same_counts = λ store replica. refl;
  same_draws = refl;
  same_silence = λ store replica kind. refl;
})
