-- Each step keeps the rule.
use Rattle.std.proofs.Common.{Result, Ok, Err, OnErr, MatchResult, ◌≡◌, ℕ, zero, suc, ◌+◌, ◌<◌, List, [], ◌∷◌, ◌++◌, inl, inr}
use Rattle.std.proofs.Common.{set, refl, ap, sym, ◌∙◌, subst, arith, length}
use mathlib.Core.Option.{some, some-injective, some-ne-none}
use lib.ListN.{get_elem?}
use Rattle.crossbeam_queue.specs.Fifo.{Pushes, Pops, Forks, Merges, Learns, Held}
use Rattle.atomic_table.specs.Seated.{TableId}
use Rattle.crossbeam_queue.proofs.Lists.{at_set, at_snoc}
use Rattle.hall.specs.declared.places.Placed.{Placed}
use Rattle.hall.specs.declared.places.Placed.TheVariants.{Visit, End}
use Rattle.hall.specs.declared.rule.Tally.{Tally}
use Rattle.hall.specs.Passes.{Full}
use Rattle.hall.specs.Counts.{state_of, all_parts, tally, visit_in, mark_in, sum_of, after_hand, after_take, left, right, both}
use Rattle.hall.specs.Counts.{spent, IsIdle, IdleIsEmpty, Balanced, Whole}

sum_set : (f : Tally → ℕ) (vs : List Tally) (i : ℕ) (v w : Tally) → get_elem? vs i ≡ some v
    → sum_of f (set vs i w) + f v ≡ sum_of f vs + f w
sum_set f [] i v w at = absurd (some-ne-none v (sym at))
sum_set f (x ∷ vs) zero v w at = let e : f x ≡ f v = ap f (some-injective x v at) in omega (arith, e)
sum_set f (x ∷ vs) (suc i) v w at = let e = sum_set f vs i v w at in omega (arith, e)

sum_snoc : {X : Type 0} (f : X → ℕ) (xs : List X) (w : X) → sum_of f (xs ++ w ∷ []) ≡ sum_of f xs + f w
sum_snoc f [] w = omega arith
sum_snoc f (x ∷ xs) w = let e = sum_snoc f xs w in omega (arith, e)

idle_set : (vs : List Tally) (i : ℕ) (w : Tally) → (w.parts ≡ 0 → IsIdle w) → IdleIsEmpty vs → IdleIsEmpty (set vs i w)
idle_set vs i w mine old j u is none = elim (at_set vs i j w u is) [
  | inl a ↦ subst IsIdle a.1 (mine (ap (λ (x : Tally). x.parts) a.1 ∙ none))
  | inr a ↦ old j u a.1 none
]

pub hands : {V : Type 0} (n i : ℕ) (v : Tally) (x : Placed V) → 0 < v.parts → Pushes Balanced n i v x (λ w. w ≡ after_hand v x)
hands n i v x some_part items vs room b at =
    let w = after_hand v x in (
      w,
      record {
        parts = (let s = sum_set (λ u. u.parts) vs i v w at in let p = b.parts in omega (arith, s, p));
        visits = (let s = sum_set (λ u. u.handed) vs i v w at in let t = sum_set (λ u. u.taken) vs i v w at in
            let p = b.visits in
            let q = sum_snoc visit_in items x in omega (arith, s, t, p, q));
        marks = (let s = sum_set (λ u. u.marked) vs i v w at in let t = sum_set (λ u. u.ended) vs i v w at in let p = b.marks in
            let q = sum_snoc mark_in items x in omega (arith, s, t, p, q));
        idle = idle_set vs i w (λ none. absurd (omega (arith, none, some_part))) b.idle;
      },
      refl,
    )

pub takes : {V : Type 0} (i : ℕ) (v : Tally) → 0 < v.parts → Pops {T = Placed V} Balanced i v (λ x w. w ≡ after_take v x)
takes i v some_part x items vs b at =
    let w = after_take v x in (
      w,
      record {
        parts = (let s = sum_set (λ u. u.parts) vs i v w at in let p = b.parts in omega (arith, s, p));
        visits = (let s = sum_set (λ u. u.handed) vs i v w at in let t = sum_set (λ u. u.taken) vs i v w at in
            let p = b.visits in omega (arith, s, t, p));
        marks = (let s = sum_set (λ u. u.marked) vs i v w at in let t = sum_set (λ u. u.ended) vs i v w at in let p = b.marks in
            omega (arith, s, t, p));
        idle = idle_set vs i w (λ none. absurd (omega (arith, none, some_part))) b.idle;
      },
      refl,
    )

-- a sum over all passes, where one of them is cut in two
sum_cut : (f : Tally → ℕ) (vs : List Tally) (i : ℕ) (v l r : Tally) → get_elem? vs i ≡ some v → f l + f r ≡ f v
    → sum_of f (set vs i l ++ r ∷ []) ≡ sum_of f vs
sum_cut f vs i v l r at e = let s = sum_set f vs i v l at in let q = sum_snoc f (set vs i l) r in omega (arith, s, q, e)

pub forks : {V : Type 0} (i : ℕ) (v : Tally) → 1 < v.parts → Forks {T = Placed V} Balanced i v (left v) right
forks i v many items vs b at =
    let l = left v in
    let cut : (f : Tally → ℕ) → f l + f right ≡ f v → sum_of f (set vs i l ++ right ∷ []) ≡ sum_of f vs =
    λ f e. sum_cut f vs i v l right at e in record {
      parts = cut (λ u. u.parts) (omega (arith, many)) ∙ b.parts;
      visits = (let s = cut (λ u. u.handed) (omega arith) in let t = cut (λ u. u.taken) (omega arith) in let p = b.visits in
          omega (arith, s, t, p));
      marks = (let s = cut (λ u. u.marked) (omega arith) in let t = cut (λ u. u.ended) (omega arith) in let p = b.marks in
          omega (arith, s, t, p));
      idle = λ j u is none. elim (at_snoc (set vs i l) right u j is) [
        | inl a ↦ idle_set vs i l (λ n. absurd (omega (arith, n, many))) b.idle j u a none
        | inr a ↦ absurd (let e : 1 ≡ u.parts = ap (λ (x : Tally). x.parts) a in omega (arith, e, none))
      ];
    }

-- a sum over all passes, where one of them takes in another
sum_merge : (f : Tally → ℕ) (vs : List Tally) (i : ℕ) (v : Tally) (other : ℕ) (w b z : Tally) → get_elem? vs i ≡ some v
    → get_elem? (set vs i b) other ≡ some w
    → f b ≡ f v + f w → f z ≡ 0 → sum_of f (set (set vs i b) other z) ≡ sum_of f vs
sum_merge f vs i v other w b z at at1 e none = let s = sum_set f vs i v b at in let t = sum_set f (set vs i b) other w z at1 in
    omega (arith, s, t, e, none)

both_idle : (v w : Tally) → IsIdle v → IsIdle w → IsIdle (both v w)
both_idle v w a c = record {
  handed = (let x = a.handed in let y = c.handed in omega (arith, x, y));
  taken = (let x = a.taken in let y = c.taken in omega (arith, x, y));
  marked = (let x = a.marked in let y = c.marked in omega (arith, x, y));
  ended = (let x = a.ended in let y = c.ended in omega (arith, x, y));
}

pub merges : {V : Type 0} (i : ℕ) (v : Tally) (other : ℕ) (w : Tally)
    → Merges {T = Placed V} Balanced i v other w (both v w) spent
merges i v other w items vs b at two at1 =
    let c = both v w in
    let was : get_elem? vs other ≡ some w = elim (at_set vs i other c w at1) [ inl a ↦ absurd (two a.0) | inr a ↦ a.1 ] in
    let merge : (f : Tally → ℕ) → f c ≡ f v + f w → f spent ≡ 0 → sum_of f (set (set vs i c) other spent) ≡ sum_of f vs =
    λ f e none. sum_merge f vs i v other w c spent at at1 e none in record {
      parts = merge (λ u. u.parts) refl refl ∙ b.parts;
      visits = (let s = merge (λ u. u.handed) refl refl in let t = merge (λ u. u.taken) refl refl in let p = b.visits in
          omega (arith, s, t, p));
      marks = (let s = merge (λ u. u.marked) refl refl in let t = merge (λ u. u.ended) refl refl in let p = b.marks in
          omega (arith, s, t, p));
      idle = idle_set (set vs i c) other spent (λ n. record { handed = refl; taken = refl; marked = refl; ended = refl })
          (idle_set vs i c (λ n. both_idle v w (b.idle i v at (omega (arith, n))) (b.idle other w was (omega (arith, n))))
          b.idle);
    }

-- a sum of what is 0 of those that have no part, where one has them all
no_parts : (f : Tally → ℕ) (vs : List Tally) → sum_of (λ v. v.parts) vs ≡ 0
    → ((i : ℕ) (v : Tally) → get_elem? vs i ≡ some v → v.parts ≡ 0 → f v ≡ 0) → sum_of f vs ≡ 0
no_parts f [] none zero_of = refl
no_parts f (x ∷ vs) none zero_of =
    let a = zero_of 0 x refl (omega (arith, none)) in
    let e = no_parts f vs (omega (arith, none)) (λ i v at n. zero_of (suc i) v at n) in omega (arith, a, e)

of_one : (f : Tally → ℕ) (vs : List Tally) (i : ℕ) (v : Tally) → get_elem? vs i ≡ some v → sum_of (λ u. u.parts) vs ≡ v.parts
    → ((j : ℕ) (u : Tally) → get_elem? vs j ≡ some u → u.parts ≡ 0 → f u ≡ 0) → sum_of f vs ≡ f v
of_one f [] i v at all zero_of = absurd (some-ne-none v (sym at))
of_one f (x ∷ vs) zero v at all zero_of =
    let e : x ≡ v = some-injective x v at in
    let p : x.parts ≡ v.parts = ap (λ (y : Tally). y.parts) e in
    let n = no_parts f vs (omega (arith, all, p)) (λ j u is none. zero_of (suc j) u is none) in
    let q : f x ≡ f v = ap f e in omega (arith, n, q)
of_one f (x ∷ vs) (suc i) v at all zero_of =
    let s = sum_set (λ u. u.parts) vs i v spent at in
    let a = zero_of 0 x refl (omega (arith, all, s)) in
    let r = of_one f vs i v at (omega (arith, all, s)) (λ j u is none. zero_of (suc j) u is none) in omega (arith, a, r)

pub learns : {V : Type 0} (i : ℕ) (v : Tally) → Learns {T = Placed V} Balanced i v (Whole v)
learns i v items vs b at all =
    let one : (f : Tally → ℕ) → ((u : Tally) → IsIdle u → f u ≡ 0) → sum_of f vs ≡ f v =
    λ f none. of_one f vs i v at (b.parts ∙ sym all) (λ j u is n. none u (b.idle j u is n)) in (
      (let h = one (λ u. u.handed) (λ u n. n.handed) in let t = one (λ u. u.taken) (λ u n. n.taken) in let p = b.visits in
          omega (arith, h, t, p)),
      (let h = one (λ u. u.marked) (λ u n. n.marked) in let t = one (λ u. u.ended) (λ u n. n.ended) in let p = b.marks in
          omega (arith, h, t, p)),
    )

pub begins : {V : Type 0} → Balanced {V = V} [] (tally all_parts 0 0 0 0 ∷ [])
begins = record { parts = refl; visits = refl; marks = refl; idle = λ i v is none. begun i v is none }
  where
    begun : (i : ℕ) (v : Tally) → get_elem? (tally all_parts 0 0 0 0 ∷ []) i ≡ some v → v.parts ≡ 0 → IsIdle v
    begun zero v is none =
        absurd (let e : all_parts ≡ v.parts = ap (λ (x : Tally). x.parts) (some-injective (tally all_parts 0 0 0 0) v is) in
        omega (arith, e, none))
    begun (suc i) v is none = absurd (some-ne-none v (sym is))

-- each of them is a visit or a mark
all_of : {V : Type 0} (items : List (Placed V)) → sum_of visit_in items + sum_of mark_in items ≡ length items
all_of [] = refl
all_of (Visit visit ∷ items) = let e = all_of items in omega (arith, e)
all_of (End ∷ items) = let e = all_of items in omega (arith, e)

-- a full queue, and an empty one, as the pass with every part sees it
pub full_of : {V : Type 0} (n : ℕ) (v : Tally) (items : List (Placed V)) → length items ≡ n → Whole v items
    → v.parts ≡ all_parts
    → v.handed + v.marked ≡ v.taken + v.ended + n
full_of n v items len whole all = let w = whole all in let e = all_of items in let a = w.0 in let b = w.1 in
    omega (arith, e, len, a, b)

pub none_of : {V : Type 0} (v : Tally) (items : List (Placed V)) → length items ≡ 0 → Whole v items → v.parts ≡ all_parts
    → (v.taken ≡ v.handed) × (v.ended ≡ v.marked)
none_of v items len whole all = let w = whole all in let e = all_of items in let a = w.0 in let b = w.1 in
    (omega (arith, e, len, a), omega (arith, e, len, b))

-- what a push that is refused tells
pub refused : {V W : Type 0} (hall : TableId) (splits n : ℕ) (v now : Tally) (x : Placed V) (r : Result W (Placed V))
    → MatchResult r (λ y. now ≡ after_hand v x) (λ (y : Placed V). (y ≡ x) × (now ≡ v) × Held n (Whole {V = V} v)) → n ≡ 64
    → OnErr r (Full (state_of hall splits v))
refused hall splits n v now x (Ok y) told room = tt
refused hall splits n v now x (Err y) told room = λ all. let f = full_of n v told.2.0 told.2.1 told.2.2 all in
    omega (arith, f, room)

-- what holds at an error, where it is one
pub at_err : {T E P : Type 0} (r : Result T E) (e : E) → r ≡ Err e → OnErr r P → P
at_err {T} {E} {P} r e is told = subst (λ (q : Result T E). OnErr q P) is told
