-- How many visits and marks of the end were handed over and taken: the rule of the queue.
use Rattle.std.specs.Prelude.{◌≡◌, ℕ, ◌+◌, ◌-◌, List, [], ◌∷◌}
use mathlib.Core.Option.{some}
use lib.ListN.{get_elem?}
use Rattle.atomic_table.specs.Seated.{TableId}
use Rattle.hall.specs.declared.places.Placed.{Placed}
use Rattle.hall.specs.declared.places.Placed.TheVariants.{Visit, End}
use Rattle.hall.specs.declared.rule.Tally.{Tally}
use Rattle.hall.specs.Passes.{HallPassState}

-- how many parts of the right to know the whole there are
abbrev pub all_parts : ℕ
all_parts = 4_294_967_296

abbrev pub tally : ℕ → ℕ → ℕ → ℕ → ℕ → Tally
tally parts handed taken marked ended = record { parts = parts; handed = handed; taken = taken; marked = marked; ended = ended }

-- what a caller sees of it
abbrev pub state_of : TableId → ℕ → Tally → HallPassState
state_of hall splits v = record {
  hall = hall;
  parts = v.parts;
  splits = splits;
  handed = v.handed;
  taken = v.taken;
  marked = v.marked;
  ended = v.ended;
}

-- one for a visit, and one for a mark
abbrev pub visit_in : {V : Type 0} → Placed V → ℕ
visit_in (Visit visit) = 1
visit_in End = 0

abbrev pub mark_in : {V : Type 0} → Placed V → ℕ
mark_in (Visit visit) = 0
mark_in End = 1

abbrev pub sum_of : {X : Type 0} → (X → ℕ) → List X → ℕ
sum_of f [] = 0
sum_of f (x ∷ xs) = f x + sum_of f xs

-- the steps
abbrev pub after_hand : {V : Type 0} → Tally → Placed V → Tally
after_hand v x = tally v.parts (v.handed + visit_in x) v.taken (v.marked + mark_in x) v.ended

abbrev pub after_take : {V : Type 0} → Tally → Placed V → Tally
after_take v x = tally v.parts v.handed (v.taken + visit_in x) v.marked (v.ended + mark_in x)

abbrev pub left : Tally → Tally
left v = tally (v.parts - 1) v.handed v.taken v.marked v.ended

abbrev pub right : Tally
right = tally 1 0 0 0 0

abbrev pub both : Tally → Tally → Tally
both v w = tally (v.parts + w.parts) (v.handed + w.handed) (v.taken + w.taken) (v.marked + w.marked) (v.ended + w.ended)

abbrev pub spent : Tally
spent = tally 0 0 0 0 0

-- a pass with no part has done nothing
pub record IsIdle (v : Tally) : Type 0 where
  pub handed : v.handed ≡ 0
  pub taken : v.taken ≡ 0
  pub marked : v.marked ≡ 0
  pub ended : v.ended ≡ 0

abbrev pub IdleIsEmpty : List Tally → Type 0
IdleIsEmpty vs = (i : ℕ) (v : Tally) → get_elem? vs i ≡ some v → v.parts ≡ 0 → IsIdle v

-- what was handed over was taken, or waits
pub record Balanced {V : Type 0} (items : List (Placed V)) (vs : List Tally) : Type 0 where
  pub parts : sum_of (λ v. v.parts) vs ≡ all_parts
  pub visits : sum_of (λ v. v.handed) vs ≡ sum_of (λ v. v.taken) vs + sum_of visit_in items
  pub marks : sum_of (λ v. v.marked) vs ≡ sum_of (λ v. v.ended) vs + sum_of mark_in items
  pub idle : IdleIsEmpty vs

-- the pass with every part knows how many wait
abbrev pub Whole : {V : Type 0} → Tally → List (Placed V) → Type 0
Whole v items = v.parts ≡ all_parts → (v.handed ≡ v.taken + sum_of visit_in items) × (v.marked ≡ v.ended + sum_of mark_in items)
