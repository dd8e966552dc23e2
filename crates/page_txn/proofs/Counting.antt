-- Counts of crossings never fall as a pass's own entries grow, and rise where one was answered and finished.
use Rattle.std.proofs.Common.{◌≡◌, ℕ, ◌+◌, ◌≤◌, ◌==◌, ◌&&◌, ◌||◌, Bool, true, false, cond, List, [], ◌∷◌, ◌++◌, refl, arith}
use Rattle.std.specs.List.{list_any}
use Rattle.pair_types.specs.declared.slot.Tid.{Tid}
use Rattle.pair_types.specs.declared.fault.Cross.{Cross}
use Rattle.pair_types.specs.declared.fault.Cross.TheVariants as cross
use Rattle.page_types.specs.declared.command.Command.{Command}
use Rattle.page_types.specs.declared.answer.Answer.{Answer}
use Rattle.page_types.specs.declared.answer.Answer.TheVariants.{Busy, Conflict}
use Rattle.page_types.specs.declared.journal.JEntry.{JEntry}
use Rattle.page_types.specs.declared.journal.JEntry.TheVariants.{Took, Doubted, Late}
use Rattle.page_types.specs.Accesses.{is_same}
use Rattle.two_phase.specs.Commits.{is_later}
use Rattle.page_txn.specs.Causes.{ends_part, are_ended, tells_cross, is_crossing, crossings}

-- ## Tests

pub and_true : (a b : Bool) → (a && b) ≡ true → (a ≡ true) × (b ≡ true)
and_true true b h = (refl, h)
and_true false b h = absurd cc

-- whatever some entry passes in the first entries, some entry passes in the others
abbrev pub IsWithinThese : List JEntry → List JEntry → Type 0
IsWithinThese es others = (f : JEntry → Bool) → list_any f es ≡ true → list_any f others ≡ true

within_none : (others : List JEntry) → IsWithinThese [] others
within_none others f h = absurd cc

within_same : (e : JEntry) (es others : List JEntry) → IsWithinThese es others → IsWithinThese (e ∷ es) (e ∷ others)
within_same e es others w f h = at (f e) h
  where
    at : (b : Bool) → (b || list_any f es) ≡ true → (b || list_any f others) ≡ true
    at true h = refl
    at false h = w f h

within_more : (e : JEntry) (es : List JEntry) → IsWithinThese es (e ∷ es)
within_more e es f h = at (f e)
  where
    at : (b : Bool) → (b || list_any f es) ≡ true
    at true = refl
    at false = h

-- ## More later entries

ended_more : (tid : Tid) (parts : List ℕ) (a b : List JEntry) → IsWithinThese a b → are_ended tid parts a ≡ true →
    are_ended tid parts b ≡ true
ended_more tid [] a b w h = refl
ended_more tid (p ∷ parts) a b w h =
    let both = and_true (list_any (ends_part tid p) a) (are_ended tid parts a) h in
    rw (w (ends_part tid p) both.0, ended_more tid parts a b w both.1) refl

grown : (a b c l x y : Bool) → (x ≡ true → y ≡ true) → (a && (b && (c && (l || x)))) ≡ true →
    (a && (b && (c && (l || y)))) ≡ true
grown true true true true x y f h = refl
grown true true true false x y f h = f h
grown true true false l x y f h = absurd cc
grown true false c l x y f h = absurd cc
grown false b c l x y f h = absurd cc

module _ (own : Tid) where
  tells_more : (crossed : Cross) (a b : List JEntry) (store : ℕ) (answer : Answer) → IsWithinThese a b →
      tells_cross own crossed a store answer ≡ true → tells_cross own crossed b store answer ≡ true
  tells_more (cross.Busy s tid) a b store (Busy number holder home parts) w h =
      grown (s.store == store) (s.number == number) (is_same tid holder) (is_later own holder) (are_ended holder parts a)
      (are_ended holder parts b) (ended_more holder parts a b w) h
  tells_more (cross.Conflict s version by) a b store (Conflict number v writer) w h = h
  tells_more crossed a b store answer w h = h

  crossing_more : (crossed : Cross) (a b : List JEntry) (e : JEntry) → IsWithinThese a b →
      is_crossing own crossed a e ≡ true → is_crossing own crossed b e ≡ true
  crossing_more crossed a b (Took pass store command answer) w h = tells_more crossed a b store answer w h
  crossing_more crossed a b (Doubted pass store command) w h = h
  crossing_more crossed a b (Late store command answer) w h = h

  module _ (crossed : Cross) where
    counted_more : (a b : List JEntry) (es : List JEntry) → IsWithinThese a b →
        crossings own crossed a es ≤ crossings own crossed b es
    counted_more a b [] w = omega arith
    counted_more a b (e ∷ es) w =
        at (is_crossing own crossed a e) (is_crossing own crossed b e) (crossing_more crossed a b e w)
        (counted_more (e ∷ a) (e ∷ b) es (within_same e a b w))
      where
        at : (x y : Bool) → (x ≡ true → y ≡ true) →
            crossings own crossed (e ∷ a) es ≤ crossings own crossed (e ∷ b) es →
            cond x 1 0 + crossings own crossed (e ∷ a) es ≤ cond y 1 0 + crossings own crossed (e ∷ b) es
        at true true f le = omega (arith, le)
        at true false f le = let no : false ≡ true = f refl in absurd cc
        at false true f le = omega (arith, le)
        at false false f le = omega (arith, le)

    -- ## More entries

    pub counted_on : (later part es : List JEntry) → crossings own crossed later es ≤ crossings own crossed later (part ++ es)
    counted_on later [] es = omega arith
    counted_on later (e ∷ part) es =
        let more = counted_more later (e ∷ later) es (within_more e later) in
        let rest = counted_on (e ∷ later) part es in
        omega (arith, more, rest)

    merged : List JEntry → List JEntry → List JEntry
    merged [] later = later
    merged (x ∷ xs) later = merged xs (x ∷ later)

    merged_keeps : (f : JEntry → Bool) (xs later : List JEntry) → list_any f later ≡ true →
        list_any f (merged xs later) ≡ true
    unfolding merged
    merged_keeps f [] later h = h
    merged_keeps f (x ∷ xs) later h = merged_keeps f xs (x ∷ later) (within_more x later f h)

    merged_has : (f : JEntry → Bool) (xs later : List JEntry) → list_any f xs ≡ true → list_any f (merged xs later) ≡ true
    unfolding merged
    merged_has f [] later h = absurd cc
    merged_has f (x ∷ xs) later h = at (f x) refl h (λ rest. merged_has f xs (x ∷ later) rest)
      where
        at : (b : Bool) → f x ≡ b → (b || list_any f xs) ≡ true →
            (list_any f xs ≡ true → list_any f (merged xs (x ∷ later)) ≡ true) → list_any f (merged xs (x ∷ later)) ≡ true
        at true is h more = merged_keeps f xs (x ∷ later) (rw is refl)
        at false is h more = more h

    skipped : (xs ys later known : List JEntry) → IsWithinThese known (merged xs later) →
        crossings own crossed known ys ≤ crossings own crossed later (xs ++ ys)
    unfolding merged
    skipped [] ys later known w = counted_more known later ys w
    skipped (x ∷ xs) ys later known w = let rest = skipped xs ys (x ∷ later) known w in omega (arith, rest)

    -- an answer tells the crossing, and the entries after it finish it
    pub counted_once : (finishing before es : List JEntry) (pass store : ℕ) (command : Command) (answer : Answer) →
        tells_cross own crossed finishing store answer ≡ true →
        1 + crossings own crossed [] es ≤
        crossings own crossed [] (finishing ++ (Took pass store command answer ∷ (before ++ es)))
    counted_once finishing before es pass store command answer tells =
        let skip = skipped finishing (Took pass store command answer ∷ (before ++ es)) [] finishing
        (λ f h. merged_has f finishing [] h) in
        let here : crossings own crossed finishing (Took pass store command answer ∷ (before ++ es)) ≡
        1 + crossings own crossed (Took pass store command answer ∷ finishing) (before ++ es) = rw tells refl in
        let on = counted_on (Took pass store command answer ∷ finishing) before es in
        let more = counted_more [] (Took pass store command answer ∷ finishing) es
        (within_none (Took pass store command answer ∷ finishing)) in
        omega (arith, skip, here, on, more)
