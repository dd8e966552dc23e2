-- Facts of all views, and ranges that have no number in common.
use Rattle.std.proofs.Common.{◌≡◌, ◌≢◌, ℕ, zero, suc, List, [], ◌∷◌, ◌++◌, ◌⊎◌, inl, inr, refl, ap, sym, ◌∙◌, subst, slice_set}
use Rattle.std.proofs.Common.{length}
use mathlib.Core.Option as maybe
use mathlib.Core.Option.{some-injective, some-ne-none}
use lib.ListN.{get_elem?}
use Rattle.atomic_table.proofs.Lists.{at_set}
use Rattle.turnstile.specs.declared.view.View.{View}
use Rattle.turnstile.specs.Rules.{All, Apart}
use Rattle.turnstile.specs.Views.{Has}

pub set_at : {A : Type 0} (l : List A) (i : ℕ) (a b : A) → get_elem? l i ≡ maybe.some b
    → get_elem? (slice_set l i a) i ≡ maybe.some a
set_at [] i a b h = absurd cc
set_at (x ∷ xs) zero a b h = refl
set_at (x ∷ xs) (suc i) a b h = set_at xs i a b h

pub at_end : {A : Type 0} (l : List A) (a b : A) (j : ℕ) → get_elem? (l ++ a ∷ []) j ≡ maybe.some b
    → (get_elem? l j ≡ maybe.some b) ⊎ ((j ≡ length l) × (a ≡ b))
at_end [] a b zero e = inr (refl, some-injective a b e)
at_end [] a b (suc j) e = absurd (some-ne-none b (sym e))
at_end (x ∷ xs) a b zero e = inl e
at_end (x ∷ xs) a b (suc j) e = elim (at_end xs a b j e) [ inl h ↦ inl h | inr h ↦ inr (ap suc h.0, h.1) ]

pub one_view : (vs : List View) (i : ℕ) (v w : View) → get_elem? vs i ≡ maybe.some v → get_elem? vs i ≡ maybe.some w → v ≡ w
one_view vs i v w a b = some-injective v w (sym a ∙ b)

pub all_set : (F : View → Type 0) (vs : List View) (i : ℕ) (w : View) → F w
    → ((j : ℕ) (u : View) → get_elem? vs j ≡ maybe.some u → j ≢ i → F u) → All F (slice_set vs i w)
all_set F vs i w mine others j u is = elim (at_set vs i j w u is) [ inl a ↦ subst F a.1 mine | inr a ↦ others j u a.1 a.0 ]

pub all_snoc : (F : View → Type 0) (vs : List View) (w : View) → F w → All F vs → All F (vs ++ w ∷ [])
all_snoc F vs w mine others j u is = elim (at_end vs w u j is) [ inl a ↦ others j u a | inr a ↦ subst F a.1 mine ]

pub apart_set : (vs : List View) (i : ℕ) (w : View)
    → ((j : ℕ) (u : View) (n : ℕ) → get_elem? vs j ≡ maybe.some u → j ≢ i → Has u n → Has w n → ⊥) → Apart vs
    → Apart (slice_set vs i w)
apart_set vs i w clear apart j k u x n isj isk hu hx =
    elim (at_set vs i j w u isj) [
      | inl a ↦ elim (at_set vs i k w x isk)
          [ inl b ↦ a.0 ∙ sym b.0 | inr b ↦ absurd (clear k x n b.1 b.0 hx (subst (λ (y : View). Has y n) (sym a.1) hu)) ]
      | inr a ↦ elim (at_set vs i k w x isk) [
        | inl b ↦ absurd (clear j u n a.1 a.0 hu (subst (λ (y : View). Has y n) (sym b.1) hx))
        | inr b ↦ apart j k u x n a.1
            b.1 hu hx
      ]
    ]

pub apart_snoc : (vs : List View) (w : View)
    → ((j : ℕ) (u : View) (n : ℕ) → get_elem? vs j ≡ maybe.some u → Has u n → Has w n → ⊥) → Apart vs → Apart (vs ++ w ∷ [])
apart_snoc vs w clear apart j k u x n isj isk hu hx =
    elim (at_end vs w u j isj) [
      | inl a ↦ elim (at_end vs w x k isk)
          [ inl b ↦ apart j k u x n a b hu hx | inr b ↦ absurd (clear j u n a hu (subst (λ (y : View). Has y n) (sym b.1) hx)) ]
      | inr a ↦ elim (at_end vs w x k isk)
          [ inl b ↦ absurd (clear k x n b hx (subst (λ (y : View). Has y n) (sym a.1) hu)) | inr b ↦ a.0 ∙ sym b.0 ]
    ]

-- a view whose range lies in that of the one that it takes the place of
pub apart_within : (vs : List View) (i : ℕ) (v w : View) → get_elem? vs i ≡ maybe.some v → ((n : ℕ) → Has w n → Has v n)
    → Apart vs → Apart (slice_set vs i w)
apart_within vs i v w at within apart = apart_set vs i w (λ j u n is ne hu hw. ne (apart j i u v n is at hu (within n hw)))
    apart
