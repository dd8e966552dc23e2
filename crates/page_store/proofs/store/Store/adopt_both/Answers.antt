use Rattle.std.proofs.Common.{◌≡◌, ℕ, ◌+◌, ◌≤◌, arith, ◌∙◌, ap, sym, subst}
use Rattle.page_store.specs.Keeps.{Keeps, state, IsIndexed, IsBounded}
use Rattle.page_store.specs.Steps.{keeps_of, under}
use Rattle.page_store.specs.Shown.{after_maybe, number_of}
use Rattle.page_types.specs.Stores.{StoreState}
use Rattle.page_store.proofs.Bounds.{after_first, after_one, wider}
use Rattle.page_store.proofs.Storing.{answered}
use Rattle.page_store.proofs.store.Store.adopt_both.Goals as goal

pub invariant_of-self : goal.invariant_of-self
invariant_of-self c =
    let first = c.requires.0 in
    let second = c.requires.1 in
    let plan = c.requires.2 in
    let self = c.args.self.now in
    let counted : c.count.result ≡ number_of first = c.count.ensures
    ∙ answered (state (keeps_of self.shelf)) first c.args.plan.first plan.first_answer in
    let both = c.adopt-2.ensures.under ∙ ap (λ (k : Keeps). under c.args.plan.second_patch k) c.adopt.ensures.under in
    record {
      indexed = subst IsIndexed (sym both) plan.second_indexed;
      bounded = subst (λ (s : StoreState). IsBounded (self.obeyed + (c.count.result + 1) + 1) s)
          (sym (ap state both ∙ plan.second_after))
          (wider ((self.obeyed + number_of first + 1) + 1) (self.obeyed + (c.count.result + 1) + 1) _ (omega (arith, counted))
          (after_one (self.obeyed + number_of first + 1) (after_maybe (state (keeps_of self.shelf)) first) second
          (after_first self.obeyed (state (keeps_of self.shelf)) first self.bounded)));
    }
