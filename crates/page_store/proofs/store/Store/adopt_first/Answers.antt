use Rattle.std.proofs.Common.{◌≡◌, ℕ, ◌+◌, ◌∙◌, ap, sym, subst}
use Rattle.page_store.specs.Keeps.{Keeps, state, IsIndexed, IsBounded}
use Rattle.page_store.specs.Steps.{keeps_of, under}
use Rattle.page_store.specs.Shown.{after_maybe, number_of}
use Rattle.page_types.specs.Stores.{StoreState}
use Rattle.page_store.proofs.Bounds.{after_first}
use Rattle.page_store.proofs.Storing.{answered}
use Rattle.page_store.proofs.store.Store.adopt_first.Goals as goal

pub invariant_of-self : goal.invariant_of-self
invariant_of-self c =
    let first = c.requires.0 in
    let plan = c.requires.2 in
    let self = c.args.self.now in
    let counted : c.count.result ≡ number_of first = c.count.ensures
    ∙ answered (state (keeps_of self.shelf)) first c.args.plan.first plan.first_answer in
    record {
      indexed = subst IsIndexed (sym c.adopt.ensures.under) plan.first_indexed;
      bounded = subst (λ (k : ℕ). IsBounded (self.obeyed + k + 1) (state (keeps_of c.adopt.new.self))) (sym counted)
          (subst (λ (s : StoreState). IsBounded (self.obeyed + number_of first + 1) s)
          (sym (ap state c.adopt.ensures.under ∙ plan.first_after))
          (after_first self.obeyed (state (keeps_of self.shelf)) first self.bounded));
    }
