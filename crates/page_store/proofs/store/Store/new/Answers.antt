use Rattle.std.proofs.Common.{◌≡◌, ap, sym, subst}
use Rattle.page_store.specs.Keeps.{Keeps, state, IsIndexed, IsBounded}
use Rattle.page_store.proofs.Storing.{first_indexed, first_bounded}
use Rattle.page_store.proofs.store.Store.new.Goals as goal

pub invariant_of-result : goal.invariant_of-result
invariant_of-result c = record {
  indexed = subst IsIndexed (sym c.in_ok-first_shelf.ensures.kept) (first_indexed c.args.first);
  bounded = subst (λ (k : Keeps). IsBounded 1 (state k)) (sym c.in_ok-first_shelf.ensures.kept) (first_bounded c.args.first);
}

pub returns-clause-state : goal.returns-clause-state
returns-clause-state c = ap state c.in_ok-first_shelf.ensures.kept
