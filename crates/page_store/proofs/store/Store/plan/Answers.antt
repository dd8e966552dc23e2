use Rattle.std.proofs.Common.{◌≡◌, ◌∙◌, ◌+◌, ◌≤◌, ◌<◌, ◌^◌, arith, sym, subst, option_copied}
use Rattle.page_store.specs.Keeps.{Keeps, state, IsIndexed, IsBounded}
use Rattle.page_store.specs.Steps.{keeps_of}
use Rattle.page_store.specs.Shown.{number_of}
use Rattle.page_types.specs.Stores.{StoreState}
use Rattle.page_store.proofs.Bounds.{after_first, first_few, wider}
use Rattle.page_store.proofs.Planning.{room_stays, planned}
use Rattle.page_store.proofs.store.Store.plan.Goals as goal

pub obey-requires-clause-bounded : goal.obey-requires-clause-bounded
obey-requires-clause-bounded c =
    let self = c.args.self.now in
    let first = option_copied c.args.first in
    wider (self.obeyed + number_of first + 1) (2 ^ 63 + 1) _ (first_few self.obeyed first c.requires.obeyed)
    (subst (λ (s : StoreState). IsBounded (self.obeyed + number_of first + 1) s) (sym c.in_ok-before.ensures.after)
    (after_first self.obeyed (state (keeps_of self.shelf)) first self.bounded))

pub invariant_of-self : goal.invariant_of-self
invariant_of-self c =
    let self = c.args.self.now in
    record {
      indexed = subst IsIndexed (sym c.make_room.ensures.same) self.indexed;
      bounded = subst (λ (k : Keeps). IsBounded (self.obeyed + 1) (state k)) (sym c.make_room.ensures.same) self.bounded;
    }

pub invariant_of-self-2 : goal.invariant_of-self-2
invariant_of-self-2 c =
    let self = c.args.self.now in
    let same = c.make_room-2.ensures.same ∙ c.make_room.ensures.same in
    record {
      indexed = subst IsIndexed (sym same) self.indexed;
      bounded = subst (λ (k : Keeps). IsBounded (self.obeyed + 1) (state k)) (sym same) self.bounded;
    }

pub returns-clause-plan : goal.returns-clause-plan
returns-clause-plan c =
    let same = c.make_room-2.ensures.same ∙ c.make_room.ensures.same in
    planned c.args.self.now.shelf _ (option_copied c.args.first) c.args.second.now _ c.requires.obeyed same
    c.in_ok-before.ensures c.in_ok-step.ensures
    (room_stays c.make_room.new.self c.make_room-2.new.self c.in_ok-before.before.patch c.make_room-2.ensures.stays
    c.in_ok-make_room.ensures.room)
    c.in_ok-make_room-2.ensures.room
