use Rattle.std.proofs.Common.{◌≡◌, ◌∙◌, ◌+◌, sym, subst}
use Rattle.page_store.specs.Keeps.{Keeps, state, IsIndexed, IsBounded}
use Rattle.page_store.specs.Steps.{keeps_of, under}
use Rattle.page_types.specs.Stores.{StoreState}
use Rattle.page_store.proofs.Bounds.{after_one}
use Rattle.page_store.proofs.Storing.{under_none, step_over, step_adopted}
use Rattle.page_store.proofs.store.Store.obey.Goals as goal

pub invariant_of-self : goal.invariant_of-self
invariant_of-self c =
    let self = c.args.self.now in
    record {
      indexed = subst IsIndexed (sym c.make_room.ensures.same) self.indexed;
      bounded = subst (λ (k : Keeps). IsBounded (self.obeyed + 1) (state k)) (sym c.make_room.ensures.same) self.bounded;
    }

pub invariant_of-self-2 : goal.invariant_of-self-2
invariant_of-self-2 c =
    let self = c.args.self.now in
    let none = under_none c.none-none.result (keeps_of self.shelf) c.none-none.ensures.rows c.none-none.ensures.party
    c.none-none.ensures.next in
    let step = step_over (keeps_of self.shelf) (under c.none-none.result (keeps_of self.shelf)) c.args.command.now
    c.in_ok-step.step none c.in_ok-step.ensures in
    let done = step_adopted (keeps_of self.shelf) (keeps_of c.make_room.new.self) (keeps_of c.adopt.new.self) c.args.command.now
    c.in_ok-step.step
    step self.indexed c.make_room.ensures.same c.adopt.ensures.under in
    record {
      indexed = done.1;
      bounded = subst (λ (s : StoreState). IsBounded (self.obeyed + 1 + 1) s) (sym done.0)
          (after_one (self.obeyed + 1) (state (keeps_of self.shelf)) c.args.command.now self.bounded);
    }

pub returns-clause-answer : goal.returns-clause-answer
returns-clause-answer c =
    let self = c.args.self.now in
    let none = under_none c.none-none.result (keeps_of self.shelf) c.none-none.ensures.rows c.none-none.ensures.party
    c.none-none.ensures.next in
    (step_over (keeps_of self.shelf) (under c.none-none.result (keeps_of self.shelf)) c.args.command.now c.in_ok-step.step none
    c.in_ok-step.ensures).answer

pub returns-clause-after : goal.returns-clause-after
returns-clause-after c =
    let self = c.args.self.now in
    let none = under_none c.none-none.result (keeps_of self.shelf) c.none-none.ensures.rows c.none-none.ensures.party
    c.none-none.ensures.next in
    let step = step_over (keeps_of self.shelf) (under c.none-none.result (keeps_of self.shelf)) c.args.command.now
    c.in_ok-step.step none c.in_ok-step.ensures in
    (step_adopted (keeps_of self.shelf) (keeps_of c.make_room.new.self) (keeps_of c.adopt.new.self) c.args.command.now
    c.in_ok-step.step
    step self.indexed c.make_room.ensures.same c.adopt.ensures.under).0
