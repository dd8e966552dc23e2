-- What contracts see of a store, and of a plan.
use Rattle.std.specs.Prelude.{◌≡◌, ℕ, ◌<◌, ◌^◌, Option, Some, None, ⊤}
use Rattle.page_types.specs.declared.command.Command.{Command}
use Rattle.page_types.specs.declared.answer.Answer.{Answer}
use Rattle.page_types.specs.Stores.{StoreState}
use Rattle.page_types.specs.Obeys.{answer_of, after, IsFormed}
use Rattle.page_store.specs.declared.patch.First.{First}
use Rattle.page_store.specs.declared.shelf.Shelf.{Shelf}
use Rattle.page_store.specs.declared.store.Store.{Store}
use Rattle.page_store.specs.declared.store.Plan.{Plan}
use Rattle.page_store.specs.Keeps.{state, IsIndexed}
use Rattle.page_store.specs.Steps.{keeps_of, under, HasRoom}

-- the state of a store, and how many commands it obeyed
abbrev pub state_of : Store → StoreState
state_of store = state (keeps_of store.shelf)

abbrev pub obeyed_of : Store → ℕ
obeyed_of store = store.obeyed

-- ## A command, where there is one

abbrev pub AreFormed : Option Command → Type 0
AreFormed None = ⊤
AreFormed (Some command) = IsFormed command

abbrev pub after_maybe : StoreState → Option Command → StoreState
after_maybe s None = s
after_maybe s (Some command) = after s command

abbrev pub answer_maybe : StoreState → Option Command → Option Answer
answer_maybe s None = None
answer_maybe s (Some command) = Some (answer_of s command)

abbrev pub number_of : Option Command → ℕ
number_of None = 0
number_of (Some command) = 1

-- ## Plans

-- what a first command does, where there is one
pub record IsFirst (shelf : Shelf) (first : Option Command) (step : First) : Type 0 where
  pub answer : step.answer ≡ answer_maybe (state (keeps_of shelf)) first
  pub after : state (under step.patch (keeps_of shelf)) ≡ after_maybe (state (keeps_of shelf)) first
  pub indexed : IsIndexed (under step.patch (keeps_of shelf))

-- The plan is to obey these commands in the state of this store, which has room for it. It tells their answers.
pub record IsPlan (store : Store) (first : Option Command) (second : Command) (plan : Plan) : Type 0 where
  pub obeyed : store.obeyed < 2 ^ 63
  pub first_answer : plan.first ≡ answer_maybe (state_of store) first
  pub first_after : state (under plan.first_patch (keeps_of store.shelf)) ≡ after_maybe (state_of store) first
  pub first_indexed : IsIndexed (under plan.first_patch (keeps_of store.shelf))
  pub first_room : HasRoom store.shelf plan.first_patch
  pub second_answer : plan.second ≡ answer_of (after_maybe (state_of store) first) second
  pub second_after : state (under plan.second_patch (under plan.first_patch (keeps_of store.shelf)))
      ≡ after (after_maybe (state_of store) first) second
  pub second_indexed : IsIndexed (under plan.second_patch (under plan.first_patch (keeps_of store.shelf)))
  pub second_room : HasRoom store.shelf plan.second_patch
