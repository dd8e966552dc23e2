-- What a store obeyed of a plan.
use Rattle.std.specs.Prelude.{◌≡◌, ◌+◌, Bool, true, false, Option, None}
use Rattle.page_types.specs.declared.command.Command.{Command}
use Rattle.page_types.specs.declared.answer.Answer.{Answer}
use Rattle.page_types.specs.Obeys.{answer_of, after}
use Rattle.page_store.specs.declared.store.Store.{Store}
use Rattle.page_store.specs.Shown.{state_of, obeyed_of, after_maybe, number_of}
use Rattle.store_group.specs.declared.adopting.Settled.{Settled}
use Rattle.store_group.specs.Behind.{late_of}

-- both commands
pub record AdoptsBoth (old new : Store) (waiting : Option Command) (command : Command) (settled : Settled) : Type 0 where
  pub late : settled.late ≡ late_of (state_of old) waiting
  pub own : settled.own ≡ answer_of (after_maybe (state_of old) waiting) command
  pub state : state_of new ≡ after (after_maybe (state_of old) waiting) command
  pub obeyed : obeyed_of new ≡ obeyed_of old + number_of waiting + 1

-- the late one alone, where it is settled
abbrev pub AdoptsLate : Store → Store → Option Command → Bool → Option (Command × Answer) → Type 0
AdoptsLate old new late true result = (result ≡ late_of (state_of old) late) ×
    (state_of new ≡ after_maybe (state_of old) late) × (obeyed_of new ≡ obeyed_of old + number_of late)
AdoptsLate old new late false result = (result ≡ None) × (state_of new ≡ state_of old) × (obeyed_of new ≡ obeyed_of old)
