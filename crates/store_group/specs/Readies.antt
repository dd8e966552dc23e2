-- What is ready for a step.
use Rattle.std.specs.Prelude.{◌≡◌}
use Rattle.page_types.specs.declared.command.Command.{Command}
use Rattle.page_types.specs.Obeys.{answer_of}
use Rattle.page_store.specs.Shown.{after_maybe, answer_maybe}
use Rattle.store_group.specs.declared.ready.Ready.{Ready}
use Rattle.store_group.specs.Behind.{Behind}

-- it is for this command, at a store that stands so
pub record IsReadyFor (old : Behind) (command : Command) (ready : Ready) : Type 0 where
  pub late : ready.late ≡ old.pending
  pub first : ready.plan.first ≡ answer_maybe old.state old.pending
  pub second : ready.plan.second ≡ answer_of (after_maybe old.state old.pending) command
