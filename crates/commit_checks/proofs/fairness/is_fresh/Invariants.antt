use Rattle.std.proofs.Common.{◌≡◌, false, All, take}
use Rattle.two_phase.specs.Parts.{carries}
use Rattle.commit_checks.proofs.fairness.is_fresh.Given as goal

abbrev pub invariant-loop-entry : goal.invariant-loop-entry
invariant-loop-entry l = All (λ e. carries l.tid e ≡ false) (take l.entry-index l.journal)
