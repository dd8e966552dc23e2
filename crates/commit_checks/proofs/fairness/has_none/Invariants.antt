use Rattle.std.proofs.Common.{◌≡◌, false, All, take}
use Rattle.page_types.specs.Journals.{is_of}
use Rattle.commit_checks.proofs.fairness.has_none.Given as goal

abbrev pub invariant-loop-entry : goal.invariant-loop-entry
invariant-loop-entry l = All (λ e. is_of l.pass e ≡ false) (take l.entry-index l.entries)
