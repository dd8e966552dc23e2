use Rattle.commit_checks.proofs.Meeting.{retried_met}
use Rattle.commit_checks.proofs.Overtaking.{on_then}
use Rattle.commit_checks.proofs.reading.see.Goals as goal

pub returns-in_err-answer : goal.returns-in_err-answer
returns-in_err-answer c = record { part = c.in_err-answer.ensures.part; onward = c.in_err-answer.ensures.onward }

pub seen-requires : goal.seen-requires
seen-requires c = retried_met _ _ _ _ _ c.in_ok-answer.ensures

pub returns : goal.returns
returns c =
    on_then _ _ _ (record { part = c.in_ok-answer.ensures.part; onward = c.in_ok-answer.ensures.onward }) c.seen.ensures
