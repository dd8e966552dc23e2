use Rattle.commit_checks.proofs.Overtaking.{on_then}
use Rattle.commit_checks.proofs.reading.finish_twice.Goals as goal

pub returns-in_err-first : goal.returns-in_err-first
returns-in_err-first c = record { part = c.in_err-first.ensures.part; onward = c.in_err-first.ensures.onward }

pub returns-in_err-second : goal.returns-in_err-second
returns-in_err-second c =
    on_then _ _ _ (record { part = c.in_ok-first.ensures.part; onward = c.in_ok-first.ensures.onward })
    (record { part = c.in_err-second.ensures.part; onward = c.in_err-second.ensures.onward })

pub returns : goal.returns
returns c =
    on_then _ _ _ (record { part = c.in_ok-first.ensures.part; onward = c.in_ok-first.ensures.onward })
    (record { part = c.in_ok-second.ensures.part; onward = c.in_ok-second.ensures.onward })
