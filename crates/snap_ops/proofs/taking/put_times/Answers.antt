-- The value of times is short.
use Rattle.std.proofs.Common.{◌≤◌, sym, length, List, ℕ, subst}
use Rattle.snap_ops.proofs.Putting.{times-short}
use Rattle.snap_ops.proofs.taking.put_times.Goals as goal

pub put_row-requires-clause-value : goal.put_row-requires-clause-value
put_row-requires-clause-value g c =
    subst (λ (bytes : List ℕ). length bytes ≤ 1200) (sym c.as_slice.ensures)
    (times-short c.in-Ok.value c.args.times c.in-Ok.ensures.again)
