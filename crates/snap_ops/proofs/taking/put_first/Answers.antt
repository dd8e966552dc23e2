-- The value of the first record is put, and begins with its epoch.
use Rattle.std.proofs.Common.{◌≤◌, sym, length, List, ℕ, subst}
use Rattle.std.proofs.lemmas.Result.{on_ok_weaker, IfErr-weaker}
use Rattle.snap_ops.proofs.Putting.{first-short, puts-first, first-up}
use Rattle.snap_ops.proofs.taking.put_first.Goals as goal

pub put-requires-clause-value : goal.put-requires-clause-value
put-requires-clause-value g c =
    subst (λ (bytes : List ℕ). length bytes ≤ 1200) (sym c.as_slice.ensures)
    (first-short c.in-Ok.value c.args.row.now c.in-Ok.ensures.again)

pub returns-in-Ok-clause-ok : goal.returns-in-Ok-clause-ok
returns-in-Ok-clause-ok g c =
    on_ok_weaker c.put.result
    (puts-first g.P.Pairs.told c.args.pairs.now c.put.new.self c.args.row.now c.in-Ok.value c.as_slice.result.now
    c.requires c.as_slice.ensures c.in-Ok.ensures.is c.in-Ok.ensures.again) c.put.ensures.ok

pub returns-in-Ok-clause-fault : goal.returns-in-Ok-clause-fault
returns-in-Ok-clause-fault g c =
    IfErr-weaker c.put.result _ _
    (λ fault up. first-up g.P.Pairs.told c.args.pairs.now c.put.new.self c.args.row.now c.in-Ok.value c.as_slice.result.now
    c.requires c.as_slice.ensures c.in-Ok.ensures.is fault up) c.put.ensures.fault
