use Rattle.std.proofs.lemmas.Result.{on_ok_weaker, IfErr-weaker}
use Rattle.std.proofs.Common.{arith}
use Rattle.pairs.specs.Versions.{HasLives}
use Rattle.fs_shows.proofs.Doing.{goes-none, goes-most, memory-put}
use Rattle.dir_ops.proofs.Putting.{puts-entry, entry-up}
use Rattle.dir_ops.proofs.entries.put_entry.Goals as goal

pub returns-in-Err-clause-goes : goal.returns-in-Err-clause-goes
returns-in-Err-clause-goes g c = goes-most g.P.Pairs.told c.args.pairs.now c.args.pairs.now 0 2 (omega arith)
    (goes-none g.P.Pairs.told c.args.pairs.now)

pub returns-in-Err-clause-fault : goal.returns-in-Err-clause-fault
returns-in-Err-clause-fault g c =
    memory-put g.P.Pairs.told c.args.pairs.now c.args.pairs.now HasLives c.from.result c.from.ensures

pub put_cookie-requires : goal.put_cookie-requires
put_cookie-requires g c = rw c.in-Ok.ensures c.requires

pub returns-in-Ok-put_name-clause-ok : goal.returns-in-Ok-put_name-clause-ok
returns-in-Ok-put_name-clause-ok g c =
    on_ok_weaker c.put_cookie.result
    (λ by_cookie. puts-entry g.P.Pairs.told c.args.pairs.now c.put_name.new.pairs c.put_cookie.new.pairs c.args.directory
    c.args.name.now c.args.row c.ranges.directory.fits c.requires
    c.put_cookie.ensures.goes c.in-Ok-put_name.ensures.ok (rw c.in-Ok.ensures at by_cookie))
    c.put_cookie.ensures.ok

pub returns-in-Ok-put_name-clause-fault : goal.returns-in-Ok-put_name-clause-fault
returns-in-Ok-put_name-clause-fault g c =
    IfErr-weaker c.put_cookie.result _ _
    (λ fault up. entry-up g.P.Pairs.told c.args.pairs.now c.put_name.new.pairs c.put_cookie.new.pairs c.args.directory
    c.args.name.now c.args.row c.ranges.directory.fits c.requires
    fault c.in-Ok-put_name.ensures.goes c.put_cookie.ensures.goes c.in-Ok-put_name.ensures.ok up)
    c.put_cookie.ensures.fault
