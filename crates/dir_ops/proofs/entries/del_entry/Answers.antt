use Rattle.std.proofs.lemmas.Result.{on_ok_weaker, IfErr-weaker}
use Rattle.fs_shows.proofs.Apart.{short-name}
use Rattle.fs_shows.proofs.NameEdits.{name-first, cookie-first}
use Rattle.dir_ops.proofs.Putting.{ends-entry, ends-up}
use Rattle.dir_ops.proofs.entries.del_entry.Goals as goal

pub del_row-requires-clause-bounds : goal.del_row-requires-clause-bounds
del_row-requires-clause-bounds g c = rw c.new.ensures (c.ranges.directory.fits, short-name c.args.name.now c.requires)

pub del_row-requires-clause-other : goal.del_row-requires-clause-other
del_row-requires-clause-other g c = name-first c.args.directory _

pub del_row-requires-in-Ok-clause-other : goal.del_row-requires-in-Ok-clause-other
del_row-requires-in-Ok-clause-other g c = cookie-first c.args.directory c.args.cookie

pub returns-in-Ok-clause-ok : goal.returns-in-Ok-clause-ok
returns-in-Ok-clause-ok g c =
    on_ok_weaker c.del_row-in-Ok.result
    (ends-entry g.P.Pairs.told c.args.pairs.now c.del_row.new.pairs c.del_row-in-Ok.new.pairs c.args.directory c.args.name.now
    c.args.cookie c.ranges.directory.fits c.requires
    c.del_row-in-Ok.ensures.goes (rw c.new.ensures at c.in-Ok.ensures.ok))
    c.del_row-in-Ok.ensures.ok

pub returns-in-Ok-clause-fault : goal.returns-in-Ok-clause-fault
returns-in-Ok-clause-fault g c =
    IfErr-weaker c.del_row-in-Ok.result _ _
    (λ fault up. ends-up g.P.Pairs.told c.args.pairs.now c.del_row.new.pairs c.del_row-in-Ok.new.pairs c.args.directory
    c.args.name.now c.ranges.directory.fits c.requires
    fault c.in-Ok.ensures.goes c.del_row-in-Ok.ensures.goes (rw c.new.ensures at c.in-Ok.ensures.ok) up)
    c.del_row-in-Ok.ensures.fault
