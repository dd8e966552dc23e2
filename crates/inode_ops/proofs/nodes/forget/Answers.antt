use Rattle.std.specs.Prelude.{⊤}
use Rattle.std.proofs.lemmas.Result.{on_ok_weaker, IfErr-weaker}
use Rattle.pairs.specs.Versions.{with_put}
use Rattle.fs_keys.specs.declared.key_parts.KeyParts.TheVariants.{Stale}
use Rattle.fs_keys.specs.Keys.{key_of}
use Rattle.fs_shows.specs.Files.{MayGo}
use Rattle.fs_shows.proofs.Doing.{does-move, up-put, up-as-put, up-behind}
use Rattle.fs_shows.proofs.FileEdits.{stale-first}
use Rattle.fs_shows.proofs.InodeEdits.{inode-first}
use Rattle.inode_ops.proofs.Revising.{gone-edits, stale-keeps}
use Rattle.inode_ops.proofs.nodes.forget.Goals as goal

pub put_row-requires-clause-other : goal.put_row-requires-clause-other
put_row-requires-clause-other g c = stale-first c.args.id

pub del_row-requires-clause-other : goal.del_row-requires-clause-other
del_row-requires-clause-other g c = inode-first c.args.id

pub returns-in-Err-clause-fault : goal.returns-in-Err-clause-fault
returns-in-Err-clause-fault g c = up-put g.P.Pairs.told c.args.pairs.now c.put_row.new.pairs
    (MayGo c.args.id) c.in-Err.fault c.in-Err.ensures.fault

pub returns-clause-ok : goal.returns-clause-ok
returns-clause-ok g c =
    on_ok_weaker c.del_row.result
    (gone-edits g.P.Pairs.told c.args.pairs.now c.put_row.new.pairs c.del_row.new.pairs c.args.id c.ranges.id.fits _
    c.del_row.ensures.goes c.in-Ok.ensures.ok)
    c.del_row.ensures.ok

pub returns-clause-fault : goal.returns-clause-fault
returns-clause-fault g c =
    IfErr-weaker c.del_row.result _ _
    (λ fault up. up-behind g.P.Pairs.told c.args.pairs.now c.put_row.new.pairs c.del_row.new.pairs 1 0
    (with_put (key_of (Stale c.args.id)) _) (λ v. ⊤)
    (MayGo c.args.id) fault
    (stale-keeps g.P.Pairs.told c.args.pairs.now c.put_row.new.pairs c.del_row.new.pairs c.args.id c.ranges.id.fits _)
    c.in-Ok.ensures.goes c.del_row.ensures.goes
    (does-move g.P.Pairs.told c.args.pairs.now c.put_row.new.pairs _ c.in-Ok.ensures.ok)
    (up-as-put g.P.Pairs.told c.put_row.new.pairs c.del_row.new.pairs fault up))
    c.del_row.ensures.fault
