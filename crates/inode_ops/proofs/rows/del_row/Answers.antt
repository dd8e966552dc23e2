use Rattle.std.proofs.Common.{◌≡◌, ◌∙◌, sym}
use Rattle.pairs.specs.Versions.{HasLives}
use Rattle.fs_keys.specs.declared.key_parts.KeyParts.TheVariants.{First}
use Rattle.fs_keys.specs.Keys.{key_of}
use Rattle.fs_shows.proofs.Apart.{keys-apart}
use Rattle.fs_shows.proofs.Doing.{goes-none, memory-up}
use Rattle.inode_ops.proofs.rows.del_row.Goals as goal

pub returns-in-Err-clause-goes : goal.returns-in-Err-clause-goes
returns-in-Err-clause-goes g c = goes-none g.P.Pairs.told c.args.pairs.now

pub returns-in-Err-clause-fault : goal.returns-in-Err-clause-fault
returns-in-Err-clause-fault g c = memory-up g.P.Pairs.told c.args.pairs.now c.args.pairs.now HasLives c.from.result c.from.ensures

pub del-requires : goal.del-requires
del-requires g c =
    let is : c.as_slice.result.now ≡ key_of c.args.parts.now = c.as_slice.ensures ∙ c.in-Ok.ensures in
    rw is (keys-apart First c.args.parts.now tt c.requires.bounds (λ same. c.requires.other (sym same)))

pub returns-in-Ok-del-clause-ok : goal.returns-in-Ok-del-clause-ok
returns-in-Ok-del-clause-ok g c =
    let is : c.as_slice.result.now ≡ key_of c.args.parts.now = c.as_slice.ensures
    ∙ c.in-Ok.ensures in rw is at c.in-Ok-del.ensures.ok
