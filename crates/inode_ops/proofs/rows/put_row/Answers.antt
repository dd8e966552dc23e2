use Rattle.std.proofs.Common.{◌≡◌, ◌∙◌, arith}
use Rattle.std.proofs.lemmas.Result.{on_ok_weaker, IfErr-weaker}
use Rattle.pairs.specs.Versions.{HasLives, CanPut, with_put}
use Rattle.fs_keys.specs.Keys.{key_of}
use Rattle.fs_keys.proofs.KeyLaws.{key-short}
use Rattle.fs_shows.proofs.Rewriting.{can-put}
use Rattle.fs_shows.proofs.Doing.{goes-none, goes-most, memory-put, moves-given, up-put-given}
use Rattle.inode_ops.proofs.rows.put_row.Goals as goal

pub put-requires-clause-key : goal.put-requires-clause-key
put-requires-clause-key g c =
    let is : c.as_slice.result.now ≡ key_of c.args.parts.now = c.as_slice.ensures ∙ c.in-Ok.ensures in rw is
    (key-short c.args.parts.now c.requires.bounds)

pub returns-in-Ok-clause-ok : goal.returns-in-Ok-clause-ok
returns-in-Ok-clause-ok g c =
    let is : c.as_slice.result.now ≡ key_of c.args.parts.now = c.as_slice.ensures ∙ c.in-Ok.ensures in
    on_ok_weaker c.put.result
    (moves-given g.P.Pairs.told c.args.pairs.now c.put.new.self (CanPut (key_of c.args.parts.now) c.args.value.now) HasLives
    (with_put (key_of c.args.parts.now) c.args.value.now)
    (λ v lives. can-put c.args.parts.now c.args.value.now v c.requires.bounds c.requires.other lives))
    (rw is at c.put.ensures.ok)

pub returns-in-Ok-clause-fault : goal.returns-in-Ok-clause-fault
returns-in-Ok-clause-fault g c =
    let is : c.as_slice.result.now ≡ key_of c.args.parts.now = c.as_slice.ensures ∙ c.in-Ok.ensures in
    IfErr-weaker c.put.result _ _
    (up-put-given g.P.Pairs.told c.args.pairs.now c.put.new.self (CanPut (key_of c.args.parts.now) c.args.value.now) HasLives
    (λ v lives. can-put c.args.parts.now c.args.value.now v c.requires.bounds c.requires.other lives))
    (rw is at c.put.ensures.fault)

pub returns-in-Err-clause-goes : goal.returns-in-Err-clause-goes
returns-in-Err-clause-goes g c = goes-most g.P.Pairs.told c.args.pairs.now c.args.pairs.now 0 1 (omega arith)
    (goes-none g.P.Pairs.told c.args.pairs.now)

pub returns-in-Err-clause-fault : goal.returns-in-Err-clause-fault
returns-in-Err-clause-fault g c =
    memory-put g.P.Pairs.told c.args.pairs.now c.args.pairs.now HasLives c.from.result c.from.ensures
