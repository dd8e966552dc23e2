use Rattle.std.proofs.Common.{◌≡◌, ◌∙◌, arith}
use Rattle.std.proofs.lemmas.Result.{on_ok_weaker}
use Rattle.pairs.specs.Versions.{HasLives}
use Rattle.xdr_grammar.specs.Items.{hyper}
use Rattle.fs_keys.specs.Values.{name}
use Rattle.fs_shows.proofs.Apart.{short-name}
use Rattle.fs_shows.proofs.NameEdits.{name-first}
use Rattle.fs_shows.proofs.Doing.{goes-none, goes-most, memory-put}
use Rattle.dir_ops.proofs.entries.put_name.Goals as goal

pub put_row-requires-clause-bounds : goal.put_row-requires-clause-bounds
put_row-requires-clause-bounds g c = rw c.new.ensures (c.ranges.directory.fits, short-name c.args.name.now c.requires)

pub put_row-requires-clause-other : goal.put_row-requires-clause-other
put_row-requires-clause-other g c = name-first c.args.directory _

pub put_row-requires-clause-value : goal.put_row-requires-clause-value
unfolding name hyper
put_row-requires-clause-value g c =
    let is : c.as_slice.result.now ≡ name.spelling c.args.row = c.as_slice.ensures ∙ c.in-Ok.ensures.is in
    rw is (omega arith)

pub returns-in-Ok-clause-ok : goal.returns-in-Ok-clause-ok
returns-in-Ok-clause-ok g c =
    on_ok_weaker c.put_row.result
    (λ moves. record {
      value = c.in-Ok.value;
      says = c.in-Ok.ensures.again;
      moves = rw c.as_slice.ensures at
          (rw c.new.ensures at moves);
    })
    c.put_row.ensures.ok

pub returns-in-Err-clause-goes : goal.returns-in-Err-clause-goes
returns-in-Err-clause-goes g c = goes-most g.P.Pairs.told c.args.pairs.now c.args.pairs.now 0 1 (omega arith)
    (goes-none g.P.Pairs.told c.args.pairs.now)

pub returns-in-Err-clause-fault : goal.returns-in-Err-clause-fault
returns-in-Err-clause-fault g c =
    memory-put g.P.Pairs.told c.args.pairs.now c.args.pairs.now HasLives c.from.result c.from.ensures
