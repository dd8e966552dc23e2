use Rattle.std.proofs.Common.{◌≡◌, ◌∙◌, arith}
use Rattle.std.proofs.lemmas.Result.{on_ok_weaker}
use Rattle.pairs.specs.Versions.{HasLives}
use Rattle.xdr_grammar.specs.Items.{hyper}
use Rattle.fs_rules.specs.Limits.{longest_name}
use Rattle.fs_keys.specs.Values.{cookie_value}
use Rattle.fs_shows.proofs.NameEdits.{cookie-first}
use Rattle.fs_shows.proofs.Doing.{goes-none, goes-most, memory-put}
use Rattle.dir_ops.proofs.entries.put_cookie.Goals as goal

pub put_row-requires-clause-other : goal.put_row-requires-clause-other
put_row-requires-clause-other g c = cookie-first c.args.directory c.args.cookie

pub put_row-requires-clause-value : goal.put_row-requires-clause-value
unfolding hyper longest_name
put_row-requires-clause-value g c =
    let is : c.as_slice.result.now ≡ cookie_value c.args.row.now = c.as_slice.ensures ∙ c.in-Ok.ensures.is in
    rw is (omega (arith, c.requires))

pub returns-in-Ok-clause-ok : goal.returns-in-Ok-clause-ok
returns-in-Ok-clause-ok g c =
    on_ok_weaker c.put_row.result
    (λ moves. record {
      value = c.in-Ok.value;
      says = c.in-Ok.ensures.again;
      fits = c.ranges.cookie.fits;
      moves = rw
          c.as_slice.ensures at moves;
    })
    c.put_row.ensures.ok

pub returns-in-Err-clause-goes : goal.returns-in-Err-clause-goes
returns-in-Err-clause-goes g c = goes-most g.P.Pairs.told c.args.pairs.now c.args.pairs.now 0 1 (omega arith)
    (goes-none g.P.Pairs.told c.args.pairs.now)

pub returns-in-Err-clause-fault : goal.returns-in-Err-clause-fault
returns-in-Err-clause-fault g c =
    memory-put g.P.Pairs.told c.args.pairs.now c.args.pairs.now HasLives c.from.result c.from.ensures
