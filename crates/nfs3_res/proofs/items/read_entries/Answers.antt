use Rattle.std.proofs.Common.{◌∙◌, ap, Bool, Ok, arith}
use Rattle.std.proofs.lemmas.Result.{err_from_is_err_and}
use Rattle.nfs3_res.proofs.Lists.{read_more, read_ends, mark_fails, entry_fails, entry_shorter}
use Rattle.nfs3_res.proofs.items.read_entries.Goals as goal

pub returns-in_err-truth : goal.returns-in_err-truth
returns-in_err-truth g c =
    let p = err_from_is_err_and c.from_residual.result c.from_residual.ensures.1 in
    rw (p.1, p.2) (mark_fails g.T.ListItem.grammar c.requires.lawful c.loop-items.items.items c.loop-items.reader
    c.in_err-truth.field-0.0 _ c.in_err-truth.ensures.gives c.loop-items.invariant)

pub returns-in_err-item : goal.returns-in_err-item
returns-in_err-item g c =
    let p = err_from_is_err_and c.from_residual-in_err-item.result c.from_residual-in_err-item.ensures.1 in
    rw (p.1, p.2) (entry_fails g.T.ListItem.grammar c.requires.lawful c.loop-items.items.items c.loop-items.reader
    c.truth.new.self c.in_err-item.field-0.0 _ (c.in_ok-truth.ensures.gives
    ∙ ap (λ (b : Bool). Ok (b, c.truth.new.self)) c.if-branch.true) c.in_err-item.ensures c.loop-items.invariant)

pub loop-items-smaller : goal.loop-items-smaller
loop-items-smaller g c =
    let less = entry_shorter g.T.ListItem.grammar c.requires.lawful c.truth.new.self c.read.new.reader c.in_ok-item.item
    c.in_ok-item.ensures in
    omega (arith, c.in_ok-truth.ensures.takes, less)

pub loop-items-preserved : goal.loop-items-preserved
loop-items-preserved g c =
    rw c.in_ok-push.ensures.items (read_more g.T.ListItem.grammar c.requires.lawful c.loop-items.items.items c.loop-items.reader
    c.truth.new.self c.read.new.reader c.in_ok-item.item _ (c.in_ok-truth.ensures.gives
    ∙ ap (λ (b : Bool). Ok (b, c.truth.new.self)) c.if-branch.true) c.in_ok-item.ensures c.loop-items.invariant)

pub returns : goal.returns
returns g c =
    rw c.from_vec.ensures (read_ends g.T.ListItem.grammar c.requires.lawful c.loop-items.items.items c.loop-items.reader
    c.truth.new.self _ (c.in_ok-truth.ensures.gives ∙ ap (λ (b : Bool). Ok (b, c.truth.new.self)) c.if-branch.false)
    c.loop-items.invariant)
