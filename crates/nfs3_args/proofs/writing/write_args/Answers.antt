use Rattle.std.proofs.Common.{◌≡◌, ap, sym, subst, ◌∙◌, arith}
use Rattle.xdr_grammar.specs.Grammar.{Grammar}
use Rattle.xdr_grammar.specs.Writing.{Puts}
use Rattle.xdr_grammar.proofs.Writing.{not_failed, reserved}
use Rattle.nfs3_types.specs.Calls.{Call, called, arguments}
use Rattle.nfs3_args.proofs.Arguments.{call_of-called, arguments_fit}
use Rattle.nfs3_args.proofs.writing.write_args.Goals as goal

pub put_call-requires : goal.put_call-requires
put_call-requires c =
    let lent = c.args.lent.now in
    arguments_fit lent (subst (λ (g : Grammar Call). g.Fits lent) (call_of-called lent) c.requires.spelled)

pub returns-clause-err : goal.returns-clause-err
returns-clause-err c =
    let lent = c.args.lent.now in
    let long = ap (λ (g : Grammar Call). g.size lent) (call_of-called lent) in
    not_failed c.put_call.result _
    (c.put_call.ensures.room (omega (arith, long, c.args_size.ensures, c.reserve.ensures.len, c.in_ok-reserve.ensures.ok)))

pub returns-clause-puts : goal.returns-clause-puts
returns-clause-puts c =
    let lent = c.args.lent.now in
    subst (λ (g : Grammar Call). Puts g lent c.args.out.now c.put_call.new.out c.put_call.result) (sym (call_of-called lent))
    (reserved (arguments (called lent)) lent c.args.out.now c.reserve.new.self c.put_call.new.out c.put_call.result
    c.reserve.ensures.items c.reserve.ensures.len c.reserve.ensures.capacity c.put_call.ensures)
