use Rattle.std.proofs.Common.{◌≡◌, ◌^◌, ◌<◌, ap, subst, sym, ◌∙◌}
use Rattle.xdr_grammar.specs.Grammar.{Grammar}
use Rattle.nfs3_types.specs.Calls.{Call}
use Rattle.nfs3_args.proofs.Arguments.{call_of-called, arguments_fit}
use Rattle.nfs3_args.proofs.size.args_size.Goals as goal

pub size_of-requires-clause-spelled : goal.size_of-requires-clause-spelled
size_of-requires-clause-spelled c =
    let lent = c.args.lent.now in
    arguments_fit lent (subst (λ (g : Grammar Call). g.Fits lent) (call_of-called lent) c.requires.spelled)

pub size_of-requires-clause-short : goal.size_of-requires-clause-short
size_of-requires-clause-short c =
    let lent = c.args.lent.now in
    subst (λ (g : Grammar Call). g.size lent < 2 ^ 31) (call_of-called lent) c.requires.short

pub returns : goal.returns
returns c =
    let lent = c.args.lent.now in
    c.size_of.ensures ∙ ap (λ (g : Grammar Call). g.size lent) (sym (call_of-called lent))
