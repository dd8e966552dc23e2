use Rattle.std.proofs.Common.{◌<◌, add-one, get_or, subst, sym}
use Rattle.std.proofs.lemmas.Result.{err_from_is_err_and}
use Rattle.page_types.specs.Journals.{Origin}
use Rattle.two_phase.proofs.Ended.{get_at, is_in, resolve_later, resolves_none, resolving_none, resolving_more, resolving_fault}
use Rattle.two_phase.proofs.endings.resolve_all.Goals as goal

pub returns-in_err-command : goal.returns-in_err-command
returns-in_err-command g c =
    let p = err_from_is_err_and c.from_residual.result c.from_residual.ensures.1 in rw (p.1, p.2) (resolves_none _ _ _)

pub loop-part-init : goal.loop-part-init
loop-part-init g c = record { asked = c.in_ok-command.ensures; resolving = resolving_none _ _ _ }

pub retry-requires-clause-store : goal.retry-requires-clause-store
retry-requires-clause-store g c =
    let at = get_at c.args.parts.now c.loop-part.part-index 0 c.loop-part-test.true in
    subst (λ (o : Origin). get_or c.args.parts.now c.loop-part.part-index 0 < o.stores)
    (sym c.loop-part.invariant.resolving.onward.origin) (c.requires.parts _ (is_in _ _ _ at))

pub retry-requires-clause-fair : goal.retry-requires-clause-fair
retry-requires-clause-fair g c =
    let at = get_at c.args.parts.now c.loop-part.part-index 0 c.loop-part-test.true in
    rw c.loop-part.invariant.asked
    (resolve_later g.P.Rules.Meaning.stands g.P.Rules.Meaning.next _ _ _ _ _ c.loop-part.invariant.resolving.onward
    (c.requires.fair _ (is_in _ _ _ at)))

pub returns-in_err-_answer : goal.returns-in_err-_answer
returns-in_err-_answer g c =
    let at = get_at c.args.parts.now c.loop-part.part-index 0 c.loop-part-test.true in
    let p = err_from_is_err_and c.from_residual-in_err-_answer.result c.from_residual-in_err-_answer.ensures.1 in
    rw (p.1, p.2)
    (resolving_fault _ _ _ _ _ _ _ at c.loop-part.invariant.resolving _
    (rw c.loop-part.invariant.asked at c.in_err-_answer.ensures))

pub loop-part-preserved : goal.loop-part-preserved
loop-part-preserved g c =
    let at = get_at c.args.parts.now c.loop-part.part-index 0 c.loop-part-test.true in
    record {
      asked = c.loop-part.invariant.asked;
      resolving = rw add-one
          (resolving_more _ _ _ _ _ _ _ at c.loop-part.invariant.resolving c.in_ok-_answer._answer
          (rw c.loop-part.invariant.asked at c.in_ok-_answer.ensures));
    }
