use Rattle.std.proofs.Common.{◌≡◌, subst, true, false, rules}
use Rattle.xdr_grammar.specs.Writing.{Puts}
use Rattle.xdr_grammar.proofs.Writing.{behind}
use Rattle.nfs3_types.specs.declared.procedure.Procedure.{Procedure}
use Rattle.nfs3_types.specs.Procedures.{procedure_at, has_status}
use Rattle.nfs3_types.specs.Statuses.{status}
use Rattle.nfs3_types.specs.Replies.{ok_body, said_by, refusal, result_of, outcome_of, is_ok}
use Rattle.nfs3_res.proofs.Bodies.{success_fits, success_parts, failure_parts, silence}
use Rattle.nfs3_res.proofs.writing.put_result.Goals as goal

pub put_body-requires : goal.put_body-requires
put_body-requires c =
    let r = c.args.r.now in
    let has : has_status (procedure_at r.procedure) ≡ true = cc in
    let ok : is_ok r.status ≡ true = cc in
    success_fits r c.requires has ok

pub returns-then-succeeded : goal.returns-then-succeeded
returns-then-succeeded c =
    let r = c.args.r.now in
    let has : has_status (procedure_at r.procedure) ≡ true = cc in
    let ok : is_ok r.status ≡ true = cc in
    let parts = success_parts r c.requires has ok in
    behind status (ok_body (said_by r.body)) (result_of r.procedure) r.status r.body (outcome_of r) c.args.out.now
    c.put_status.new.out c.put_body.new.out c.put_status.result c.put_body.result parts.text parts.size (search rules)
    c.put_status.ensures c.put_body.ensures

pub returns-else-succeeded : goal.returns-else-succeeded
returns-else-succeeded c =
    let r = c.args.r.now in
    let p = procedure_at r.procedure in
    let has : has_status p ≡ true = cc in
    let failed : is_ok r.status ≡ false = cc in
    let parts = failure_parts r has failed in
    behind status (refusal p) (result_of r.procedure) r.status (silence p) (outcome_of r) c.args.out.now c.put_status.new.out
    c.put_refusal.new.out c.put_status.result c.put_refusal.result parts.text parts.size (search rules) c.put_status.ensures
    (subst (λ (q : Procedure). Puts (refusal q) (silence q) c.put_status.new.out c.put_refusal.new.out c.put_refusal.result)
    c.at-procedure.ensures c.put_refusal.ensures)
