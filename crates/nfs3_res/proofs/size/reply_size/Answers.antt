use Rattle.std.proofs.Common.{◌≡◌, true, arith}
use Rattle.nfs3_types.specs.Procedures.{procedure_at, has_status}
use Rattle.nfs3_types.specs.Replies.{is_ok}
use Rattle.nfs3_res.proofs.Bodies.{success_fits, success_parts, status_long}
use Rattle.nfs3_res.proofs.size.reply_size.Goals as goal

pub body_size-requires-clause-spelled : goal.body_size-requires-clause-spelled
body_size-requires-clause-spelled c =
    let r = c.args.r.now in
    let has : has_status (procedure_at r.procedure) ≡ true = cc in
    let ok : is_ok r.status ≡ true = cc in
    success_fits r c.requires has ok

pub body_size-requires-clause-short : goal.body_size-requires-clause-short
body_size-requires-clause-short c =
    let r = c.args.r.now in
    let has : has_status (procedure_at r.procedure) ≡ true = cc in
    let ok : is_ok r.status ≡ true = cc in
    let parts = success_parts r c.requires has ok in
    omega (arith, parts.size, c.requires.short)

pub overflow_add-result : goal.overflow_add-result
overflow_add-result c =
    let r = c.args.r.now in
    let has : has_status (procedure_at r.procedure) ≡ true = cc in
    let ok : is_ok r.status ≡ true = cc in
    let parts = success_parts r c.requires has ok in
    omega (arith, parts.size, c.requires.short, c.body_size.ensures)

pub returns-then-succeeded : goal.returns-then-succeeded
returns-then-succeeded c =
    let r = c.args.r.now in
    let has : has_status (procedure_at r.procedure) ≡ true = cc in
    let ok : is_ok r.status ≡ true = cc in
    let parts = success_parts r c.requires has ok in
    omega (arith, parts.size, c.body_size.ensures, status_long r.status)
