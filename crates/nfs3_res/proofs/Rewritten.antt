-- What was read can be written.
use Rattle.std.proofs.Common.{◌≡◌, ℕ, ◌-◌, ◌^◌, ◌<◌, ◌≤◌, Bool, true, false, List, length, Result, Ok, Err, IfOk, refl, sym}
use Rattle.std.proofs.Common.{subst, arith}
use Rattle.xdr_grammar.specs.Grammar.{done}
use Rattle.xdr_grammar.specs.Choices.{either, in_case}
use Rattle.xdr_grammar.specs.Laws.{AreBytes}
use Rattle.nfs3_types.specs.declared.body.Body.TheVariants.{Null}
use Rattle.nfs3_types.specs.declared.procedure.Procedure.{Procedure}
use Rattle.nfs3_types.specs.declared.reply.Reply.{Reply}
use Rattle.nfs3_types.specs.declared.status.Status.{Status}
use Rattle.nfs3_types.specs.Procedures.{procedure_at, has_status}
use Rattle.nfs3_types.specs.Replies.Outcome.{Success, Failure}
use Rattle.nfs3_types.specs.Replies.{Outcome, Refusal, success_in, failure_in, ok_body, refusal, is_ok, result_with_status}
use Rattle.nfs3_types.specs.Replies.{result, result_of, reply_of}
use Rattle.nfs3_types.proofs.ReplyLaws.{result_of-laws}
use Rattle.nfs3_res.specs.declared.fault.ResFault.{ResFault}
use Rattle.nfs3_res.specs.Reading.{IsReplyOf}
use Rattle.nfs3_res.specs.Spelled.{IsSpelled}
use Rattle.nfs3_res.proofs.Refusals.{fails_so}

-- ---- a failure

failed_status : (ok : Bool) (p : Procedure) (s : Status) (w : Refusal)
    → (either ok (in_case Success success_in (ok_body p)) (in_case (Failure s) failure_in (refusal p))).Fits (Failure s w)
    → ok ≡ false
failed_status true p s w f = let never = f.made in absurd cc
failed_status false p s w f = refl

-- a failure that was read is of a procedure that has a status
record HasFailed (p : Procedure) (s : Status) : Type 0 where
  has : has_status p ≡ true
  failed : is_ok s ≡ false

has_failed : (has : Bool) (p : Procedure) (s : Status) (w : Refusal) → has_status p ≡ has
    → (either has (result_with_status p) (done (Success Null))).Fits (Failure s w) → HasFailed p s
unfolding result_with_status
has_failed true p s w e f = record { has = e; failed = failed_status (is_ok s) p s w f.second }
has_failed false p s w e f = let never : Failure s w ≡ Success Null = f in absurd cc

failure : (n : ℕ) (s : Status) (w : Refusal) → (result_of n).Fits (Failure s w) → HasFailed (procedure_at n) s
unfolding result_of result
failure n s w f = has_failed (has_status (procedure_at n)) (procedure_at n) s w refl f

-- ---- what was read

again : (p : ℕ) (text : List ℕ) (outcome : Outcome) → p ≤ 21 → AreBytes text → length text < 2 ^ 31 - 24
    → (result_of p).Spells outcome text → IsSpelled (reply_of p outcome)
again p text (Success b) le bytes short s = record {
  procedure_is = le;
  nothing = λ e. absurd cc;
  fits = (result_of-laws p).fits (Success b) text bytes s;
  short = omega (arith, (result_of-laws p).sized (Success b) text s);
}
again p text (Failure status w) le bytes short s =
    let f = failure p status w ((result_of-laws p).fits (Failure status w) text bytes s) in
    let so = fails_so p status f.has f.failed in
    record {
      procedure_is = le;
      nothing = λ _. refl;
      fits = rw f.failed so.fits;
      short = rw f.failed (omega (arith, so.short));
    }

pub read_spelled : (p : ℕ) (text : List ℕ) (r : Result Reply ResFault) → p ≤ 21 → AreBytes text
    → IfOk r (λ reply. IsReplyOf p text reply) → length text < 2 ^ 31 - 24 → IfOk r (λ reply. IsSpelled reply)
read_spelled p text (Ok reply) le bytes h short = subst IsSpelled (sym h.is) (again p text h.outcome le bytes short h.spelled)
read_spelled p text (Err e) le bytes h short = tt
