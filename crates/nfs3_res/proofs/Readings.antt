-- What a reading of a whole result says of the text.
use Rattle.std.proofs.Common.{ℕ, List, Result, Ok, Err, IfOk, IfErr, sym, ap, ◌∙◌, inl, inr}
use Rattle.xdr_grammar.specs.declared.fault.XdrFault.{XdrFault}
use Rattle.xdr_grammar.specs.Grammar.{and_then}
use Rattle.xdr_grammar.specs.Whole.{whole}
use Rattle.xdr_grammar.proofs.Steps.{and_then-ok, and_then-err, ok_is}
use Rattle.xdr_grammar.proofs.Whole.{whole-laws}
use Rattle.nfs3_types.specs.declared.reply.Reply.{Reply}
use Rattle.nfs3_types.specs.Replies.{Outcome, result_of, reply_of}
use Rattle.nfs3_types.proofs.ReplyLaws.{result_of-laws}
use Rattle.nfs3_res.specs.declared.fault.ResFault.{ResFault}
use Rattle.nfs3_res.specs.declared.fault.ResFault.TheVariants as faults
use Rattle.nfs3_res.specs.Reading.{TellsWhole, reply_in, IsReplyOf, Answers, IsFaultOf}

-- the reply of an outcome
abbrev alone : ℕ → Outcome → Result Reply XdrFault
alone p outcome = Ok (reply_of p outcome)

pub tells_read : (p : ℕ) (text : List ℕ) (r : Result Reply ResFault) → TellsWhole (reply_in p text) r
    → IfOk r (λ reply. IsReplyOf p text reply)
tells_read p text (Ok reply) e =
    let x = and_then-ok (whole (result_of p) text) (alone p) reply e in
    record {
      outcome = x.0;
      spelled = (whole-laws (result_of p) (result_of-laws p)).found text x.0 x.1;
      is =
          sym (ok_is (reply_of p x.0) reply x.2);
    }
tells_read p text (Err e) h = tt

pub tells_only : (p : ℕ) (text : List ℕ) (r : Result Reply ResFault) → TellsWhole (reply_in p text) r
    → (outcome : Outcome) → (result_of p).Spells outcome text → Answers (reply_of p outcome) r
tells_only p text (Ok reply) e outcome s =
    ok_is reply (reply_of p outcome) (sym e
    ∙ ap (λ r. and_then r (alone p)) ((whole-laws (result_of p) (result_of-laws p)).again outcome text s))
tells_only p text (Err (faults.Bad fault)) e outcome s =
    let never = sym e ∙ ap (λ r. and_then r (alone p)) ((whole-laws (result_of p) (result_of-laws p)).again outcome text s) in
    absurd cc
tells_only p text (Err faults.NoMemory) e outcome s = tt

pub tells_bad : (p : ℕ) (text : List ℕ) (r : Result Reply ResFault) → TellsWhole (reply_in p text) r
    → IfErr r (λ e. IsFaultOf p text e)
tells_bad p text (Ok reply) e = tt
tells_bad p text (Err (faults.Bad fault)) e = elim (and_then-err (whole (result_of p) text) (alone p) fault e) [
  | inl here ↦ (whole-laws (result_of p) (result_of-laws p)).breaks text fault here
  | inr x ↦ let never = x.2 in absurd cc
]
tells_bad p text (Err faults.NoMemory) e = tt
