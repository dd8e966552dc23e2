-- What a failure that tells nothing is spelled as.
use Rattle.std.proofs.Common.{◌≡◌, ℕ, ◌≤◌, Bool, true, false, None, refl, arith}
use Rattle.xdr_grammar.specs.Items.{truth, word}
use Rattle.xdr_grammar.specs.Enumerations.{enumeration}
use Rattle.xdr_grammar.proofs.Fits.{none_fits}
use Rattle.nfs3_types.specs.declared.body.Body.TheVariants.{Nothing}
use Rattle.nfs3_types.specs.declared.procedure.Procedure.{Procedure}
use Rattle.nfs3_types.specs.declared.procedure.Procedure.TheVariants as procedures
use Rattle.nfs3_types.specs.declared.reply.Reply.{Reply}
use Rattle.nfs3_types.specs.declared.status.Status.{Status}
use Rattle.nfs3_types.specs.declared.status.Status.TheVariants.{Ok as StatusOk}
use Rattle.nfs3_types.specs.Statuses.{status}
use Rattle.nfs3_types.specs.Procedures.{procedure_number, procedure_at, has_status}
use Rattle.nfs3_types.specs.Attributes.{post_op_attr, wcc_data, wcc_attr, fattr, pre_op_attr}
use Rattle.nfs3_types.specs.Replies.Outcome.{Failure}
use Rattle.nfs3_types.specs.Replies.Telling.{Nought, Attributes, BeforeAndAfter, OfRename, OfLink}
use Rattle.nfs3_types.specs.Replies.{rename_ok, link_ok, absent, Telling, telling, told, nothing_in, nothing_told, is_ok}
use Rattle.nfs3_types.specs.Replies.{result_with_status, result_of, outcome_of}
use Rattle.nfs3_types.proofs.ProcedureLaws.{number-procedure_at}
use Rattle.nfs3_res.specs.Spelled.{IsSpelled}
use Rattle.nfs3_res.proofs.Bodies.{ok_status, status_long, with_status, failure_size, silence}

-- ---- where each optional item is absent

absent_post_fits : post_op_attr.Fits None
unfolding post_op_attr
absent_post_fits = none_fits fattr

absent_pre_fits : pre_op_attr.Fits None
unfolding pre_op_attr
absent_pre_fits = none_fits wcc_attr

absent_fits : wcc_data.Fits (record { before = None; after = None })
unfolding wcc_data
absent_fits = record { first = absent_pre_fits; second = record { first = absent_post_fits; second = refl } }

rename_fits : rename_ok.Fits (record {
  from = record { before = None; after = None };
  to =
      record { before = None; after = None };
})
unfolding rename_ok
rename_fits = record { first = absent_fits; second = record { first = absent_fits; second = refl } }

link_fits : link_ok.Fits (record { attributes = None; directory = record { before = None; after = None } })
unfolding link_ok
link_fits = record { first = absent_post_fits; second = record { first = absent_fits; second = refl } }

pub nothing_fits : (t : Telling) → (told t).Fits (nothing_in t)
unfolding told
nothing_fits Nought = refl
nothing_fits Attributes = record { value = None; made = refl; fits = absent_post_fits }
nothing_fits BeforeAndAfter = record { value = absent; made = refl; fits = absent_fits }
nothing_fits OfRename = record { value = record { from = absent; to = absent }; made = refl; fits = rename_fits }
nothing_fits OfLink = record { value = record { attributes = None; directory = absent }; made = refl; fits = link_fits }

pub nothing_short : (t : Telling) → (told t).size (nothing_in t) ≤ 16
unfolding told rename_ok link_ok wcc_data pre_op_attr post_op_attr truth word
nothing_short Nought = omega arith
nothing_short Attributes = omega arith
nothing_short BeforeAndAfter = omega arith
nothing_short OfRename = omega arith
nothing_short OfLink = omega arith

-- ---- a reply that failed, and tells nothing

abbrev pub bare : ℕ → Status → Reply
bare p s = record { procedure = p; status = s; body = Nothing }

status_fits : (s : Status) → status.Fits s
unfolding status enumeration word
status_fits StatusOk = record { first = record { fits = omega arith; passes = refl }; second = refl }
status_fits _ = record { first = record { fits = omega arith; passes = refl }; second = refl }

is_failed : (s : Status) → (s ≡ StatusOk → ⊥) → (ok : Bool) → is_ok s ≡ ok → ok ≡ false
is_failed s other true e = absurd (other (ok_status s e))
is_failed s other false e = refl

-- the result of a failure of this status that says nothing, where the procedure has a status
pub record FailsSo (n : ℕ) (s : Status) : Type 0 where
  pub fits : (result_of n).Fits (Failure s (nothing_told n))
  pub short : (result_of n).size (Failure s (nothing_told n)) ≤ 20

with_status_fits : (p : Procedure) (s : Status) → is_ok s ≡ false → (result_with_status p).Fits (Failure s (silence p))
unfolding result_with_status
with_status_fits p s failed = record {
  first = status_fits s;
  second =
      rw failed (record { value = silence p; made = refl; fits = nothing_fits (telling p) });
}

pub fails_so : (n : ℕ) (s : Status) → has_status (procedure_at n) ≡ true → is_ok s ≡ false → FailsSo n s
fails_so n s has failed = record {
  fits = rw (with_status n has) (with_status_fits (procedure_at n) s failed);
  short = rw (with_status n has) (omega (
    arith,
    failure_size (procedure_at n) s (silence (procedure_at n)) failed,
    status_long s,
    nothing_short (telling (procedure_at n)),
  ));
}

-- each procedure but that of number 0 has a status
named_has : (p : Procedure) → 1 ≤ procedure_number p → has_status p ≡ true
named_has procedures.Null h = absurd (omega (arith, h))
named_has _ h = refl

pub number_has : (n : ℕ) → 1 ≤ n → n ≤ 21 → has_status (procedure_at n) ≡ true
number_has n first last = named_has (procedure_at n) (omega (arith, first, number-procedure_at n last))

-- it has a spelling, and a short one
pub record IsBare (n : ℕ) (s : Status) : Type 0 where
  pub spelled : IsSpelled (bare n s)
  pub short : (result_of n).size (outcome_of (bare n s)) ≤ 20

pub is_bare : (n : ℕ) (s : Status) → 1 ≤ n → n ≤ 21 → (s ≡ StatusOk → ⊥) → IsBare n s
is_bare n s first last other =
    let failed : is_ok s ≡ false = is_failed s other (is_ok s) refl in
    let so = fails_so n s (number_has n first last) failed in
    record {
      spelled = record {
        procedure_is = last;
        nothing = λ _. refl;
        fits = rw failed so.fits;
        short =
            rw failed (omega (arith, so.short));
      };
      short = rw failed so.short;
    }
