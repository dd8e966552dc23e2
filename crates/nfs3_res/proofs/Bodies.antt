-- What a result is of a reply that can be spelled, by cases of its procedure and status.
use Rattle.std.proofs.Common.{◌≡◌, ℕ, ◌+◌, Bool, true, false, List, ◌++◌, Option, Some, refl, sym, ap, subst, ◌∙◌}
use Rattle.std.specs.Prelude.{if◌then◌else◌}
use Rattle.xdr_grammar.specs.Grammar.{Grammar, done}
use Rattle.xdr_grammar.specs.Items.{word}
use Rattle.xdr_grammar.specs.Enumerations.{enumeration}
use Rattle.xdr_grammar.specs.Choices.{either, FitsCase}
use Rattle.nfs3_types.specs.declared.body.Body.{Body}
use Rattle.nfs3_types.specs.declared.body.Body.TheVariants.{Null}
use Rattle.nfs3_types.specs.declared.procedure.Procedure.{Procedure}
use Rattle.nfs3_types.specs.declared.procedure.Procedure.TheVariants as procedures
use Rattle.nfs3_types.specs.declared.reply.Reply.{Reply}
use Rattle.nfs3_types.specs.declared.status.Status.{Status}
use Rattle.nfs3_types.specs.declared.status.Status.TheVariants.{Ok as StatusOk}
use Rattle.nfs3_types.specs.Statuses.{status}
use Rattle.nfs3_types.specs.Procedures.{procedure_at, has_status}
use Rattle.nfs3_types.specs.Replies.Outcome.{Success, Failure}
use Rattle.nfs3_types.specs.Replies.{Outcome, Refusal, telling, refusal, nothing_in, nothing_told, ok_body, said_by, is_ok}
use Rattle.nfs3_types.specs.Replies.{result_with_status, result, result_of, outcome_of}
use Rattle.nfs3_res.specs.Spelled.{IsSpelled}

-- a body that is said by a procedure is of that procedure
pub fits_is : (p : Procedure) (b : Body) → (ok_body p).Fits b → p ≡ said_by b
unfolding ok_body
fits_is procedures.Null b f = ap said_by (sym f)
fits_is procedures.Mknod b f = absurd f
fits_is procedures.GetAttr b f = ap said_by (sym f.made)
fits_is procedures.SetAttr b f = ap said_by (sym f.made)
fits_is procedures.Lookup b f = ap said_by (sym f.made)
fits_is procedures.Access b f = ap said_by (sym f.made)
fits_is procedures.ReadLink b f = ap said_by (sym f.made)
fits_is procedures.Read b f = ap said_by (sym f.made)
fits_is procedures.Write b f = ap said_by (sym f.made)
fits_is procedures.Create b f = ap said_by (sym f.made)
fits_is procedures.Mkdir b f = ap said_by (sym f.made)
fits_is procedures.Symlink b f = ap said_by (sym f.made)
fits_is procedures.Remove b f = ap said_by (sym f.made)
fits_is procedures.Rmdir b f = ap said_by (sym f.made)
fits_is procedures.Rename b f = ap said_by (sym f.made)
fits_is procedures.Link b f = ap said_by (sym f.made)
fits_is procedures.ReadDir b f = ap said_by (sym f.made)
fits_is procedures.ReadDirPlus b f = ap said_by (sym f.made)
fits_is procedures.FsStat b f = ap said_by (sym f.made)
fits_is procedures.FsInfo b f = ap said_by (sym f.made)
fits_is procedures.PathConf b f = ap said_by (sym f.made)
fits_is procedures.Commit b f = ap said_by (sym f.made)

-- ---- by status

pub ok_status : (s : Status) → is_ok s ≡ true → s ≡ StatusOk
ok_status StatusOk h = refl
ok_status _ h = absurd cc

-- ---- a result in parts

pub status_long : (s : Status) → status.size s ≡ 4
unfolding status enumeration word
status_long s = refl

-- a result is its status and what stands behind it
pub record Parts (r : Reply) (behind : List ℕ) (long : ℕ) : Type 0 where
  pub text : (result_of r.procedure).spelling (outcome_of r) ≡ status.spelling r.status ++ behind
  pub size : (result_of r.procedure).size (outcome_of r) ≡ status.size r.status + long

-- the result of a procedure that has a status
pub with_status : (n : ℕ) → has_status (procedure_at n) ≡ true → result_of n ≡ result_with_status (procedure_at n)
unfolding result_of result
with_status n h = ap (λ (t : Bool). either t (result_with_status (procedure_at n)) (done (Success Null))) h

is_success : (r : Reply) → r.status ≡ StatusOk → outcome_of r ≡ Success r.body
is_success r h = ap (λ (s : Status). if is_ok s then Success r.body else Failure s (nothing_told r.procedure)) h

is_failure : (r : Reply) → is_ok r.status ≡ false → outcome_of r ≡ Failure r.status (nothing_told r.procedure)
is_failure r h = rw h refl

same_body : (b c : Body) → Success b ≡ Success c → b ≡ c
same_body b c e = cc

body_fits : (p : Procedure) (b : Body) → (result_with_status p).Fits (Success b) → (ok_body p).Fits b
unfolding result_with_status
body_fits p b f = subst (ok_body p).Fits (same_body f.second.value b (sym f.second.made)) f.second.fits

success_text : (p : Procedure) (b : Body) → (result_with_status p).spelling (Success b) ≡ status.spelling StatusOk
    ++ (ok_body p).spelling b
unfolding result_with_status
success_text p b = refl

success_size : (p : Procedure) (b : Body) → (result_with_status p).size (Success b) ≡ status.size StatusOk + (ok_body p).size b
unfolding result_with_status
success_size p b = refl

failure_text : (p : Procedure) (s : Status) (w : Refusal) → is_ok s ≡ false
    → (result_with_status p).spelling (Failure s w) ≡ status.spelling s ++ (refusal p).spelling w
unfolding result_with_status
failure_text p s w h = rw h refl

pub failure_size : (p : Procedure) (s : Status) (w : Refusal) → is_ok s ≡ false
    → (result_with_status p).size (Failure s w) ≡ status.size s + (refusal p).size w
unfolding result_with_status
failure_size p s w h = rw h refl

-- the grammar of what a reply of status OK says
said_fits : (r : Reply) → IsSpelled r → has_status (procedure_at r.procedure) ≡ true → r.status ≡ StatusOk
    → (ok_body (procedure_at r.procedure)).Fits r.body
said_fits r spelled has h =
    body_fits (procedure_at r.procedure) r.body
    (subst (λ (g : Grammar Outcome). g.Fits (Success r.body)) (with_status r.procedure has)
    (subst (result_of r.procedure).Fits (is_success r h) spelled.fits))

is_of : (r : Reply) → IsSpelled r → has_status (procedure_at r.procedure) ≡ true → r.status ≡ StatusOk
    → procedure_at r.procedure ≡ said_by r.body
is_of r spelled has h = fits_is (procedure_at r.procedure) r.body (said_fits r spelled has h)

pub success_fits : (r : Reply) → IsSpelled r → has_status (procedure_at r.procedure) ≡ true → is_ok r.status ≡ true
    → (ok_body (said_by r.body)).Fits r.body
success_fits r spelled has ok =
    let h = ok_status r.status ok in
    subst (λ (p : Procedure). (ok_body p).Fits r.body) (is_of r spelled has h) (said_fits r spelled has h)

pub success_parts : (r : Reply) → IsSpelled r → has_status (procedure_at r.procedure) ≡ true → is_ok r.status ≡ true
    → Parts r ((ok_body (said_by r.body)).spelling r.body) ((ok_body (said_by r.body)).size r.body)
success_parts r spelled has ok =
    let h = ok_status r.status ok in
    let p = procedure_at r.procedure in
    record {
      text = ap (λ (g : Grammar Outcome). g.spelling (outcome_of r)) (with_status r.procedure has)
          ∙ ap (result_with_status p).spelling (is_success r h)
          ∙ success_text p r.body ∙ ap (λ (s : Status). status.spelling s ++ (ok_body p).spelling r.body) (sym h)
          ∙ ap (λ (q : Procedure). status.spelling r.status ++ (ok_body q).spelling r.body) (is_of r spelled has h);
      size = ap (λ (g : Grammar Outcome). g.size (outcome_of r)) (with_status r.procedure has)
          ∙ ap (result_with_status p).size (is_success r h)
          ∙ success_size p r.body ∙ ap (λ (s : Status). status.size s + (ok_body p).size r.body) (sym h)
          ∙ ap (λ (q : Procedure). status.size r.status + (ok_body q).size r.body) (is_of r spelled has h);
    }

-- what a failure of a procedure says where it says nothing
abbrev pub silence : Procedure → Refusal
silence p = nothing_in (telling p)

pub failure_parts : (r : Reply) → has_status (procedure_at r.procedure) ≡ true → is_ok r.status ≡ false
    → Parts r ((refusal (procedure_at r.procedure)).spelling (silence (procedure_at r.procedure)))
    ((refusal (procedure_at r.procedure)).size (silence (procedure_at r.procedure)))
failure_parts r has h =
    let p = procedure_at r.procedure in
    record {
      text = ap (λ (g : Grammar Outcome). g.spelling (outcome_of r)) (with_status r.procedure has)
          ∙ ap (result_with_status p).spelling (is_failure r h)
          ∙ failure_text p r.status (silence p) h;
      size = ap (λ (g : Grammar Outcome). g.size (outcome_of r)) (with_status r.procedure has)
          ∙ ap (result_with_status p).size (is_failure r h)
          ∙ failure_size p r.status (silence p) h;
    }

-- ---- what is said by a body

abbrev some_of : {A : Type 0} → A → Option A
some_of a = Some a

same_some : {A : Type 0} (a b : A) → some_of a ≡ some_of b → a ≡ b
same_some a b e = cc

pub in_case_fits : {A B : Type 0} (make : B → A) (content : A → Option B) (g : Grammar B) (b : B)
    → ((x : B) → content (make x) ≡ Some x) → FitsCase make g (make b) → g.Fits b
in_case_fits make content g b back f = subst g.Fits (same_some f.value b (sym (back f.value) ∙ ap content (sym f.made) ∙ back b))
    f.fits
