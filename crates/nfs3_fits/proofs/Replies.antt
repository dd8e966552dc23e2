-- A reply of this shape is spelled where its body has a spelling.
use Rattle.std.proofs.Common.{◌≡◌, ℕ, ◌+◌, ◌≤◌, Bool, true, false, refl, ap, ◌∙◌, arith}
use Rattle.xdr_grammar.specs.Items.{word}
use Rattle.xdr_grammar.specs.Enumerations.{enumeration}
use Rattle.nfs3_types.specs.declared.body.Body.{Body}
use Rattle.nfs3_types.specs.declared.body.Body.TheVariants.{Null, GetAttr, SetAttr, Lookup, Access, ReadLink, Read, Write, Create}
use Rattle.nfs3_types.specs.declared.body.Body.TheVariants.{Mkdir, Symlink, Remove, Rmdir, Rename, Link, ReadDir, ReadDirPlus}
use Rattle.nfs3_types.specs.declared.body.Body.TheVariants.{FsStat, FsInfo, PathConf, Commit, Nothing}
use Rattle.nfs3_types.specs.declared.procedure.Procedure.{Procedure}
use Rattle.nfs3_types.specs.declared.reply.Reply.{Reply}
use Rattle.nfs3_types.specs.declared.status.Status.TheVariants.{Ok as StatusOk}
use Rattle.nfs3_types.specs.Statuses.{status}
use Rattle.nfs3_types.specs.Procedures.{procedure_number, procedure_named, has_status}
use Rattle.nfs3_types.specs.Replies.Outcome.{Success}
use Rattle.nfs3_types.specs.Replies.{ok_body, said_by, is_ok, result_with_status, result, result_of, outcome_of}
use Rattle.nfs3_types.proofs.ProcedureLaws.{procedure_at-number}
use Rattle.nfs3_res.specs.Spelled.{procedure_in, IsSpelled}
use Rattle.nfs3_res.proofs.Bodies.{status_long, with_status}
use Rattle.nfs3_res.proofs.Refusals.{FailsSo, fails_so, number_has}
use Rattle.nfs3_fits.specs.Shape.{IsWithin, IsBodyOf, IsFailure, Says, HasShape}
use Rattle.nfs3_fits.proofs.Sizes.{body_small}

status_fits : status.Fits StatusOk
unfolding status enumeration word
status_fits = record { first = record { fits = omega arith; passes = refl }; second = refl }

-- ---- of status OK

-- the result of a procedure that has a status, by its number
result_named : (p : Procedure) → has_status p ≡ true → result_of (procedure_number p) ≡ result_with_status p
result_named p has = with_status (procedure_number p) (ap has_status (procedure_at-number p) ∙ has)
    ∙ ap result_with_status (procedure_at-number p)

ok_fits : (p : Procedure) (b : Body) → (ok_body p).Fits b → (result_with_status p).Fits (Success b)
unfolding result_with_status
ok_fits p b fits = record { first = status_fits; second = record { value = b; made = refl; fits = fits } }

ok_size : (p : Procedure) (b : Body) → (result_with_status p).size (Success b) ≡ status.size StatusOk + (ok_body p).size b
unfolding result_with_status
ok_size p b = refl

-- a body that is said has a spelling, and not a long one
record IsSaid (n : ℕ) (b : Body) : Type 0 where
  last : n ≤ 21
  short : (result_of n).size (Success b) ≤ 43802
  fits : (ok_body (said_by b)).Fits b → (result_of n).Fits (Success b)

said : (b : Body) → has_status (said_by b) ≡ true → procedure_in b ≤ 21 → (ok_body (said_by b)).size b ≤ 43798
    → IsSaid (procedure_in b) b
said b has last short =
    let is = result_named (said_by b) has in
    record {
      last = last;
      short = rw is (omega (arith, ok_size (said_by b) b, status_long StatusOk, short));
      fits = λ f. rw is (ok_fits (said_by b) b f);
    }

said_null : IsSaid 0 Null
unfolding result_of result procedure_named
said_null = record { last = omega arith; short = omega arith; fits = λ f. refl }

said_body : (b : Body) → IsWithin b → IsSaid (procedure_in b) b
said_body Null w = said_null
said_body Nothing w = absurd w
said_body (GetAttr ok) w = said (GetAttr ok) refl (omega arith) (body_small (GetAttr ok) w)
said_body (SetAttr ok) w = said (SetAttr ok) refl (omega arith) (body_small (SetAttr ok) w)
said_body (Lookup ok) w = said (Lookup ok) refl (omega arith) (body_small (Lookup ok) w)
said_body (Access ok) w = said (Access ok) refl (omega arith) (body_small (Access ok) w)
said_body (ReadLink ok) w = said (ReadLink ok) refl (omega arith) (body_small (ReadLink ok) w)
said_body (Read ok) w = said (Read ok) refl (omega arith) (body_small (Read ok) w)
said_body (Write ok) w = said (Write ok) refl (omega arith) (body_small (Write ok) w)
said_body (Create ok) w = said (Create ok) refl (omega arith) (body_small (Create ok) w)
said_body (Mkdir ok) w = said (Mkdir ok) refl (omega arith) (body_small (Mkdir ok) w)
said_body (Symlink ok) w = said (Symlink ok) refl (omega arith) (body_small (Symlink ok) w)
said_body (Remove ok) w = said (Remove ok) refl (omega arith) (body_small (Remove ok) w)
said_body (Rmdir ok) w = said (Rmdir ok) refl (omega arith) (body_small (Rmdir ok) w)
said_body (Rename ok) w = said (Rename ok) refl (omega arith) (body_small (Rename ok) w)
said_body (Link ok) w = said (Link ok) refl (omega arith) (body_small (Link ok) w)
said_body (ReadDir ok) w = said (ReadDir ok) refl (omega arith) (body_small (ReadDir ok) w)
said_body (ReadDirPlus ok) w = said (ReadDirPlus ok) refl (omega arith) (body_small (ReadDirPlus ok) w)
said_body (FsStat ok) w = said (FsStat ok) refl (omega arith) (body_small (FsStat ok) w)
said_body (FsInfo ok) w = said (FsInfo ok) refl (omega arith) (body_small (FsInfo ok) w)
said_body (PathConf ok) w = said (PathConf ok) refl (omega arith) (body_small (PathConf ok) w)
said_body (Commit ok) w = said (Commit ok) refl (omega arith) (body_small (Commit ok) w)

-- ---- of any status

said_ok : (r : Reply) → IsBodyOf r.procedure r.body → IsSaid r.procedure r.body
said_ok r shape = rw shape.is (said_body r.body shape.within)

spelled_ok : (r : Reply) → is_ok r.status ≡ true → IsBodyOf r.procedure r.body → (ok_body (said_by r.body)).Fits r.body
    → IsSpelled r
spelled_ok r ok shape fits =
    let s = said_ok r shape in
    record { procedure_is = s.last; nothing = λ e. absurd cc; fits = rw ok (s.fits fits); short = rw ok (omega (arith, s.short)) }

failed_so : (r : Reply) → is_ok r.status ≡ false → IsFailure r.procedure r.body → FailsSo r.procedure r.status
failed_so r failed shape = fails_so r.procedure r.status (number_has r.procedure shape.status.first shape.status.last) failed

spelled_failed : (r : Reply) → is_ok r.status ≡ false → IsFailure r.procedure r.body → IsSpelled r
spelled_failed r failed shape =
    let so = failed_so r failed shape in
    record {
      procedure_is = shape.status.last;
      nothing = λ _. shape.nothing;
      fits = rw failed so.fits;
      short =
          rw failed (omega (arith, so.short));
    }

by_status : (r : Reply) (ok : Bool) → is_ok r.status ≡ ok → Says ok r.procedure r.body
    → (is_ok r.status ≡ true → (ok_body (said_by r.body)).Fits r.body) → IsSpelled r
by_status r true e shape fits = spelled_ok r e shape (fits e)
by_status r false e shape fits = spelled_failed r e shape

pub spelled_by : (r : Reply) → HasShape r → (is_ok r.status ≡ true → (ok_body (said_by r.body)).Fits r.body) → IsSpelled r
spelled_by r shape fits = by_status r (is_ok r.status) refl shape fits

-- ---- how long it is

short_by : (r : Reply) (ok : Bool) → is_ok r.status ≡ ok → Says ok r.procedure r.body
    → (result_of r.procedure).size (outcome_of r) ≤ 44000
short_by r true e shape = let s = said_ok r shape in rw e (omega (arith, s.short))
short_by r false e shape = let so = failed_so r e shape in rw e (omega (arith, so.short))

pub reply_short : (r : Reply) → HasShape r → (result_of r.procedure).size (outcome_of r) ≤ 44000
reply_short r shape = short_by r (is_ok r.status) refl shape
