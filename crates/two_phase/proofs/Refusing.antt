-- What a store answers where it refuses a Write or a Prepare.
use Rattle.std.proofs.Common.{◌≡◌, ℕ, ◌==◌, Bool, true, false, cond, List, [], ◌∷◌, Option, Some, None, is_some, refl, sym}
use Rattle.std.proofs.Common.{subst, unwrap_or}
use Rattle.std.specs.Prelude.{⊤}
use Rattle.pair_types.specs.declared.slot.Tid.{Tid}
use Rattle.nfs3_types.specs.declared.entry.Entry.{Entry}
use Rattle.page_types.specs.declared.hold.Hold.{Hold}
use Rattle.page_types.specs.declared.hold.WriteHold.{WriteHold}
use Rattle.page_types.specs.declared.outcome.Outcome.{Outcome}
use Rattle.page_types.specs.declared.outcome.Outcome.TheVariants.{Commit, Abort}
use Rattle.page_types.specs.declared.versions.PageRead.{PageRead}
use Rattle.page_types.specs.declared.versions.PageWrite.{PageWrite}
use Rattle.page_types.specs.declared.command.Transaction.{Transaction}
use Rattle.page_types.specs.declared.command.Part.{Part}
use Rattle.page_types.specs.declared.command.Command.TheVariants.{Write, Prepare}
use Rattle.page_types.specs.declared.answer.Answer.{Answer}
use Rattle.page_types.specs.declared.answer.Answer.TheVariants.{Decided, Ended, Prepared}
use Rattle.page_types.specs.Accesses.{is_same, written_at}
use Rattle.page_types.specs.Asked.{first_of, is_prepared}
use Rattle.page_types.specs.Stores.{StoreState}
use Rattle.page_types.specs.Obeys.{first_over, other_writer, other_reader, busy_reader, busy_at, busy, conflict_at, conflict}
use Rattle.page_types.specs.Obeys.{settled}
use Rattle.page_types.specs.Obeys.{decided_answer, write_refusal, write_answer, has_hold, own_hold, prepare_refusal}
use Rattle.page_types.specs.Ports.{IsAnswer}
use Rattle.two_phase.specs.Commits.{wrote_entry, refuses}

-- where there is an answer, it has the fact
abbrev Fits : (Answer → Type 0) → Option Answer → Type 0
Fits P None = ⊤
Fits P (Some a) = P a

module _ (P : Answer → Type 0) where
  fits_first : (a b : Option Answer) → Fits P a → Fits P b → Fits P (first_of a b)
  fits_first None b f g = g
  fits_first (Some x) b f g = f

  fits_over : (f : ℕ → ℕ → Option Answer) → ((n v : ℕ) → Fits P (f n v)) → (rs : List PageRead) → Fits P (first_over f rs)
  fits_over f h [] = tt
  fits_over f h (r ∷ rs) = fits_first (f r.number r.version) (first_over f rs) (h r.number r.version) (fits_over f h rs)

  fits_if : (b : Bool) (o : Option Answer) → Fits P o → Fits P (cond b o None)
  fits_if true o h = h
  fits_if false o h = tt

  fits_unless : (b : Bool) (o : Option Answer) → Fits P o → Fits P (cond b None o)
  fits_unless true o h = tt
  fits_unless false o h = h

abbrev Refuses : Answer → Type 0
Refuses a = refuses a ≡ true

settled_refuses : (s : StoreState) (tid : Tid) → Fits Refuses (settled s tid)
settled_refuses s tid =
    fits_first Refuses (decided_answer (s.decided tid)) (cond (s.ended tid) (Some Ended) None) (by (s.decided tid))
    (fits_if Refuses (s.ended tid) (Some Ended) refl)
  where
    by : (o : Option Outcome) → Fits Refuses (decided_answer o)
    by None = tt
    by (Some out) = refl

writer_refuses : (tid : Tid) (n : ℕ) (w : Option WriteHold) → Fits Refuses (other_writer tid n w)
writer_refuses tid n None = tt
writer_refuses tid n (Some w) = fits_unless Refuses (is_same w.hold.tid tid) _ refl

reader_refuses : (n : ℕ) (h : Option Hold) → Fits Refuses (busy_reader n h)
reader_refuses n None = tt
reader_refuses n (Some h) = refl

busy_refuses : (s : StoreState) (tid : Tid) (rs : List PageRead) (ws : List PageWrite) → Fits Refuses (busy s tid rs ws)
busy_refuses s tid rs ws = fits_over Refuses (λ n v. busy_at tid ws n (s.slot n)) (λ n v.
    fits_first Refuses (other_writer tid n (s.slot n).writer)
    (cond (is_some (written_at ws n)) (busy_reader n (other_reader tid (s.slot n).readers)) None)
    (writer_refuses tid n (s.slot n).writer)
    (fits_if Refuses (is_some (written_at ws n)) (busy_reader n (other_reader tid (s.slot n).readers))
    (reader_refuses n (other_reader tid (s.slot n).readers)))) rs

conflict_refuses : (s : StoreState) (rs : List PageRead) → Fits Refuses (conflict s rs)
conflict_refuses s rs = fits_over Refuses (λ n v. conflict_at n v (s.slot n))
    (λ n v. fits_unless Refuses ((s.slot n).version == v) _ refl) rs

-- ## Writes

write_refuses : (served : Option Entry) (r : Option Answer) → Fits Refuses r → wrote_entry served (write_answer r) ≡ None →
    refuses (write_answer r) ≡ true
write_refuses served None f h = absurd cc
write_refuses served (Some (Decided (Commit e))) f h = absurd cc
write_refuses served (Some (Decided Abort)) f h = refl
write_refuses served (Some a) f h = f

pub refused_write_is : (n : ℕ) (x : Transaction) (a : Answer) (served : Option Entry) → IsAnswer n (Write x) a →
    wrote_entry served a ≡ None → refuses a ≡ true
refused_write_is n x a served g h =
    subst (λ (b : Answer). refuses b ≡ true) g.given
    (write_refuses served (write_refusal g.state x)
    (fits_first Refuses (settled g.state x.tid) _ (settled_refuses g.state x.tid)
    (fits_first Refuses (busy g.state x.tid x.reads x.writes) (conflict g.state x.reads)
    (busy_refuses g.state x.tid x.reads x.writes) (conflict_refuses g.state x.reads)))
    (subst (λ (b : Answer). wrote_entry served b ≡ None) (sym g.given) h))

-- ## Prepares

abbrev PreparedOr : Answer → Type 0
PreparedOr a = is_prepared a ≡ false → refuses a ≡ true

or_refuses : (o : Option Answer) → Fits Refuses o → Fits PreparedOr o
or_refuses None f = tt
or_refuses (Some a) f = λ unprepared. f

unwrap_refuses : (o : Option Answer) → Fits PreparedOr o → is_prepared (unwrap_or o Prepared) ≡ false →
    refuses (unwrap_or o Prepared) ≡ true
unwrap_refuses None f h = absurd cc
unwrap_refuses (Some a) f h = f h

own_fits : (s : StoreState) (tid : Tid) (rs : List PageRead) → Fits PreparedOr (own_hold s tid rs)
own_fits s tid rs = fits_over PreparedOr (λ n v. cond (has_hold tid (s.slot n)) (Some Prepared) None)
    (λ n v. fits_if PreparedOr (has_hold tid (s.slot n)) (Some Prepared) (λ h. absurd cc)) rs

pub refused_prepare_is : (n : ℕ) (part : Part) (a : Answer) → IsAnswer n (Prepare part) a → is_prepared a ≡ false →
    refuses a ≡ true
refused_prepare_is n part a g h =
    subst (λ (b : Answer). refuses b ≡ true) g.given
    (unwrap_refuses (prepare_refusal g.state part)
    (fits_first PreparedOr (settled g.state part.tid) _ (or_refuses (settled g.state part.tid) (settled_refuses g.state part.tid))
    (fits_first PreparedOr (own_hold g.state part.tid part.reads) _ (own_fits g.state part.tid part.reads)
    (fits_first PreparedOr (busy g.state part.tid part.reads part.writes) (conflict g.state part.reads)
    (or_refuses (busy g.state part.tid part.reads part.writes) (busy_refuses g.state part.tid part.reads part.writes))
    (or_refuses (conflict g.state part.reads) (conflict_refuses g.state part.reads)))))
    (subst (λ (b : Answer). is_prepared b ≡ false) (sym g.given) h))
