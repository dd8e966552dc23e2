-- Answers name stores that are there, and numbers are not used up.
use Rattle.std.proofs.Common.{arith, ◌≡◌, ◌≢◌, ℕ, ◌+◌, ◌^◌, ◌<◌, ◌≤◌, ◌==◌, Bool, true, false, cond, List, [], ◌∷◌, length}
use Rattle.std.proofs.Common.{Option, Some, None, refl, sym, ap, subst, ◌∙◌}
use Rattle.std.specs.Prelude.{⊤, if◌then◌else◌, is_some, unwrap_or}
use Rattle.pair_types.specs.declared.slot.Tid.{Tid}
use Rattle.page_types.specs.declared.hold.Hold.{Hold}
use Rattle.page_types.specs.declared.hold.WriteHold.{WriteHold}
use Rattle.page_types.specs.declared.outcome.Outcome.{Outcome}
use Rattle.page_types.specs.declared.outcome.Outcome.TheVariants.{Commit, Abort}
use Rattle.page_types.specs.declared.versions.PageRead.{PageRead}
use Rattle.page_types.specs.declared.versions.PageWrite.{PageWrite}
use Rattle.page_types.specs.declared.command.Transaction.{Transaction}
use Rattle.page_types.specs.declared.command.Command.{Command}
use Rattle.page_types.specs.declared.command.Command.TheVariants.{Fresh, Read, Look, Write, Prepare, Decide, Resolve}
use Rattle.page_types.specs.declared.answer.Answer.{Answer}
use Rattle.page_types.specs.declared.answer.Answer.TheVariants as answer
use Rattle.page_types.specs.Accesses.{is_same, written_at}
use Rattle.page_types.specs.Asked.{first_of}
use Rattle.page_types.specs.Ports.{IsWithin}
use Rattle.page_types.specs.Stores.{Kept, StoreState, first_state}
use Rattle.page_types.specs.Obeys.{answer_of, busy, busy_at, busy_by, busy_reader, other_reader, other_writer, sooner}
use Rattle.page_types.specs.Obeys.{is_before, conflict, conflict_at, settled, decided_answer, first_over, first_held, held_by}
use Rattle.page_types.specs.Obeys.{has_hold, own_hold, page_answer, look_answer, versions_of, write_refusal, prepare_refusal}
use Rattle.page_types.specs.Obeys.{write_answer, refused_write, as_wrote}
use Rattle.fabric.specs.Within.{IsHoldWithin, AreReadersWithin, IsWriterWithin, AreWithin}

module _ (stores : ℕ) where
  abbrev MaybeWithin : Option Answer → Type 0
  MaybeWithin None = ⊤
  MaybeWithin (Some a) = IsWithin stores a

  abbrev MaybeHold : Option Hold → Type 0
  MaybeHold None = ⊤
  MaybeHold (Some hold) = IsHoldWithin stores hold

  first_within : (a b : Option Answer) → MaybeWithin a → MaybeWithin b → MaybeWithin (first_of a b)
  first_within None b ha hb = hb
  first_within (Some x) b ha hb = ha

  over_within : (f : ℕ → ℕ → Option Answer) → ((n v : ℕ) → MaybeWithin (f n v)) → (reads : List PageRead) →
      MaybeWithin (first_over f reads)
  over_within f h [] = tt
  over_within f h (r ∷ rs) = first_within (f r.number r.version) (first_over f rs) (h r.number r.version) (over_within f h rs)

  unwrapped : (a : Option Answer) (b : Answer) → MaybeWithin a → IsWithin stores b → IsWithin stores (unwrap_or a b)
  unwrapped None b ha hb = hb
  unwrapped (Some x) b ha hb = ha

  busy_within : (n : ℕ) (hold : Hold) → IsHoldWithin stores hold → IsWithin stores (busy_by n hold)
  busy_within n hold h = (h.home, h.parts)

  writer_within : (tid : Tid) (n : ℕ) (w : Option WriteHold) → IsWriterWithin stores w → MaybeWithin (other_writer tid n w)
  writer_within tid n None h = tt
  writer_within tid n (Some w) h = by_own (is_same w.hold.tid tid)
    where
      by_own : (b : Bool) → MaybeWithin (if b then None else Some (busy_by n w.hold))
      by_own true = tt
      by_own false = busy_within n w.hold h

  sooner_within : (hold : Hold) (o : Option Hold) → IsHoldWithin stores hold → MaybeHold o → IsHoldWithin stores (sooner hold o)
  sooner_within hold None h k = h
  sooner_within hold (Some other) h k = by_order (is_before other.tid hold.tid)
    where
      by_order : (b : Bool) → IsHoldWithin stores (if b then other else hold)
      by_order true = k
      by_order false = h

  soonest : (b : Bool) (tid : Tid) (hold : Hold) (holds : List Hold) → IsHoldWithin stores hold →
      MaybeHold (other_reader tid holds) →
      MaybeHold (if b then other_reader tid holds else Some (sooner hold (other_reader tid holds)))
  soonest true tid hold holds h hs = hs
  soonest false tid hold holds h hs = sooner_within hold (other_reader tid holds) h hs

  reader_within : (tid : Tid) (holds : List Hold) → AreReadersWithin stores holds → MaybeHold (other_reader tid holds)
  reader_within tid [] h = tt
  reader_within tid (hold ∷ holds) h = soonest (is_same hold.tid tid) tid hold holds h.0 (reader_within tid holds h.1)

  busy_reader_within : (n : ℕ) (o : Option Hold) → MaybeHold o → MaybeWithin (busy_reader n o)
  busy_reader_within n None h = tt
  busy_reader_within n (Some hold) h = busy_within n hold h

  either_within : (b : Bool) (a : Option Answer) → MaybeWithin a → MaybeWithin (if b then a else None)
  either_within true a h = h
  either_within false a h = tt

  busy_at_within : (tid : Tid) (writes : List PageWrite) (n : ℕ) (kept : Kept) → AreReadersWithin stores kept.readers →
      IsWriterWithin stores kept.writer → MaybeWithin (busy_at tid writes n kept)
  busy_at_within tid writes n kept r w =
      first_within (other_writer tid n kept.writer) (if is_some (written_at writes n) then busy_reader n
      (other_reader tid kept.readers) else None)
      (writer_within tid n kept.writer w)
      (either_within (is_some (written_at writes n)) (busy_reader n (other_reader tid kept.readers))
      (busy_reader_within n (other_reader tid kept.readers) (reader_within tid kept.readers r)))

  conflict_at_within : (n v : ℕ) (kept : Kept) → MaybeWithin (conflict_at n v kept)
  conflict_at_within n v kept = by_version (kept.version == v)
    where
      by_version : (b : Bool) → MaybeWithin (if b then None else Some (answer.Conflict n kept.version kept.by))
      by_version true = tt
      by_version false = tt

  decided_within : (o : Option Outcome) → MaybeWithin (decided_answer o)
  decided_within None = tt
  decided_within (Some o) = tt

  ended_within : (b : Bool) → MaybeWithin (if b then Some answer.Ended else None)
  ended_within true = tt
  ended_within false = tt

  prepared_within : (b : Bool) → MaybeWithin (if b then Some answer.Prepared else None)
  prepared_within true = tt
  prepared_within false = tt

  -- over a state whose holds are of stores that are there
  module _ (s : StoreState) (w : AreWithin stores s) where
    settled_within : (tid : Tid) → MaybeWithin (settled s tid)
    settled_within tid = first_within (decided_answer (s.decided tid)) (if s.ended tid then Some answer.Ended else None)
        (decided_within (s.decided tid)) (ended_within (s.ended tid))

    are_busy_within : (tid : Tid) (reads : List PageRead) (writes : List PageWrite) → MaybeWithin (busy s tid reads writes)
    are_busy_within tid reads writes = over_within (λ n v. busy_at tid writes n (s.slot n))
        (λ n v. busy_at_within tid writes n (s.slot n) (w.readers n) (w.writer n)) reads

    are_conflict_within : (reads : List PageRead) → MaybeWithin (conflict s reads)
    are_conflict_within reads = over_within (λ n v. conflict_at n v (s.slot n)) (λ n v. conflict_at_within n v (s.slot n)) reads

    own_within : (tid : Tid) (reads : List PageRead) → MaybeWithin (own_hold s tid reads)
    own_within tid reads = over_within (λ n v. if has_hold tid (s.slot n) then Some answer.Prepared else None)
        (λ n v. prepared_within (has_hold tid (s.slot n))) reads

    held_within : (n : ℕ) (o : Option WriteHold) → IsWriterWithin stores o → MaybeWithin (held_by n o)
    held_within n None h = tt
    held_within n (Some h) k = busy_within n h.hold k

    first_held_within : (ns : List ℕ) → MaybeWithin (first_held s ns)
    first_held_within [] = tt
    first_held_within (n ∷ ns) = first_within (held_by n (s.slot n).writer) (first_held s ns)
        (held_within n (s.slot n).writer (w.writer n))
        (first_held_within ns)

    page_within : (n : ℕ) (kept : Kept) (o : Option WriteHold) → IsWriterWithin stores o → IsWithin stores (page_answer n kept o)
    page_within n kept None h = tt
    page_within n kept (Some h) k = busy_within n h.hold k

    wrote_within : (o : Outcome) → IsWithin stores (as_wrote o)
    wrote_within (Commit e) = tt
    wrote_within Abort = tt

    refused_within : (a : Answer) → IsWithin stores a → IsWithin stores (refused_write a)
    refused_within (answer.Decided o) h = wrote_within o
    refused_within (answer.Fresh n) h = h
    refused_within (answer.Busy n tid home parts) h = h
    refused_within (answer.Page v c) h = h
    refused_within (answer.Versions vs) h = h
    refused_within answer.Wrote h = h
    refused_within answer.Ended h = h
    refused_within (answer.Conflict n v by) h = h
    refused_within answer.Prepared h = h
    refused_within answer.Resolved h = h

    write_within : (o : Option Answer) → MaybeWithin o → IsWithin stores (write_answer o)
    write_within None h = tt
    write_within (Some a) h = refused_within a h

    pub answer_within : (c : Command) → s.next ≤ 2 ^ 62 → IsWithin stores (answer_of s c)
    answer_within Fresh h = h
    answer_within (Read n) h = page_within n (s.slot n) (s.slot n).writer (w.writer n)
    answer_within (Look ns) h = unwrapped (first_held s ns) (answer.Versions (versions_of s ns)) (first_held_within ns) tt
    answer_within (Write x) h = write_within (write_refusal s x)
        (first_within (settled s x.tid) (first_of (busy s x.tid x.reads x.writes) (conflict s x.reads)) (settled_within x.tid)
        (first_within (busy s x.tid x.reads x.writes) (conflict s x.reads) (are_busy_within x.tid x.reads x.writes)
        (are_conflict_within x.reads)))
    answer_within (Prepare part) h = unwrapped (prepare_refusal s part) answer.Prepared
        (first_within (settled s part.tid)
        (first_of (own_hold s part.tid part.reads) (first_of (busy s part.tid part.reads part.writes) (conflict s part.reads)))
        (settled_within part.tid)
        (first_within (own_hold s part.tid part.reads) (first_of (busy s part.tid part.reads part.writes) (conflict s part.reads))
        (own_within part.tid part.reads)
        (first_within (busy s part.tid part.reads part.writes) (conflict s part.reads)
        (are_busy_within part.tid part.reads part.writes) (are_conflict_within part.reads))))
        tt
    answer_within (Decide d) h = tt
    answer_within (Resolve r) h = tt
