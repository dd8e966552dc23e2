-- Holds stay those of stores that are there.
use Rattle.std.proofs.Common.{◌≡◌, ℕ, ◌<◌, Bool, true, false, cond, List, [], ◌∷◌, Option, Some, None, refl, sym, subst}
use Rattle.std.specs.Prelude.{if◌then◌else◌}
use Rattle.pair_types.specs.declared.slot.Tid.{Tid}
use Rattle.page_types.specs.declared.hold.Hold.{Hold}
use Rattle.page_types.specs.declared.hold.WriteHold.{WriteHold}
use Rattle.page_types.specs.declared.outcome.Outcome.{Outcome}
use Rattle.page_types.specs.declared.command.Transaction.{Transaction}
use Rattle.page_types.specs.declared.command.Part.{Part}
use Rattle.page_types.specs.declared.command.Command.{Command}
use Rattle.page_types.specs.declared.command.Command.TheVariants.{Fresh, Read, Look, Write, Prepare, Decide, Resolve}
use Rattle.page_types.specs.declared.answer.Answer.{Answer}
use Rattle.page_types.specs.Accesses.{is_same, read_at, written_at}
use Rattle.page_types.specs.Stores.{Kept, StoreState}
use Rattle.page_types.specs.Obeys.{after, after_write, after_prepare, after_decide, write_refusal, prepare_refusal, written}
use Rattle.page_types.specs.Obeys.{holding, hold_of, releasing, resolving, without}
use Rattle.fabric.specs.Within.{IsHoldWithin, AreReadersWithin, IsWriterWithin, AreWithin, IsCommandWithin}

module _ (stores : ℕ) where
  kept_or_not : (b : Bool) (tid : Tid) (hold : Hold) (holds : List Hold) → IsHoldWithin stores hold →
      AreReadersWithin stores (without tid holds) →
      AreReadersWithin stores (if b then without tid holds else hold ∷ without tid holds)
  kept_or_not true tid hold holds h hs = hs
  kept_or_not false tid hold holds h hs = (h, hs)

  without_within : (tid : Tid) (holds : List Hold) → AreReadersWithin stores holds → AreReadersWithin stores (without tid holds)
  without_within tid [] h = tt
  without_within tid (hold ∷ holds) h =
      kept_or_not (is_same hold.tid tid) tid hold holds h.0 (without_within tid holds h.1)

  -- of one page
  record IsKeptWithin (kept : Kept) : Type 0 where
    readers : AreReadersWithin stores kept.readers
    writer : IsWriterWithin stores kept.writer

  at_page : (s : StoreState) → AreWithin stores s → (n : ℕ) → IsKeptWithin (s.slot n)
  at_page s w n = record { readers = w.readers n; writer = w.writer n }

  written_within : (tid : Tid) (page : Option (List ℕ)) (kept : Kept) → IsKeptWithin kept → IsKeptWithin (written tid page kept)
  written_within tid None kept k = k
  written_within tid (Some page) kept k = record { readers = k.readers; writer = k.writer }

  holding_within : (hold : Hold) (page : Option (List ℕ)) (version : Option ℕ) (kept : Kept) → IsHoldWithin stores hold →
      IsKeptWithin kept →
      IsKeptWithin (holding hold page version kept)
  holding_within hold (Some page) version kept h k = record { readers = k.readers; writer = h }
  holding_within hold None (Some version) kept h k = record { readers = (h, k.readers); writer = k.writer }
  holding_within hold None None kept h k = k

  released_within : (tid : Tid) (own commit : Bool) (content : List ℕ) (kept : Kept) → IsKeptWithin kept →
      IsKeptWithin (if own then releasing tid commit content kept else record kept { readers = without tid kept.readers })
  released_within tid true true content kept k = record { readers = without_within tid kept.readers k.readers; writer = tt }
  released_within tid true false content kept k = record { readers = without_within tid kept.readers k.readers; writer = tt }
  released_within tid false commit content kept k = record
      { readers = without_within tid kept.readers k.readers; writer = k.writer }

  resolving_within : (tid : Tid) (commit : Bool) (w : Option WriteHold) (kept : Kept) → IsKeptWithin kept →
      IsKeptWithin (resolving tid commit w kept)
  resolving_within tid commit None kept k = record { readers = without_within tid kept.readers k.readers; writer = k.writer }
  resolving_within tid commit (Some w) kept k = released_within tid (is_same w.hold.tid tid) commit w.content kept k

  all_pages : (s : StoreState) → ((n : ℕ) → IsKeptWithin (s.slot n)) → AreWithin stores s
  all_pages s k = record { readers = λ n. (k n).readers; writer = λ n. (k n).writer }

  wrote : (refusal : Option Answer) (s : StoreState) (x : Transaction) → AreWithin stores s →
      AreWithin stores (after_write refusal s x)
  wrote (Some a) s x w = w
  wrote None s x w = all_pages (after_write None s x)
      (λ n. written_within x.tid (written_at x.writes n) (s.slot n) (at_page s w n))

  prepared : (refusal : Option Answer) (s : StoreState) (part : Part) → IsHoldWithin stores (hold_of part) → AreWithin stores s →
      AreWithin stores (after_prepare refusal s part)
  prepared (Some a) s part h w = w
  prepared None s part h w = all_pages (after_prepare None s part)
      (λ n. holding_within (hold_of part) (written_at part.writes n) (read_at part.reads n) (s.slot n) h (at_page s w n))

  decided : (o : Option Outcome) (s : StoreState) (tid : Tid) (p : Outcome) → AreWithin stores s →
      AreWithin stores (after_decide o s tid p)
  decided (Some a) s tid p w = w
  decided None s tid p w = record { readers = w.readers; writer = w.writer }

  -- a command that asks for holds of stores that are there
  pub after_within : (s : StoreState) (command : Command) → IsCommandWithin stores command → AreWithin stores s →
      AreWithin stores (after s command)
  after_within s Fresh c w = record { readers = w.readers; writer = w.writer }
  after_within s (Read number) c w = w
  after_within s (Look numbers) c w = w
  after_within s (Write x) c w = wrote (write_refusal s x) s x w
  after_within s (Prepare part) c w = prepared (prepare_refusal s part) s part c w
  after_within s (Decide d) c w = decided (s.decided d.tid) s d.tid d.outcome w
  after_within s (Resolve r) c w = all_pages (after s (Resolve r))
      (λ n. resolving_within r.tid r.commit (s.slot n).writer (s.slot n) (at_page s w n))
