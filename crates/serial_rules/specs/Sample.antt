-- A small journal, to see that lawful ones are there: two stores, a transaction over both, its holds, a command that is
-- settled late, and a call in the history.
use Rattle.std.specs.Prelude.{◌≡◌, ℕ, Bool, true, false, List, [], ◌∷◌, Some}
use Rattle.std.specs.List.{list_any}
use Rattle.pair_types.specs.declared.slot.Tid.{Tid}
use Rattle.pair_types.specs.PageMaps.{PageMap}
use Rattle.nfs3_types.specs.declared.entry.Entry.{Entry}
use Rattle.nfs3_types.specs.declared.call.CallOver.TheVariants.{Null}
use Rattle.nfs3_types.specs.declared.status.Status.TheVariants.{Ok}
use Rattle.nfs3_types.specs.declared.body.Body.TheVariants.{Nothing}
use Rattle.page_types.specs.declared.outcome.Outcome.TheVariants.{Commit}
use Rattle.page_types.specs.declared.command.Part.{Part}
use Rattle.page_types.specs.declared.command.Command.{Command}
use Rattle.page_types.specs.declared.command.Command.TheVariants.{Read, Prepare, Decide}
use Rattle.page_types.specs.declared.answer.Answer.TheVariants.{Prepared, Decided, Busy}
use Rattle.page_types.specs.declared.journal.JEntry.{JEntry}
use Rattle.page_types.specs.declared.journal.JEntry.TheVariants.{Took, Doubted, Late}
use Rattle.page_types.specs.Journals.{Origin}
use Rattle.page_types.specs.Fair.{root}
use Rattle.page_types.specs.Obeys.{hold_of}
use Rattle.serial_rules.specs.Worlds.{first_world, replay}
use Rattle.serial_rules.specs.Committed.{shown}
use Rattle.serial_rules.specs.Lawful.{IsLawful}
use Rattle.serial_rules.specs.History.{history}

-- pages stand for what the root page holds, and any call makes it this page
abbrev pub stands_for_root : PageMap → List ℕ → Type 0
stands_for_root pages state = pages root ≡ Some state

abbrev pub page_after : List ℕ
page_after = 7 ∷ []

abbrev pub rewrites_root : List ℕ → List ℕ → Entry → List ℕ → Type 0
rewrites_root state page e led = (state ≡ page) × (led ≡ page_after)

abbrev pub two_stores : Origin
two_stores = record { stores = 2; first = 5 ∷ [] }

abbrev pub its_tid : Tid
its_tid = record { pass = 0; serial = 1 }

abbrev pub its_entry : Entry
its_entry =
    record {
      pass = 0;
      serial = 1;
      cred = record { uid = 0; gid = 0; gids = [] };
      call = Null;
      moment = record { seconds = 0; nanos = 0 };
      lane = 0;
      reply = record { procedure = 0; status = Ok; body = Nothing };
    }

-- what it reads and writes at store 0, and at store 1
abbrev pub root_part : Part
root_part =
    record {
      tid = its_tid;
      home = 0;
      parts = 0 ∷ 1 ∷ [];
      reads = record { number = 0; version = 1 } ∷ [];
      writes = record { number = 0; content = page_after } ∷ [];
    }

abbrev pub other_part : Part
other_part =
    record {
      tid = its_tid;
      home = 0;
      parts = 0 ∷ 1 ∷ [];
      reads = record { number = 0; version = 0 } ∷ [];
      writes = record { number = 0; content = 8 ∷ [] } ∷ [];
    }

abbrev pub its_commit : Command
its_commit = Decide (record { tid = its_tid; outcome = Commit (Some its_entry) })

-- both parts are prepared
abbrev pub prepared_sample : List JEntry
prepared_sample = Took 0 1 (Prepare other_part) Prepared ∷ Took 0 0 (Prepare root_part) Prepared ∷ []

-- Another pass meets a hold, the decision is doubted, and it is settled late.
abbrev pub sample : List JEntry
sample =
    Late 0 its_commit (Decided (Commit (Some its_entry))) ∷ Doubted 0 0 its_commit ∷
    Took 1 1 (Read 0) (Busy 0 its_tid 0 (0 ∷ 1 ∷ [])) ∷ prepared_sample

abbrev pub is_late : JEntry → Bool
is_late (Late store command answer) = true
is_late e = false

-- A lawful journal of two stores that begins well, with a hold that stands, an entry settled late, and one call.
pub record IsSample : Type 0 where
  pub begins : stands_for_root (shown (first_world two_stores)) two_stores.first
  pub lawful : IsLawful stands_for_root rewrites_root two_stores sample
  pub held : ((replay two_stores sample 1).slot 0).writer ≡ Some (record { hold = hold_of other_part; content = 8 ∷ [] })
  pub late : list_any is_late sample ≡ true
  pub told : history two_stores sample ≡ record { page = two_stores.first; entry = its_entry } ∷ []
