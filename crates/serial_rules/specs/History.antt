-- The history of a journal: which of its entries take effect, with which transaction, and the calls that these serve.
use Rattle.std.specs.Prelude.{ℕ, ◌==◌, ◌&&◌, if◌then◌else◌, Bool, true, false, List, [], ◌∷◌, ◌++◌, Option}
use Rattle.std.specs.Prelude.{Some, None, is_none, nat_lt, nat_le}
use Rattle.pair_types.specs.declared.slot.Slot.{Slot}
use Rattle.pair_types.specs.declared.slot.Tid.{Tid}
use Rattle.pair_types.specs.PageMaps.{PageMap, ReadMap, page_of}
use Rattle.nfs3_types.specs.declared.entry.Entry.{Entry}
use Rattle.page_types.specs.declared.outcome.Outcome.{Outcome}
use Rattle.page_types.specs.declared.outcome.Outcome.TheVariants.{Commit, Abort}
use Rattle.page_types.specs.declared.command.Part.{Part}
use Rattle.page_types.specs.declared.command.Command.{Command}
use Rattle.page_types.specs.declared.command.Command.TheVariants.{Write, Decide}
use Rattle.page_types.specs.declared.answer.Answer.{Answer}
use Rattle.page_types.specs.declared.answer.Answer.TheVariants.{Wrote}
use Rattle.page_types.specs.declared.journal.JEntry.{JEntry}
use Rattle.page_types.specs.declared.journal.JEntry.TheVariants.{Took, Doubted, Late}
use Rattle.page_types.specs.Accesses.{read_at}
use Rattle.page_types.specs.Journals.{Origin}
use Rattle.page_types.specs.Asked.{Alone, part_asked}
use Rattle.page_types.specs.Fair.{reads_alone, writes_alone, reads_of_all, writes_of_all, root}
use Rattle.serial_rules.specs.Worlds.{replay}
use Rattle.serial_rules.specs.Contents.{content_at}
use Rattle.serial_rules.specs.Committed.{shown}

-- A transaction that takes effect: of each slot, the version that it read, what it read there and what it writes, where it
-- does; and the call that it serves, where it serves one.
pub record Effect : Type 0 where
  pub versions : Slot → Option ℕ
  pub reads : ReadMap
  pub writes : PageMap
  pub entry : Option Entry

abbrev pub versions_alone : Alone → Slot → Option ℕ
versions_alone a s = if s.store == a.store then read_at a.transaction.reads s.number else None

abbrev pub versions_of_part : Option Part → ℕ → Option ℕ
versions_of_part None number = None
versions_of_part (Some part) number = read_at part.reads number

abbrev pub versions_of_all : List JEntry → Tid → Slot → Option ℕ
versions_of_all es tid s = versions_of_part (part_asked es tid s.store) s.number

-- a transaction of one store
abbrev pub alone_effect : Origin → List JEntry → Alone → Effect
alone_effect origin es a =
    record {
      versions = versions_alone a;
      reads = reads_alone (content_at origin es) a;
      writes = writes_alone a;
      entry = a.transaction.entry;
    }

-- all parts of one of several stores
abbrev pub all_effect : Origin → List JEntry → Tid → Option Entry → Effect
all_effect origin es tid served =
    record {
      versions = versions_of_all es tid;
      reads = reads_of_all (content_at origin es) es tid;
      writes = writes_of_all es tid;
      entry = served;
    }

abbrev pub is_wrote : Answer → Bool
is_wrote Wrote = true
is_wrote answer = false

abbrev pub decision_effect : Origin → List JEntry → Tid → Outcome → Option Effect
decision_effect origin es tid (Commit served) = Some (all_effect origin es tid served)
decision_effect origin es tid Abort = None

-- A Write that was answered Wrote, or a decision to commit, of a transaction that was not decided there before.
abbrev pub settled_effect : Origin → List JEntry → ℕ → Command → Answer → Option Effect
settled_effect origin es store (Write x) answer =
    if is_wrote answer && is_none ((replay origin es store).decided x.tid)
    then Some (alone_effect origin es (record { store = store; transaction = x })) else None
settled_effect origin es store (Decide d) answer =
    if is_none ((replay origin es store).decided d.tid) then decision_effect origin es d.tid d.outcome else None
settled_effect origin es store command answer = None

-- the transaction with which an entry takes effect, after these before it
abbrev pub effect_of : Origin → List JEntry → JEntry → Option Effect
effect_of origin es (Took pass store command answer) = settled_effect origin es store command answer
effect_of origin es (Doubted pass store command) = None
effect_of origin es (Late store command answer) = settled_effect origin es store command answer

-- a call that took effect, and the root page before it
pub record Happened : Type 0 where
  pub page : List ℕ
  pub entry : Entry

abbrev pub served_by : List ℕ → Option Entry → List Happened
served_by page None = []
served_by page (Some e) = record { page = page; entry = e } ∷ []

abbrev pub happened : List ℕ → Option Effect → List Happened
happened page None = []
happened page (Some effect) = served_by page effect.entry

-- the calls that took effect, the newest first
abbrev pub history : Origin → List JEntry → List Happened
history origin [] = []
history origin (e ∷ es) =
    happened (page_of (shown (replay origin es) root)) (effect_of origin es e) ++ history origin es

-- Of the history, the calls of a pass whose serials are at least the first and below the last.
abbrev pub is_between : ℕ → ℕ → ℕ → Entry → Bool
is_between pass first last e = (e.pass == pass) && (nat_le first e.serial && nat_lt e.serial last)

abbrev pub those_between : ℕ → ℕ → ℕ → List Happened → List Entry
those_between pass first last [] = []
those_between pass first last (h ∷ hs) =
    if is_between pass first last h.entry then h.entry ∷ those_between pass first last hs
    else those_between pass first last hs

abbrev pub stand : ℕ → ℕ → ℕ → Origin → List JEntry → List Entry
stand pass first last origin es = those_between pass first last (history origin es)
