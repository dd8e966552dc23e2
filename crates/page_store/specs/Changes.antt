-- The rows that commands change, one for each page.
use Rattle.std.specs.Prelude.{ℕ, ◌≡◌, ◌++◌, Bool, true, false, if◌then◌else◌, List, [], ◌∷◌, map, Option, Some, None}
use Rattle.pair_types.specs.declared.slot.Tid.{Tid}
use Rattle.page_types.specs.declared.outcome.Outcome.{Outcome}
use Rattle.page_types.specs.declared.versions.PageRead.{PageRead}
use Rattle.page_types.specs.declared.versions.PageWrite.{PageWrite}
use Rattle.page_types.specs.declared.command.Part.{Part}
use Rattle.page_types.specs.declared.answer.Answer.{Answer}
use Rattle.page_types.specs.declared.answer.Answer.TheVariants as answer
use Rattle.page_types.specs.Accesses.{written_at}
use Rattle.page_types.specs.Obeys.{as_wrote, written, holding, hold_of, resolving}
use Rattle.page_store.specs.declared.row.Change.{Change}
use Rattle.page_store.specs.Rows.{row_of}
use Rattle.page_store.specs.Keeps.{Keeps}

abbrev pub write_change : Keeps → Tid → PageWrite → Change
write_change keeps tid w =
    record { number = w.number; row = row_of (written tid (Some w.content) (keeps.slot w.number)) }

abbrev pub hold_change : Keeps → Part → PageRead → Change
hold_change keeps part r = record {
  number = r.number;
  row = row_of (holding (hold_of part) (written_at part.writes r.number) (Some r.version) (keeps.slot r.number));
}

abbrev pub end_change : Keeps → Tid → Bool → ℕ → Change
end_change keeps tid commit number = record {
  number = number;
  row = row_of (resolving tid commit (keeps.slot number).writer (keeps.slot number));
}

-- what a Write answers to a transaction that was decided here, or whose part has ended
abbrev pub settled_write : Option Outcome → Bool → Option Answer
settled_write (Some outcome) ended = Some (as_wrote outcome)
settled_write None true = Some answer.Ended
settled_write None false = None
