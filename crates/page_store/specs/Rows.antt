-- A row is what a store keeps of a page.
use Rattle.std.specs.Prelude.{Option, Some, None}
use Rattle.page_types.specs.Stores.{Kept, never_written}
use Rattle.page_store.specs.declared.row.Row.{Row}

abbrev pub kept_of : Row → Kept
kept_of row = record {
  version = row.version;
  content = row.content;
  by = row.by;
  readers = row.readers;
  writer = row.writer;
}

abbrev pub row_of : Kept → Row
row_of kept = record {
  version = kept.version;
  content = kept.content;
  by = kept.by;
  readers = kept.readers;
  writer = kept.writer;
}

-- where there is no row, the page was never written
abbrev pub kept_at : Option Row → Kept
kept_at None = never_written
kept_at (Some row) = kept_of row
