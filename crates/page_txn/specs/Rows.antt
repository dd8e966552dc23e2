-- What a transaction knows of slots: what was answered of each, and what is written there.
use Rattle.std.specs.Prelude.{ℕ, List, Option, Some, None}
use Rattle.std.specs.BTreeMap.{BTreeMap, get}
use Rattle.pair_types.specs.declared.slot.Slot.{Slot}
use Rattle.pair_types.specs.MemPages.{place_cmp}
use Rattle.pair_types.specs.PageMaps.{PageMap, ReadMap}
use Rattle.page_txn.specs.declared.row.Row.{Row}

abbrev pub Rows : Type 0
Rows = BTreeMap (ℕ × ℕ) Row

abbrev pub row_at : Rows → Slot → Option Row
row_at rows s = get place_cmp rows (s.store, s.number)

abbrev pub version_of : Option Row → Option ℕ
version_of None = None
version_of (Some row) = Some row.version

abbrev pub content_of : Option Row → Option (Option (List ℕ))
content_of None = None
content_of (Some row) = Some row.content

abbrev pub written_of : Option Row → Option (List ℕ)
written_of None = None
written_of (Some row) = row.written

-- what was read of each slot, and what is written there
abbrev pub reads_of : Rows → ReadMap
reads_of rows s = content_of (row_at rows s)

abbrev pub writes_of : Rows → PageMap
writes_of rows s = written_of (row_at rows s)

abbrev pub nothing_read : ReadMap
nothing_read s = None

abbrev pub nothing_written : PageMap
nothing_written s = None
