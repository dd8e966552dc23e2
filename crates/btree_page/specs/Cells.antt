-- The code's cells and bounds, as contents of pages.
use Rattle.std.specs.Prelude.{Option, Some, None}
use Rattle.btree_page.specs.declared.cell.Cell.{Cell}
use Rattle.btree_page.specs.declared.cell.Cell.TheVariants.{Leaf, Inner}
use Rattle.btree_page.specs.declared.cell.Bound.{Bound as Edge}
use Rattle.btree_page.specs.Content.{Bound, Carries, Leads, Entry}

abbrev pub entry_of : Cell → Entry
entry_of (Leaf key birth death value) = record { key = key.now; birth = birth; body = Carries death value.now }
entry_of (Inner key birth child) = record { key = key.now; birth = birth; body = Leads child }

abbrev pub edge_of : Option Edge → Option Bound
edge_of None = None
edge_of (Some edge) = Some (record { key = edge.key.now; birth = edge.birth })
