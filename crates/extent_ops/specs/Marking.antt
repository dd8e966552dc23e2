-- Marks, as the definitions of what extents show have them.
use Rattle.fs_shows.specs.Extents.{Marks}
use Rattle.extent_ops.specs.declared.marks.Marks.{Marks as Given}

abbrev pub as_marks : Given → Marks
as_marks m = record { stamp = m.stamp; floor = m.floor }
