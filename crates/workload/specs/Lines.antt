-- The nine lines that the workload writes.
use Rattle.std.specs.Prelude.{ℕ, List, ◌++◌, codes, decimal}
use Rattle.workload.specs.declared.lines.Tally.{Tally}

-- a name, a space, a number and a line feed
abbrev pub line : List ℕ → ℕ → List ℕ
line name number = name ++ (codes " " ++ (decimal number ++ codes "\n"))

abbrev pub lines_of : Tally → List ℕ
lines_of tally =
    line (codes "calls") tally.calls
    ++ line (codes "acknowledged") tally.acknowledged
    ++ line (codes "serverfault") tally.serverfault
    ++ line (codes "jukebox") tally.jukebox
    ++ line (codes "nomemory") tally.nomemory
    ++ line (codes "stopped") tally.stopped
    ++ line (codes "history") tally.history
    ++ line (codes "nodes") tally.nodes
    ++ line (codes "bytes") tally.bytes
