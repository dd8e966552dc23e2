-- What pairs in memory tell: the one state of all versions that they hold.
use Rattle.std.specs.Prelude.{◌≡◌, ⊤}
use Rattle.pairs.specs.Lives.{lives_of}
use Rattle.pairs.specs.Versions.{Versions}
use Rattle.pairs.specs.Told.{PairsTold}
use Rattle.mem_pairs.specs.declared.mem_pairs.MemPairs.{MemPairs}
use Rattle.mem_pairs.specs.Blocks.{blocks_of}

abbrev pub versions_of : MemPairs → Versions
versions_of pairs = record {
  stores = pairs.blocks.stores;
  lives = lives_of pairs.rows.items;
  blocks = blocks_of pairs.blocks;
}

-- Nothing lies below. No fault but want of memory is answered, which needs no count; and there is no root.
abbrev pub told_of : PairsTold MemPairs ⊤
told_of = record {
  agrees = λ pairs w. ⊤;
  shows = λ pairs w v. v ≡ versions_of pairs;
  faults = λ pairs fault. 0;
  puts = λ pairs. 0;
  clean = λ pairs. ⊤;
  high = λ pairs. ⊥;
}
