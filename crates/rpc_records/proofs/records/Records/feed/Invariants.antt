use Rattle.std.proofs.Common.{◌≡◌, ℕ, ◌+◌, ◌-◌, ◌≤◌, List, ◌++◌, length, take}
use Rattle.rpc_records.specs.Progress.{IsUnfinished, reading_of, taken_of}
use Rattle.rpc_records.proofs.records.Records.feed.Given as goal

abbrev pub invariant-loop-taken : goal.invariant-loop-taken
invariant-loop-taken l = record {
  within : l.taken ≤ length l.piece;
  reading : (more : List ℕ) → reading_of l.self more ≡ reading_of l.fn.self (take l.taken l.piece ++ more);
  count : IsUnfinished l.self → taken_of l.self ≡ taken_of l.fn.self + l.taken;
}

abbrev pub decreases-loop-taken : goal.decreases-loop-taken
decreases-loop-taken l = length l.piece - l.taken
