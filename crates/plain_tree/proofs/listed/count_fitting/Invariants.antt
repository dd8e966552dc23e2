use Rattle.std.proofs.Common.{◌≡◌, ◌+◌, length, drop}
use Rattle.fs_rules.specs.Listing.{fitting}
use Rattle.plain_tree.specs.Entries.{size_with}
use Rattle.plain_tree.proofs.listed.count_fitting.Given as goal

abbrev pub invariant-loop-e : goal.invariant-loop-e
invariant-loop-e l = record {
  count : l.count ≡ l.e-index;
  fits : l.count + length (fitting (size_with l.bare) l.left (drop l.e-index l.entries)) ≡ length
      (fitting (size_with l.bare) l.room l.entries);
}
