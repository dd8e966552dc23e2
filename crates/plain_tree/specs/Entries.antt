-- The entries of a directory's listing.
use Rattle.std.specs.Prelude.{ℕ, ◌+◌}
use Rattle.fs_rules.specs.Listing.{Listed, padded}

-- an entry that says so many bytes beside its name
abbrev pub size_with : ℕ → Listed → ℕ
size_with bare e = bare + padded e.name
