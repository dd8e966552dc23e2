-- What a purge of a list of records takes.
use Rattle.std.specs.Prelude.{ℕ, ◌≡◌, List, Option, Some, None}
use Rattle.pair_types.specs.declared.quad.Quad.{Quad}
use Rattle.pairs.specs.Lives.{purge_life}
use Rattle.pairs.specs.Found.{AllKept, IsSpent}
use Rattle.mem_pairs.specs.Scans.{Tell, Edits}

module _ (kept from : List ℕ) where
  -- the first record that is dead and unseen is gone
  pub record Takes (q : Quad) (old new : List Quad) : Type 0 where
    pub spent : Tell old (IsSpent kept from q)
    pub edits : Edits q.key (purge_life kept) old new

  -- there is none, and all stay
  pub record Keeps (old new : List Quad) : Type 0 where
    pub none : Tell old (AllKept kept from)
    pub same : new ≡ old

  abbrev pub Purges : Option Quad → List Quad → List Quad → Type 0
  Purges None = Keeps
  Purges (Some q) = Takes q
