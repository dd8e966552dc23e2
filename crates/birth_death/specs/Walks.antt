-- What walks over keys and records find.
use Rattle.std.specs.Prelude.{ℕ, ◌≡◌, ◌≢◌, List, [], Option, Some, None}
use Rattle.pair_types.specs.declared.quad.Quad.{Quad}
use Rattle.pairs.specs.declared.at.Purged.{Purged}
use Rattle.pairs.specs.declared.at.Purged.TheVariants.{Took, Stopped, Ended}
use Rattle.pairs.specs.Versions.{Versions}
use Rattle.pairs.specs.Found.{IsBefore, AllKept, IsSpent, StopsAt}

-- the first key behind one that has a record
pub record IsNextKey (after key : List ℕ) (v : Versions) : Type 0 where
  pub behind : IsBefore after key
  pub there : v.lives key ≢ []
  pub first : (k : List ℕ) → IsBefore after k → IsBefore k key → v.lives k ≡ []

-- what follows a key: such a key, or none
abbrev pub FollowsKey : List ℕ → Option (List ℕ) → Versions → Type 0
FollowsKey after None v = (k : List ℕ) → IsBefore after k → v.lives k ≡ []
FollowsKey after (Some key) v = IsNextKey after key v

-- the first record, of keys from one on, that is dead and unseen by these numbers, or none
abbrev pub FindsSpent : List ℕ → List ℕ → Option Quad → Versions → Type 0
FindsSpent kept from None v = AllKept kept from v
FindsSpent kept from (Some q) v = IsSpent kept from q v

-- the same, where the walk may stop
abbrev pub FindsSome : List ℕ → List ℕ → Purged → Versions → Type 0
FindsSome kept from (Took q) v = IsSpent kept from q v
FindsSome kept from (Stopped key) v = StopsAt kept from key v
FindsSome kept from Ended v = AllKept kept from v

-- where it stopped, it got on
abbrev pub GetsOn : List ℕ → Purged → Type 0
GetsOn from (Took q) = Unit {0}
GetsOn from (Stopped key) = IsBefore from key
GetsOn from Ended = Unit {0}
