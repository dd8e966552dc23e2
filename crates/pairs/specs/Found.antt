-- What look-ups and purges answer, of the versions that are shown.
use Rattle.std.specs.Prelude.{ℕ, ◌≡◌, ◌≢◌, ◌+◌, ◌%◌, min, List, [], ◌++◌, length, take, drop, Option, Some, None}
use Rattle.std.specs.Ordering.{nat_cmp}
use Rattle.std.specs.Cmp.Lexicographic.{slice_cmp}
use Rattle.std.specs.declared.cmp.Ordering.TheVariants.{Less, Greater}
use Rattle.pair_types.specs.declared.quad.Quad.{Quad}
use Rattle.pair_types.specs.declared.slot.Slot.{Slot}
use Rattle.pairs.specs.declared.at.At.{At}
use Rattle.pairs.specs.declared.at.Purged.{Purged}
use Rattle.pairs.specs.declared.at.Purged.TheVariants.{Took, Stopped, Ended}
use Rattle.pairs.specs.Lives.{spent, life_of}
use Rattle.pairs.specs.Versions.{Versions, HasLives, value_at, with_purge}
use Rattle.pairs.specs.Told.{PairsTold, Finds, Moves, Tells}

-- a key lies before another one, as bytes are ordered
abbrev pub IsBefore : List ℕ → List ℕ → Type 0
IsBefore a b = slice_cmp nat_cmp a b ≡ Less

-- a key is another one, or lies behind it
abbrev pub IsFrom : List ℕ → List ℕ → Type 0
IsFrom from key = slice_cmp nat_cmp from key ≢ Greater

-- the first key behind one that a view has, with its value
pub record IsNext (at : At) (after key value : List ℕ) (v : Versions) : Type 0 where
  pub behind : IsBefore after key
  pub has : value_at at v key ≡ Some value
  pub first : (k : List ℕ) → IsBefore after k → IsBefore k key → value_at at v k ≡ None

-- what follows a key in a view: such a key, or none
abbrev pub Follows : At → List ℕ → Option (List ℕ × List ℕ) → Versions → Type 0
Follows at after None v = (k : List ℕ) → IsBefore after k → value_at at v k ≡ None
Follows at after (Some (key, value)) v = IsNext at after key value v

-- no life of a key from one on and before another is dead and unseen by these numbers
abbrev pub NoneSpent : List ℕ → List ℕ → List ℕ → Versions → Type 0
NoneSpent kept from to v = (k : List ℕ) → IsFrom from k → IsBefore k to → spent kept (v.lives k) ≡ None

-- nor of any key from one on
abbrev pub AllKept : List ℕ → List ℕ → Versions → Type 0
AllKept kept from v = (k : List ℕ) → IsFrom from k → spent kept (v.lives k) ≡ None

-- the first life, of keys from one on, that is dead and unseen by these numbers
pub record IsSpent (kept from : List ℕ) (q : Quad) (v : Versions) : Type 0 where
  pub key : IsFrom from q.key
  pub life : spent kept (v.lives q.key) ≡ Some (life_of q)
  pub first : NoneSpent kept from q.key v

-- where a purge from one key on may stop: none was found before this key, and this one has a record
pub record StopsAt (kept from key : List ℕ) (v : Versions) : Type 0 where
  pub none : NoneSpent kept from key v
  pub lives : v.lives key ≢ []

module _ {S W : Type 0} (told : PairsTold S W) (old new : S) (kept from : List ℕ) where
  -- the first record that is dead and unseen is gone
  pub record Takes (q : Quad) : Type 0 where
    pub moves : Moves told old new HasLives (with_purge kept q.key)
    pub finds : Finds told old new (IsSpent kept from q)

  abbrev pub Purges : Option Quad → Type 0
  Purges None = Tells told old new (AllKept kept from)
  Purges (Some q) = Takes q

  -- a purge that may stop: it gets on
  abbrev pub PurgesSome : Purged → Type 0
  PurgesSome (Took q) = Takes q
  PurgesSome (Stopped key) = IsBefore from key × Tells told old new (StopsAt kept from key)
  PurgesSome Ended = Tells told old new (AllKept kept from)

-- a slot holds this block, whose bytes stand in the room from now on, as many as it has room for
pub record Fills (block old new : List ℕ) (n : ℕ) : Type 0 where
  pub count : n ≡ min (length old) (length block)
  pub filled : new ≡ take n block ++ drop n old

-- the slot held no block, and lies where a file's block of this index belongs
pub record IsFresh (file index : ℕ) (at : Slot) (v : Versions) : Type 0 where
  pub absent : v.blocks at ≡ None
  pub store : at.store ≡ (file + index) % v.stores
