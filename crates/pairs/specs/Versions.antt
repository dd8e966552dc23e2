-- What lies below a transaction over pairs: the lives of each key, and blocks; and the edits of these.
use Rattle.std.specs.Prelude.{ℕ, ◌≡◌, ◌≢◌, ◌<◌, ◌≤◌, ◌==◌, nat_lt, Bool, ◌&&◌, if◌then◌else◌, List, [], ◌∷◌, length, take, Option}
use Rattle.std.specs.Prelude.{Some, None}
use Rattle.std.specs.Int.{w64, from_be_bytes}
use Rattle.std.specs.Str.{bytes_eq}
use Rattle.pair_types.specs.declared.slot.Slot.{Slot}
use Rattle.pairs.specs.declared.at.At.{At}
use Rattle.pairs.specs.declared.at.At.TheVariants.{Live}
use Rattle.pairs.specs.Lives.{Life, never, seen, put_life, del_life, purge_life, AreLives}

-- the number of stores, the lives of each key, and the blocks in their slots
pub record Versions : Type 0 where
  pub stores : ℕ
  pub lives : List ℕ → List Life
  pub blocks : Slot → Option (List ℕ)

-- the value of a key in a view
abbrev pub value_at : At → Versions → List ℕ → Option (List ℕ)
value_at at v key = seen at (v.lives key)

-- the key at which the epoch lies
abbrev pub epoch_key : List ℕ
epoch_key = 1 ∷ []

-- the epoch with which a value begins: its first eight bytes, and 0 where it is shorter or there is none
abbrev pub epoch_in : Option (List ℕ) → ℕ
epoch_in None = 0
epoch_in (Some value) = if nat_lt (length value) 8 then 0 else from_be_bytes w64 (take 8 value)

unfoldable pub epoch : Versions → ℕ
epoch v = epoch_in (value_at Live v epoch_key)

unfoldable pub with_lives : List ℕ → List Life → (List ℕ → List Life) → List ℕ → List Life
with_lives key ls lives k = if bytes_eq k key then ls else lives k

-- a value is put at a key, as of the epoch
unfoldable pub with_put : List ℕ → List ℕ → Versions → Versions
with_put key value v = record v { lives = with_lives key (put_life (epoch v) value (v.lives key)) v.lives }

-- the value of a key ends, as of the epoch
unfoldable pub with_del : List ℕ → Versions → Versions
with_del key v = record v { lives = with_lives key (del_life (epoch v) (v.lives key)) v.lives }

-- the first life of a key that is dead and that none of these numbers sees is gone
unfoldable pub with_purge : List ℕ → List ℕ → Versions → Versions
with_purge kept key v = record v { lives = with_lives key (purge_life kept (v.lives key)) v.lives }

abbrev pub is_same_slot : Slot → Slot → Bool
is_same_slot a b = (a.store == b.store) && (a.number == b.number)

-- a slot holds this, a block or none
unfoldable pub with_block : Slot → Option (List ℕ) → Versions → Versions
with_block at block v = record v { blocks = λ slot. if is_same_slot slot at then block else v.blocks slot }

-- each key has its lives one after another, up to the epoch
pub record HasLives (v : Versions) : Type 0 where
  pub early : epoch v < never
  pub lives : (key : List ℕ) → AreLives (epoch v) 0 (v.lives key)

-- a value may be put at a key: lives are in order, and at the key of the epoch the epoch does not fall
pub record CanPut (key value : List ℕ) (v : Versions) : Type 0 where
  pub lives : HasLives v
  pub rises : key ≡ epoch_key → (epoch v ≤ epoch_in (Some value)) × (epoch_in (Some value) < never)

-- a slot holds a block
pub record IsBlock (at : Slot) (v : Versions) : Type 0 where
  pub there : v.blocks at ≢ None
