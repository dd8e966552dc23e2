-- A snapshot that is taken: its records, as they are put.
use Rattle.std.specs.Prelude.{ℕ, ◌≡◌, ◌<◌, ◌≤◌, ◌+◌, List, Some}
use Rattle.pairs.specs.Lives.{never}
use Rattle.pairs.specs.Versions.{Versions, HasLives, epoch, epoch_in, with_put}
use Rattle.pairs.specs.Told.{PairsTold, Moves}
use Rattle.fs_rules.specs.declared.times.Times.{Times}
use Rattle.fs_rules.specs.Limits.{last_epoch}
use Rattle.fs_rules.specs.Tree.{Tree}
use Rattle.fs_keys.specs.declared.key_parts.KeyParts.TheVariants as key
use Rattle.fs_keys.specs.declared.rows.First.{First}
use Rattle.fs_keys.specs.Keys.{key_of}
use Rattle.fs_keys.specs.Values.{first_in, times_in}

-- the epoch is one at which a snapshot may be taken
abbrev pub MayTake : Tree → Type 0
MayTake t = t.epoch < last_epoch

-- the first record of the next epoch
abbrev pub next_first : First → First
next_first row = record row { epoch = row.epoch + 1 }

-- lives are in order, and this is the epoch
pub record IsNow (number : ℕ) (v : Versions) : Type 0 where
  pub lives : HasLives v
  pub epoch_is : epoch v ≡ number

-- lives are in order, up to an epoch that is no later than this one
pub record Rises (to : ℕ) (v : Versions) : Type 0 where
  pub lives : HasLives v
  pub up : epoch v ≤ to
  pub early : to < never

-- with the records of a new snapshot: its name at its number, the first record, and the times of `.snapshot`
abbrev pub with_snapshot : ℕ → List ℕ → List ℕ → List ℕ → Versions → Versions
with_snapshot number name first times v =
    with_put (key_of key.Times) times (with_put (key_of key.First) first (with_put (key_of (key.Snapshot number)) name v))

module _ {S W : Type 0} (told : PairsTold S W) (old new : S) where
  -- a value that says these times was put
  pub record PutsTimes (times : Times) : Type 0 where
    pub value : List ℕ
    pub says : times_in value ≡ Some times
    pub moves : Moves told old new HasLives (with_put (key_of key.Times) value)

  -- a value that says this was put as the first record, and its epoch is the epoch
  pub record PutsFirst (row : First) : Type 0 where
    pub value : List ℕ
    pub says : first_in value ≡ Some row
    pub begins : epoch_in (Some value) ≡ row.epoch
    pub moves : Moves told old new (Rises row.epoch) (with_put (key_of key.First) value)

  -- the records of a snapshot were put that is taken at the epoch of this first record
  pub record PutsSnapshot (row : First) (name : List ℕ) (times : Times) : Type 0 where
    pub first : List ℕ
    pub said : List ℕ
    pub says_first : first_in first ≡ Some (next_first row)
    pub begins : epoch_in (Some first) ≡ row.epoch + 1
    pub says_times : times_in said ≡ Some times
    pub moves : Moves told old new (IsNow row.epoch) (with_snapshot row.epoch name first said)
