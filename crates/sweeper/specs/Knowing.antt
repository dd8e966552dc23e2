-- What a sweep leaves nothing of, and what is known on the way.
use Rattle.std.specs.Prelude.{ℕ, ◌≡◌, ◌≢◌, ◌<◌, ◌^◌, Bool, true, List, [], Option, Some, None, IsSome, All, Contains}
use Rattle.pairs.specs.declared.at.At.TheVariants.{Live, Snap}
use Rattle.pairs.specs.Lives.{Life, never, sees}
use Rattle.pairs.specs.Found.{NoneSpent, AllKept}
use Rattle.pairs.specs.Told.{PairsTold}
use Rattle.pairs.specs.Versions.{Versions}
use Rattle.fs_rules.specs.Places.{snapshot_numbered}
use Rattle.fs_rules.specs.Tree.{Tree}
use Rattle.fs_keys.specs.declared.key_parts.KeyParts.TheVariants.{Stale}
use Rattle.fs_keys.specs.declared.rows.Extent.{Extent}
use Rattle.fs_shows.specs.Extents.{IsPlace, row, extent_at}
use Rattle.fs_shows.specs.Shows.{live_marks, counts_by}
use Rattle.sweeper.specs.declared.place.SweepPlace.{SweepPlace}
use Rattle.sweeper.specs.declared.place.SweepPlace.TheVariants.{Files, Extents, Dead}
use Rattle.sweeper.specs.declared.place.Walk.{Walk}
use Rattle.sweeper.specs.Keeping.{Known, Keeps}
use Rattle.sweeper.specs.Rows.{extent_front, mark_front, IsAfter, IsSooner}

-- ---- nothing is left

-- a view of the number of a snapshot that is kept sees a life
pub record IsKeptLife (t : Tree) (l : Life) : Type 0 where
  pub number : ℕ
  pub kept : IsSome (snapshot_numbered t number)
  pub seen : sees (Snap number) l ≡ true

-- Nothing is left to sweep: no live extent that does not count for a live inode, no file that is marked as one that may
-- have some, and no dead life that no snapshot sees.
pub record IsSwept (v : Versions) (t : Tree) : Type 0 where
  pub extents : (file index : ℕ) (x : Extent) → IsPlace file index → extent_at v Live file index ≡ Some x
      → counts_by (live_marks v file) index x ≡ true
  pub marks : (file : ℕ) → file < 2 ^ 64 → row v Live (Stale file) ≡ None
  pub dead : (key : List ℕ) (l : Life) → Contains (v.lives key) l → l.death ≢ never → IsKeptLife t l

-- ---- on the way

-- these are the numbers of the snapshots that are kept
pub record AreKept (kept : List ℕ) (t : Tree) : Type 0 where
  pub all : All (λ s. Contains kept s.number) t.snapshots
  pub only : (number : ℕ) → Contains kept number → IsSome (snapshot_numbered t number)

-- the live extents of a file up to an index count
abbrev pub IsClear : ℕ → Option ℕ → Versions → Type 0
IsClear file after v = (index : ℕ) (x : Extent) → IsPlace file index → (IsAfter (extent_front file) after index → ⊥)
    → extent_at v Live file index ≡ Some x → counts_by (live_marks v file) index x ≡ true

-- all of them do
abbrev pub AllCount : ℕ → Versions → Type 0
AllCount file v = (index : ℕ) (x : Extent) → IsPlace file index → extent_at v Live file index ≡ Some x
    → counts_by (live_marks v file) index x ≡ true

-- no file is marked, up to one, or before one, or at all
abbrev pub NoMarksTo : Option ℕ → Versions → Type 0
NoMarksTo after v = (file : ℕ) → file < 2 ^ 64 → (IsAfter mark_front after file → ⊥) → row v Live (Stale file) ≡ None

abbrev pub NoMarksBefore : ℕ → Versions → Type 0
NoMarksBefore next v = (file : ℕ) → file < 2 ^ 64 → IsSooner mark_front file next → row v Live (Stale file) ≡ None

abbrev pub NoMarks : Versions → Type 0
NoMarks v = (file : ℕ) → file < 2 ^ 64 → row v Live (Stale file) ≡ None

-- What is known at a place of a walk: of a file that was walked through from its first extent on, that its extents count so
-- far; and of a walk that is trusted, since it began at the start, that nothing is left of what came before.
abbrev pub KnowsAt : Bool → List ℕ → Bool → SweepPlace → Versions → Type 0
KnowsAt trusted kept whole (Files after) v = trusted ≡ true → NoMarksTo after v
KnowsAt trusted kept whole (Extents file after) v =
    (file < 2 ^ 64) × (whole ≡ true → IsClear file after v) × (trusted ≡ true → (whole ≡ true) × NoMarksBefore file v)
KnowsAt trusted kept whole (Dead from) v = trusted ≡ true → NoMarks v × NoneSpent kept [] from v

abbrev pub KnowsNext : Bool → List ℕ → Option Walk → Versions → Type 0
KnowsNext trusted kept None v = trusted ≡ true → NoMarks v × AllKept kept [] v
KnowsNext trusted kept (Some walk) v = KnowsAt trusted kept walk.whole walk.place v

abbrev pub Knows : Bool → List ℕ → Option Walk → Known
Knows trusted kept next v t = AreKept kept t × KnowsNext trusted kept next v

-- ---- a step of a walk

module _ {S W : Type 0} (told : PairsTold S W) where
  -- what was known at a place is known at the next, whether the walk is trusted or not
  abbrev pub Walks : S → S → List ℕ → Walk → Option Walk → Type 0
  Walks old new kept walk next = (trusted : Bool) → Keeps told old new (Knows trusted kept (Some walk)) (Knows trusted kept next)
