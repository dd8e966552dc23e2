-- What a command reads and writes in its store, and how it is looked up.
use Rattle.std.specs.Prelude.{ℕ, ◌<◌, ◌==◌, ◌&&◌, if◌then◌else◌, Bool, List, [], ◌∷◌, Option, Some, None, IsSome, ⊤}
use Rattle.pair_types.specs.declared.slot.Tid.{Tid}
use Rattle.page_types.specs.declared.versions.PageRead.{PageRead}
use Rattle.page_types.specs.declared.versions.PageWrite.{PageWrite}

-- whether two identities are one transaction's
abbrev pub is_same : Tid → Tid → Bool
is_same s t = (s.pass == t.pass) && (s.serial == t.serial)

-- the version that was read of a page, where it was read
abbrev pub read_at : List PageRead → ℕ → Option ℕ
read_at [] number = None
read_at (r ∷ rs) number = if r.number == number then Some r.version else read_at rs number

-- what is written to a page, where it is written
abbrev pub written_at : List PageWrite → ℕ → Option (List ℕ)
written_at [] number = None
written_at (w ∷ ws) number = if w.number == number then Some w.content else written_at ws number

-- the numbers rise, so that none stands twice
abbrev pub ReadsRise : List PageRead → Type 0
ReadsRise [] = ⊤
ReadsRise (r ∷ []) = ⊤
ReadsRise (r ∷ s ∷ rs) = (r.number < s.number) × ReadsRise (s ∷ rs)

abbrev pub WritesRise : List PageWrite → Type 0
WritesRise [] = ⊤
WritesRise (w ∷ []) = ⊤
WritesRise (w ∷ v ∷ ws) = (w.number < v.number) × WritesRise (v ∷ ws)

-- reads and writes of one command: both rise, and each page that is written was read
pub record AreAccesses (reads : List PageRead) (writes : List PageWrite) : Type 0 where
  pub reads_rise : ReadsRise reads
  pub writes_rise : WritesRise writes
  pub are_read : (number : ℕ) → IsSome (written_at writes number) → IsSome (read_at reads number)
