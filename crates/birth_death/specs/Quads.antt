-- What a view sees of the lives of a key, and of a record.
use Rattle.std.specs.Prelude.{ℕ, List, Option, Some, None, if◌then◌else◌, ◌&&◌}
use Rattle.std.specs.Str.{bytes_eq}
use Rattle.pair_types.specs.declared.quad.Quad.{Quad}
use Rattle.pairs.specs.declared.at.At.{At}
use Rattle.pairs.specs.declared.at.At.TheVariants.{Live, Snap}
use Rattle.pairs.specs.Lives.{never, sees, life_of}
pub use Rattle.pairs.specs.Lives.{lives_of}

-- the last birth that a view can see
abbrev pub last_birth : At → ℕ
last_birth Live = never
last_birth (Snap n) = n

-- a record, if it is one of this key that the view sees
abbrev pub if_seen : List ℕ → At → Option Quad → Option Quad
if_seen key at None = None
if_seen key at (Some q) = if bytes_eq q.key key && sees at (life_of q) then Some q else None
