-- What the fields of a reader stand for.
use Rattle.std.specs.Prelude.{◌≡◌, ℕ, ◌+◌, ◌<◌, ◌≤◌, List, take}
use Rattle.rpc_records.specs.declared.limits.TheConstants.{MOST_BYTES, MOST_FRAGMENTS}
use Rattle.rpc_records.specs.declared.stage.Stage.{Stage}
use Rattle.rpc_records.specs.declared.stage.Stage.TheVariants.{Head, Fragment, Whole, Refused}
use Rattle.rpc_records.specs.Progress.{Progress}
use Rattle.rpc_records.specs.Progress.Progress.{InHead, InFragment, Holding, Refusing}

-- how far a reader is at this stage, where so many fragments may begin, with this content and head
abbrev pub progress_at : Stage → ℕ → List ℕ → List ℕ → Progress
progress_at (Head taken) fragments content head = InHead fragments content (take taken head)
progress_at (Fragment last left) fragments content head = InFragment fragments content last left
progress_at Whole fragments content head = Holding content
progress_at (Refused fault) fragments content head = Refusing fault

-- A stage where so many fragments may begin, behind so many bytes of content: a head and a fragment
-- are not whole, a fragment and a record fit, and there is no content before the first fragment.
abbrev pub IsStage : Stage → ℕ → ℕ → Type 0
IsStage (Head taken) fragments size = (taken < 4) × (size ≤ MOST_BYTES) × (fragments ≡ MOST_FRAGMENTS → size ≡ 0)
IsStage (Fragment last left) fragments size = (0 < left) × (size + left ≤ MOST_BYTES) × (fragments < MOST_FRAGMENTS)
IsStage Whole fragments size = size ≤ MOST_BYTES
IsStage (Refused fault) fragments size = Unit {0}
