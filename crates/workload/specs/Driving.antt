-- Where a driver stands in the workload.
use Rattle.std.specs.Prelude.{◌≡◌, ◌<◌, ℕ, List, [], ◌∷◌, length, Option, Some, None, slice_index_or}
use Rattle.nfs3_types.specs.declared.handle.Handle.{Handle}
use Rattle.workload.specs.declared.choice.Choice.{Choice}
use Rattle.workload.specs.Drive.{Replies, choice, known, last_fuse, seed}

-- what a driver keeps
pub record Driving : Type 0 where
  pub state : ℕ
  -- how many calls there were
  pub calls : ℕ
  pub rough : ℕ
  -- the handles of the 256 names
  pub handles : List (Option Handle)
  -- the last call, while its reply may still be told
  pub asked : Option Choice
  pub fuse : Option ℕ

-- the last call, where its reply was not told
abbrev pub waits : ℕ → Replies → Option Choice
waits number [] = None
waits number (None ∷ replies) = Some (choice number replies)
waits number (Some reply ∷ replies) = None

-- the driver of this number and roughness stands after the calls with these replies
pub record DriverAt (number rough : ℕ) (replies : Replies) (driver : Driving) : Type 0 where
  pub state : driver.state ≡ seed number replies
  pub calls : driver.calls ≡ length replies
  pub rough_is : driver.rough ≡ rough
  pub handles : (name : ℕ) → name < 256 → slice_index_or driver.handles name None ≡ known number replies name
  pub asked : driver.asked ≡ waits number replies
  pub fuse : driver.fuse ≡ last_fuse number rough replies
