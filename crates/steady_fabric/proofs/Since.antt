-- The doubts before a port was made are not more than those of its fabric.
use Rattle.std.proofs.Common.{arith, ◌≡◌, ℕ, ◌+◌, ◌≤◌}

pub since_new : (before now : ℕ) → before ≡ now → before ≤ now
since_new before now is = omega (arith, is)

pub since_more : (before old new more : ℕ) → before ≤ old → new ≡ old + more → before ≤ new
since_more before old new more since is = omega (arith, since, is)
