-- What is so of paths in which nothing is wrong.
use Rattle.std.proofs.Common.{◌≡◌, ℕ, ◌≤◌, ◌==◌, nat_lt, ◌||◌, Bool, true, false, if◌then◌else◌, List, [], length}
use Rattle.std.proofs.Common.{Some, None, arith}
use Rattle.std.proofs.lemmas.Bool.{ltb-false}
use Rattle.nfs3_types.specs.declared.status.Status.TheVariants.{Inval, NameTooLong}
use Rattle.fs_rules.specs.Limits.{longest_target}
use Rattle.fs_rules.specs.Names.{has_nul, target_fault}

-- the first fault, and the second one
none-long : (one two : Bool) → (if one then Some Inval else (if two then Some NameTooLong else None)) ≡ None → two ≡ false
none-long true two is = absurd (cc)
none-long false true is = absurd (cc)
none-long false false is = cc

pub target_short : (target : List ℕ) → target_fault target ≡ None → length target ≤ longest_target
unfolding target_fault
target_short target is =
    ltb-false longest_target (length target)
    (none-long ((length target == 0) || has_nul target) (nat_lt longest_target (length target)) is)

pub nothing_short : length {A = ℕ} [] ≤ longest_target
unfolding longest_target
nothing_short = omega arith
