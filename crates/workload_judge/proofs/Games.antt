-- How a game goes on.
use Rattle.std.proofs.Common.{arith, ◌≡◌, ◌∙◌, ◌+◌, ℕ, zero, suc, refl, sym, ap, subst, ◌∷◌, length, Some}
use Rattle.nfs3_types.specs.declared.reply.Reply.{Reply}
use Rattle.nfs3_types.specs.Calls.{Call}
use Rattle.fs_rules.specs.Answers.{after, answer}
use Rattle.fs_rules.specs.Tree.{Tree}
use Rattle.workload.specs.Drive.{Drive, drive}
use Rattle.workload.specs.Driving.{Driving, DriverAt}
use Rattle.workload_judge.specs.Played.{PlayedTo, asked_by, asks, played}

-- there is a reply for each call
pub as_many : (number rough calls : ℕ) → length (played number rough calls).replies ≡ calls
unfolding played
as_many number rough zero = refl
as_many number rough (suc calls) = ap suc (as_many number rough calls)

-- the call after so many
abbrev next : ℕ → ℕ → ℕ → Drive
next number rough calls = drive number rough (played number rough calls).replies

-- the moment and the lane are those that the workload gives the call
asked_is : (number rough calls : ℕ) (call : Call) → call ≡ (next number rough calls).call
    → asks calls call ≡ asked_by (next number rough calls)
unfolding drive
asked_is number rough calls call e =
    ap (asks calls) e ∙ ap (λ (n : ℕ). asks n (next number rough calls).call) (sym (as_many number rough calls))

-- a call that was answered is one call more
pub goes_on : (number rough calls : ℕ) (call : Call) (old new : Tree) (reply : Reply) (driver : Driving)
    → old ≡ (played number rough calls).tree → call ≡ (next number rough calls).call → reply ≡ answer old (asks calls call)
    → new ≡ after old (asks calls call) → DriverAt number rough (Some reply ∷ (played number rough calls).replies) driver
    → PlayedTo number rough (suc calls) new driver
unfolding played
goes_on number rough calls call old new reply driver tree called replied left at =
    let asked = asked_is number rough calls call called in
    let replies = (played number rough calls).replies in
    let reply_is : reply ≡ answer (played number rough calls).tree (asked_by (next number rough calls)) =
    replied ∙ ap (answer old) asked ∙ ap (λ (t : Tree). answer t (asked_by (next number rough calls))) tree in
    record {
      tree_is = left ∙ ap (after old) asked ∙ ap (λ (t : Tree). after t (asked_by (next number rough calls))) tree;
      driver_at = subst (λ (r : Reply). DriverAt number rough (Some r ∷ replies) driver) reply_is at;
    }

-- the driver has made as many calls
pub calls_are : (number rough calls : ℕ) (tree : Tree) (driver : Driving) → PlayedTo number rough calls tree driver
    → driver.calls ≡ calls
calls_are number rough calls tree driver to = to.driver_at.calls ∙ as_many number rough calls

-- the same, with the count as code has it
pub turned : (number rough calls : ℕ) (tree : Tree) (driver : Driving) → PlayedTo number rough (suc calls) tree driver
    → PlayedTo number rough (calls + 1) tree driver
turned number rough calls tree driver to =
    let e : suc calls ≡ calls + 1 = omega arith in
    subst (λ (n : ℕ). PlayedTo number rough n tree driver) e to
