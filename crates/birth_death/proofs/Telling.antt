-- What a tree tells of its calls, from what they do to its pages.
use Rattle.std.proofs.Common.{◌≡◌, ℕ, ◌+◌, ◌-◌, ◌^◌, ◌<◌, ◌≤◌, Bool, true, false, ◌||◌, List, Option, Some, None}
use Rattle.std.proofs.Common.{Result, Ok, Err, inl, refl, sym, ◌∙◌, ap, subst, arith}
use Rattle.std.specs.Prelude.{OnOk, min, is_err}
use Rattle.pair_types.specs.declared.fault.PairFault.{PairFault}
use Rattle.pair_types.specs.declared.fault.PairFault.TheVariants.{Odd, HeightFull, Page}
use Rattle.pair_types.specs.declared.quad.Quad.{Quad}
use Rattle.pair_types.specs.PageMaps.{PageMap}
use Rattle.pair_types.specs.PageState.{PageState, no_memory}
use Rattle.btree_search.specs.Found.{OnlyReads}
use Rattle.btree_search.proofs.Walks.{agrees_before}
use Rattle.btree_edit.specs.Edited.{GoesOn}
use Rattle.btree_edit.proofs.States.{goes_only}
use Rattle.pairs.specs.Versions.{Versions, HasLives, with_purge}
use Rattle.pairs.specs.Told.{PairsTold, Goes, Tells, GivesUp, PutGivesUp}
use Rattle.pairs.specs.Found.{IsSpent, Takes}
use Rattle.birth_death.specs.Changes.{GoesFirst}
use Rattle.birth_death.specs.Roots.{FollowsPuts, KeepsRoot}
use Rattle.birth_death.specs.Shows.{Seat, IsClean, told_by, FindsIn, MovesIn, GivesUpIn, PutGivesUpIn}
use Rattle.birth_death.proofs.Finding.{Finding, finds-later, moves-then, gives-up-then, shows-only}
use Rattle.birth_death.proofs.Rooting.{keeps-only}

abbrev pub seat_of : PageState → ℕ → Bool → Seat
seat_of state puts failed = record { state = state; puts = puts; failed = failed }

-- ---- clean trees

-- a call that puts nothing
clean-keeps : (a b : Seat) → b.puts ≡ a.puts → (b.failed ≡ false → a.failed ≡ false)
    → (b.failed ≡ false → KeepsRoot 0 a.state b.state) → IsClean a → IsClean b
clean-keeps a b puts unfailed keeps clean = λ not few.
    subst (λ (n : ℕ). FollowsPuts n b.state) (omega (arith, puts))
    (keeps not a.puts (clean (unfailed not) (omega (arith, puts, few))))

-- one that puts once
clean-puts : (a b : Seat) → b.puts ≡ min (a.puts + 1) (2 ^ 64 - 1) → (b.failed ≡ false → a.failed ≡ false)
    → (b.failed ≡ false → KeepsRoot 1 a.state b.state) → IsClean a → IsClean b
clean-puts a b puts unfailed keeps clean = λ not few.
    subst (λ (n : ℕ). FollowsPuts n b.state) (omega (arith, puts, few))
    (keeps not a.puts (clean (unfailed not) (omega (arith, puts, few))))

either-first : (x y : Bool) → (x || y) ≡ false → x ≡ false
either-first true y is = is
either-first false y is = refl

either-second : (x y : Bool) → (x || y) ≡ false → y ≡ false
either-second true y is = absurd (cc)
either-second false y is = is

pub either-none : (x : Bool) → x ≡ (x || false)
either-none true = refl
either-none false = refl

pub either-any : (x : Bool) → true ≡ (x || true)
either-any true = refl
either-any false = refl

unfailed-ok : {T : Type 0} (r : Result T PairFault) (P : Type 0) → is_err r ≡ false → OnOk r P → P
unfailed-ok (Ok x) P is p = p
unfailed-ok (Err e) P is p = absurd (cc)

-- ---- the store of new pages

pub within-later : (store n m : ℕ) → m ≡ n → store < n → store < m
within-later store n m same within = omega arith

-- ---- what goes on

goes-by : {S : Type 0} (old new : S) (seat : S → Seat) (most : ℕ) → GoesOn (seat old).state (seat new).state
    → (seat old).puts ≤ (seat new).puts
    → (seat new).puts ≤ (seat old).puts + most → (IsClean (seat old) → IsClean (seat new))
    → Goes (told_by seat) old new most
goes-by old new seat most on puts few clean = record {
  agreed = λ under agrees. agrees_before (seat old).state.reads (seat new).state.reads under on.extends agrees;
  faults = on.lasts.faults;
  puts = puts;
  few = few;
  clean = clean;
}

-- a call that keeps the root, whatever it answers
pub goes-keeps : {S : Type 0} (old new : S) (seat : S → Seat) → (seat new).puts ≡ (seat old).puts
    → (seat new).failed ≡ (seat old).failed
    → GoesOn (seat old).state (seat new).state → KeepsRoot 0 (seat old).state (seat new).state
    → Goes (told_by seat) old new 0
goes-keeps old new seat puts failed on keeps =
    goes-by old new seat 0 on (omega (arith, puts)) (omega (arith, puts))
    (clean-keeps (seat old) (seat new) puts (λ not. sym failed ∙ not) (λ not. keeps))

pub goes-reads : {S : Type 0} (old new : S) (seat : S → Seat) → (seat new).puts ≡ (seat old).puts
    → (seat new).failed ≡ (seat old).failed
    → OnlyReads (seat old).state (seat new).state → Goes (told_by seat) old new 0
goes-reads old new seat puts failed only =
    goes-keeps old new seat puts failed (goes_only (seat old).state (seat new).state only)
    (keeps-only (seat old).state (seat new).state only)

-- a change that keeps it unless it fails
pub goes-changes : {S T : Type 0} (old new : S) (seat : S → Seat) (r : Result T PairFault)
    → (seat new).puts ≡ (seat old).puts
    → (seat new).failed ≡ ((seat old).failed || is_err r) → GoesOn (seat old).state (seat new).state
    → OnOk r (KeepsRoot 0 (seat old).state (seat new).state) → Goes (told_by seat) old new 0
goes-changes old new seat r puts failed on keeps =
    goes-by old new seat 0 on (omega (arith, puts)) (omega (arith, puts))
    (clean-keeps (seat old) (seat new) puts (λ not. either-first (seat old).failed (is_err r) (sym failed ∙ not))
    (λ not. unfailed-ok r (KeepsRoot 0 (seat old).state (seat new).state)
    (either-second (seat old).failed (is_err r) (sym failed ∙ not)) keeps))

pub goes-puts : {S T : Type 0} (old new : S) (seat : S → Seat) (r : Result T PairFault)
    → (seat new).puts ≡ min ((seat old).puts + 1) (2 ^ 64 - 1)
    → (seat old).puts < 2 ^ 64 → (seat old).failed ≡ false → (seat new).failed ≡ is_err r
    → GoesOn (seat old).state (seat new).state
    → OnOk r (KeepsRoot 1 (seat old).state (seat new).state) → Goes (told_by seat) old new 1
goes-puts old new seat r puts fits unfailed failed on keeps =
    goes-by old new seat 1 on (omega (arith, puts)) (omega (arith, puts))
    (clean-puts (seat old) (seat new) puts (λ not. unfailed)
    (λ not. unfailed-ok r (KeepsRoot 1 (seat old).state (seat new).state) (sym failed ∙ not) keeps))

-- a put that is not tried, behind a change that failed
pub goes-failed : {S : Type 0} (old new : S) (seat : S → Seat)
    → (seat new).puts ≡ min ((seat old).puts + 1) (2 ^ 64 - 1) → (seat old).puts < 2 ^ 64
    → (seat new).failed ≡ true → GoesOn (seat old).state (seat new).state → Goes (told_by seat) old new 1
goes-failed old new seat puts fits failed on =
    goes-by old new seat 1 on (omega (arith, puts)) (omega (arith, puts)) (λ clean not few. absurd (cc))

-- ---- what is found, and why it gives up

pub tells-by : {S : Type 0} (old new : S) (seat : S → Seat) (IsSo : Versions → Type 0)
    → OnlyReads (seat old).state (seat new).state
    → FindsIn (seat old).state (seat new).state IsSo → Tells (told_by seat) old new IsSo
tells-by old new seat IsSo only finds = record {
  shows = λ under v agrees shows. shows-only (seat old).state (seat new).state under v only shows;
  finds = finds;
}

pub gives-up-by : {S : Type 0} (old new : S) (seat : S → Seat) (Given : Versions → Type 0) (fault : PairFault)
    → GivesUpIn (seat old).state (seat new).state Given fault → GivesUp (told_by seat) old new Given fault
gives-up-by old new seat Given Odd none = none
gives-up-by old new seat Given HeightFull none = none
gives-up-by old new seat Given (Page fault) cause = cause

pub memory-gives-up-by : {S : Type 0} (old new : S) (seat : S → Seat) (Given : Versions → Type 0) (fault : PairFault)
    → fault ≡ Page no_memory
    → PutGivesUp (told_by seat) old new Given fault
memory-gives-up-by old new seat Given fault is = subst (PutGivesUp (told_by seat) old new Given) (sym is) (inl refl)

pub put-gives-up-by : {S : Type 0} (old new : S) (seat : S → Seat) (Given : Versions → Type 0) (fault : PairFault)
    → (seat new).puts ≡ min ((seat old).puts + 1) (2 ^ 64 - 1) → (seat old).failed ≡ false
    → PutGivesUpIn (seat old).state (seat new).state Given fault → PutGivesUp (told_by seat) old new Given fault
put-gives-up-by old new seat Given Odd puts unfailed none = none
put-gives-up-by old new seat Given HeightFull puts unfailed high = λ clean few.
    high (seat old).puts (omega (arith, puts, few)) (clean unfailed (omega (arith, puts, few)))
put-gives-up-by old new seat Given (Page fault) puts unfailed cause = cause

-- ---- purges

spent-first : (a b : PageState) (kept from : List ℕ) (q : Quad) → OnlyReads a b → FindsIn a b (IsSpent kept from q)
    → Finding a b HasLives (GoesFirst kept q)
spent-first a b kept from q only found = record {
  only = only;
  finds = λ under v agrees shows has. record { lives = has; first = (found under v agrees shows has).life };
}

pub takes-by : {S : Type 0} (old new : S) (seat : S → Seat) (mid : PageState) (kept from : List ℕ) (q : Quad)
    → OnlyReads (seat old).state mid
    → FindsIn (seat old).state mid (IsSpent kept from q) → GoesOn mid (seat new).state
    → MovesIn mid (seat new).state (GoesFirst kept q) (with_purge kept q.key) → Takes (told_by seat) old new kept from q
takes-by old new seat mid kept from q only found on moves = record {
  moves = moves-then (seat old).state mid (seat new).state HasLives (GoesFirst kept q) (with_purge kept q.key)
      (spent-first (seat old).state mid kept from q only found) on.extends moves;
  finds = finds-later (seat old).state mid (seat new).state (IsSpent kept from q) on.extends found;
}

pub take-gives-up : (a b c : PageState) (kept from : List ℕ) (q : Quad) (fault : PairFault) → OnlyReads a b
    → FindsIn a b (IsSpent kept from q)
    → GoesOn b c → GivesUpIn b c (GoesFirst kept q) fault → GivesUpIn a c HasLives fault
take-gives-up a b c kept from q fault only found on gives =
    gives-up-then a b c HasLives (GoesFirst kept q) fault (spent-first a b kept from q only found) on.extends gives
