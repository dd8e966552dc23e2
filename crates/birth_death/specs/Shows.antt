-- What the pages of a transaction show of versions, and what a call over pages does to them.
use Rattle.std.specs.Prelude.{ℕ, ◌≡◌, ◌⊎◌, ◌<◌, ◌≤◌, Bool, true, false, List, Option, Some}
use Rattle.pair_types.specs.declared.fault.PairFault.{PairFault}
use Rattle.pair_types.specs.declared.fault.PairFault.TheVariants.{Odd, HeightFull, Page}
use Rattle.pair_types.specs.declared.quad.Quad.{Quad}
use Rattle.pair_types.specs.declared.slot.Slot.{Slot}
use Rattle.pair_types.specs.PageMaps.{PageMap, Agrees, over}
use Rattle.pair_types.specs.PageState.{PageState}
use Rattle.btree_page.specs.Tree.{Among, IsFormed}
use Rattle.pairs.specs.Lives.{Life}
use Rattle.pairs.specs.Versions.{Versions}
use Rattle.pairs.specs.Told.{PairsTold, Finds, Moves, GivesUp}
use Rattle.birth_death.specs.Quads.{lives_of}
use Rattle.birth_death.specs.Roots.{FollowsPuts, IsHigh}

-- a page that no tree of these slots reaches
pub record IsOutside (p : PageMap) (slots : List Slot) (slot : Slot) (block : List ℕ) : Type 0 where
  pub held : p slot ≡ Some block
  pub outside : Among slot slots → ⊥

-- The pages that lie below, with the writes over them, are a tree of records that tell these lives, and each block is a
-- page outside of it.
pub record Shows (state : PageState) (under : PageMap) (v : Versions) : Type 0 where
  pub stores : v.stores ≡ state.stores
  pub quads : List Quad
  pub slots : List Slot
  pub formed : IsFormed state.stores (over state.writes under) quads slots
  pub lives : (key : List ℕ) → v.lives key ≡ lives_of quads key
  pub blocks : (slot : Slot) (block : List ℕ) → v.blocks slot ≡ Some block
      → IsOutside (over state.writes under) slots slot block

-- a tree as it stands: what its pages tell, how often something was put, and whether a change of it failed
pub record Seat : Type 0 where
  pub state : PageState
  pub puts : ℕ
  pub failed : Bool

-- its root follows the puts, so long as these are few and no change of the tree failed
abbrev pub IsClean : Seat → Type 0
IsClean seat = seat.failed ≡ false → seat.puts ≤ 24 → FollowsPuts seat.puts seat.state

-- what a transaction tells that has such a tree
abbrev pub told_by : {S : Type 0} → (S → Seat) → PairsTold S PageMap
told_by seat = record {
  agrees = λ s under. Agrees (seat s).state.reads under;
  shows = λ s under v. Shows (seat s).state under v;
  faults = λ s. (seat s).state.faults;
  puts = λ s. (seat s).puts;
  clean = λ s. IsClean (seat s);
  high = λ s. IsHigh (seat s).state;
}

-- what pages alone tell, before anything is put
abbrev pub page_told : PairsTold PageState PageMap
page_told = told_by (λ state. record { state = state; puts = 0; failed = false })

-- this much is so of what was shown, where lives are in order
abbrev pub FindsIn : PageState → PageState → (Versions → Type 0) → Type 0
FindsIn = Finds page_told

-- where this much is given, what is shown is what was shown, edited
abbrev pub MovesIn : PageState → PageState → (Versions → Type 0) → (Versions → Versions) → Type 0
MovesIn = Moves page_told

-- why a call gives up that puts nothing
abbrev pub GivesUpIn : PageState → PageState → (Versions → Type 0) → PairFault → Type 0
GivesUpIn = GivesUp page_told

-- why a put gives up: so; or the root is as high as roots get, where it followed at most 23 puts
abbrev pub PutGivesUpIn : PageState → PageState → (Versions → Type 0) → PairFault → Type 0
PutGivesUpIn old new Given Odd = GivesUpIn old new Given Odd
PutGivesUpIn old new Given HeightFull = (puts : ℕ) → puts < 24 → FollowsPuts puts old → IsHigh new
PutGivesUpIn old new Given (Page fault) = GivesUpIn old new Given (Page fault)
