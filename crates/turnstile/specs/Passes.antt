-- Turnstiles and passes as a caller sees them.
use Rattle.std.specs.Prelude.{◌≡◌, ℕ, ◌<◌, ◌≤◌, Bool, true, false, List, ◌⊎◌, min, max}
use Rattle.atomic_table.specs.Seated.{TableId}
use Rattle.page_types.specs.declared.journal.JEntry.{JEntry}
use Rattle.page_types.specs.Journals.{Origin, own}
use Rattle.turnstile.specs.Growth.{Grew}

-- which turnstile it is, and what the stores of its state began with
pub record TurnState : Type 0 where
  pub table : TableId
  pub origin : Origin

-- A pass at a moment: of which turnstile it is, whether it holds the turn, its numbers from number up to end, and
-- the journal that it has seen.
pub record PassState : Type 0 where
  pub table : TableId
  pub origin : Origin
  pub holds : Bool
  pub number : ℕ
  pub end : ℕ
  pub seen : List JEntry

-- how many numbers there are
unfoldable pub all_numbers : ℕ
all_numbers = 4_294_967_296

-- the pass is of this turnstile
pub record IsPassOf (turn : TurnState) (pass : PassState) : Type 0 where
  pub table : pass.table ≡ turn.table
  pub origin : pass.origin ≡ turn.origin

-- the number is one of the pass's
abbrev pub Owns : PassState → ℕ → Type 0
Owns pass n = (pass.number ≤ n) × (n < pass.end)

-- it has every number
abbrev pub HasAll : PassState → Type 0
HasAll pass = (pass.number ≡ 0) × (pass.end ≡ 4_294_967_296)

-- the first pass of a turnstile, which has every number
abbrev pub first : TurnState → List JEntry → PassState
first turn seen = record {
  table = turn.table;
  origin = turn.origin;
  holds = false;
  number = 0;
  end = 4_294_967_296;
  seen = seen;
}

-- the pass with the turn, and without it, after it has seen this journal
abbrev pub holding : PassState → List JEntry → PassState
holding pass seen = record pass { holds = true; seen = seen }

abbrev pub resting : PassState → List JEntry → PassState
resting pass seen = record pass { holds = false; seen = seen }

-- its numbers below, and those from there on
abbrev pub below : ℕ → PassState → PassState
below from pass = record pass { end = from }

abbrev pub above : ℕ → PassState → PassState
above from pass = record pass { holds = false; number = from }

-- A pass got this state: it has the pass's origin, its journal only gained entries since the pass saw it, and none
-- of the pass's numbers.
pub record Took {S : Type 0} (journal : S → List JEntry) (origin : S → Origin) (pass : PassState) (state : S) : Type 0 where
  pub origin_is : origin state ≡ pass.origin
  pub grew : Grew pass.seen (journal state)
  pub mine : (n : ℕ) → Owns pass n → own n (journal state) ≡ own n pass.seen

-- the numbers of two passes border
abbrev pub Borders : PassState → PassState → Type 0
Borders one other = (one.end ≡ other.number) ⊎ (other.end ≡ one.number)

-- a pass took in another: it has the numbers of both, and has seen what either saw, and all entries of either's numbers
pub record KeepsBoth (one other both : PassState) : Type 0 where
  pub table : both.table ≡ one.table
  pub origin : both.origin ≡ one.origin
  pub rests : both.holds ≡ false
  pub number : both.number ≡ min one.number other.number
  pub end : both.end ≡ max one.end other.end
  pub saw_one : Grew one.seen both.seen
  pub saw_other : Grew other.seen both.seen
  pub own_of_one : (n : ℕ) → Owns one n → own n both.seen ≡ own n one.seen
  pub own_of_other : (n : ℕ) → Owns other n → own n both.seen ≡ own n other.seen
