-- What passes know, as the rule sees it.
use Rattle.std.specs.Prelude.{◌≡◌, ℕ, ◌<◌, ◌≤◌, Bool, true, false, List, [], ◌∷◌, ◌⊎◌, Option, None, length, min, max}
use Rattle.std.specs.Prelude.{if◌then◌else◌, nat_lt}
use Rattle.atomic_table.specs.Seated.{TableId}
use Rattle.page_types.specs.declared.journal.JEntry.{JEntry}
use Rattle.page_types.specs.Journals.{Origin}
use Rattle.turnstile.specs.declared.view.View.{View}
use Rattle.turnstile.specs.declared.view.Claim.{Claim}
use Rattle.turnstile.specs.Passes.{PassState}

-- the number is in the view's range
abbrev pub Has : View → ℕ → Type 0
Has v n = (v.low ≤ n) × (n < v.high)

-- what a caller sees of it
abbrev pub state_of : TableId → View → PassState
state_of table v = record { table = table; origin = v.origin; holds = v.holds; number = v.low; end = v.high; seen = v.seen }

-- the slots that are out with a pass: the one of the state, while it holds the turn
abbrev pub slots_of : {S : Type 0} → Bool → List (ℕ × Option S)
slots_of true = (0, None) ∷ []
slots_of false = []

-- the view of the first pass: every number
abbrev pub whole : Origin → List JEntry → View
whole origin now = record { holds = false; origin = origin; seen = now; low = 0; high = 4_294_967_296; claims = [] }

-- the view of a pass that has taken a state with this journal, and of one that has given it back
abbrev pub holding : View → List JEntry → View
holding v now = record v { holds = true; seen = now; claims = [] }

abbrev pub resting : View → List JEntry → View
resting v now = record v { holds = false; seen = now; claims = [] }

-- the parts of a range
abbrev pub below : ℕ → View → View
below from v = record v { high = from; claims = [] }

abbrev pub above : ℕ → View → View
above from v = record v { holds = false; low = from; claims = [] }

-- two ranges border
abbrev pub Border : View → View → Type 0
Border v w = (v.high ≡ w.low) ⊎ (w.high ≡ v.low)

-- the longer of two
abbrev pub longer : List JEntry → List JEntry → List JEntry
longer xs ys = if nat_lt (length xs) (length ys) then ys else xs

abbrev pub claim_of : View → Claim
claim_of v = record { low = v.low; high = v.high; seen = v.seen }

-- two views as one: what either knew of its own numbers stays as a claim, until the next look
abbrev pub joined : View → View → View
joined v w = record {
  holds = false;
  origin = v.origin;
  seen = longer v.seen w.seen;
  low = min v.low w.low;
  high = max v.high w.high;
  claims = claim_of v ∷ claim_of w ∷ [];
}

-- the view of a pass that is gone
abbrev pub spent : View
spent = record { holds = false; origin = record { stores = 0; first = [] }; seen = []; low = 0; high = 0; claims = [] }

-- the view without claims
abbrev pub quiet : View → View
quiet v = record v { claims = [] }
