-- The rule of the turnstile, and what its steps tell.
use Rattle.std.specs.Prelude.{◌≡◌, ◌≢◌, ℕ, ◌<◌, ◌≤◌, true, false, List, [], ◌∷◌, ◌⊎◌, Option, Some, MatchBool, ◌==◌, min, max, ⊤}
use mathlib.Core.Option as maybe
use lib.ListN.{get_elem?}
use Rattle.atomic_table.specs.Table.{State, Me}
use Rattle.page_types.specs.declared.journal.JEntry.{JEntry}
use Rattle.page_types.specs.Journals.{Origin, own}
use Rattle.turnstile.specs.declared.view.View.{View}
use Rattle.turnstile.specs.declared.view.Claim.{Claim}
use Rattle.turnstile.specs.Growth.{Grew}
use Rattle.turnstile.specs.Views.{Has, holding, resting, quiet}

-- a claim is about numbers of the view, and holds
pub record IsTrueClaim (now : List JEntry) (v : View) (c : Claim) : Type 0 where
  pub saw : Grew c.seen v.seen
  pub within : (n : ℕ) → c.low ≤ n → n < c.high → Has v n
  pub mine : (n : ℕ) → c.low ≤ n → n < c.high → own n c.seen ≡ own n now

abbrev pub AreTrue : List JEntry → View → List Claim → Type 0
AreTrue now v [] = ⊤
AreTrue now v (c ∷ cs) = IsTrueClaim now v c × AreTrue now v cs

-- what one view knows of the present journal
pub record Knows (origin : Origin) (now : List JEntry) (v : View) : Type 0 where
  pub from : v.low < v.high → v.origin ≡ origin
  pub saw : Grew v.seen now
  pub mine : (n : ℕ) → Has v n → own n v.seen ≡ own n now
  pub ends : v.high ≤ 4_294_967_296
  pub claims : AreTrue now v v.claims

abbrev pub All : (View → Type 0) → List View → Type 0
All F vs = (i : ℕ) (v : View) → get_elem? vs i ≡ maybe.some v → F v

-- no number is in two ranges
abbrev pub Apart : List View → Type 0
Apart vs = (i j : ℕ) (v w : View) (n : ℕ)
    → get_elem? vs i ≡ maybe.some v → get_elem? vs j ≡ maybe.some w → Has v n → Has w n → i ≡ j

-- the state is at home, and nobody holds the turn
pub record AtHome {S : Type 0} (journal : S → List JEntry) (origin_of : S → Origin) (origin : Origin)
    (s : State (Option S) View) : Type 0 where
  pub word : s.words ≡ 0 ∷ []
  pub value : S
  pub home : s.homes ≡ maybe.some (Some value) ∷ []
  pub origin_is : origin_of value ≡ origin
  pub idle : All (λ v. v.holds ≡ false) s.views
  pub know : All (Knows origin (journal value)) s.views
  pub apart : Apart s.views

-- one pass holds the turn
pub record IsOut {S : Type 0} (origin : Origin) (s : State (Option S) View) : Type 0 where
  pub word : s.words ≡ 1 ∷ []
  pub home : s.homes ≡ maybe.none ∷ []
  pub holder : ℕ
  pub view : View
  pub is : get_elem? s.views holder ≡ maybe.some view
  pub holds : view.holds ≡ true
  pub some : view.low < view.high
  pub idle : (i : ℕ) (v : View) → get_elem? s.views i ≡ maybe.some v → i ≢ holder → v.holds ≡ false
  pub know : All (Knows origin view.seen) s.views
  pub apart : Apart s.views

abbrev pub TurnRule : {S : Type 0} → (S → List JEntry) → (S → Origin) → Origin → State (Option S) View → Type 0
TurnRule journal origin_of origin s = AtHome journal origin_of origin s ⊎ IsOut origin s

-- what a view tells of the state that its pass finds
pub record Found {S : Type 0} (journal : S → List JEntry) (origin_of : S → Origin) (v : View) (state : S) : Type 0 where
  pub origin : origin_of state ≡ v.origin
  pub grew : Grew v.seen (journal state)
  pub mine : (n : ℕ) → Has v n → own n v.seen ≡ own n (journal state)

-- the turn was free, and the state is taken; or nothing has changed
abbrev pub Takes : {S : Type 0} → (S → List JEntry) → (S → Origin) → Me (Option S) View → ℕ → Me (Option S) View → Type 0
Takes {S} journal origin_of v found w = MatchBool (found == 0)
    ((x : S) × (w ≡ (holding v.0 (journal x), (0, Some x) ∷ [])) × Found journal origin_of v.0 x) (w ≡ v)

-- the state is back
abbrev pub Gives : {S : Type 0} → (S → List JEntry) → Me (Option S) View → Me (Option S) View → Type 0
Gives {S} journal v w = (x : S) × (v.1 ≡ (0, Some x) ∷ []) × (w ≡ (resting v.0 (journal x), []))

-- what is seen goes on from what the claims saw, and has the entries of their numbers that the claims have
abbrev pub Bears : View → List Claim → Type 0
Bears v [] = ⊤
Bears v (c ∷ cs) = Grew c.seen v.seen × ((n : ℕ) → c.low ≤ n → n < c.high → own n c.seen ≡ own n v.seen) × Bears v cs

-- the claims are cashed
abbrev pub Looks : {S : Type 0} → Me (Option S) View → Me (Option S) View → Type 0
Looks {S} v w = (w ≡ (quiet v.0, v.1)) × Bears v.0 v.0.claims

-- a pass took in another
pub record TookIn (v w x : View) : Type 0 where
  pub low : x.low ≡ min v.low w.low
  pub high : x.high ≡ max v.high w.high
  pub rests : x.holds ≡ false
  pub claims : x.claims ≡ []
  pub origin : x.origin ≡ v.origin
  pub saw_first : Grew v.seen x.seen
  pub saw_second : Grew w.seen x.seen
  pub first : (n : ℕ) → Has v n → own n v.seen ≡ own n x.seen
  pub second : (n : ℕ) → Has w n → own n w.seen ≡ own n x.seen
