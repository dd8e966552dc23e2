-- The lives of a key: its values, each from its birth up to, and not including, its death.
use Rattle.std.specs.Prelude.{ℕ, ◌≡◌, ◌⊎◌, ◌<◌, ◌≤◌, ◌==◌, nat_le, nat_lt, Bool, not, ◌&&◌, if◌then◌else◌, List, [], ◌∷◌}
use Rattle.std.specs.Prelude.{Option, Some, None, ⊤}
use Rattle.std.specs.List.{list_any}
use Rattle.std.specs.Str.{bytes_eq}
use Rattle.pair_types.specs.declared.quad.Quad.{Quad}
use Rattle.pairs.specs.declared.at.At.{At}
use Rattle.pairs.specs.declared.at.At.TheVariants.{Live, Snap}

pub record Life : Type 0 where
  pub birth : ℕ
  pub death : ℕ
  pub value : List ℕ

-- the death of what lives: 2 ^ 64 - 1
abbrev pub never : ℕ
never = 18446744073709551615

-- the view sees this life: the live view what lives, a view by number what was born by then and not yet dead
abbrev pub sees : At → Life → Bool
sees Live l = l.death == never
sees (Snap n) l = nat_le l.birth n && nat_lt n l.death

-- the value that a view sees
abbrev pub seen : At → List Life → Option (List ℕ)
seen at [] = None
seen at (l ∷ ls) = if sees at l then Some l.value else seen at ls

-- the birth of what lives
abbrev pub born : List Life → Option ℕ
born [] = None
born (l ∷ ls) = if l.death == never then Some l.birth else born ls

abbrev pub new_life : ℕ → List ℕ → Life
new_life epoch value = record { birth = epoch; death = never; value = value }

-- a new value from this epoch on: one that was born in it is replaced, an older one ends
abbrev pub put_life : ℕ → List ℕ → List Life → List Life
put_life epoch value [] = new_life epoch value ∷ []
put_life epoch value (l ∷ ls) =
    if l.death == never
    then (if l.birth == epoch then new_life epoch value ∷ ls else record l { death = epoch } ∷ (new_life epoch value ∷ ls))
    else (l ∷ put_life epoch value ls)

-- no value from this epoch on: one that was born in it goes, an older one ends
abbrev pub del_life : ℕ → List Life → List Life
del_life epoch [] = []
del_life epoch (l ∷ ls) =
    if l.death == never then (if l.birth == epoch then ls else record l { death = epoch } ∷ ls) else (l ∷ del_life epoch ls)

-- a dead life that none of these numbers sees
abbrev pub is_spent : List ℕ → Life → Bool
is_spent kept l = not (l.death == never) && not (list_any (λ n. sees (Snap n) l) kept)

-- the first spent life
abbrev pub spent : List ℕ → List Life → Option Life
spent kept [] = None
spent kept (l ∷ ls) = if is_spent kept l then Some l else spent kept ls

-- the lives without the first spent one
abbrev pub purge_life : List ℕ → List Life → List Life
purge_life kept [] = []
purge_life kept (l ∷ ls) = if is_spent kept l then ls else l ∷ purge_life kept ls

-- the life that a record tells
abbrev pub life_of : Quad → Life
life_of q = record { birth = q.birth; death = q.death; value = q.value }

-- the lives of a key, in the order of the records that tell them
abbrev pub lives_of : List Quad → List ℕ → List Life
lives_of [] key = []
lives_of (q ∷ qs) key = if bytes_eq q.key key then life_of q ∷ lives_of qs key else lives_of qs key

-- Lives one after another from a birth on, each born before it dies, up to this epoch; the last may live.
unfoldable pub AreLives : ℕ → ℕ → List Life → Type 0
AreLives epoch from [] = ⊤
AreLives epoch from (l ∷ ls) =
    (from ≤ l.birth) × (l.birth ≤ epoch) × (l.birth < l.death)
    × (((l.death ≡ never) × (ls ≡ [])) ⊎ ((l.death ≤ epoch) × AreLives epoch l.death ls))
