-- What the pass of a hall tells.
use Rattle.std.specs.Prelude.{◌≡◌, ℕ, ◌+◌, ◌-◌, ◌^◌, min}
use Rattle.atomic_table.specs.Seated.{TableId}
use Rattle.hall.specs.declared.places.Next.{Next}
use Rattle.hall.specs.declared.places.Next.TheVariants.{Visit, Empty, End}

-- Of which hall it is, how many of all parts of the right to know the whole it has, how many passes it can split off,
-- how many visits it handed over and took, and how many marks of the end.
pub record HallPassState : Type 0 where
  pub hall : TableId
  pub parts : ℕ
  pub splits : ℕ
  pub handed : ℕ
  pub taken : ℕ
  pub marked : ℕ
  pub ended : ℕ

-- it has every part: all others were joined into it
abbrev pub IsWhole : HallPassState → Type 0
IsWhole pass = pass.parts ≡ 4_294_967_296

-- the first pass of a hall, which can split off so many
abbrev pub first : TableId → ℕ → HallPassState
first hall splits = record { hall = hall; parts = 4_294_967_296; splits = splits; handed = 0; taken = 0; marked = 0; ended = 0 }

-- a pass that was split off, and the one that it was split off from
abbrev pub fresh : TableId → HallPassState
fresh hall = record { hall = hall; parts = 1; splits = 0; handed = 0; taken = 0; marked = 0; ended = 0 }

abbrev pub split_off : HallPassState → HallPassState
split_off pass = record pass { parts = pass.parts - 1; splits = pass.splits - 1 }

-- a pass took in another: it has the parts and the numbers of both
pub record Joined (one other both : HallPassState) : Type 0 where
  pub hall : both.hall ≡ one.hall
  pub parts : both.parts ≡ one.parts + other.parts
  pub splits : both.splits ≡ min (one.splits + other.splits) (2 ^ 32 - 1)
  pub handed : both.handed ≡ one.handed + other.handed
  pub taken : both.taken ≡ one.taken + other.taken
  pub marked : both.marked ≡ one.marked + other.marked
  pub ended : both.ended ≡ one.ended + other.ended

-- it handed over one visit more, or one mark of the end
abbrev pub HandedOver : HallPassState → HallPassState → Type 0
HandedOver old new = new ≡ record old { handed = old.handed + 1 }

abbrev pub Marked : HallPassState → HallPassState → Type 0
Marked old new = new ≡ record old { marked = old.marked + 1 }

-- all 64 places were in use: with every part, so many more were handed over than taken
abbrev pub Full : HallPassState → Type 0
Full pass = IsWhole pass → pass.handed + pass.marked ≡ pass.taken + pass.ended + 64

-- nothing was there: with every part, all that was handed over was taken
abbrev pub AllTaken : HallPassState → Type 0
AllTaken pass = IsWhole pass → (pass.taken ≡ pass.handed) × (pass.ended ≡ pass.marked)

-- what was taken stands in the pass's numbers
abbrev pub Told : {V : Type 0} → Next V → HallPassState → HallPassState → Type 0
Told (Visit visit) old new = new ≡ record old { taken = old.taken + 1 }
Told Empty old new = (new ≡ old) × AllTaken old
Told End old new = new ≡ record old { ended = old.ended + 1 }
