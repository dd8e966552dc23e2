-- What doors and visits tell.
use Rattle.std.specs.Prelude.{◌≡◌, ℕ, Bool, true, List, [], ◌∷◌, Option, Some, None, Result, Ok, Err, ⊤, ◌↔◌}
use Rattle.nfs3_types.specs.declared.moment.Moment.{Moment}
use Rattle.nfs3_types.specs.Count.{Rose}
use Rattle.outside.specs.Told.{SourceTold, SinkTold, Loses}
use Rattle.outside.specs.Clock.{ClockTold}
use Rattle.outside.specs.declared.failed.Failed.{Failed}
use Rattle.doors.specs.declared.visit.Visit.{Visit}

-- what the parts of a visit tell
pub record VisitsTold (S K C : Type 0) : Type 0 where
  pub input : SourceTold S
  pub output : SinkTold K
  pub clock : ClockTold C

abbrev pub visits_told : {S K C : Type 0} → SourceTold S → SinkTold K → ClockTold C → VisitsTold S K C
visits_told input output clock = record { input = input; output = output; clock = clock }

-- What is known of a visit: how many of its calls failed, the bytes taken and those left, the bytes put, and the
-- moments given and still to come, where these are told.
pub record VisitFacts : Type 0 where
  pub read_faults : ℕ
  pub write_faults : ℕ
  pub taken : Option (List ℕ)
  pub left : Option (List ℕ)
  pub written : Option (List ℕ)
  pub given : Option (List Moment)
  pub to_come : Option (ℕ → Moment)

abbrev pub facts_of : {S K C : Type 0} → VisitsTold S K C → Visit S K C → VisitFacts
facts_of told visit = record {
  read_faults = told.input.faults visit.input;
  write_faults = told.output.faults visit.output;
  taken = told.input.taken visit.input;
  left = told.input.left visit.input;
  written = told.output.written visit.output;
  given = told.clock.given visit.clock;
  to_come = told.clock.to_come visit.clock;
}

-- nothing, where it is told
abbrev pub IsNothing : {X : Type 0} → Option (List X) → Type 0
IsNothing None = ⊤
IsNothing (Some list) = list ≡ []

-- no call of it failed, and nothing was taken, put or given yet
pub record IsFresh (facts : VisitFacts) : Type 0 where
  pub read_faults : facts.read_faults ≡ 0
  pub write_faults : facts.write_faults ≡ 0
  pub taken : IsNothing facts.taken
  pub written : IsNothing facts.written
  pub given : IsNothing facts.given

-- What doors of a kind tell: the visits still to come, where they tell them; whether no visit is left; how many
-- calls failed; and what a receipt tells.
pub record DoorTold (D V R : Type 0) : Type 0 where
  pub to_come : D → Option (List V)
  pub is_over : D → Bool
  pub faults : D → ℕ
  pub receipt : R → VisitFacts

-- where the visits are told, no visit is left exactly where none is still to come
abbrev pub IsOverExactly : {V : Type 0} → Bool → Option (List V) → Type 0
IsOverExactly is_over None = ⊤
IsOverExactly is_over (Some visits) = (is_over ≡ true) ↔ (visits ≡ [])

abbrev pub IsFormed : {D V R : Type 0} → DoorTold D V R → D → Type 0
IsFormed told door = IsOverExactly (told.is_over door) (told.to_come door)

-- What comes of a call: the first of the visits still to come, which then lack it, and it is fresh; or no visit is
-- left; or a fault, which was counted. Where no visit comes, those still to come stay.
abbrev pub Comes : {D S K C R : Type 0} → DoorTold D (Visit S K C) R → VisitsTold S K C → D → D
    → Result (Option (Visit S K C)) Failed → Type 0
Comes told visits before now (Ok (Some visit)) =
    Loses (told.to_come before) (told.to_come now) (visit ∷ []) × IsFresh (facts_of visits visit)
Comes told visits before now (Ok None) = (told.to_come now ≡ told.to_come before) × (told.is_over now ≡ true)
Comes told visits before now (Err fault) =
    (told.to_come now ≡ told.to_come before) × Rose (told.faults before) (told.faults now)
