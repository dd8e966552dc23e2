-- What the checks of a plan show: what holds of all that they find, and that no refusal says OK, or that the
-- server failed or is to be called again later.
use Rattle.std.proofs.Common.{◌≡◌, ℕ, Bool, true, false, if◌then◌else◌, List, Option, Some, None, Ok, Err}
use Rattle.std.specs.Prelude.{⊤, IfSome, MatchResult}
use Rattle.nfs3_types.specs.declared.args.DirOp.{DirOp}
use Rattle.nfs3_types.specs.declared.status.Status.{Status}
use Rattle.nfs3_types.specs.declared.status.Status.TheVariants.{Ok as StatusOk, ServerFault, Jukebox}
use Rattle.fs_rules.specs.Checks.{Check, find_directory, find_object, need_place_for, no_fault, refuse_if, some_or, ◌>>=◌}
use Rattle.fs_rules.specs.Names.{name_fault, target_fault}
use Rattle.fs_rules.specs.Places.{Object}
use Rattle.fs_rules.specs.Tree.{Tree}

-- neither OK, nor that the server failed or is to be called again later
abbrev pub is_refusal : Status → Bool
is_refusal StatusOk = false
is_refusal ServerFault = false
is_refusal Jukebox = false
is_refusal status = true

abbrev pub IsRefusal : Status → Type 0
IsRefusal status = is_refusal status ≡ true

-- what is found has the property, and what refuses is a refusal
pub record Shows {A : Type 0} (P : A → Type 0) (c : Check A) : Type 0 where
  pub is : MatchResult c P IsRefusal

-- nothing is known of it
abbrev pub Any : {A : Type 0} → A → Type 0
Any a = ⊤

-- ---- the parts of a plan

-- what holds of either holds of the one that is chosen
pub either_is : {A : Type 0} (P : A → Type 0) (b : Bool) (x y : A) → P x → P y → P (if b then x else y)
either_is P true x y first second = first
either_is P false x y first second = second

-- a check, and the checks in_turn it, which may count on what it found
pub in_order : {A B : Type 0} (P : A → Type 0) (Q : B → Type 0) (c : Check A) (f : A → Check B) → Shows P c
    → ((a : A) → P a → Shows Q (f a)) → Shows Q (c >>= f)
in_order P Q (Ok a) f first next = next a first.is
in_order P Q (Err status) f first next = record { is = first.is }

-- the same where nothing is known of what it found
pub in_turn : {A B : Type 0} (Q : B → Type 0) {c : Check A} {f : A → Check B} → Shows Any c → ((a : A) → Shows Q (f a))
    → Shows Q (c >>= f)
in_turn Q {c = c} {f = f} first next = in_order Any Q c f first (λ a _. next a)

pub gives : {A : Type 0} (P : A → Type 0) (a : A) → P a → Shows P (Ok a)
gives P a h = record { is = h }

pub weaker : {A : Type 0} (P Q : A → Type 0) (c : Check A) → Shows P c → ((a : A) → P a → Q a) → Shows Q c
weaker P Q (Ok a) h follows = record { is = follows a h.is }
weaker P Q (Err status) h follows = record { is = h.is }

pub unless_shows : (b : Bool) (status : Status) → IsRefusal status → Shows Any (refuse_if b status)
unless_shows true status h = record { is = h }
unless_shows false status h = record { is = tt }

pub some_or_shows : {A : Type 0} (x : Option A) (status : Status) → IsRefusal status → Shows Any (some_or x status)
some_or_shows (Some a) status h = record { is = tt }
some_or_shows None status h = record { is = h }

pub either_shows : {A : Type 0} (P : A → Type 0) (b : Bool) (c d : Check A) → Shows P c → Shows P d → Shows P (if b then c else d)
either_shows P b c d first second = either_is (Shows P) b c d first second

-- ---- the checks that plans share

pub find_object_shows : (t : Tree) (bytes : List ℕ) → Shows Any (find_object t bytes)
unfolding find_object
find_object_shows t bytes = search (in_turn, some_or_shows)

-- a status, where there is one, is one of a refusal
pub record Refuses (fault : Option Status) : Type 0 where
  pub is : IfSome fault IsRefusal

pub no_refuses : Refuses None
no_refuses = record { is = tt }

pub some_refuses : (status : Status) → IsRefusal status → Refuses (Some status)
some_refuses status h = record { is = h }

pub either_refuses : (b : Bool) (x y : Option Status) → Refuses x → Refuses y → Refuses (if b then x else y)
either_refuses b x y first second = either_is Refuses b x y first second

pub no_fault_shows : (fault : Option Status) → Refuses fault → Shows Any (no_fault fault)
no_fault_shows (Some status) h = record { is = h.is }
no_fault_shows None h = record { is = tt }

pub name_fault_refuses : (name : List ℕ) → Refuses (name_fault name)
unfolding name_fault
name_fault_refuses name = search (either_refuses, some_refuses, no_refuses)

pub target_fault_refuses : (target : List ℕ) → Refuses (target_fault target)
unfolding target_fault
target_fault_refuses target = search (either_refuses, some_refuses, no_refuses)

pub need_place_for_shows : (o : Object) (name : List ℕ) → Shows Any (need_place_for o name)
unfolding need_place_for
need_place_for_shows o name = search (in_turn, unless_shows, no_fault_shows, name_fault_refuses)

pub find_directory_shows : (t : Tree) (a : DirOp (List ℕ)) → Shows Any (find_directory t a)
unfolding find_directory
find_directory_shows t a = search (in_turn, find_object_shows, need_place_for_shows, gives)

-- what a plan shows is found from its parts: `search checks`, under `unfolding` of the plan
pub ruleset checks = (
  in_turn,
  gives,
  unless_shows,
  some_or_shows,
  no_fault_shows,
  name_fault_refuses,
  find_object_shows,
  need_place_for_shows,
  find_directory_shows,
)
