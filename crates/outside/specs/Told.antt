-- What a source and a sink tell of their content: a list, or nothing. Of one that tells nothing nothing is
-- said. How many calls did their work, and how many failed, each tells.
use Rattle.std.specs.Prelude.{◌≡◌, ℕ, List, [], ◌++◌, Option, Some, None, ⊤}
use Rattle.nfs3_types.specs.Count.{Counted}

-- what is told grows at its end by the part
abbrev pub Gains : {X : Type 0} → Option (List X) → Option (List X) → List X → Type 0
Gains None now part = ⊤
Gains (Some before) None part = ⊥
Gains (Some before) (Some now) part = now ≡ before ++ part

-- what is told begins with the part, and loses it
abbrev pub Loses : {X : Type 0} → Option (List X) → Option (List X) → List X → Type 0
Loses None now part = ⊤
Loses (Some before) None part = ⊥
Loses (Some before) (Some now) part = before ≡ part ++ now

-- nothing is left, where it is told
abbrev pub IsUsedUp : {X : Type 0} → Option (List X) → Type 0
IsUsedUp None = ⊤
IsUsedUp (Some left) = left ≡ []

-- What sources of a kind tell: the bytes taken so far, those still to come, how many takes gave at least one
-- byte, and how many failed.
pub record SourceTold (S : Type 0) : Type 0 where
  pub taken : S → Option (List ℕ)
  pub left : S → Option (List ℕ)
  pub takes : S → ℕ
  pub faults : S → ℕ

-- From before to now the source gave these bytes, in so many takes: it tells that they were taken, that they
-- came first of what was left, and that so many takes more gave bytes.
pub record GaveBytes {S : Type 0} (told : SourceTold S) (before now : S) (takes : ℕ) (part : List ℕ) : Type 0 where
  pub gained : Gains (told.taken before) (told.taken now) part
  pub lost : Loses (told.left before) (told.left now) part
  pub counted : Counted takes (told.takes before) (told.takes now)

-- What sinks of a kind tell: the bytes put so far; and how many puts failed, or put nothing of a part that is
-- not empty.
pub record SinkTold (K : Type 0) : Type 0 where
  pub written : K → Option (List ℕ)
  pub faults : K → ℕ

-- from before to now the sink got these bytes
abbrev pub GotBytes : {K : Type 0} → SinkTold K → K → K → List ℕ → Type 0
GotBytes told before now part = Gains (told.written before) (told.written now) part
