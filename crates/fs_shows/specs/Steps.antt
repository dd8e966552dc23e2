-- What a call over pairs and blocks does to every tree that may lie below.
use Rattle.std.specs.Prelude.{ℕ, ◌≡◌, ◌≤◌, Result, Ok, Err, ⊤}
use Rattle.fs_rules.specs.Checks.{Check}
use Rattle.fs_rules.specs.Sound.{IsSound}
use Rattle.fs_rules.specs.Tree.{Tree}
use Rattle.pair_types.specs.declared.fault.PairFault.{PairFault}
use Rattle.pair_types.specs.declared.fault.PairFault.TheVariants.{Odd, HeightFull, Page}
use Rattle.pairs.specs.Versions.{Versions, HasLives}
use Rattle.pairs.specs.Told.{PairsTold, Goes, GivesUp, PutGivesUp}
use Rattle.fs_shows.specs.declared.halt.Halt.{Halt}
use Rattle.fs_shows.specs.declared.halt.Halt.TheVariants.{Refused, Fault}
use Rattle.fs_shows.specs.Shows.{Shows}

module _ {S W : Type 0} (told : PairsTold S W) where
  -- this tree may lie below, with what was written so far
  pub record Lies (s : S) (w : W) (t : Tree) : Type 0 where
    pub versions : Versions
    pub shown : told.shows s w versions
    pub shows : Shows versions t

  -- where this much is given of a tree that lay below, this much is so of it
  abbrev pub Learns : S → S → (Tree → Type 0) → (Tree → Type 0) → Type 0
  Learns old new Given IsSo = (w : W) (t : Tree) → told.agrees new w → Lies old w t → Given t → IsSo t

  -- where this much is given, the tree that lies below is the one that lay there, edited
  abbrev pub Edits : S → S → (Tree → Type 0) → (Tree → Tree) → Type 0
  Edits old new Given edit = (w : W) (t : Tree) → told.agrees new w → Lies old w t → Given t → Lies new w (edit t)

  -- a call that only reads
  pub record Reads (old new : S) (Given IsSo : Tree → Type 0) : Type 0 where
    pub stays : Edits old new (λ t. ⊤) (λ t. t)
    pub learns : Learns old new Given IsSo

  -- Why a call over trees gives up that only reads: nothing that agrees shows a tree of which this much is given; or a page's
  -- fault, which was counted, or is want of memory.
  abbrev pub GivesUpOn : S → S → (Tree → Type 0) → PairFault → Type 0
  GivesUpOn old new Given Odd = (w : W) (t : Tree) → told.agrees new w → Lies old w t → Given t → ⊥
  GivesUpOn old new Given HeightFull = ⊥
  GivesUpOn old new Given (Page fault) = GivesUp told old new (λ v. ⊤) (Page fault)

  -- Why an edit gives up: so; or the root is as high as roots get, unless the transaction did not begin clean or made more
  -- than 24 puts.
  abbrev pub EditGivesUp : S → S → (Tree → Type 0) → PairFault → Type 0
  EditGivesUp old new Given Odd = GivesUpOn old new Given Odd
  EditGivesUp old new Given HeightFull = PutGivesUp told old new (λ v. ⊤) HeightFull
  EditGivesUp old new Given (Page fault) = GivesUpOn old new Given (Page fault)

  -- Reads that answer as a check of the answer table does: what was found stands for what the check finds, or the status is
  -- that of its refusal, on each sound tree; Odd comes only where no sound tree lies below.
  abbrev pub Checked : {A X : Type 0} → (X → A → Type 0) → S → S → (Tree → Check A) → Result X Halt → Type 0
  Checked {A = A} Finds old new check (Ok x) = Reads old new IsSound (λ t. (a : A) × (check t ≡ Ok a) × Finds x a)
  Checked Finds old new check (Err (Refused status)) = Reads old new IsSound (λ t. check t ≡ Err status)
  Checked Finds old new check (Err (Fault fault)) = GivesUpOn old new IsSound fault
