-- What a procedure does, as a transaction over records: it ends as its row of the answer table says, on every sound tree
-- that may have lain below.
use Rattle.std.specs.Prelude.{ℕ, ◌≡◌, ◌≤◌, Result, Ok, Err, IsOk}
use Rattle.nfs3_types.specs.declared.body.Body.{Body}
use Rattle.nfs3_types.specs.declared.status.Status.{Status}
use Rattle.fs_rules.specs.Checks.{Row}
use Rattle.fs_rules.specs.Sound.{IsSound}
use Rattle.fs_rules.specs.Tree.{Tree}
use Rattle.pair_types.specs.declared.fault.PairFault.{PairFault}
use Rattle.pair_types.specs.declared.fault.PairFault.TheVariants.{Odd, HeightFull, Page}
use Rattle.pairs.specs.Told.{PairsTold, Goes}
use Rattle.fs_shows.specs.declared.halt.Halt.{Halt}
use Rattle.fs_shows.specs.declared.halt.Halt.TheVariants.{Refused, Fault}
use Rattle.fs_shows.specs.Steps.{Lies, GivesUpOn, EditGivesUp}

module _ {S W : Type 0} (told : PairsTold S W) (old new : S) where
  -- this much is so of each sound tree that lay below before, in each world that agrees now
  abbrev pub OnTrees : (W → Tree → Type 0) → Type 0
  OnTrees IsSo = (w : W) (t : Tree) → told.agrees new w → Lies told old w t → IsSound t → IsSo w t

  -- the row gives this body and a tree, and that tree lies below now
  pub record IsAnswered (w : W) (row : Row) (body : Body) : Type 0 where
    pub tree : Tree
    pub is : row ≡ Ok (record { body = body; tree = tree })
    pub lies : Lies told new w tree

  -- the row refuses with this status, and the tree lies below still
  pub record IsTurnedDown (w : W) (t : Tree) (row : Row) (status : Status) : Type 0 where
    pub is : row ≡ Err status
    pub lies : Lies told new w t

  -- Why a procedure gives up that puts at most so often: no sound tree lay below; or, where it puts at all and its row refuses
  -- no tree, the root is as high as roots get; or a page's fault, which was counted, or is want of memory.
  abbrev pub StopsFor : ℕ → (Tree → Row) → PairFault → Type 0
  StopsFor most row Odd = GivesUpOn told old new IsSound Odd
  StopsFor most row HeightFull = (1 ≤ most) × EditGivesUp told old new IsSound HeightFull × OnTrees (λ w t. IsOk (row t))
  StopsFor most row (Page fault) = GivesUpOn told old new IsSound (Page fault)

  abbrev pub Ends : ℕ → (Tree → Row) → Result Body Halt → Type 0
  Ends most row (Ok body) = OnTrees (λ w t. IsAnswered w (row t) body)
  Ends most row (Err (Refused status)) = OnTrees (λ w t. IsTurnedDown w t (row t) status)
  Ends most row (Err (Fault fault)) = StopsFor most row fault

  -- a procedure that puts at most so often, and ends as its row says
  pub record Performs (most : ℕ) (row : Tree → Row) (result : Result Body Halt) : Type 0 where
    pub goes : Goes told old new most
    pub ends : Ends most row result
