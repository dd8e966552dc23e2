-- What a procedure does that may cut a file: it ends as its row says, or it has to wait for a sweep of the file.
use Rattle.std.specs.Prelude.{ℕ, ◌≡◌, ◌<◌, length, Some, Result, Ok, Err}
use Rattle.nfs3_types.specs.declared.body.Body.{Body}
use Rattle.fs_rules.specs.Checks.{Done, Row}
use Rattle.fs_rules.specs.Tree.{Tree, Node}
use Rattle.pairs.specs.Versions.{Versions}
use Rattle.pairs.specs.Told.{PairsTold, Goes}
use Rattle.fs_shows.specs.Shows.{Shows}
use Rattle.file_ops.specs.Sizes.{Waits}
use Rattle.procs_object.specs.Performing.{OnTrees, Ends}
use Rattle.procs_bytes.specs.declared.stop.Stop.{Stop}
use Rattle.procs_bytes.specs.declared.stop.Stop.TheVariants.{Halted, SweepFirst}

-- the row makes this live file smaller
pub record Shrinks (id : ℕ) (row : Row) (t : Tree) : Type 0 where
  pub done : Done
  pub is : row ≡ Ok done
  pub before : Node
  pub was : t.nodes id ≡ Some before
  pub after : Node
  pub becomes : done.tree.nodes id ≡ Some after
  pub falls : length after.content < length before.content

module _ {S W : Type 0} (told : PairsTold S W) (old new : S) where
  -- The tree lies below still, by versions in which the size that the row gives the file waits for a sweep of it.
  pub record IsHeldUp (w : W) (t : Tree) (row : Row) (id : ℕ) : Type 0 where
    pub shrinks : Shrinks id row t
    pub versions : Versions
    pub shown : told.shows new w versions
    pub shows : Shows versions t
    pub waits : Waits id (length shrinks.after.content) versions

  abbrev pub EndsOrWaits : ℕ → (Tree → Row) → Result Body Stop → Type 0
  EndsOrWaits most row (Ok body) = Ends told old new most row (Ok body)
  EndsOrWaits most row (Err (Halted halt)) = Ends told old new most row (Err halt)
  EndsOrWaits most row (Err (SweepFirst id)) = OnTrees told old new (λ w t. IsHeldUp w t (row t) id)

  -- a procedure that puts at most so often, and ends as its row says or waits
  pub record PerformsOrWaits (most : ℕ) (row : Tree → Row) (result : Result Body Stop) : Type 0 where
    pub goes : Goes told old new most
    pub ends : EndsOrWaits most row result
