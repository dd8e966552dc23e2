-- SETATTR's checks once its object is found, but for the number of cuts; and what CREATE does to a file that is there.
use Rattle.std.specs.Prelude.{Bool, true, false, Some}
use Rattle.pairs.specs.Told.{PairsTold, Tells}
use Rattle.fs_rules.specs.Edits.{edit_node}
use Rattle.fs_rules.specs.Making.{give_size}
use Rattle.fs_shows.specs.Steps.{Edits}
use Rattle.file_ops.specs.Given.{MaySize}
use Rattle.file_ops.specs.Sizes.{Waits}
use Rattle.fs_rules.specs.Words.{ℕ, not, List, SetAttrArgs, Fattr, Cred, Moment, NotSync}
use Rattle.fs_rules.specs.Shared.{given, sattr_fault, Check, ◌>>=◌, need_live, no_fault, refuse_if, Object}
use Rattle.fs_rules.specs.Setting.{is_same}

-- these attributes may be set of an object of those
unfoldable pub may_set : Object → Fattr → Cred → SetAttrArgs (List ℕ) → Check (Unit {0})
may_set o attributes cred a = do
  _ ← need_live o
  _ ← refuse_if (given a.guard (λ guard. not (is_same guard o.inode.ctime))) NotSync
  no_fault (sattr_fault cred attributes a.attributes)

-- the size was given, and the times are now; or it waits for a sweep and nothing was changed
abbrev pub GivesOrWaits : {S W : Type 0} → PairsTold S W → S → S → ℕ → ℕ → Moment → Bool → Type 0
GivesOrWaits told old new id size now true = Edits told old new (MaySize id) (edit_node id (give_size (Some size) now))
GivesOrWaits told old new id size now false = Tells told old new (Waits id size)
