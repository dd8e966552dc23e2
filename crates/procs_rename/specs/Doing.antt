-- RENAME once it is planned.
use Rattle.std.specs.Prelude.{ℕ, ◌≡◌, List, Some}
use Rattle.nfs3_types.specs.declared.args.RenameArgs.{RenameArgs}
use Rattle.nfs3_types.specs.declared.body.Body.{Body}
use Rattle.nfs3_types.specs.declared.body.Body.TheVariants.{Rename}
use Rattle.fs_rules.specs.declared.place.Place.TheVariants.{Live}
use Rattle.fs_rules.specs.declared.plans.RenamePlan.{RenamePlan}
use Rattle.fs_rules.specs.Places.{change, shown}
use Rattle.fs_rules.specs.Tree.{Tree}
use Rattle.fs_shows.specs.Views.{IsThere}
use Rattle.procs_rename.specs.declared.planning.Planned.{Planned}
use Rattle.procs_rename.specs.Moving.{CanMove}

-- the node is there, in this file system
pub record CanTell (fsid fileid : ℕ) (t : Tree) : Type 0 where
  pub there : IsThere fileid t
  pub own : t.fsid ≡ fsid

-- what is told of both directories
abbrev pub told_of : RenamePlan → Tree → Tree → Body
told_of p before after = Rename (record { from = change before after (Live p.from); to = change before after (Live p.to) })

-- the plan can be done, and both directories have the attributes that were read
pub record CanDo (a : RenameArgs (List ℕ)) (x : Planned) (t : Tree) : Type 0 where
  pub moves : CanMove a x.plan t
  pub from : shown t (Live x.plan.from) ≡ Some x.from
  pub to : shown t (Live x.plan.to) ≡ Some x.to
  pub own : t.fsid ≡ x.from.fsid
