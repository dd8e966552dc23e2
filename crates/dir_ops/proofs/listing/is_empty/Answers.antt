-- No entry is behind the cookie 0, or one is.
use Rattle.std.proofs.Common.{◌≡◌, Bool, subst}
use Rattle.fs_rules.specs.declared.place.Place.TheVariants.{Live as LivePlace}
use Rattle.fs_rules.specs.Removing.{has_names}
use Rattle.pairs.specs.declared.at.At.TheVariants.{Live}
use Rattle.fs_shows.specs.Steps.{Reads}
use Rattle.dir_ops.specs.Listing.{IsListed}
use Rattle.dir_ops.proofs.Following.{empty-reads}
use Rattle.dir_ops.proofs.listing.is_empty.Goals as goal

pub returns-in-Ok-clause-ok : goal.returns-in-Ok-clause-ok
returns-in-Ok-clause-ok g c =
    subst (λ (b : Bool). Reads g.P.Pairs.told c.args.pairs.now c.first_behind.new.pairs (IsListed Live c.args.directory)
    (λ t. has_names t (LivePlace c.args.directory) ≡ b)) c.is_none.ensures
    (empty-reads g.P.Pairs.told c.args.pairs.now c.first_behind.new.pairs c.args.directory c.in-Ok.found c.in-Ok.ensures.ok)
