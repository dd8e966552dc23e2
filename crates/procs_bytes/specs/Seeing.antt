-- The view in which a file stands.
use Rattle.pairs.specs.declared.at.At.{At}
use Rattle.pairs.specs.declared.at.At.TheVariants.{Live, Snap}
use Rattle.fs_rules.specs.declared.place.Place.{Place}
use Rattle.fs_rules.specs.declared.place.Place.TheVariants.{Live as LivePlace, SnapshotDirectory, Kept}

-- the view of a place; `.snapshot` stands in none
abbrev pub view_of : Place → At
view_of (LivePlace id) = Live
view_of SnapshotDirectory = Live
view_of (Kept number id) = Snap number
