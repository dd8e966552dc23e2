-- Calls that keep every tree that may lie below, by what is known of the versions that show it.
use Rattle.fs_rules.specs.Tree.{Tree}
use Rattle.pairs.specs.Versions.{Versions}
use Rattle.pairs.specs.Told.{PairsTold}
use Rattle.fs_shows.specs.Shows.{Shows}

-- what is known of versions that show a tree
abbrev pub Known : Type 1
Known = Versions → Tree → Type 0

module _ {S W : Type 0} (told : PairsTold S W) where
  -- this tree may lie below, shown by versions of which this much is known
  pub record LiesSo (IsSo : Known) (s : S) (w : W) (t : Tree) : Type 0 where
    pub versions : Versions
    pub shown : told.shows s w versions
    pub shows : Shows versions t
    pub is : IsSo versions t

  -- every tree that lay below lies below; and where the one was known of its versions, the other is
  abbrev pub Keeps : S → S → Known → Known → Type 0
  Keeps old new Given Then = (w : W) (t : Tree) → told.agrees new w → LiesSo Given old w t → LiesSo Then new w t
