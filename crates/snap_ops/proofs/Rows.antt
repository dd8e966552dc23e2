-- Reads of single records of snapshots, and calls behind one another.
use Rattle.std.proofs.Common.{◌≡◌, ℕ, ◌<◌, ◌^◌, List, Option, Some, None, refl, sym, ◌∙◌, ap}
use Rattle.std.specs.Prelude.{⊤, option_map, is_some}
use Rattle.pairs.specs.declared.at.At.TheVariants.{Live}
use Rattle.pairs.specs.Versions.{Versions}
use Rattle.pairs.specs.Told.{PairsTold, Tells}
use Rattle.fs_rules.specs.Places.{snapshot_numbered}
use Rattle.fs_rules.specs.Tree.{Tree, Snapshot}
use Rattle.fs_keys.specs.declared.key_parts.KeyParts.TheVariants as key
use Rattle.fs_keys.specs.Values.{times_in}
use Rattle.fs_shows.specs.Extents.{row}
use Rattle.fs_shows.specs.Nodes.{Holds}
use Rattle.fs_shows.specs.Shows.{Shows}
use Rattle.fs_shows.specs.Steps.{Reads}
use Rattle.fs_shows.proofs.Doing.{reads-of}

some-mapped : {A B : Type 0} (f : A → B) (o : Option A) → is_some (option_map f o) ≡ is_some o
some-mapped f None = refl
some-mapped f (Some a) = refl

module _ {S W : Type 0} (told : PairsTold S W) (old new : S) where
  pub kept-reads : (number : ℕ) (found : Option (List ℕ)) → number < 2 ^ 64
      → Tells told old new (λ v. row v Live (key.Snapshot number) ≡ found)
      → Reads told old new (λ t. ⊤) (λ t. is_some (snapshot_numbered t number) ≡ is_some found)
  kept-reads number found fits tells =
      reads-of told old new (λ v. row v Live (key.Snapshot number) ≡ found) (λ t. ⊤)
      (λ t. is_some (snapshot_numbered t number) ≡ is_some found) tells
      (λ v t shows is given. sym (some-mapped (λ (s : Snapshot). s.name) (snapshot_numbered t number))
      ∙ ap is_some (sym (shows.rows.snapshots number fits) ∙ is))

pub times-held : (v : Versions) (t : Tree) → Shows v t → ⊤ → Holds times_in (row v Live key.Times) (Some t.snapshot_times)
times-held v t shows given = shows.rows.times
