-- What the record of a name says of the tree.
use Rattle.std.proofs.Common.{◌≡◌, ℕ, ◌<◌, ◌≤◌, ◌^◌, List, length, Option, Some, None, ◌∙◌, subst}
use Rattle.std.specs.Prelude.{option_map}
use Rattle.pair_types.specs.declared.fault.PairFault.TheVariants.{Odd}
use Rattle.pairs.specs.declared.at.At.{At}
use Rattle.pairs.specs.Versions.{Versions}
use Rattle.pairs.specs.Told.{PairsTold, Tells}
use Rattle.fs_rules.specs.Limits.{longest_name}
use Rattle.fs_rules.specs.Places.{entry_at}
use Rattle.fs_rules.specs.Tree.{Tree}
use Rattle.fs_keys.specs.declared.key_parts.KeyParts.TheVariants.{Name as NameKey}
use Rattle.fs_keys.specs.declared.rows.NameRow.{NameRow}
use Rattle.fs_keys.specs.Values.{name_in}
use Rattle.fs_shows.specs.Extents.{row}
use Rattle.fs_shows.specs.Nodes.{Holds, name_row}
use Rattle.fs_shows.specs.Shows.{Shows}
use Rattle.fs_shows.specs.Steps.{Reads, GivesUpOn}
use Rattle.fs_shows.specs.Views.{place_in, IsKept}
use Rattle.fs_shows.proofs.Doing.{does-tell, reads-of, up-odd}
use Rattle.fs_shows.proofs.Viewing.{view-shown, holds-same, holds-unsaid}

name-held : (v : Versions) (t : Tree) (at : At) (directory : ℕ) (name : List ℕ) → directory < 2 ^ 64 → length name ≤ longest_name
    → Shows v t
    → IsKept at t → Holds name_in (row v at (NameKey directory name))
    (option_map name_row (entry_at t (place_in at directory) name))
unfolding entry_at
name-held v t at directory name fits short shows kept = (view-shown v t at shows kept).names directory name fits short

module _ {S W : Type 0} (told : PairsTold S W) (old new : S) (at : At) (directory : ℕ) (name : List ℕ) (fits : directory < 2 ^ 64)
    (short : length name ≤ longest_name) where
  pub name-reads : (r : Option NameRow) → Tells told old new (λ v. Holds name_in (row v at (NameKey directory name)) r)
      → Reads told old new (IsKept at) (λ t. option_map name_row (entry_at t (place_in at directory) name) ≡ r)
  name-reads r tells =
      reads-of told old new (λ v. Holds name_in (row v at (NameKey directory name)) r) (IsKept at)
      (λ t. option_map name_row (entry_at t (place_in at directory) name) ≡ r) tells
      (λ v t shows holds kept. holds-same name_in (row v at (NameKey directory name))
      (option_map name_row (entry_at t (place_in at directory) name)) r
      (name-held v t at directory name fits short shows kept) holds)

  pub name-odd : (found : Option (List ℕ)) (value : List ℕ) → Tells told old new (λ v. row v at (NameKey directory name) ≡ found)
      → found ≡ Some value
      → name_in value ≡ None → GivesUpOn told old new (IsKept at) Odd
  name-odd found value tells some none =
      up-odd told old new (λ v. v) (λ v. row v at (NameKey directory name) ≡ found) (IsKept at)
      (does-tell told old new (λ v. row v at (NameKey directory name) ≡ found) tells)
      (λ v t shows is kept. holds-unsaid name_in value (option_map name_row (entry_at t (place_in at directory) name)) none
      (subst (λ (x : Option (List ℕ)). Holds name_in x (option_map name_row (entry_at t (place_in at directory) name)))
      (is ∙ some)
      (name-held v t at directory name fits short shows kept)))
