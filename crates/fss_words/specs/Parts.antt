-- How the words of a command line part into a command's name and its values.
use Rattle.std.specs.Prelude.{◌≡◌, ◌≤◌, ℕ, Bool, true, false, not, List, [], ◌∷◌, length, Option, Some, None, if◌then◌else◌}
use Rattle.std.specs.Prelude.{codes, ◌||◌, unwrap_or, option_map, ◌==◌}
use Rattle.std.specs.Str.{bytes_eq}
use Rattle.std.specs.List.{list_all}
use Rattle.clap.specs.Walk.{Row, all_of}
use Rattle.clap.specs.Simple.{subcommand_rows_of}
use Rattle.clap.specs.declared.parser.matches.ArgMatches.{ArgMatches}

abbrev pub Text : Type 0
Text = List ℕ

-- the words without the first `--`
abbrev pub without_dashes : List Text → List Text
without_dashes [] = []
without_dashes (word ∷ rest) = if bytes_eq word (45 ∷ 45 ∷ []) then rest else word ∷ without_dashes rest

-- the word names a command
abbrev pub is_name : Text → Bool
is_name word = bytes_eq (codes "feed") word || (bytes_eq (codes "work") word || bytes_eq (codes "serve") word)

-- the command's name and its values
abbrev pub parted : List Text → Option (Text × List Text)
parted [] = None
parted (word ∷ rest) = if is_name word then Some (word, without_dashes rest) else None

abbrev pub begins_with_minus : Text → Bool
begins_with_minus [] = false
begins_with_minus (b ∷ bs) = b == 45

-- there is a name, and at most eight values, of which none looks like a flag
pub record IsTaken (words : List Text) : Type 0 where
  pub name : Text
  pub values : List Text
  pub parts : parted words ≡ Some (name, values)
  pub few : length values ≤ 8
  pub plain : list_all (λ value. not (begins_with_minus value)) values ≡ true

abbrev pub values_in : List Row → List Text
values_in rows = unwrap_or (all_of (codes "values") rows) []

-- what matches say, in the same form
abbrev pub parts_of : ArgMatches → Option (Text × List Text)
parts_of m = option_map (λ p. (p.0, values_in p.1)) (subcommand_rows_of m)
