-- LOOKUP (RFC 1813, section 3.3.3).
use Rattle.fs_rules.specs.Words.{List, ℕ, Some, Ok, DirOp, Body, Lookup, Cred, NoEnt}
use Rattle.fs_rules.specs.Shared.{Check, ◌>>=◌, find_object, need_directory, need_good_name, need_search, some_or, attributes}
use Rattle.fs_rules.specs.Shared.{handle_at, leads_to, place_named, Tree}

unfoldable pub lookup : Tree → Cred → DirOp (List ℕ) → Check Body
lookup t cred a = do
  directory ← find_object t a.directory
  _ ← need_directory directory
  _ ← need_good_name a.name
  _ ← need_search cred directory
  place ← some_or (place_named t directory a.name) NoEnt
  o ← some_or (leads_to t place) NoEnt
  Ok (Lookup (record {
    object = handle_at t o.place;
    attributes = Some (attributes t o);
    directory = Some (attributes t directory);
  }))
