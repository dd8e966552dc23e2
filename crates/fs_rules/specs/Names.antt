-- Names in directories (RFC 1813, section 3.2: the server says which names it takes).
use Rattle.std.specs.Prelude.{◌==◌, ◌||◌, if◌then◌else◌, ◌∷◌}
use Rattle.fs_rules.specs.Words.{ℕ, nat_lt, Bool, false, List, [], length, codes, bytes_eq, find, Option, Some, None, Status}
use Rattle.fs_rules.specs.Words.{Inval, NameTooLong, NameEntry}
use Rattle.fs_rules.specs.{Limits.longest_name, Limits.longest_target}

abbrev pub has_byte : ℕ → List ℕ → Bool
has_byte byte [] = false
has_byte byte (b ∷ text) = (b == byte) || has_byte byte text

-- NUL ends a text in C, and a slash ends a name in a path
abbrev pub has_nul : List ℕ → Bool
has_nul text = has_byte 0 text

abbrev pub has_slash : List ℕ → Bool
has_slash text = has_byte 47 text

-- what is wrong with a name: it is empty or has a NUL or a slash, or else it is too long
unfoldable pub name_fault : List ℕ → Option Status
name_fault name =
    if (length name == 0) || has_nul name || has_slash name then Some Inval
    else (if nat_lt longest_name (length name) then Some NameTooLong else None)

unfoldable pub target_fault : List ℕ → Option Status
target_fault target =
    if (length target == 0) || has_nul target then Some Inval
    else (if nat_lt longest_target (length target) then Some NameTooLong else None)

-- names that are there without an entry
abbrev pub is_dot : List ℕ → Bool
is_dot name = bytes_eq name (codes ".")

abbrev pub is_dot_dot : List ℕ → Bool
is_dot_dot name = bytes_eq name (codes "..")

abbrev pub is_dots : List ℕ → Bool
is_dots name = is_dot name || is_dot_dot name

abbrev pub names_snapshots : List ℕ → Bool
names_snapshots name = bytes_eq name (codes ".snapshot")

unfoldable pub has_name : List ℕ → NameEntry → Bool
has_name name e = bytes_eq e.name name

unfoldable pub named : List ℕ → List NameEntry → Option NameEntry
named name names = find (has_name name) names
