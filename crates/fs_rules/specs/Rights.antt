-- Who may do what (RFC 1813, section 4.4): user 0 all; the owner by the owner's bits of the mode, else a member
-- of the group by the group's, else by the others'.
use Rattle.std.specs.Prelude.{◌/◌, ◌%◌, ◌==◌, ◌||◌, if◌then◌else◌, ◌∷◌}
use Rattle.fs_rules.specs.Words.{ℕ, Bool, false, List, [], bit_and, big_number, Cred, Inode}

-- a word is among words of four bytes each, the highest first
abbrev pub has_word : ℕ → List ℕ → Bool
has_word w (a ∷ b ∷ c ∷ d ∷ rest) = (big_number 4 (a ∷ b ∷ c ∷ d ∷ []) == w) || has_word w rest
has_word w bytes = false

unfoldable pub is_in_group : Cred → ℕ → Bool
is_in_group cred gid = (cred.gid == gid) || has_word gid cred.gids

-- the three bits of a mode that count for the caller
unfoldable pub bits_for : Cred → ℕ → ℕ → ℕ → ℕ
bits_for cred mode uid gid =
    if cred.uid == uid then mode / 64 % 8
    else (if is_in_group cred gid then mode / 8 % 8 else mode % 8)

-- the caller may do all that is wanted: a sum of 4, to read, 2, to write, and 1, to execute or to look up
unfoldable pub may : Cred → ℕ → ℕ → ℕ → ℕ → Bool
may cred mode uid gid want = (cred.uid == 0) || (bit_and (bits_for cred mode uid gid) want == want)

abbrev pub may_do : Cred → Inode → ℕ → Bool
may_do cred i want = may cred i.mode i.uid i.gid want

abbrev pub may_read : Cred → Inode → Bool
may_read cred i = may_do cred i 4

abbrev pub may_write : Cred → Inode → Bool
may_write cred i = may_do cred i 2

abbrev pub may_search : Cred → Inode → Bool
may_search cred i = may_do cred i 1

abbrev pub owns : Cred → ℕ → Bool
owns cred uid = (cred.uid == 0) || (cred.uid == uid)
