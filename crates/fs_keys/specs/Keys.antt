-- The keys of the records that the file tree is: a row's number in one byte, and then its parts, eight bytes a number,
-- the highest first.
use Rattle.std.specs.Prelude.{ℕ, ◌<◌, ◌≤◌, ◌^◌, ◌==◌, nat_le, Bool, true, false, ◌&&◌, if◌then◌else◌, List, [], ◌∷◌, ◌++◌, length}
use Rattle.std.specs.Prelude.{take, drop}
use Rattle.std.specs.Prelude.{slice_index_or, Option, Some, None, ⊤}
use Rattle.byteorder.specs.Endian.{big_number, big_bytes}
use Rattle.fs_keys.specs.declared.key_parts.KeyParts.{KeyParts}
use Rattle.fs_keys.specs.declared.key_parts.KeyParts.TheVariants.{First, Lane, Snapshot, Inode, Name, Cookie, Extent, Stale}
use Rattle.fs_keys.specs.declared.key_parts.KeyParts.TheVariants.{Times}

abbrev pub Parts : Type 0
Parts = KeyParts (List ℕ)

-- the bytes of a key
abbrev pub key_of : Parts → List ℕ
key_of First = 1 ∷ []
key_of (Lane lane) = 2 ∷ (lane ∷ [])
key_of (Snapshot number) = 3 ∷ big_bytes 8 number
key_of (Inode id) = 4 ∷ big_bytes 8 id
key_of (Name directory name) = 5 ∷ (big_bytes 8 directory ++ name)
key_of (Cookie directory cookie) = 6 ∷ (big_bytes 8 directory ++ big_bytes 8 cookie)
key_of (Extent file index) = 7 ∷ (big_bytes 8 file ++ big_bytes 8 index)
key_of (Stale file) = 8 ∷ big_bytes 8 file
key_of Times = 9 ∷ []

-- numbers fit their bytes, and a name has at most 255
abbrev pub HasBounds : Parts → Type 0
HasBounds First = ⊤
HasBounds (Lane lane) = lane < 256
HasBounds (Snapshot number) = number < 2 ^ 64
HasBounds (Inode id) = id < 2 ^ 64
HasBounds (Name directory name) = (directory < 2 ^ 64) × (length name ≤ 255)
HasBounds (Cookie directory cookie) = (directory < 2 ^ 64) × (cookie < 2 ^ 64)
HasBounds (Extent file index) = (file < 2 ^ 64) × (index < 2 ^ 64)
HasBounds (Stale file) = file < 2 ^ 64
HasBounds Times = ⊤

-- this, under a condition
abbrev pub only : {A : Type 0} → Bool → A → Option A
only true a = Some a
only false a = None

-- the first number behind the row's, and the one behind that
abbrev pub first_number : List ℕ → ℕ
first_number rest = big_number 8 (take 8 rest)

abbrev pub second_number : List ℕ → ℕ
second_number rest = big_number 8 (drop 8 rest)

-- A row of the table: its number, whether the bytes behind it are as many as it has, and what they say.
pub record Row : Type 0 where
  pub number : ℕ
  pub fits : Bool
  pub says : Parts

abbrev pub rows : List ℕ → List Row
rows rest =
    record { number = 1; fits = length rest == 0; says = First }
    ∷ (record { number = 2; fits = length rest == 1; says = Lane (slice_index_or rest 0 0) }
    ∷ (record { number = 3; fits = length rest == 8; says = Snapshot (first_number rest) }
    ∷ (record { number = 4; fits = length rest == 8; says = Inode (first_number rest) }
    ∷ (record {
      number = 5;
      fits = nat_le 8 (length rest) && nat_le (length rest) 263;
      says = Name (first_number rest) (drop 8 rest);
    }
    ∷ (record { number = 6; fits = length rest == 16; says = Cookie (first_number rest) (second_number rest) }
    ∷ (record { number = 7; fits = length rest == 16; says = Extent (first_number rest) (second_number rest) }
    ∷ (record { number = 8; fits = length rest == 8; says = Stale (first_number rest) }
    ∷ (record { number = 9; fits = length rest == 0; says = Times }
    ∷ []))))))))

-- what the row of this number says
abbrev pub said : ℕ → List Row → Option Parts
said number [] = None
said number (row ∷ others) = if number == row.number then only row.fits row.says else said number others

-- what a key says; None outside of the table
abbrev pub parts_of : List ℕ → Option Parts
parts_of [] = None
parts_of (number ∷ rest) = said number (rows rest)
