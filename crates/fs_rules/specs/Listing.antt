-- READDIR and READDIRPLUS (RFC 1813, sections 3.3.16 and 3.3.17).
use Rattle.std.specs.Prelude.{◌+◌, ◌-◌, ◌*◌, ◌/◌, ◌==◌, ◌||◌, ◌&&◌, if◌then◌else◌, ◌∷◌}
use Rattle.fs_rules.specs.Words.{ℕ, nat_le, nat_lt, Bool, min, List, [], length, map, filter, replicate, bytes_eq, codes, Some}
use Rattle.fs_rules.specs.Words.{Ok, ReadDirArgs, ReadDirPlusArgs, Body, ReadDir, ReadDirPlus, DirEntry, DirEntryPlus, Cred}
use Rattle.fs_rules.specs.Words.{Acces, BadCookie, TooSmall, Place, NameEntry}
use Rattle.fs_rules.specs.Shared.{Check, ◌>>=◌, find_object, need, need_directory, refuse_if, most_listing, Object, above}
use Rattle.fs_rules.specs.Shared.{attributes, beside, fileid_at, handle_at, names_at, shown, may_read, Tree}

pub record Listed : Type 0 where
  pub cookie : ℕ
  pub name : List ℕ
  pub place : Place

abbrev pub listed : Place → NameEntry → Listed
listed directory e = record { cookie = e.cookie; name = e.name; place = beside directory e }

-- all that a directory lists, by rising cookie: itself, the directory above it, and its names
unfoldable pub listing : Tree → Object → List Listed
listing t o =
    record { cookie = 1; name = codes "."; place = o.place }
    ∷ record { cookie = 2; name = codes ".."; place = above o.place o.inode }
    ∷ map (listed o.place) (names_at t o.place)

abbrev pub behind : ℕ → List Listed → List Listed
behind cookie entries = filter (λ e. nat_lt cookie e.cookie) entries

-- a text's bytes with its padding
abbrev pub padded : List ℕ → ℕ
padded text = 4 * ((length text + 3) / 4)

-- an entry of READDIR: that it is there, its number, its name and its cookie
abbrev pub entry_size : Listed → ℕ
entry_size e = 24 + padded e.name

-- an entry of READDIRPLUS has its attributes and its handle too
abbrev pub entry_plus_size : Listed → ℕ
entry_plus_size e = 144 + padded e.name

-- what else a result says: the directory's attributes, the verifier, that no entry follows, whether it is the end
abbrev pub bare_size : ℕ
bare_size = 104

-- the entries from the first on that fit into so many bytes
unfoldable pub fitting : (Listed → ℕ) → ℕ → List Listed → List Listed
fitting size room [] = []
fitting size room (e ∷ entries) = if nat_le (size e) room then e ∷ fitting size (room - size e) entries else []

abbrev pub limit : ℕ → ℕ
limit count = min count most_listing

abbrev pub is_zeros : List ℕ → Bool
is_zeros verifier = bytes_eq verifier (replicate 8 0)

-- no entry fits, though one is left, or not even a result without entries
abbrev pub is_too_small : ℕ → List Listed → List Listed → Bool
is_too_small count left told = nat_lt (limit count) bare_size || (nat_lt 0 (length left) && (length told == 0))

pub record Page : Type 0 where
  pub directory : Object
  pub told : List Listed
  pub eof : Bool

unfoldable pub page_of : Object → ℕ → List Listed → List Listed → Check Page
page_of directory count left told = do
  _ ← refuse_if (is_too_small count left told) TooSmall
  Ok (record { directory = directory; told = told; eof = length told == length left })

unfoldable pub page_behind : Object → (Listed → ℕ) → ℕ → List Listed → Check Page
page_behind directory size count left = page_of directory count left (fitting size (limit count - bare_size) left)

unfoldable pub page : Tree → Cred → (Listed → ℕ) → ReadDirArgs (List ℕ) → Check Page
page t cred size a = do
  o ← find_object t a.directory
  _ ← need_directory o
  _ ← need (may_read cred o.inode) Acces
  -- the verifier is always zeros
  _ ← need ((a.cookie == 0) || is_zeros a.verifier) BadCookie
  page_behind o size a.count (behind a.cookie (listing t o))

abbrev pub entry : Listed → DirEntry
entry e = record { fileid = fileid_at e.place; name = e.name; cookie = e.cookie }

unfoldable pub read_dir : Tree → Cred → ReadDirArgs (List ℕ) → Check Body
read_dir t cred a = do
  p ← page t cred entry_size a
  Ok (ReadDir (record {
    attributes = Some (attributes t p.directory);
    verifier = replicate 8 0;
    entries = map entry p.told;
    eof = p.eof;
  }))

abbrev pub entry_plus : Tree → Listed → DirEntryPlus
entry_plus t e = record {
  fileid = fileid_at e.place;
  name = e.name;
  cookie = e.cookie;
  attributes = shown t e.place;
  object = Some (handle_at t e.place);
}

-- the smaller count, of what READDIR would tell, is not looked at
abbrev pub count_all : ReadDirPlusArgs (List ℕ) → ReadDirArgs (List ℕ)
count_all a = record { directory = a.directory; cookie = a.cookie; verifier = a.verifier; count = a.maxcount }

unfoldable pub read_dir_plus : Tree → Cred → ReadDirPlusArgs (List ℕ) → Check Body
read_dir_plus t cred a = do
  p ← page t cred entry_plus_size (count_all a)
  Ok (ReadDirPlus (record {
    attributes = Some (attributes t p.directory);
    verifier = replicate 8 0;
    entries = map (entry_plus t) p.told;
    eof = p.eof;
  }))
