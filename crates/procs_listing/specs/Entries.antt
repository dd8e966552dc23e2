-- What a directory lists, one entry after another.
use Rattle.std.specs.Prelude.{ℕ, ◌≡◌, ◌+◌, ◌==◌, if◌then◌else◌, List, [], ◌∷◌, length, map, codes, Option, Some, None}
use Rattle.std.specs.Prelude.{option_map}
use Rattle.nfs3_types.specs.declared.attributes.Fattr.{Fattr}
use Rattle.nfs3_types.specs.declared.body.DirEntryPlus.{DirEntryPlus}
use Rattle.nfs3_types.specs.Handles.{handle}
use Rattle.fs_rules.specs.declared.name_entry.NameEntry.{NameEntry}
use Rattle.fs_rules.specs.declared.place.Place.{Place}
use Rattle.fs_rules.specs.Listing.{Listed, behind, fitting, listed, padded}
use Rattle.fs_rules.specs.Places.{beside, fileid_at, names_at, snapshot_at}
use Rattle.fs_rules.specs.Tree.{Tree}
use Rattle.procs_object.specs.declared.object.Found.{Found}
use Rattle.procs_listing.specs.declared.entries.Entry.{Entry}
use Rattle.procs_listing.specs.declared.fitting.Listing.{Listing}

-- an entry that says so many bytes beside its name
abbrev pub size_with : ℕ → Listed → ℕ
size_with bare e = bare + padded e.name

-- an entry, as the table lists it
abbrev pub listed_as : Entry → Listed
listed_as e = record { cookie = e.cookie; name = e.name; place = e.place }

-- a name of a directory as an entry
abbrev pub entry_by : Place → NameEntry → Entry
entry_by directory e = record { cookie = e.cookie; name = e.name; place = beside directory e }

-- the directory itself, behind no cookie, and the one above it
abbrev pub dots : Place → Place → ℕ → Entry
dots directory above cookie =
    if cookie == 0 then record { cookie = 1; name = codes "."; place = directory }
    else record { cookie = 2; name = codes ".."; place = above }

-- all that a directory lists, by rising cookie, where this one is above it
abbrev pub lists : Tree → Place → Place → List Listed
lists t directory above =
    record { cookie = 1; name = codes "."; place = directory }
    ∷ record { cookie = 2; name = codes ".."; place = above }
    ∷ map (listed directory) (names_at t directory)

-- this is the first of a listing behind a cookie, and what is behind it follows; or nothing is
abbrev pub IsNextOf : List Listed → ℕ → Option Entry → Type 0
IsNextOf entries cookie None = behind cookie entries ≡ []
IsNextOf entries cookie (Some e) = behind cookie entries ≡ listed_as e ∷ behind e.cookie entries

-- what is told of a listing behind a cookie fits, and whether it is all
pub record IsTold (size : Listed → ℕ) (room cookie : ℕ) (entries : List Listed) (l : Listing) : Type 0 where
  pub told : fitting size room (behind cookie entries) ≡ map listed_as l.entries
  pub eof : (length l.entries == length (behind cookie entries)) ≡ l.eof

-- ---- what entries lead to

-- the attributes of what was found
abbrev pub shown_by : Option Found → Option Fattr
shown_by found = option_map (λ x. x.attributes) found

-- an entry with these attributes, and its handle
abbrev pub plus_by : ℕ → Entry → Option Fattr → DirEntryPlus
plus_by fsid e attributes = record {
  fileid = fileid_at e.place;
  name = e.name;
  cookie = e.cookie;
  attributes = attributes;
  object = Some (handle.spelling (record { fsid = fsid; snapshot = snapshot_at e.place; fileid = fileid_at e.place }));
}
