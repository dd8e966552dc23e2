-- The part of a directory's listing that one call tells.
use Rattle.std.specs.Prelude.{◌≡◌, ◌-◌, ◌==◌, ◌||◌, ◌&&◌, if◌then◌else◌}
use Rattle.fs_rules.specs.Words.{ℕ, nat_lt, Bool, not, List, length, map, replicate, Some, Ok, Err, Cred, Fattr, Body, ReadDir}
use Rattle.fs_rules.specs.Words.{ReadDirPlus, DirEntry, DirEntryPlus, Acces, BadCookie, NotDir, TooSmall}
use Rattle.fs_rules.specs.declared.inode.Inode.{Inode}
use Rattle.fs_rules.specs.Attributes.{is_directory}
use Rattle.fs_rules.specs.Checks.{Check, ◌>>=◌, need, refuse_if}
use Rattle.fs_rules.specs.Listing.{bare_size, is_zeros, limit, Page as PageOf}
use Rattle.fs_rules.specs.Places.{attributes}
use Rattle.fs_rules.specs.Rights.{may_read}
use Rattle.fs_rules.specs.Tree.{Tree}
use Rattle.fs_keys.specs.declared.rows.First.{First}
use Rattle.fs_shows.specs.Shows.{first_of}
use Rattle.procs_listing.specs.declared.fitting.Listing.{Listing}
use Rattle.procs_listing.specs.declared.paging.Page.{Page}
use Rattle.procs_listing.specs.Entries.{listed_as}

-- the room for entries of what has this inode
unfoldable pub room_for : Inode → Cred → ℕ → List ℕ → ℕ → Check ℕ
room_for i cred cookie verifier count = do
  _ ← need (is_directory i.kind) NotDir
  _ ← need (may_read cred i) Acces
  _ ← need ((cookie == 0) || is_zeros verifier) BadCookie
  _ ← refuse_if (nat_lt (limit count) bare_size) TooSmall
  Ok (limit count - bare_size)

-- the page of a listing, unless nothing of something is told
abbrev pub page_by : First → Fattr → Listing → Check Page
page_by begins attributes l =
    if (length l.entries == 0) && not l.eof then Err TooSmall
    else Ok (record { begins = begins; attributes = attributes; listing = l })

-- what was found, by the directory's attributes and its entries, is this page of a listing of the tree
pub record IsPage (t : Tree) (x : Page) (p : PageOf) : Type 0 where
  pub attributes_are : attributes t p.directory ≡ x.attributes
  pub first : first_of t ≡ x.begins
  pub told : p.told ≡ map listed_as x.listing.entries
  pub eof : p.eof ≡ x.listing.eof

-- ---- replies

abbrev pub body_by : Fattr → List DirEntry → Bool → Body
body_by attributes entries eof = ReadDir (record {
  attributes = Some attributes;
  verifier = replicate 8 0;
  entries = entries;
  eof = eof;
})

abbrev pub body_plus_by : Fattr → List DirEntryPlus → Bool → Body
body_plus_by attributes entries eof = ReadDirPlus (record {
  attributes = Some attributes;
  verifier = replicate 8 0;
  entries = entries;
  eof = eof;
})
