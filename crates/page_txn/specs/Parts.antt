-- What a transaction hands down to be committed.
use Rattle.std.specs.Prelude.{◌≡◌, ℕ, zero, suc, ◌<◌, ◌≤◌, ◌==◌, ◌⊎◌, if◌then◌else◌, List, [], ◌∷◌, ◌++◌, length, Option}
use Rattle.std.specs.Prelude.{Some, None}
use Rattle.std.specs.List.{Contains}
use Rattle.pair_types.specs.declared.slot.Slot.{Slot}
use Rattle.pair_types.specs.declared.slot.Tid.{Tid}
use Rattle.pair_types.specs.PageMaps.{PageMap}
use Rattle.nfs3_types.specs.declared.entry.Entry.{Entry}
use Rattle.page_types.specs.declared.versions.PageRead.{PageRead}
use Rattle.page_types.specs.declared.versions.PageWrite.{PageWrite}
use Rattle.page_types.specs.Accesses.{read_at, written_at, AreAccesses}
use Rattle.page_types.specs.Journals.{Origin}
use Rattle.page_types.specs.Ports.{PortState}
use Rattle.two_phase.specs.declared.parts.Part.{Part}
use Rattle.two_phase.specs.declared.closing.Commit.{Commit}
use Rattle.two_phase.specs.Parts.{StoresRise, part_at, IsTransaction}
use Rattle.two_phase.specs.Commits.{Commits}
use Rattle.page_txn.specs.declared.row.Row.{Row}
use Rattle.page_txn.specs.Rows.{Rows, row_at, version_of, written_of}

abbrev pub version_at : Option Part → ℕ → Option ℕ
version_at None number = None
version_at (Some part) number = read_at part.reads number

abbrev pub content_at : Option Part → ℕ → Option (List ℕ)
content_at None number = None
content_at (Some part) number = written_at part.writes number

-- one part, at store 0, that reads and writes nothing
abbrev pub nothing_handed : List Part
nothing_handed = record { store = 0; reads = []; writes = [] } ∷ []

-- The parts are what the rows say, among so many stores: at each slot the version that was read, and what is written. Each
-- part reads something; where nothing was read there is one part, at store 0, that reads and writes nothing.
pub record ArePartsOf (stores : ℕ) (rows : Rows) (parts : List Part) : Type 0 where
  pub some : 1 ≤ length parts
  pub rise : StoresRise parts
  pub below : (part : Part) → Contains parts part → part.store < stores
  pub accesses : (part : Part) → Contains parts part → AreAccesses part.reads part.writes
  pub versions : (s : Slot) → version_at (part_at parts s.store) s.number ≡ version_of (row_at rows s)
  pub writes : (s : Slot) → content_at (part_at parts s.store) s.number ≡ written_of (row_at rows s)
  pub read_some : (parts ≡ nothing_handed) ⊎ ((part : Part) → Contains parts part → 1 ≤ length part.reads)

-- the rows are of slots of the stores, and whatever parts are theirs may be committed
pub record IsHandable {S : Type 0} (stands : Origin → PageMap → S → Type 0) (next : S → List ℕ → Entry → S → Type 0)
    (p : PortState) (tid : Tid) (rows : Rows) (served : Option Entry) : Type 0 where
  pub within : (s : Slot) (row : Row) → row_at rows s ≡ Some row → s.store < p.origin.stores
  pub transaction : (parts : List Part) → ArePartsOf p.origin.stores rows parts → IsTransaction stands next p tid parts served

-- what the rows say was handed down, and this came of it
pub record CommitsRows (old new : PortState) (tid : Tid) (rows : Rows) (served : Option Entry) (result : Commit) : Type 0 where
  pub parts : List Part
  pub are : ArePartsOf old.origin.stores rows parts
  pub commits : Commits old new tid parts served result

-- ## Store by store

abbrev pub Entries : Type 0
Entries = List ((ℕ × ℕ) × Row)

-- what the rows of a store read, in their order, and what is written in them
abbrev pub reads_in : ℕ → Entries → List PageRead
reads_in store [] = []
reads_in store (e ∷ es) =
    if e.0.0 == store then record { number = e.0.1; version = e.1.version } ∷ reads_in store es else reads_in store es

abbrev pub with_write : ℕ → Option (List ℕ) → List PageWrite → List PageWrite
with_write number None writes = writes
with_write number (Some page) writes = record { number = number; content = page } ∷ writes

abbrev pub writes_in : ℕ → Entries → List PageWrite
writes_in store [] = []
writes_in store (e ∷ es) =
    if e.0.0 == store then with_write e.0.1 e.1.written (writes_in store es) else writes_in store es

abbrev pub part_in : Entries → ℕ → Part
part_in es store = record { store = store; reads = reads_in store es; writes = writes_in store es }

-- a part that reads nothing is none
abbrev pub where_read : Part → List PageRead → List Part
where_read part [] = []
where_read part (r ∷ rs) = part ∷ []

-- the parts of the stores below this one
abbrev pub parts_below : Entries → ℕ → List Part
parts_below es zero = []
parts_below es (suc store) = parts_below es store ++ where_read (part_in es store) (reads_in store es)

abbrev pub or_nothing : List Part → List Part
or_nothing [] = nothing_handed
or_nothing (part ∷ parts) = part ∷ parts
