-- What a pass may commit over a port of its own, where every transaction is right.
use Rattle.std.specs.Prelude.{◌≡◌, ℕ, ◌<◌, ◌≤◌, ◌==◌, ◌&&◌, Bool, false, List, [], ◌++◌, reverse, ⊤, None, length}
use Rattle.std.specs.List.{Contains, list_any}
use Rattle.pair_types.specs.declared.slot.Tid.{Tid}
use Rattle.pair_types.specs.PageMaps.{PageMap}
use Rattle.nfs3_types.specs.declared.entry.Entry.{Entry}
use Rattle.page_types.specs.declared.command.Command.TheVariants.{Read}
use Rattle.page_types.specs.declared.answer.Answer.TheVariants.{Page}
use Rattle.page_types.specs.declared.journal.JEntry.{JEntry}
use Rattle.page_types.specs.declared.journal.JEntry.TheVariants.{Took}
use Rattle.page_types.specs.Accesses.{AreAccesses}
use Rattle.page_types.specs.Journals.{Origin, own}
use Rattle.page_types.specs.Fair.{Known, seen, AreKnown}
use Rattle.page_types.specs.Ports.{PortState}
use Rattle.two_phase.specs.declared.parts.Part.{Part}
use Rattle.fabric.specs.Shown.{Shown, past, port_of}
use Rattle.two_phase.specs.Tries.{Onward}
use Rattle.two_phase.specs.Parts.{IsTransaction, StoresRise, carries}
use Rattle.two_phase.specs.Commits.{IsReady}

-- the entry answers a read of the pass, of this page of a store, with this version
abbrev pub answers : ℕ → ℕ → ℕ → ℕ → JEntry → Bool
answers pass here number version (Took asker store (Read n) (Page v content)) =
    (asker == pass) && ((store == here) && ((n == number) && (v == version)))
answers pass here number version e = false

-- what a journal, the oldest entry first, lets a pass know of pages
abbrev pub known_by : ℕ → List JEntry → Known
known_by pass journal = seen (own pass (reverse journal))

-- a part may be committed at one of so many stores, as far as it alone goes
pub record IsPart (stores : ℕ) (known : Known) (part : Part) : Type 0 where
  pub below : part.store < stores
  pub accesses : AreAccesses part.reads part.writes
  pub are_known : AreKnown known part.store part.reads

-- they are the parts of a transaction that may be committed
pub record ArePartsOf (stores : ℕ) (known : Known) (parts : List Part) : Type 0 where
  pub some : 1 ≤ length parts
  pub rise : StoresRise parts
  pub all : (part : Part) → Contains parts part → IsPart stores known part

-- A transaction is new in a journal, the oldest entry first, and its pass read all that it says that it read.
pub record IsNew (stores : ℕ) (journal : List JEntry) (tid : Tid) (parts : List Part) : Type 0 where
  pub serial : 1 ≤ tid.serial
  pub fresh : list_any (carries tid) journal ≡ false
  pub are_parts : ArePartsOf stores (known_by tid.pass journal) parts

-- what pages stand for here: nothing
abbrev pub Nothing : Type 0
Nothing = Unit

abbrev pub any_stands : Origin → PageMap → Nothing → Type 0
any_stands origin pages state = ⊤

abbrev pub any_next : Nothing → List ℕ → Entry → Nothing → Type 0
any_next state page e led = ⊤

-- the transaction, which serves no call, may be committed over a port
abbrev pub MayCommit : PortState → Tid → List Part → Type 0
MayCommit p tid parts = IsTransaction any_stands any_next p tid parts None

-- a way to the stores at a later moment
pub record IsOn (old new : PortState) : Type 0 where
  pub part : List JEntry
  pub onward : Onward old new part

-- the same stores at a later moment
pub record IsLater {W : Type 0} (old new : Shown W) : Type 0 where
  pub part : List JEntry
  pub is : past new ≡ part ++ past old
  pub origin : new.origin ≡ old.origin

-- all parts of a transaction are prepared, and its pass may ask the home to commit it
abbrev pub IsPrepared : {W : Type 0} → Shown W → Tid → ℕ → List ℕ → Type 0
IsPrepared fabric tid home stores =
    IsReady any_stands any_next (port_of (record { fabric = fabric; pass = tid.pass; doubts = 0; stops = 0 })) tid
    (record { home = home; parts = stores }) None
