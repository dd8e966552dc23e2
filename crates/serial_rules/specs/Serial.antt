-- What it is that a journal is serial: its transactions stand in one order, each on the pages that those before it left.
use Rattle.std.specs.Prelude.{◌≡◌, ℕ, List, [], ◌∷◌, ◌++◌, Option, Some, None, IsSome}
use Rattle.pair_types.specs.declared.slot.Slot.{Slot}
use Rattle.pair_types.specs.PageMaps.{PageMap}
use Rattle.nfs3_types.specs.declared.entry.Entry.{Entry}
use Rattle.page_types.specs.declared.journal.JEntry.{JEntry}
use Rattle.page_types.specs.Journals.{Origin}
use Rattle.page_types.specs.Fair.{IsRight}
use Rattle.serial_rules.specs.Worlds.{World, replay}
use Rattle.serial_rules.specs.Committed.{committed, shown, with_writes}
use Rattle.serial_rules.specs.History.{Effect, effect_of, Happened, history}

-- what a transaction read is committed, at the version that it read, and each page that it writes was read
pub record ReadsCommitted (world : World) (effect : Effect) : Type 0 where
  pub version_is : (s : Slot) (v : ℕ) → effect.versions s ≡ Some v → (committed world s).version ≡ v
  pub page_is : (s : Slot) (v : ℕ) → effect.versions s ≡ Some v → effect.reads s ≡ Some (shown world s)
  pub no_more : (s : Slot) → effect.versions s ≡ None → effect.reads s ≡ None
  pub are_read : (s : Slot) → IsSome (effect.writes s) → IsSome (effect.versions s)

-- What maps of pages stand for, a state S; and where an entry leads, from a state with this root page.
module _ {S : Type 0} (stands : PageMap → S → Type 0) (next : S → List ℕ → Entry → S → Type 0) where
  -- the transaction acts on the committed pages: its writes, each with the next version, are all that changes
  pub record Acts (old new : World) (effect : Effect) : Type 0 where
    pub reads_committed : ReadsCommitted old effect
    pub right : IsRight stands next effect.reads effect.writes effect.entry
    pub written : committed new ≡ with_writes effect.writes (committed old)

  -- an entry of the journal: without an effect the committed pages stay
  abbrev pub IsStep : World → World → Option Effect → Type 0
  IsStep old new None = committed new ≡ committed old
  IsStep old new (Some effect) = Acts old new effect

  -- calls, the newest first, lead from one state to another
  abbrev pub Goes : S → List Happened → S → Type 0
  Goes from [] to = from ≡ to
  Goes from (h ∷ hs) to = (mid : S) × Goes from hs mid × next mid h.page h.entry to

  -- the calls of the history lead somewhere, from the state that the first page stands for
  abbrev pub IsLegal : Origin → S → List JEntry → Type 0
  IsLegal origin first es = (last : S) × Goes first (history origin es) last

  -- and there the committed pages stand for the state
  abbrev pub Serves : Origin → S → List JEntry → Type 0
  Serves origin first es =
      (last : S) × Goes first (history origin es) last × stands (shown (replay origin es)) last

  -- The history is legal, and the committed pages stand for the state to which it leads; each entry with an effect reads
  -- what is committed and writes that alone, and each other entry leaves the committed pages.
  pub record IsSerial (origin : Origin) (first : S) (es : List JEntry) : Type 0 where
    pub legal : IsLegal origin first es
    pub serves : Serves origin first es
    pub steps : (later : List JEntry) (e : JEntry) (earlier : List JEntry) → es ≡ later ++ (e ∷ earlier) →
        IsStep (replay origin earlier) (replay origin (e ∷ earlier)) (effect_of origin earlier e)
