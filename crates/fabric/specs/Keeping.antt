-- What a fabric keeps.
use Rattle.std.specs.Prelude.{◌≡◌, ℕ, ◌+◌, ◌*◌, ◌^◌, ◌≤◌, ◌==◌, ◌⊎◌, if◌then◌else◌, List, [], reverse, length, Some, None}
use Rattle.std.specs.Prelude.{slice_get}
use Rattle.pair_types.specs.PageMaps.{PageMap}
use Rattle.nfs3_types.specs.declared.entry.Entry.{Entry}
use Rattle.outside.specs.Weather.{WeatherTold, bad_fates}
use Rattle.page_types.specs.declared.journal.JEntry.{JEntry}
use Rattle.page_types.specs.Journals.{Origin, own}
use Rattle.page_types.specs.Stores.{first_state}
use Rattle.serial_rules.specs.Worlds.{first_page, replay, pending}
use Rattle.serial_rules.specs.Lawful.{Answered, FairList}
use Rattle.store_group.specs.declared.group.StoreGroup.{StoreGroup}
use Rattle.store_group.specs.Shown.{behind, settling_of, first_of_store}
use Rattle.fabric.specs.declared.book.Book.{Book}
use Rattle.fabric.specs.Settled.{settled, steps}
use Rattle.fabric.specs.Shown.{Shown, past, told_of}
use Rattle.fabric.specs.Stepping.{AreHeard, AreMarred}
use Rattle.fabric.specs.Within.{AreWithin, IsPendingWithin}

abbrev pub shown_of : {W : Type 0} → ℕ → List ℕ → ℕ → Book → W → Shown W
shown_of stores first replicas book weather = record {
  origin = record { stores = stores; first = first };
  replicas = replicas;
  journal = book.entries.items;
  doubts = book.doubts;
  weather = weather;
}

-- a store group is what the journal tells of its store
pub record IsStoreOf (origin : Origin) (size : ℕ) (es : List JEntry) (store : ℕ) (g : StoreGroup) : Type 0 where
  pub behind_is : behind g ≡ told_of origin es store
  pub number : (settling_of g).store ≡ store
  pub replicas : (settling_of g).replicas ≡ size
  pub first_is : first_of_store g ≡ first_page origin store
  pub log : (settling_of g).log ≡ reverse (settled es store)
  pub round : (settling_of g).round ≤ 1 + 2 * steps es

-- a store group that did nothing yet
pub record IsFirst (first : List ℕ) (size store : ℕ) (g : StoreGroup) : Type 0 where
  pub behind_is : behind g ≡ record { state = first_state (if store == 0 then Some first else None); pending = None }
  pub number : (settling_of g).store ≡ store
  pub replicas : (settling_of g).replicas ≡ size
  pub first_is : first_of_store g ≡ (if store == 0 then Some first else None)
  pub log : (settling_of g).log ≡ []
  pub round : (settling_of g).round ≡ 1

-- so many store groups that did nothing yet
pub record AreFirst (first : List ℕ) (size count : ℕ) (groups : List StoreGroup) : Type 0 where
  pub groups_are : length groups ≡ count
  pub each : (store : ℕ) (g : StoreGroup) → slice_get groups store ≡ Some g → IsFirst first size store g

-- What maps of pages stand for, a state S; and where an entry leads, from a state with this root page.
module _ {S : Type 0} (stands : PageMap → S → Type 0) (next : S → List ℕ → Entry → S → Type 0) where
  -- The answers in the journal are those of the stores, each pass's own entries are fair, and each store group is what
  -- the journal tells. Where a command was settled at a store, a majority of its replicas are heard.
  pub record IsFabric {W : Type 0} (told : WeatherTold W) (f : Shown W) (groups : List StoreGroup) (count : ℕ) : Type 0 where
    pub groups_are : length groups ≡ f.origin.stores
    pub some : 1 ≤ f.origin.stores
    pub not_many : f.origin.stores ≤ 16
    pub size : (f.replicas ≡ 3) ⊎ (f.replicas ≡ 5)
    pub answered : Answered f.origin (past f)
    pub fair : (pass : ℕ) → FairList stands next f.origin.stores (own pass (past f))
    pub count_is : count ≡ steps (past f)
    pub most : count ≤ 2 ^ 62
    pub doubted : f.doubts ≤ count
    pub few : f.doubts ≤ bad_fates (told.bad f.weather)
    pub marred : 1 ≤ f.doubts → AreMarred told f.origin.stores f.replicas f.weather
    pub each : (store : ℕ) (g : StoreGroup) → slice_get groups store ≡ Some g → IsStoreOf f.origin f.replicas (past f) store g
    pub within : (store : ℕ) → AreWithin f.origin.stores (replay f.origin (past f) store)
    pub pending_within : (store : ℕ) → IsPendingWithin f.origin.stores (pending (past f) store)
    pub heard : (store : ℕ) → 1 ≤ length (settled (past f) store) → AreHeard told f.replicas f.weather store
