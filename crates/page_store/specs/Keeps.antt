-- What a store keeps in memory: of each page, of each transaction, and the next number; and how a patch changes it.
use Rattle.std.specs.Prelude.{◌≡◌, ℕ, ◌==◌, ◌≤◌, if◌then◌else◌, Bool, true, false, List, [], ◌∷◌, Option, Some, None, IsSome}
use Rattle.std.specs.Prelude.{unwrap_or, slice_get, ⊤}
use Rattle.std.specs.List.{list_any}
use Rattle.std.specs.BTreeMap.{BTreeMap, get}
use Rattle.std.specs.Ordering.{nat_cmp, ordering_then}
use Rattle.std.specs.declared.cmp.Ordering.{Ordering}
use Rattle.pair_types.specs.declared.slot.Tid.{Tid}
use Rattle.page_types.specs.Accesses.{is_same}
use Rattle.page_types.specs.Stores.{Kept, StoreState, never_written, first_kept, first_next}
use Rattle.page_types.specs.Obeys.{has_hold}
use Rattle.page_store.specs.declared.row.Row.{Row}
use Rattle.page_store.specs.declared.row.Change.{Change}
use Rattle.page_store.specs.declared.party.Party.{Party}
use Rattle.page_store.specs.declared.party.Involved.{Involved}
use Rattle.page_store.specs.Rows.{kept_at, kept_of}

-- of each page, of each transaction (also where its holds are), and the number that is given next
pub record Keeps : Type 0 where
  pub slot : ℕ → Kept
  pub party : Tid → Party
  pub next : ℕ

-- the state that it stands for
abbrev pub state : Keeps → StoreState
state keeps = record {
  slot = keeps.slot;
  decided = λ tid. (keeps.party tid).outcome;
  ended = λ tid. (keeps.party tid).ended;
  next = keeps.next;
}

-- transactions in order by their pass, and those of one pass by their serial
abbrev pub tid_cmp : ℕ × ℕ → ℕ × ℕ → Ordering
tid_cmp a b = ordering_then (nat_cmp a.0 b.0) (nat_cmp a.1 b.1)

-- a transaction that the store knows nothing of
abbrev pub stranger : Party
stranger = record { outcome = None; ended = false; numbers = [] }

-- what maps of rows and of parties keep
abbrev pub kept_in : BTreeMap ℕ Row → ℕ → Kept
kept_in rows number = kept_at (get nat_cmp rows number)

abbrev pub party_in : BTreeMap (ℕ × ℕ) Party → Tid → Party
party_in parties tid = unwrap_or (get tid_cmp parties (tid.pass, tid.serial)) stranger

abbrev pub keeps_in : BTreeMap ℕ Row → BTreeMap (ℕ × ℕ) Party → ℕ → Keeps
keeps_in rows parties next = record { slot = kept_in rows; party = party_in parties; next = next }

-- ## Patches: the rows that a command changes, the transaction that it concerns, and the next number

abbrev pub change_in : List Change → ℕ → Option Row
change_in [] number = None
change_in (c ∷ cs) number = if c.number == number then Some c.row else change_in cs number

abbrev pub changed : Option Row → Kept → Kept
changed None kept = kept
changed (Some row) kept = kept_of row

abbrev pub concerned : Option Involved → Tid → Option Party
concerned None tid = None
concerned (Some i) tid = if is_same i.tid tid then Some i.party else None

abbrev pub patched : List Change → Option Involved → ℕ → Keeps → Keeps
patched rows party next keeps = record {
  slot = λ number. changed (change_in rows number) (keeps.slot number);
  party = λ tid. unwrap_or (concerned party tid) (keeps.party tid);
  next = next;
}

-- ## What always holds

-- a number is among these
abbrev pub is_among : List ℕ → ℕ → Bool
is_among numbers number = list_any (λ other. other == number) numbers

-- where a transaction has a hold, its party has the number
abbrev pub IsIndexed : Keeps → Type 0
IsIndexed keeps = (number : ℕ) (tid : Tid) → has_hold tid (keeps.slot number) ≡ true →
    is_among (keeps.party tid).numbers number ≡ true

-- no version, and no next number, is above a limit
pub record IsBounded (limit : ℕ) (s : StoreState) : Type 0 where
  pub versions : (number : ℕ) → (s.slot number).version ≤ limit
  pub next : s.next ≤ limit

-- ## Room: a patch is adopted where its rows and its transaction have entries in the maps

abbrev pub changed_by : Change → (ℕ → Kept) → ℕ → Kept
changed_by change slots number = if change.number == number then kept_of change.row else slots number

-- there is an entry for each change
abbrev pub IsReady : BTreeMap ℕ Row → List Change → Type 0
IsReady rows changes = (k : ℕ) (change : Change) → slice_get changes k ≡ Some change → IsSome (get nat_cmp rows change.number)

abbrev pub IsPartyReady : BTreeMap (ℕ × ℕ) Party → Option Involved → Type 0
IsPartyReady parties None = ⊤
IsPartyReady parties (Some i) = IsSome (get tid_cmp parties (i.tid.pass, i.tid.serial))

-- what rows keep stays, and no entry goes
pub record RowsStay (old new : BTreeMap ℕ Row) : Type 0 where
  pub same : (number : ℕ) → kept_in new number ≡ kept_in old number
  pub room : (number : ℕ) → IsSome (get nat_cmp old number) → IsSome (get nat_cmp new number)

pub record PartiesStay (old new : BTreeMap (ℕ × ℕ) Party) : Type 0 where
  pub same : (tid : Tid) → party_in new tid ≡ party_in old tid
  pub room : (place : ℕ × ℕ) → IsSome (get tid_cmp old place) → IsSome (get tid_cmp new place)

-- nothing yet
abbrev pub nothing : Keeps
nothing = record { slot = λ number. never_written; party = λ tid. stranger; next = 0 }

-- the first page, where there is one, lies in slot 0
abbrev pub first_keeps : Option (List ℕ) → Keeps
first_keeps first = record { slot = first_kept first; party = λ tid. stranger; next = first_next first }
