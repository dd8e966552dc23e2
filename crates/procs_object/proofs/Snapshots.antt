-- The directory of snapshots, and what stands in a snapshot.
use Rattle.std.proofs.Common.{◌≡◌, ◌∙◌, ℕ, ◌+◌, ◌≤◌, ◌<◌, ◌^◌, Bool, true, false, List, [], ◌∷◌, length, map, refl, sym, ap}
use Rattle.std.proofs.Common.{subst, arith, Option, Some, None}
use Rattle.std.proofs.lemmas.Bool.{eqb-true}
use Rattle.std.proofs.lemmas.List.{length-map}
use Rattle.std.specs.Prelude.{is_some, find, IsSome, if◌then◌else◌}
use Rattle.fs_rules.specs.declared.inode.Inode.{Inode as Kept}
use Rattle.fs_rules.specs.declared.name_entry.NameEntry.{NameEntry}
use Rattle.fs_rules.specs.declared.place.Place.TheVariants.{SnapshotDirectory, Kept as KeptPlace}
use Rattle.fs_rules.specs.declared.times.Times.{Times}
use Rattle.fs_rules.specs.Attributes.{attributes_of, size_of}
use Rattle.fs_rules.specs.Limits.{last_epoch, most_snapshots}
use Rattle.fs_rules.specs.Places.{Object, has_number, leads_to, node_at, node_in, snapshot_directory, snapshot_entry, snapshot_numbered}
use Rattle.fs_rules.specs.Sound.{IsSound, Rise}
use Rattle.fs_rules.specs.Tree.{Node, Snapshot, Tree, root_inode}
use Rattle.pairs.specs.declared.at.At.TheVariants.{Snap}
use Rattle.fs_keys.specs.declared.rows.First.{First}
use Rattle.fs_shows.specs.Views.{IsFoundAs, IsKept}
use Rattle.procs_object.specs.declared.object.Found.{Found}
use Rattle.procs_object.specs.Finding.{Begins, HasPlace, IsLed, IsObject, directory_found}
use Rattle.procs_object.proofs.Handles.{led-none, led-some}

-- ---- the directory

module _ (t : Tree) (row : First) (begins : Begins row t) (entries : List NameEntry)
    (is : map snapshot_entry t.snapshots ≡ entries) where
  -- there are not more entries, and no later epoch, than there may be
  pub few-entries : length entries ≤ most_snapshots
  few-entries =
      subst (λ (names : List NameEntry). length names ≤ most_snapshots) is begins.sound.bounds.snapshots.few

  pub early : row.epoch ≤ last_epoch
  early = subst (λ (r : First). r.epoch ≤ last_epoch) begins.first begins.sound.bounds.epoch

  directory-inode : (times : Times) → t.snapshot_times ≡ times
      → root_inode (2 + length entries) (row.epoch + 2) times ≡ (snapshot_directory t).inode
  unfolding snapshot_directory
  directory-inode times at =
      ap (λ (n : ℕ). root_inode (2 + n) (row.epoch + 2) times) (ap length (sym is) ∙ length-map t.snapshots snapshot_entry)
      ∙ ap (λ (r : First). root_inode (2 + length t.snapshots) (r.epoch + 2) times) (sym begins.first)
      ∙ ap (λ (times : Times). root_inode (2 + length t.snapshots) (t.epoch + 2) times) (sym at)

  pub directory-led : (times : Times) (i : Kept) → t.snapshot_times ≡ times
      → i ≡ root_inode (2 + length entries) (row.epoch + 2) times
      → IsLed t (Some (directory_found row.fsid i)) (leads_to t SnapshotDirectory)
  unfolding node_at snapshot_directory root_inode size_of
  directory-led times i at made =
      led-some t SnapshotDirectory row.fsid (directory_found row.fsid i).inode (attributes_of row.fsid 2 i 4096)
      (ap (λ (r : First). r.fsid) begins.first) refl
      (record { kept = made ∙ directory-inode times at; size = refl; target = refl })

-- ---- a snapshot

rise-least : (least next : ℕ) (names : List NameEntry) → Rise least next names → least ≤ next
unfolding Rise
rise-least least next [] rise = rise
rise-least least next (e ∷ names) rise = let above = rise-least (e.cookie + 1) next names rise.1 in omega (arith, rise.0, above)

kept-below : (number least next : ℕ) (ss : List Snapshot) → Rise least next (map snapshot_entry ss)
    → is_some (find (has_number number) ss) ≡ true → number + 2 < next
unfolding Rise
kept-below number least next [] rise there = absurd (cc)
kept-below number least next (s ∷ ss) rise there =
    by_test (has_number number s) refl there (kept-below number (s.number + 2 + 1) next ss rise.1)
  where
    by_test : (b : Bool) → has_number number s ≡ b → is_some (if b then Some s else find (has_number number) ss) ≡ true
        → (is_some (find (has_number number) ss) ≡ true → number + 2 < next) → number + 2 < next
    by_test true own there more =
        let above = rise-least (s.number + 2 + 1) next (map snapshot_entry ss) rise.1 in
        let same = eqb-true s.number number own in
        omega (arith, above, same)
    by_test false own there more = more there

none-in : (o : Option Snapshot) (id : ℕ) → is_some o ≡ false → IsFoundAs None (node_in o id)
none-in None id none = tt
none-in (Some s) id none = absurd (cc)

some-kept : (o : Option Snapshot) → is_some o ≡ true → IsSome o
some-kept None there = absurd (cc)
some-kept (Some s) there = refl

module _ (t : Tree) (number : ℕ) where
  -- no snapshot of this number is kept
  pub kept-none : (id : ℕ) → is_some (snapshot_numbered t number) ≡ false → IsLed t None (leads_to t (KeptPlace number id))
  unfolding node_at
  kept-none id none = led-none t (KeptPlace number id) (none-in (snapshot_numbered t number) id none)

  module _ (there : is_some (snapshot_numbered t number) ≡ true) where
    pub is-kept : IsKept (Snap number) t
    is-kept = some-kept (snapshot_numbered t number) there

    -- the number of its file system fits
    pub sum-fits : (row : First) → Begins row t → row.fsid + number < 2 ^ 64
    unfolding snapshot_numbered last_epoch
    sum-fits row begins =
        let below = kept-below number 3 (t.epoch + 2) t.snapshots begins.sound.bounds.snapshots.entries.cookies there in
        let fsid : row.fsid ≤ 2 ^ 63 = subst (λ (r : First). r.fsid ≤ 2 ^ 63) begins.first begins.sound.bounds.fsid in
        omega (arith, below, fsid, begins.sound.bounds.epoch)

-- what stands in a snapshot stands in one that is kept
some-snapshot : (o : Option Snapshot) (id : ℕ) (n : Node) → node_in o id ≡ Some n → IsSome o
some-snapshot None id n there = absurd (cc)
some-snapshot (Some s) id n there = refl

pub kept-there : (t : Tree) (number id : ℕ) → HasPlace (KeptPlace number id) t → IsKept (Snap number) t
unfolding node_at
kept-there t number id has = some-snapshot (snapshot_numbered t number) id has.node has.there

-- where an object was found, something stands
pub has-found : (t : Tree) (x : Found) (o : Object) → IsSound t → IsObject t x o → HasPlace x.place t
has-found t x o sound is = record { sound = sound; node = is.node; there = is.there }
