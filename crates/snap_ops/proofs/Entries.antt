-- Snapshots as the entries of the directory `.snapshot`.
use Rattle.std.proofs.Common.{◌≡◌, ◌≢◌, ℕ, ◌+◌, ◌==◌, ◌<◌, ◌^◌, Bool, true, false, not, if◌then◌else◌, List, [], ◌∷◌, Some}
use Rattle.std.proofs.Common.{refl, ◌∙◌, ap, arith}
use Rattle.std.proofs.lemmas.Bool.{eq-eqb, eqb-true, eqb-false}
use Rattle.std.proofs.lemmas.List.Elements.{All-map}
use Rattle.std.specs.Prelude.{All, find, filter, map, option_map}
use Rattle.std.specs.Str.{bytes_eq}
use Rattle.pairs.specs.declared.at.At.TheVariants.{Live}
use Rattle.pairs.specs.Versions.{Versions}
use Rattle.fs_rules.specs.declared.name_entry.NameEntry.{NameEntry}
use Rattle.fs_rules.specs.Names.{has_name}
use Rattle.fs_rules.specs.Places.{has_number, snapshot_entry, snapshot_numbered}
use Rattle.fs_rules.specs.Tree.{Tree, Snapshot}
use Rattle.fs_keys.specs.declared.key_parts.KeyParts.TheVariants as key
use Rattle.fs_shows.specs.Extents.{row}
use Rattle.fs_shows.specs.Nodes.{numbered}
use Rattle.fs_shows.specs.Shows.{Shows}
use Rattle.fs_shows.proofs.NameLists.{without}

not-equal : (a b : ℕ) → a ≢ b → (a == b) ≡ false
not-equal a b other = by_test (a == b) refl
  where
    by_test : (u : Bool) → (a == b) ≡ u → (a == b) ≡ false
    by_test true is = absurd (other (eqb-true a b is))
    by_test false is = is

-- the name of the snapshot of a number is that of the entry of its cookie
pub numbered-entry : (n : ℕ) (snapshots : List Snapshot)
    → option_map (λ (s : Snapshot). s.name) (find (has_number n) snapshots)
    ≡ option_map (λ (e : NameEntry). e.name) (numbered (n + 2) (map snapshot_entry snapshots))
unfolding numbered
numbered-entry n [] = refl
numbered-entry n (s ∷ snapshots) = by_test (s.number == n) refl (numbered-entry n snapshots)
  where
    by_test : (u : Bool) → (s.number == n) ≡ u
        → option_map (λ (s : Snapshot). s.name) (find (has_number n) snapshots)
        ≡ option_map (λ (e : NameEntry). e.name) (find (λ e. e.cookie == n + 2) (map snapshot_entry snapshots))
        → option_map (λ (s : Snapshot). s.name) (if u then Some s else find (has_number n) snapshots)
        ≡ option_map (λ (e : NameEntry). e.name)
        (if s.number + 2 == n + 2 then Some (snapshot_entry s) else find (λ e. e.cookie == n + 2) (map snapshot_entry snapshots))
    by_test true is same =
        let own : s.number ≡ n = eqb-true s.number n is in
        let t : (s.number + 2 == n + 2) ≡ true = eq-eqb (s.number + 2) (n + 2) (omega (arith, own)) in
        rw t refl
    by_test false is same =
        let other : s.number ≢ n = eqb-false s.number n is in
        let f : (s.number + 2 == n + 2) ≡ false = not-equal (s.number + 2) (n + 2) (λ e. other (omega (arith, e))) in
        rw f same

-- what the row of a snapshot's name holds
pub names-held : (v : Versions) (t : Tree) → Shows v t → (number : ℕ) → number < 2 ^ 64
    → row v Live (key.Snapshot number) ≡ option_map (λ (e : NameEntry). e.name)
    (numbered (number + 2) (map snapshot_entry t.snapshots))
unfolding snapshot_numbered
names-held v t shows number fits = shows.rows.snapshots number fits ∙ numbered-entry number t.snapshots

-- the cookie of an entry tells its number
pub cookies-tell : (snapshots : List Snapshot) → All (λ (e : NameEntry). e.cookie ≡ e.fileid + 2) (map snapshot_entry snapshots)
cookies-tell snapshots = All-map (λ (e : NameEntry). e.cookie ≡ e.fileid + 2) snapshot_entry snapshots (λ k d less. refl)

-- the entries that are left
pub entries-left : (name : List ℕ) (snapshots : List Snapshot)
    → map snapshot_entry (filter (λ (s : Snapshot). not (bytes_eq s.name name)) snapshots)
    ≡ without name (map snapshot_entry snapshots)
unfolding has_name
entries-left name [] = refl
entries-left name (s ∷ snapshots) = by_test (not (bytes_eq s.name name)) (entries-left name snapshots)
  where
    by_test : (u : Bool) → map snapshot_entry (filter (λ (s : Snapshot). not (bytes_eq s.name name)) snapshots)
        ≡ filter (λ (e : NameEntry). not (bytes_eq e.name name)) (map snapshot_entry snapshots)
        → map snapshot_entry (if u then s ∷ filter (λ (s : Snapshot). not (bytes_eq s.name name)) snapshots
        else filter (λ (s : Snapshot). not (bytes_eq s.name name)) snapshots)
        ≡ (if u then snapshot_entry s ∷ filter (λ (e : NameEntry). not (bytes_eq e.name name)) (map snapshot_entry snapshots)
        else filter (λ (e : NameEntry). not (bytes_eq e.name name)) (map snapshot_entry snapshots))
    by_test true same = ap (λ (l : List NameEntry). snapshot_entry s ∷ l) same
    by_test false same = same
