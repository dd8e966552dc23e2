-- In a sound tree each entry leads to a node.
use Rattle.std.proofs.Common.{◌≡◌, ℕ, ◌==◌, Bool, true, false, true≢false, cond, List, [], ◌∷◌, map, Option, Some, None}
use Rattle.std.proofs.Common.{is_some, option_map, refl, sym, ap, ◌∙◌}
use Rattle.std.specs.List.{find}
use Rattle.std.specs.Prelude.{IfSome}
use Rattle.std.proofs.lemmas.Bool.{eq-eqb}
use Rattle.fs_rules.specs.Names.{has_name, named}
use Rattle.fs_rules.specs.Places.{beside, entry_at, has_number, leads_to, names_of, node_at, node_in, object_at, object_by}
use Rattle.fs_rules.specs.Places.{snapshot_directory, snapshot_entry, snapshot_numbered}
use Rattle.fs_rules.specs.Sound.{HangTogether, IsRoot, IsSound}
use Rattle.fs_rules.specs.Tree.{Node, Nodes, Snapshot, Tree}
use Rattle.fs_rules.specs.declared.name_entry.NameEntry.{NameEntry}
use Rattle.fs_rules.specs.declared.place.Place.{Place}
use Rattle.fs_rules.specs.declared.place.Place.TheVariants.{Kept, Live, SnapshotDirectory}
use Rattle.fs_laws.proofs.Shaped.{find_has}
use Rattle.fs_sound.proofs.Counts.{named_has}
use Rattle.fs_sound.proofs.Facts.{names_are}

pub some_object : (place : Place) (o : Option Node) → is_some o ≡ true → is_some (option_map (object_by place) o) ≡ true
some_object place (Some n) e = refl
some_object place None e = absurd cc

no_entry : (name : List ℕ) (e : NameEntry) → named name [] ≡ Some e → ⊥
unfolding named
no_entry name e found = cc

-- an entry of nodes that hang together
entry_leads : (nodes : Nodes) (name : List ℕ) (fileid : ℕ) (o : Option Node) (e : NameEntry) → HangTogether nodes
    → nodes fileid ≡ o
    → named name (names_of o) ≡ Some e → is_some (nodes e.fileid) ≡ true
entry_leads nodes name fileid (Some n) e h is found =
    named_has (λ x. is_some (nodes x.fileid) ≡ true) name n e found (names_are nodes fileid n h is).lead
entry_leads nodes name fileid None e h is found = absurd (no_entry name e found)

-- one of a snapshot
kept_leads : (s : Option Snapshot) (name : List ℕ) (fileid : ℕ) (e : NameEntry) → IfSome s (λ s. HangTogether s.nodes)
    → named name (names_of (node_in s fileid)) ≡ Some e → is_some (node_in s e.fileid) ≡ true
unfolding named
kept_leads (Some s) name fileid e h found = entry_leads s.nodes name fileid (s.nodes fileid) e h refl found
kept_leads None name fileid e h found = absurd cc

-- one of `.snapshot` says the number of a snapshot
number_by : (name : List ℕ) (s : Snapshot) (snapshots : List Snapshot) (e : NameEntry) (b : Bool)
    → cond b (Some (snapshot_entry s)) (find (has_name name) (map snapshot_entry snapshots)) ≡ Some e
    → (find (has_name name) (map snapshot_entry snapshots) ≡ Some e → is_some (find (has_number e.fileid) snapshots) ≡ true)
    → (c : Bool) → (s.number == e.fileid) ≡ c → is_some (cond c (Some s) (find (has_number e.fileid) snapshots)) ≡ true
number_by name s snapshots e true h next true is = refl
number_by name s snapshots e true h next false is =
    let same : snapshot_entry s ≡ e = cc in
    absurd (true≢false (sym (eq-eqb s.number e.fileid (ap (λ (x : NameEntry). x.fileid) same)) ∙ is))
number_by name s snapshots e false h next true is = refl
number_by name s snapshots e false h next false is = next h

numbered : (name : List ℕ) (snapshots : List Snapshot) (e : NameEntry)
    → find (has_name name) (map snapshot_entry snapshots) ≡ Some e
    → is_some (find (has_number e.fileid) snapshots) ≡ true
numbered name [] e h = absurd cc
numbered name (s ∷ snapshots) e h =
    number_by name s snapshots e (has_name name (snapshot_entry s)) h (numbered name snapshots e) (s.number == e.fileid) refl

pub root_there : (o : Option Node) → IsRoot o → is_some o ≡ true
root_there (Some n) h = refl
root_there None h = absurd h

pub kept_root : (s : Option Snapshot) → is_some s ≡ true → IfSome s (λ s. HangTogether s.nodes) → is_some (node_in s 1) ≡ true
kept_root (Some s) e h = root_there (s.nodes 1) h.root
kept_root None e h = absurd cc

pub names_lead : (t : Tree) (place : Place) (name : List ℕ) (e : NameEntry) → IsSound t → entry_at t place name ≡ Some e
    → is_some (leads_to t (beside place e)) ≡ true
unfolding entry_at object_at node_at snapshot_directory snapshot_numbered named
names_lead t (Live fileid) name e h found =
    some_object (Live e.fileid) (t.nodes e.fileid) (entry_leads t.nodes name fileid (t.nodes fileid) e h.live refl found)
names_lead t SnapshotDirectory name e h found =
    some_object (Kept e.fileid 1) (node_in (find (has_number e.fileid) t.snapshots) 1)
    (kept_root (find (has_number e.fileid) t.snapshots) (numbered name t.snapshots e found)
    (find_has (λ s. HangTogether s.nodes) (has_number e.fileid) t.snapshots h.kept))
names_lead t (Kept number fileid) name e h found =
    some_object (Kept number e.fileid) (node_in (find (has_number number) t.snapshots) e.fileid)
    (kept_leads (find (has_number number) t.snapshots) name fileid e (find_has (λ s. HangTogether s.nodes) (has_number number)
    t.snapshots h.kept) found)
