-- All that a directory of a sound tree lists leads to something.
use Rattle.std.proofs.Common.{◌≡◌, ℕ, ◌-◌, ◌==◌, ◌||◌, nat_le, nat_lt, not, cond, Bool, true, false, List, [], ◌∷◌, map, find}
use Rattle.std.proofs.Common.{codes, Option, Some, None, is_some, option_map, Ok, All, IfSome, ⊎_elim, refl, sym, ap, subst}
use Rattle.std.proofs.Common.{◌∙◌, arith}
use Rattle.std.proofs.lemmas.Bool.{cases_eq, eq-eqb}
use Rattle.std.proofs.lemmas.List.Elements.{All-nil, All-cons, All-head, All-tail, All-filter, All-map, All-weaker}
use Rattle.nfs3_types.specs.declared.args.ReadDirArgs.{ReadDirArgs}
use Rattle.nfs3_types.specs.declared.cred.Cred.{Cred}
use Rattle.nfs3_types.specs.declared.status.Status.TheVariants.{Acces, BadCookie, NotDir, TooSmall}
use Rattle.fs_rules.specs.Attributes.{is_directory}
use Rattle.fs_rules.specs.Checks.{find_object}
use Rattle.fs_rules.specs.Listing.{Listed, Page, bare_size, behind, fitting, is_too_small, is_zeros, limit, listed, listing, page}
use Rattle.fs_rules.specs.Listing.{page_behind, page_of}
use Rattle.fs_rules.specs.Places.{Object, above, beside, has_number, names_at, names_of, node_at, node_in, object_at, object_by}
use Rattle.fs_rules.specs.Places.{snapshot_directory, snapshot_entry, snapshot_numbered}
use Rattle.fs_rules.specs.Rights.{may_read}
use Rattle.fs_rules.specs.Sound.{HangTogether, IsRoot, IsSound, count_in}
use Rattle.fs_rules.specs.Tree.{Node, Nodes, Snapshot, Tree}
use Rattle.fs_rules.specs.declared.inode.Inode.{Inode}
use Rattle.fs_rules.specs.declared.name_entry.NameEntry.{NameEntry}
use Rattle.fs_rules.specs.declared.place.Place.{Place}
use Rattle.fs_rules.specs.declared.place.Place.TheVariants.{Kept, Live, SnapshotDirectory}
use Rattle.fs_laws.proofs.Checked.{either_is}
use Rattle.fs_laws.proofs.Passed.{ended, is_true, next_of, past}
use Rattle.fs_laws.proofs.Shaped.{find_has}
use Rattle.fs_sound.proofs.Facts.{names_are, naming_some, placed}
use Rattle.fs_sound.proofs.Present.{kept_root, root_there}
use Rattle.fs_sound.proofs.Staying.{IsShown, found_at, shown_by, shown_found, shown_snapshots, shown_there}

-- ---- in a snapshot

pub kept_by : (t : Tree) (number : ℕ) (s : Option Snapshot) → snapshot_numbered t number ≡ s → (fileid : ℕ)
    → is_some (node_in s fileid) ≡ true → IsShown t (Kept number fileid)
unfolding node_at
kept_by t number s is fileid h =
    shown_by t (Kept number fileid) (node_in s fileid) (ap (λ (x : Option Snapshot). node_in x fileid) is) h

hangs_numbered : (t : Tree) (number : ℕ) → IsSound t → IfSome (snapshot_numbered t number) (λ s. HangTogether s.nodes)
unfolding snapshot_numbered
hangs_numbered t number k = find_has (λ s. HangTogether s.nodes) (has_number number) t.snapshots k.kept

-- ---- the names

abbrev LeadOn : Tree → Place → List NameEntry → Type 0
LeadOn t place names = All (λ (e : NameEntry). IsShown t (beside place e)) names

live_names : (t : Tree) (fileid : ℕ) (o : Option Node) → IsSound t → t.nodes fileid ≡ o → LeadOn t (Live fileid) (names_of o)
live_names t fileid (Some n) k is =
    All-weaker (λ (e : NameEntry). is_some (t.nodes e.fileid) ≡ true) (λ (e : NameEntry). IsShown t (Live e.fileid))
    (λ e h. shown_there t e.fileid h) n.names (names_are t.nodes fileid n k.live is).lead
live_names t fileid None k is = All-nil (λ (e : NameEntry). IsShown t (Live e.fileid))

no_node : (n : Node) → None ≡ Some n → ⊥
no_node n e = cc

kept_names : (t : Tree) (number : ℕ) (s : Option Snapshot) → snapshot_numbered t number ≡ s
    → IfSome s (λ s. HangTogether s.nodes) → (fileid : ℕ) (o : Option Node) → node_in s fileid ≡ o
    → LeadOn t (Kept number fileid) (names_of o)
kept_names t number (Some s) at h fileid (Some n) is =
    All-weaker (λ (e : NameEntry). is_some (s.nodes e.fileid) ≡ true) (λ (e : NameEntry). IsShown t (Kept number e.fileid))
    (λ e x. kept_by t number (Some s) at e.fileid x) n.names (names_are s.nodes fileid n h is).lead
kept_names t number None at h fileid (Some n) is = absurd (no_node n is)
kept_names t number s at h fileid None is = All-nil (λ (e : NameEntry). IsShown t (Kept number e.fileid))

-- each snapshot is found by its number
one_more : (b : Bool) (s : Snapshot) (o : Option Snapshot) → is_some o ≡ true → is_some (cond b (Some s) o) ≡ true
one_more true s o h = refl
one_more false s o h = h

all_numbered : (snapshots : List Snapshot)
    → All (λ (s : Snapshot). is_some (find (has_number s.number) snapshots) ≡ true) snapshots
all_numbered [] = All-nil (λ (s : Snapshot). is_some (find (has_number s.number) []) ≡ true)
all_numbered (s ∷ snapshots) =
    All-cons (λ (x : Snapshot). is_some (find (has_number x.number) (s ∷ snapshots)) ≡ true) s snapshots
    (ap (λ (b : Bool). is_some (cond b (Some s) (find (has_number s.number) snapshots))) (eq-eqb s.number s.number refl))
    (All-weaker (λ (x : Snapshot). is_some (find (has_number x.number) snapshots) ≡ true)
    (λ (x : Snapshot). is_some (find (has_number x.number) (s ∷ snapshots)) ≡ true)
    (λ x h. one_more (has_number x.number s) s (find (has_number x.number) snapshots) h) snapshots (all_numbered snapshots))

snapshot_root : (t : Tree) (number : ℕ) → IsSound t → is_some (find (has_number number) t.snapshots) ≡ true
    → IsShown t (Kept number 1)
unfolding snapshot_numbered
snapshot_root t number k h =
    kept_by t number (snapshot_numbered t number) refl 1
    (kept_root (find (has_number number) t.snapshots) h (hangs_numbered t number k))

snapshot_names : (t : Tree) → IsSound t → LeadOn t SnapshotDirectory (map snapshot_entry t.snapshots)
snapshot_names t k =
    All-map (λ (e : NameEntry). IsShown t (Kept e.fileid 1)) snapshot_entry t.snapshots
    (All-weaker (λ (s : Snapshot). is_some (find (has_number s.number) t.snapshots) ≡ true)
    (λ (s : Snapshot). IsShown t (Kept s.number 1)) (λ s h. snapshot_root t s.number k h) t.snapshots (all_numbered t.snapshots))

names_on : (t : Tree) (place : Place) → IsSound t → LeadOn t place (names_at t place)
unfolding node_at snapshot_directory
names_on t (Live fileid) k = live_names t fileid (t.nodes fileid) k refl
names_on t SnapshotDirectory k = snapshot_names t k
names_on t (Kept number fileid) k =
    kept_names t number (snapshot_numbered t number) refl (hangs_numbered t number k) fileid
    (node_in (snapshot_numbered t number) fileid) refl

-- ---- the directory above

root_parent : (o : Option Node) (n : Node) → IsRoot o → o ≡ Some n → n.inode.parent ≡ 1
root_parent (Some m) n h is = let same : m ≡ n = cc in subst (λ (x : Node). x.inode.parent ≡ 1) same h.1
root_parent None n h is = absurd h

parent_there : (nodes : Nodes) (fileid : ℕ) (n : Node) → HangTogether nodes → nodes fileid ≡ Some n
    → is_directory n.inode.kind ≡ true → is_some (nodes n.inode.parent) ≡ true
parent_there nodes fileid n h is dir =
    ⊎_elim
    (λ one.
    let at : nodes 1 ≡ Some n = sym (ap nodes one) ∙ is in
    ap (λ (k : ℕ). is_some (nodes k)) (root_parent (nodes 1) n h.root at) ∙ ap is_some at)
    (λ far.
    let once : count_in (nodes n.inode.parent) fileid ≡ 1 = ((placed nodes fileid n h is dir).parent far).there in
    naming_some nodes n.inode.parent fileid (omega (arith, once)))
    (cases_eq fileid 1)

kept_parent : (t : Tree) (number : ℕ) (s : Option Snapshot) → snapshot_numbered t number ≡ s
    → IfSome s (λ s. HangTogether s.nodes) → (fileid : ℕ) (n : Node) → node_in s fileid ≡ Some n
    → is_directory n.inode.kind ≡ true → IsShown t (Kept number n.inode.parent)
kept_parent t number (Some s) at h fileid n is dir =
    kept_by t number (Some s) at n.inode.parent (parent_there s.nodes fileid n h is dir)
kept_parent t number None at h fileid n is dir = absurd (no_node n is)

above_shown : (t : Tree) (place : Place) (n : Node) → IsSound t → node_at t place ≡ Some n → is_directory n.inode.kind ≡ true
    → IsShown t (above place n.inode)
unfolding node_at
above_shown t (Live fileid) n k is dir = shown_there t n.inode.parent (parent_there t.nodes fileid n k.live is dir)
above_shown t SnapshotDirectory n k is dir = shown_there t 1 (root_there (t.nodes 1) k.live.root)
above_shown t (Kept number fileid) n k is dir =
    either_is (IsShown t) (fileid == 1) SnapshotDirectory (Kept number n.inode.parent) (shown_snapshots t)
    (kept_parent t number (snapshot_numbered t number) refl (hangs_numbered t number k) fileid n is dir)

-- ---- the listing

-- the node of an object
record NodeOf (m : Option Node) (o : Object) : Type 0 where
  node : Node
  is : m ≡ Some node
  inode : node.inode ≡ o.inode

node_of : (place : Place) (m : Option Node) (o : Object) → option_map (object_by place) m ≡ Some o → NodeOf m o
node_of place (Some n) o e =
    let same : object_by place n ≡ o = cc in record { node = n; is = refl; inode = ap (λ (x : Object). x.inode) same }
node_of place None o e = absurd cc

abbrev pub AllLead : Tree → List Listed → Type 0
AllLead t entries = All (λ (e : Listed). IsShown t e.place) entries

listing_leads : (t : Tree) (bytes : List ℕ) (o : Object) → IsSound t → find_object t bytes ≡ Ok o
    → is_directory o.inode.kind ≡ true → AllLead t (listing t o)
unfolding listing object_at
listing_leads t bytes o k is dir =
    let n = node_of o.place (node_at t o.place) o (found_at t bytes o is) in
    let kind = ap (λ (i : Inode). is_directory i.kind) n.inode ∙ dir in
    let own : Listed = record { cookie = 1; name = codes "."; place = o.place } in
    let up : Listed = record { cookie = 2; name = codes ".."; place = above o.place o.inode } in
    let rest : List Listed = map (listed o.place) (names_at t o.place) in
    All-cons (λ (e : Listed). IsShown t e.place) own (up ∷ rest) (shown_found t bytes o is)
    (All-cons (λ (e : Listed). IsShown t e.place) up rest
    (subst (λ (i : Inode). IsShown t (above o.place i)) n.inode (above_shown t o.place n.node k n.is kind))
    (All-map (λ (e : Listed). IsShown t e.place) (listed o.place) (names_at t o.place) (names_on t o.place k)))

fitting_all : (P : Listed → Type 0) (size : Listed → ℕ) (room : ℕ) (entries : List Listed) → All P entries
    → All P (fitting size room entries)
unfolding fitting
fitting_all P size room [] h = All-nil P
fitting_all P size room (e ∷ entries) h =
    either_is (All P) (nat_le (size e) room) (e ∷ fitting size (room - size e) entries) []
    (All-cons P e (fitting size (room - size e) entries) (All-head P e entries h)
    (fitting_all P size (room - size e) entries (All-tail P e entries h)))
    (All-nil P)

pub page_leads : (t : Tree) (cred : Cred) (size : Listed → ℕ) (a : ReadDirArgs (List ℕ)) (p : Page) → IsSound t
    → page t cred size a ≡ Ok p → AllLead t p.told
unfolding page page_behind page_of
page_leads t cred size a p k e =
    next_of (find_object t a.directory) _ p e (λ o is e.
    past (not (is_directory o.inode.kind)) NotDir _ p e (λ dir e.
    past (not (may_read cred o.inode)) Acces _ p e (λ may e.
    past (not ((a.cookie == 0) || is_zeros a.verifier)) BadCookie _ p e (λ cookie e.
    let left : List Listed = behind a.cookie (listing t o) in
    let told : List Listed = fitting size (limit a.count - bare_size) left in
    past (is_too_small a.count left told) TooSmall _ p e (λ small e.
    ended (λ (q : Page). AllLead t q.told) _ p e
    (fitting_all (λ (x : Listed). IsShown t x.place) size (limit a.count - bare_size) left
    (All-filter (λ (x : Listed). nat_lt a.cookie x.cookie) (λ (x : Listed). IsShown t x.place) (listing t o)
    (listing_leads t a.directory o k is (is_true (is_directory o.inode.kind) dir)))))))))
