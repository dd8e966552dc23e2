-- Listings whose cookies rise: behind the first entry behind a cookie lies the rest.
use Rattle.std.proofs.Common.{◌≡◌, ℕ, ◌+◌, ◌≤◌, ◌<◌, nat_lt, Bool, true, false, cond, List, [], ◌∷◌, map, Option, Some}
use Rattle.std.proofs.Common.{None, refl, sym, ap, ◌∙◌, subst, arith}
use Rattle.std.specs.List.{find}
use Rattle.std.specs.Prelude.{⊤, IfSome}
use Rattle.std.proofs.lemmas.Bool.{lt-ltb, ltb-false, ltb-true}
use Rattle.nfs3_types.specs.declared.file_type.FileType.{FileType}
use Rattle.nfs3_types.specs.declared.file_type.FileType.TheVariants.{Reg, Dir, Lnk, Blk, Chr, Sock, Fifo}
use Rattle.fs_rules.specs.Listing.{Listed, behind, listed, listing}
use Rattle.fs_rules.specs.Places.{Object, above, has_number, names_at, names_of, node_at, node_in, snapshot_directory}
use Rattle.fs_rules.specs.Places.{snapshot_entry, snapshot_numbered}
use Rattle.fs_rules.specs.Sound.{AreNodesWithin, HasBounds, IsNodeWithin, IsOfKind, Rise}
use Rattle.fs_rules.specs.Tree.{Node, Nodes, Snapshot, Tree}
use Rattle.fs_rules.specs.declared.name_entry.NameEntry.{NameEntry}
use Rattle.fs_rules.specs.declared.place.Place.{Place}
use Rattle.fs_rules.specs.declared.place.Place.TheVariants.{Kept, Live, SnapshotDirectory}
use Rattle.fs_laws.proofs.Shaped.{find_has}

-- the cookies rise from the least one on
unfoldable pub AllRise : ℕ → List Listed → Type 0
AllRise least [] = ⊤
AllRise least (e ∷ entries) = (least ≤ e.cookie) × AllRise (e.cookie + 1) entries

-- ---- what is behind a cookie

all_by : (b : Bool) (e : Listed) (rest all : List Listed) → b ≡ true → rest ≡ all → cond b (e ∷ rest) rest ≡ e ∷ all
all_by true e rest all is same = ap (λ (l : List Listed). e ∷ l) same
all_by false e rest all is same = absurd cc

all_behind : (cookie least : ℕ) (entries : List Listed) → cookie < least → AllRise least entries → behind cookie entries ≡ entries
unfolding AllRise
all_behind cookie least [] low h = refl
all_behind cookie least (e ∷ entries) low h =
    all_by (nat_lt cookie e.cookie) e (behind cookie entries) entries (lt-ltb cookie e.cookie (omega (arith, low, h.0)))
    (all_behind cookie (e.cookie + 1) entries (omega (arith, low, h.0)) h.1)

-- what is first behind a cookie is above it
head_by : (b : Bool) (cookie : ℕ) (x e : Listed) (rest left : List Listed) → nat_lt cookie x.cookie ≡ b
    → (rest ≡ e ∷ left → nat_lt cookie e.cookie ≡ true)
    → cond b (x ∷ rest) rest ≡ e ∷ left → nat_lt cookie e.cookie ≡ true
head_by true cookie x e rest left is next h = let same : x ≡ e = cc in sym (ap (λ (y : Listed). nat_lt cookie y.cookie) same) ∙ is
head_by false cookie x e rest left is next h = next h

head_above : (cookie : ℕ) (entries : List Listed) (e : Listed) (left : List Listed) → behind cookie entries ≡ e ∷ left
    → nat_lt cookie e.cookie ≡ true
head_above cookie [] e left h = absurd cc
head_above cookie (x ∷ entries) e left h =
    head_by (nat_lt cookie x.cookie) cookie x e (behind cookie entries) left refl (head_above cookie entries e left) h

skip_by : (b : Bool) (x : Listed) (rest left : List Listed) → b ≡ false → rest ≡ left → cond b (x ∷ rest) rest ≡ left
skip_by true x rest left is same = absurd cc
skip_by false x rest left is same = same

lt_false : (a b : ℕ) (c : Bool) → nat_lt a b ≡ c → b ≤ a → c ≡ false
lt_false a b true e low = absurd (omega (arith, ltb-true a b e, low))
lt_false a b false e low = refl

rest_by : (b : Bool) (cookie least : ℕ) (x e : Listed) (entries left : List Listed) → nat_lt cookie x.cookie ≡ b
    → least ≤ x.cookie
    → AllRise (x.cookie + 1) entries → (behind cookie entries ≡ e ∷ left → behind e.cookie entries ≡ left)
    → (behind cookie entries ≡ e ∷ left → nat_lt cookie e.cookie ≡ true)
    → cond b (x ∷ behind cookie entries) (behind cookie entries) ≡ e ∷ left → behind e.cookie (x ∷ entries) ≡ left
rest_by true cookie least x e entries left is low rise next above h =
    let same : x ≡ e = cc in
    let over = ltb-true cookie x.cookie is in
    let all : behind cookie entries ≡ entries = all_behind cookie (x.cookie + 1) entries (omega (arith, over)) rise in
    let tail : behind cookie entries ≡ left = cc in
    subst (λ (y : Listed). behind y.cookie (x ∷ entries) ≡ left) same
    (skip_by (nat_lt x.cookie x.cookie) x (behind x.cookie entries) left
    (lt_false x.cookie x.cookie (nat_lt x.cookie x.cookie) refl (omega arith))
    (all_behind x.cookie (x.cookie + 1) entries (omega arith) rise ∙ sym all ∙ tail))
rest_by false cookie least x e entries left is low rise next above h =
    let over = ltb-true cookie e.cookie (above h) in
    skip_by (nat_lt e.cookie x.cookie) x (behind e.cookie entries) left
    (lt_false e.cookie x.cookie (nat_lt e.cookie x.cookie) refl (omega (arith, over, ltb-false cookie x.cookie is))) (next h)

pub rest_behind : (cookie least : ℕ) (entries : List Listed) (e : Listed) (left : List Listed) → AllRise least entries
    → behind cookie entries ≡ e ∷ left → behind e.cookie entries ≡ left
unfolding AllRise
rest_behind cookie least [] e left rise h = absurd cc
rest_behind cookie least (x ∷ entries) e left rise h =
    rest_by (nat_lt cookie x.cookie) cookie least x e entries left refl rise.0 rise.1
    (rest_behind cookie (x.cookie + 1) entries e left rise.1) (head_above cookie entries e left) h

-- ---- what directories list

names_rise : (directory : Place) (least next : ℕ) (names : List NameEntry) → Rise least next names
    → AllRise least (map (listed directory) names)
unfolding AllRise Rise
names_rise directory least next [] h = tt
names_rise directory least next (e ∷ names) h = (h.0, names_rise directory (e.cookie + 1) next names h.1)

none_rise : (directory : Place) (names : List NameEntry) → names ≡ [] → AllRise 3 (map (listed directory) names)
unfolding AllRise
none_rise directory names e = subst (λ (l : List NameEntry). AllRise 3 (map (listed directory) l)) (sym e) tt

kind_rises : (directory : Place) (kind : FileType) (fileid : ℕ) (n : Node) → IsOfKind kind fileid n
    → AllRise 3 (map (listed directory) n.names)
kind_rises directory Reg fileid n h = none_rise directory n.names h.leaf.nothing
kind_rises directory Dir fileid n h = names_rise directory 3 n.inode.next_cookie n.names h.entries.cookies
kind_rises directory Lnk fileid n h = none_rise directory n.names h.leaf.nothing
kind_rises directory Blk fileid n h = absurd h
kind_rises directory Chr fileid n h = absurd h
kind_rises directory Sock fileid n h = absurd h
kind_rises directory Fifo fileid n h = absurd h

node_rises : (directory : Place) (t : Tree) (nodes : Nodes) (fileid : ℕ) (o : Option Node) → IfSome o (IsNodeWithin fileid)
    → AllRise 3 (map (listed directory) (names_of o))
unfolding AllRise
node_rises directory t nodes fileid (Some n) h = kind_rises directory n.inode.kind fileid n h.kind
node_rises directory t nodes fileid None h = tt

kept_rises : (directory : Place) (t : Tree) (s : Option Snapshot) (fileid : ℕ) → IfSome s (λ s. AreNodesWithin t s.nodes)
    → AllRise 3 (map (listed directory) (names_of (node_in s fileid)))
unfolding AllRise
kept_rises directory t (Some s) fileid h = node_rises directory t s.nodes fileid (s.nodes fileid) (h.each fileid)
kept_rises directory t None fileid h = tt

place_rises : (t : Tree) (place : Place) → HasBounds t → AllRise 3 (map (listed place) (names_at t place))
unfolding node_at snapshot_directory snapshot_numbered
place_rises t (Live fileid) h = node_rises (Live fileid) t t.nodes fileid (t.nodes fileid) (h.live.each fileid)
place_rises t SnapshotDirectory h =
    names_rise SnapshotDirectory 3 (t.epoch + 2) (map snapshot_entry t.snapshots) h.snapshots.entries.cookies
place_rises t (Kept number fileid) h =
    kept_rises (Kept number fileid) t (find (has_number number) t.snapshots) fileid
    (find_has (λ s. AreNodesWithin t s.nodes) (has_number number) t.snapshots h.kept)

pub listing_goes_on : (t : Tree) (o : Object) (cookie : ℕ) (e : Listed) (left : List Listed) → HasBounds t
    → behind cookie (listing t o) ≡ e ∷ left
    → behind e.cookie (listing t o) ≡ left
unfolding listing AllRise
listing_goes_on t o cookie e left h first =
    rest_behind cookie 1 (listing t o) e left (omega arith, (omega arith, place_rises t o.place h)) first

pub listing_first_above : (t : Tree) (o : Object) (cookie : ℕ) (e : Listed) (left : List Listed)
    → behind cookie (listing t o) ≡ e ∷ left → cookie < e.cookie
listing_first_above t o cookie e left first = ltb-true cookie e.cookie (head_above cookie (listing t o) e left first)
