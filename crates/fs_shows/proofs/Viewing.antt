-- What the records of a view say of the nodes that the tree has there.
use Rattle.std.proofs.Common.{◌≡◌, ℕ, suc, zero, ◌+◌, ◌<◌, ◌^◌, ◌==◌, Bool, true, false, List, [], ◌∷◌, Option, Some, None, refl}
use Rattle.std.proofs.Common.{sym, ◌∙◌, subst, arith}
use Rattle.std.proofs.lemmas.Bool.{eqb-true}
use Rattle.std.specs.Prelude.{⊤, All, IsSome, length, find, slice_index_or, if◌then◌else◌}
use Rattle.pairs.specs.declared.at.At.{At}
use Rattle.pairs.specs.declared.at.At.TheVariants.{Live, Snap}
use Rattle.pairs.specs.Versions.{Versions}
use Rattle.fs_rules.specs.Places.{has_number, node_at, node_in, snapshot_numbered}
use Rattle.fs_rules.specs.Tree.{Tree, Node, Snapshot}
use Rattle.fs_keys.specs.declared.key_parts.KeyParts.TheVariants.{Inode}
use Rattle.fs_keys.specs.declared.inode.Inode.{Inode as InodeRow}
use Rattle.fs_keys.specs.Inodes.{inode_of}
use Rattle.fs_shows.specs.Extents.{row}
use Rattle.fs_shows.specs.Nodes.{Holds, ShowsInode, ShowsNodes, IsInodeOf}
use Rattle.fs_shows.specs.Shows.{Shows}
use Rattle.fs_shows.specs.Views.{place_in, IsKept, IsFoundAs}

-- what holds of all holds of the one that is found
pub find-all : {X : Type 0} (p : X → Bool) (P : X → Type 0) (xs : List X) (s : X) → All P xs → find p xs ≡ Some s → P s ×
    (p s ≡ true)
find-all p P [] s all is = absurd (cc)
find-all p P (x ∷ xs) s all is = by_test (p x) refl is (find-all p P xs s (λ k d less. all (suc k) d (omega arith)))
  where
    by_test : (u : Bool) → p x ≡ u → (if u then Some x else find p xs) ≡ Some s → (find p xs ≡ Some s → P s × (p s ≡ true))
        → P s × (p s ≡ true)
    by_test true at is more = let same : x ≡ s = cc in subst (λ y. P y × (p y ≡ true)) same (all 0 x (omega arith), at)
    by_test false at is more = more is

-- a view has the nodes that stand there
pub view-shown : (v : Versions) (t : Tree) (at : At) → Shows v t → IsKept at t → ShowsNodes v at
    (λ id. node_at t (place_in at id))
unfolding node_at snapshot_numbered
view-shown v t Live shows kept = shows.live
view-shown v t (Snap n) shows kept = by_snapshot (snapshot_numbered t n) refl kept
  where
    by_snapshot : (o : Option Snapshot) → snapshot_numbered t n ≡ o → IsSome o → ShowsNodes v (Snap n)
        (λ id. node_in (snapshot_numbered t n) id)
    by_snapshot None is kept = absurd (cc)
    by_snapshot (Some s) is kept =
        let f = find-all (has_number n) (λ s. ShowsNodes v (Snap s.number) s.nodes) t.snapshots s shows.kept is in
        subst (λ (o : Option Snapshot). ShowsNodes v (Snap n) (λ id. node_in o id)) (sym is)
        (subst (λ (k : ℕ). ShowsNodes v (Snap k) s.nodes) (eqb-true s.number n f.1) f.0)

-- a record says one thing
pub holds-same : {A : Type 0} (says : List ℕ → Option A) (value : Option (List ℕ)) (a b : Option A) → Holds says value a
    → Holds says value b → a ≡ b
holds-same says None None None p q = refl
holds-same says None None (Some b) p q = absurd q
holds-same says None (Some a) b p q = absurd p
holds-same says (Some value) None b p q = absurd p
holds-same says (Some value) (Some a) None p q = absurd q
holds-same says (Some value) (Some a) (Some b) p q = sym p ∙ q

-- and not nothing where it holds something
pub holds-unsaid : {A : Type 0} (says : List ℕ → Option A) (value : List ℕ) (a : Option A) → says value ≡ None → Holds says
    (Some value) a → ⊥
holds-unsaid says value None none holds = holds
holds-unsaid says value (Some a) none holds = cc

pub inode-found : (v : Versions) (t : Tree) (at : At) (id : ℕ) (found : Option InodeRow) → id < 2 ^ 64 → Shows v t → IsKept at t
    → Holds inode_of (row v at (Inode id)) found → IsFoundAs found (node_at t (place_in at id))
inode-found v t at id found fits shows kept holds =
    by_cases (row v at (Inode id)) found (node_at t (place_in at id)) holds ((view-shown v t at shows kept).inodes id fits)
  where
    by_cases : (value : Option (List ℕ)) (found : Option InodeRow) (n : Option Node) → Holds inode_of value found
        → ShowsInode v at id value n → IsFoundAs found n
    by_cases None None None holds shows = tt
    by_cases None None (Some n) holds shows = shows
    by_cases None (Some i) n holds shows = absurd holds
    by_cases (Some value) None n holds shows = absurd holds
    by_cases (Some value) (Some i) None holds shows = shows
    by_cases (Some value) (Some i) (Some n) holds shows =
        let same : shows.inode ≡ i = one (inode_of value) shows.inode i shows.said holds in
        subst (λ (j : InodeRow). IsInodeOf j n) same shows.is
      where
        one : (o : Option InodeRow) (j i : InodeRow) → o ≡ Some j → o ≡ Some i → j ≡ i
        one o j i p q = cc

pub inode-unsaid : (v : Versions) (t : Tree) (at : At) (id : ℕ) (value : List ℕ) → id < 2 ^ 64 → Shows v t → IsKept at t
    → row v at (Inode id) ≡ Some value → inode_of value ≡ None → ⊥
inode-unsaid v t at id value fits shows kept is none =
    by_node (node_at t (place_in at id))
    (subst (λ (x : Option (List ℕ)). ShowsInode v at id x (node_at t (place_in at id))) is
    ((view-shown v t at shows kept).inodes id fits))
  where
    by_node : (n : Option Node) → ShowsInode v at id (Some value) n → ⊥
    by_node None shows = shows
    by_node (Some n) shows = differs (inode_of value) shows.inode none shows.said
      where
        differs : (o : Option InodeRow) (i : InodeRow) → o ≡ None → o ≡ Some i → ⊥
        differs o i p q = cc
