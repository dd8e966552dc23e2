-- The cookies of a directory's names rise on a sound tree, wherever it stands.
use Rattle.std.proofs.Common.{◌≡◌, ℕ, ◌+◌, ◌≤◌, ◌^◌, List, [], map, Option, Some, None, refl, sym, subst}
use Rattle.std.proofs.Common.{arith}
use Rattle.std.specs.Prelude.{IfSome, find}
use Rattle.nfs3_types.specs.declared.file_type.FileType.{FileType}
use Rattle.nfs3_types.specs.declared.file_type.FileType.TheVariants.{Reg, Dir, Lnk, Blk, Chr, Sock, Fifo}
use Rattle.fs_rules.specs.declared.name_entry.NameEntry.{NameEntry}
use Rattle.fs_rules.specs.declared.place.Place.{Place}
use Rattle.fs_rules.specs.declared.place.Place.TheVariants.{Live, SnapshotDirectory, Kept}
use Rattle.fs_rules.specs.Limits.{last_epoch, most_numbers}
use Rattle.fs_rules.specs.Places.{names_at, names_of, node_at, node_in, snapshot_directory, snapshot_entry, snapshot_numbered}
use Rattle.fs_rules.specs.Places.{has_number}
use Rattle.fs_rules.specs.Sound.{AreNodesWithin, IsNodeWithin, IsOfKind, IsSound, Rise}
use Rattle.fs_rules.specs.Tree.{Node, Snapshot, Tree}
use Rattle.pairs.specs.declared.at.At.TheVariants.{Live as LiveView, Snap}
use Rattle.fs_shows.proofs.Viewing.{find-all}
use Rattle.dir_ops.specs.Listing.{IsListed}
use Rattle.procs_object.specs.Finding.{HasPlace}
use Rattle.procs_object.proofs.Snapshots.{kept-there}

-- names whose cookies rise below 2 ^ 64
pub record Rises (names : List NameEntry) : Type 0 where
  pub next : ℕ
  pub rises : Rise 3 next names
  pub most : next ≤ 2 ^ 64

none-rises : (names : List NameEntry) → names ≡ [] → Rises names
unfolding Rise
none-rises names none = subst Rises (sym none) (record { next = 3; rises = omega arith; most = omega arith })

kind-rises : (kind : FileType) (id : ℕ) (n : Node) → IsOfKind kind id n → Rises n.names
unfolding most_numbers
kind-rises Reg id n within = none-rises n.names within.leaf.nothing
kind-rises Dir id n within = record {
  next = n.inode.next_cookie;
  rises = within.entries.cookies;
  most = omega (arith, within.most);
}
kind-rises Lnk id n within = none-rises n.names within.leaf.nothing
kind-rises Blk id n within = absurd within
kind-rises Chr id n within = absurd within
kind-rises Sock id n within = absurd within
kind-rises Fifo id n within = absurd within

node-rises : (id : ℕ) (o : Option Node) → IfSome o (IsNodeWithin id) → Rises (names_of o)
node-rises id (Some n) within = kind-rises n.inode.kind id n within.kind
node-rises id None within = none-rises [] refl

module _ (t : Tree) (sound : IsSound t) where
  kept-rises : (number id : ℕ) (o : Option Snapshot) → find (has_number number) t.snapshots ≡ o → Rises (names_of (node_in o id))
  kept-rises number id (Some s) found =
      let within = find-all (has_number number) (λ s. AreNodesWithin t s.nodes) t.snapshots s sound.bounds.kept found in
      node-rises id (s.nodes id) (within.0.each id)
  kept-rises number id None found = none-rises [] refl

  directory-rises : Rises (map snapshot_entry t.snapshots)
  unfolding last_epoch
  directory-rises = record {
    next = t.epoch + 2;
    rises = sound.bounds.snapshots.entries.cookies;
    most = omega (arith, sound.bounds.epoch);
  }

  pub place-rises : (p : Place) → Rises (names_at t p)
  unfolding node_at snapshot_directory snapshot_numbered
  place-rises (Live id) = node-rises id (t.nodes id) (sound.bounds.live.each id)
  place-rises SnapshotDirectory = directory-rises
  place-rises (Kept number id) = kept-rises number id (find (has_number number) t.snapshots) refl

-- what stands in a view can be listed there
pub live-listed : (t : Tree) (id : ℕ) → HasPlace (Live id) t → IsListed LiveView id t
live-listed t id has =
    let r = place-rises t has.sound (Live id) in record { kept = tt; next = r.next; rises = r.rises; most = r.most }

pub kept-listed : (t : Tree) (number id : ℕ) → HasPlace (Kept number id) t → IsListed (Snap number) id t
kept-listed t number id has =
    let r = place-rises t has.sound (Kept number id) in
    record { kept = kept-there t number id has; next = r.next; rises = r.rises; most = r.most }
