-- The first tree.
use Rattle.std.proofs.Common.{[], ◌≡◌, ℕ, ◌+◌, ◌^◌, ◌≤◌, ◌<◌, ◌==◌, true, false, Bool, if◌then◌else◌, List, slice_index_or}
use Rattle.std.proofs.Common.{Some, None, IfSome, refl, arith}
use Rattle.std.proofs.lemmas.List.Elements.{All-nil}
use Rattle.std.proofs.lemmas.List.FromFn.{get_or-range_with_len}
use Rattle.nfs3_types.specs.declared.moment.Moment.{Moment}
use Rattle.fs_rules.specs.Limits.{last_epoch, most_links, most_numbers, most_snapshots}
use Rattle.fs_rules.specs.Sound.{AreDistinct, AreNodesWithin, HasBounds, IsEntryName, IsNextOf, IsNodeWithin, Rise, is_given}
use Rattle.fs_rules.specs.Tree.{Node, always, first_fileids, first_tree, root_inode}

abbrev first_root : Moment → Node
first_root first = record { inode = root_inode 2 3 (always first); content = []; names = [] }

root_within : (fileid : ℕ) (first : Moment) → IsNodeWithin fileid (first_root first)
unfolding root_inode Rise most_numbers most_links
root_within fileid first = record {
  kind = record {
    empty = refl;
    entries = record { own = All-nil (λ e. IsEntryName fileid e.name); cookies = omega arith };
    most = omega arith;
    verifier = refl;
  };
  mode = omega arith;
  links = omega arith;
  cuts = omega arith;
}

one_node : (P : Node → Type 0) (b : Bool) (n : Node) → (b ≡ true → P n) → IfSome (if b then Some n else None) P
one_node P true n h = h refl
one_node P false n h = tt

first_next : (lane : ℕ) → lane < 16 → IsNextOf lane (slice_index_or first_fileids lane 0)
unfolding most_numbers
first_next lane low =
    let e : slice_index_or first_fileids lane 0 ≡ 16 + lane = get_or-range_with_len 16 16 lane 0 low in
    record { own = omega (arith, e); least = omega (arith, e); most = omega (arith, e) }

pub first_has_bounds : (fsid : ℕ) (verifier : List ℕ) (first : Moment) → fsid ≤ 2 ^ 63
    → HasBounds (first_tree fsid verifier first)
unfolding first_tree is_given Rise AreDistinct last_epoch most_snapshots
first_has_bounds fsid verifier first h = record {
  lanes = refl;
  next = first_next;
  live = record {
    each = λ fileid. one_node (IsNodeWithin fileid) (fileid == 1) (first_root first) (λ e. root_within fileid first);
    given = λ fileid. one_node (λ n. is_given (first_tree fsid verifier first) fileid ≡ true) (fileid == 1) (first_root first)
        (λ e. rw e refl);
  };
  kept = All-nil (λ s. AreNodesWithin (first_tree fsid verifier first) s.nodes);
  snapshots = record {
    entries = record { own = All-nil (λ e. IsEntryName 2 e.name); cookies = omega arith };
    distinct = tt;
    few
        = omega arith;
  };
  epoch = omega arith;
  fsid = h;
}
