-- The first tree hangs together.
use Rattle.std.proofs.Common.{[], ◌≡◌, ℕ, ◌+◌, ◌==◌, Bool, true, false, if◌then◌else◌, IfSome, List, Some, None, refl, ap, sym}
use Rattle.std.proofs.lemmas.Bool.{eqb-true}
use Rattle.std.proofs.lemmas.List.Elements.{All-nil}
use Rattle.nfs3_types.specs.declared.moment.Moment.{Moment}
use Rattle.fs_rules.specs.Attributes.{is_directory}
use Rattle.fs_rules.specs.Sound.{AreDistinct, AreNames, HangTogether, HasBounds, IsLinked, IsPlaced, IsRoot, IsSound}
use Rattle.fs_rules.specs.Sound.{all_numbers, count_in, count_names}
use Rattle.fs_rules.specs.Tree.{Node, Nodes, Snapshot, always, first_nodes, first_tree, root_inode}
use Rattle.fs_sound.proofs.Counts.{count_nil, subdirectories_nil}
use Rattle.fs_sound.proofs.Sums.{sum_zero}
use Rattle.fs_sound.proofs.Up.{up_at_root}

abbrev first_root : Moment → Node
first_root first = record { inode = root_inode 2 3 (always first); content = []; names = [] }

no_names : (first : Moment) (fileid : ℕ) (b : Bool) → count_in (if b then Some (first_root first) else None) fileid ≡ 0
unfolding root_inode
no_names first fileid true = count_nil fileid
no_names first fileid false = refl

unnamed : (first : Moment) (fileid : ℕ) → count_names (first_nodes first) fileid ≡ 0
unfolding count_names
unnamed first fileid = sum_zero (λ d. count_in (first_nodes first d) fileid) all_numbers (λ d lt. no_names first fileid (d == 1))

names_by : (nodes : Nodes) (first : Moment) (b : Bool)
    → IfSome (if b then Some (first_root first) else None) (λ n. AreNames nodes n.names)
unfolding root_inode AreDistinct
names_by nodes first true = record { distinct = tt; lead = All-nil _ }
names_by nodes first false = tt

root_placed : (nodes : Nodes) (first : Moment) (fileid : ℕ) → fileid ≡ 1 → IsPlaced nodes fileid (first_root first)
unfolding root_inode
root_placed nodes first fileid is = record {
  links = ap (λ (n : ℕ). 2 + n) (sym (subdirectories_nil nodes));
  up = up_at_root nodes fileid is;
  parent = λ apart. absurd (apart is);
}

links_by : (nodes : Nodes) (first : Moment) (fileid : ℕ) (b : Bool) → (fileid == 1) ≡ b
    → IfSome (if b then Some (first_root first) else None) (λ n. IsLinked (is_directory n.inode.kind) nodes fileid n)
unfolding root_inode
links_by nodes first fileid true e = root_placed nodes first fileid (eqb-true fileid 1 e)
links_by nodes first fileid false e = tt

root_is : (first : Moment) → IsRoot (first_nodes first 1)
unfolding root_inode
root_is first = (refl, refl)

pub first_hangs : (first : Moment) → HangTogether (first_nodes first)
first_hangs first = record {
  root = root_is first;
  unnamed = unnamed first 1;
  names = λ fileid. names_by (first_nodes first) first (fileid == 1);
  links = λ fileid. links_by (first_nodes first) first fileid (fileid == 1) refl;
}

-- with its bounds, the first tree is sound
pub first_sound : (fsid : ℕ) (verifier : List ℕ) (first : Moment) → HasBounds (first_tree fsid verifier first)
    → IsSound (first_tree fsid verifier first)
unfolding first_tree
first_sound fsid verifier first b =
    record { bounds = b; live = first_hangs first; kept = All-nil (λ (s : Snapshot). HangTogether s.nodes) }
