-- The tree as it begins.
use Rattle.std.proofs.Common.{◌≡◌, ℕ, ◌==◌, if◌then◌else◌, Bool, true, false, List, Some, None, ap, refl, ◌∙◌}
use Rattle.std.proofs.Math.Path.{fun_ext}
use Rattle.nfs3_types.specs.declared.moment.Moment.{Moment}
use Rattle.fs_rules.specs.Edits.{with_node}
use Rattle.fs_rules.specs.Tree.{Node, Nodes, Tree, always, first_nodes, first_tree, root_inode}
use Rattle.plain_nodes.specs.Nodes.{edited}
use Rattle.plain_nodes.specs.Starting.{begun}
use Rattle.plain_tree.specs.Starting.{begin, root_at}

-- one node alone, which was put into none
pub only : (new old : Nodes) (node root : Node) → new ≡ with_node 1 (Some node) old → old ≡ (λ fileid. None) → node ≡ root
    → new ≡ (λ fileid. if fileid == 1 then Some root else None)
unfolding with_node
only new old node root made none is = made ∙ ap (λ nodes. with_node 1 (Some node) nodes) none
    ∙ ap (λ n. with_node 1 (Some n) (λ fileid. None)) is

-- ---- at another moment

one_only : (b : Bool) (n earlier : Node) → (if b then Some n else (if b then Some earlier else None)) ≡ (if b then Some n
    else None)
one_only true n earlier = refl
one_only false n earlier = refl

begins_at : (first other : Moment) (fileid : ℕ) → edited 1 (begun first) (first_nodes other) fileid ≡ first_nodes first fileid
unfolding with_node root_inode
begins_at first other fileid = one_only (fileid == 1) (root_at first) (root_at other)

again : (fsid : ℕ) (verifier : List ℕ) (first other : Moment) → begin first (first_tree fsid verifier other) ≡ first_tree fsid
    verifier first
unfolding first_tree
again fsid verifier first other =
    ap (λ (x : Nodes). record (first_tree fsid verifier other) { nodes = x; snapshot_times = always first })
    (fun_ext (begins_at first other))

-- a tree whose root begins at this moment
pub begins : (t now : Tree) (first : Moment) → now ≡ begin first t
    → (fsid : ℕ) (verifier : List ℕ) (other : Moment) → t ≡ first_tree fsid verifier other → now ≡ first_tree fsid verifier first
begins t now first done fsid verifier other is = done ∙ ap (begin first) is ∙ again fsid verifier first other
