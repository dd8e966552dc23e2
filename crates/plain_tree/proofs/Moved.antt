-- What the edits of a RENAME keep of the directory of the new name.
use Rattle.std.proofs.Common.{◌≡◌, ℕ, ◌+◌, ◌≤◌, ◌<◌, ◌^◌, not, if◌then◌else◌, Bool, true, false, List, length, filter, Option}
use Rattle.std.proofs.Common.{Some, None, IfSome, option_and_then, option_map, ⊎_elim, nat_lt, arith, refl, subst, sym}
use Rattle.std.proofs.lemmas.Bool.{cases_eq}
use Rattle.std.proofs.lemmas.List.Sums.{count_by-le-length, length-filter}
use Rattle.nfs3_types.specs.declared.args.RenameArgs.{RenameArgs}
use Rattle.nfs3_types.specs.declared.moment.Moment.{Moment}
use Rattle.fs_rules.specs.declared.name_entry.NameEntry.{NameEntry}
use Rattle.fs_rules.specs.declared.plans.RenamePlan.{RenamePlan}
use Rattle.fs_rules.specs.declared.plans.Replaced.{Replaced}
use Rattle.fs_rules.specs.Edits.{add_link, add_name, drop_link, drop_name, drop_node, edit_node, set_ctime, touch, with_node}
use Rattle.fs_rules.specs.Making.{lacks_cookies}
use Rattle.fs_rules.specs.Names.{has_name}
use Rattle.fs_rules.specs.Removing.{drop_directory, lose_link, lose_name, remove_file}
use Rattle.fs_rules.specs.Renaming.{move_node, relink, renew, replace}
use Rattle.fs_rules.specs.Tree.{Node, Nodes, Tree}
use Rattle.plain_nodes.specs.Needs.{HasRoom}
use Rattle.plain_tree.specs.Needs.{HasLinks}
use Rattle.plain_tree.proofs.Commuting.{kept}

-- ---- what is true of a node stays true of it

at_kept : (P : Node → Type 0) (d q : ℕ) (f : Node → Node) (t : Tree) → ((n : Node) → P n → P (f n)) → IfSome (t.nodes q) P
    → IfSome ((edit_node d f t).nodes q) P
unfolding edit_node
at_kept P d q f t keeps h = kept P d q f t.nodes keeps h

gone_kept : (P : Node → Type 0) (d q : ℕ) (o : Option Node) (nodes : Nodes) → (d ≡ q → IfSome o P) → IfSome (nodes q) P
    → IfSome (with_node d o nodes q) P
unfolding with_node
gone_kept P d q o nodes here h =
    ⊎_elim
    (λ is. subst (λ (x : Option Node). IfSome x P) (grind (arith, is)) (here is))
    (λ apart. subst (λ (x : Option Node). IfSome x P) (grind (arith, apart)) h)
    (cases_eq d q)

drop_kept : (P : Node → Type 0) (d q : ℕ) (t : Tree) → IfSome (t.nodes q) P → IfSome ((drop_node d t).nodes q) P
unfolding drop_node
drop_kept P d q t h = gone_kept P d q None t.nodes (λ is. tt) h

losing_by : (P : Node → Type 0) (now : Moment) (n : Node) (b : Bool) → P (set_ctime now (drop_link n))
    → IfSome (if b then Some (set_ctime now (drop_link n)) else None) P
losing_by P now n true h = h
losing_by P now n false h = tt

losing : (P : Node → Type 0) (now : Moment) (o : Option Node) → ((n : Node) → P n → P (set_ctime now (drop_link n))) → IfSome o P
    → IfSome (option_and_then (lose_link now) o) P
losing P now (Some n) keeps h = losing_by P now n (nat_lt 1 n.inode.nlink) (keeps n h)
losing P now None keeps h = tt

lose_kept : (P : Node → Type 0) (now : Moment) (d q : ℕ) (t : Tree) → ((n : Node) → P n → P (set_ctime now (drop_link n)))
    → IfSome (t.nodes q) P → IfSome ((lose_name now d t).nodes q) P
unfolding lose_name
lose_kept P now d q t keeps h =
    gone_kept P d q (option_and_then (lose_link now) (t.nodes d)) t.nodes
    (λ is. losing P now (t.nodes d) keeps (subst (λ (x : ℕ). IfSome (t.nodes x) P) (sym is) h)) h

made : (P Q : Node → Type 0) (f : Node → Node) (o : Option Node) → ((n : Node) → P n → Q (f n)) → IfSome o P
    → IfSome (option_map f o) Q
made P Q f (Some n) makes h = makes n h
made P Q f None makes h = h

at_made : (P Q : Node → Type 0) (d : ℕ) (f : Node → Node) (t : Tree) → ((n : Node) → P n → Q (f n)) → IfSome (t.nodes d) P
    → IfSome ((edit_node d f t).nodes d) Q
unfolding edit_node with_node
at_made P Q d f t makes h = subst (λ (x : Option Node). IfSome x Q) (grind arith) (made P Q f (t.nodes d) makes h)

-- ---- room for the new name

fewer : (p : NameEntry → Bool) (names : List NameEntry) → length (filter p names) ≤ length names
fewer p names = omega (arith, length-filter p names, count_by-le-length p names)

room_forgotten : (most : ℕ) (now : Moment) (name : List ℕ) (n : Node) → HasRoom most n
    → HasRoom most (touch now (drop_name name n))
room_forgotten most now name n h = (h.0, omega (arith, fewer (λ e. not (has_name name e)) n.names, h.1))

room_unlinked : (most : ℕ) (now : Moment) (name : List ℕ) (n : Node) → HasRoom most n
    → HasRoom most (touch now (drop_link (drop_name name n)))
room_unlinked most now name n h = (h.0, omega (arith, fewer (λ e. not (has_name name e)) n.names, h.1))

room_by_kind : (most : ℕ) (now : Moment) (to : ℕ) (name : List ℕ) (fileid : ℕ) (t : Tree) (b : Bool)
    → IfSome (t.nodes to) (HasRoom most)
    → IfSome ((if b then drop_directory now to name fileid t else remove_file now to name fileid t).nodes to) (HasRoom most)
unfolding remove_file drop_directory
room_by_kind most now to name fileid t true h =
    at_kept (HasRoom most) to to (λ n. touch now (drop_link (drop_name name n))) (drop_node fileid t)
    (room_unlinked most now name) (drop_kept (HasRoom most) fileid to t h)
room_by_kind most now to name fileid t false h =
    at_kept (HasRoom most) to to (λ n. touch now (drop_name name n)) (lose_name now fileid t) (room_forgotten most now name)
    (lose_kept (HasRoom most) now fileid to t (λ n k. k) h)

pub room_replaced : (most : ℕ) (now : Moment) (to : ℕ) (name : List ℕ) (replaced : Option Replaced) (t : Tree)
    → IfSome (t.nodes to) (HasRoom most) → IfSome ((replace now to name replaced t).nodes to) (HasRoom most)
room_replaced most now to name None t h = h
room_replaced most now to name (Some r) t h = room_by_kind most now to name r.fileid t r.is_directory h

room_by_parent : (most : ℕ) (from to : ℕ) (t : Tree) (b : Bool) → IfSome (t.nodes to) (HasRoom most)
    → IfSome ((if b then edit_node to add_link (edit_node from drop_link t) else t).nodes to) (HasRoom most)
room_by_parent most from to t true h =
    at_kept (HasRoom most) to to add_link (edit_node from drop_link t) (λ n k. k) (at_kept (HasRoom most) from to drop_link t
    (λ n k. k) h)
room_by_parent most from to t false h = h

pub room_relinked : (most : ℕ) (m : RenamePlan) (t : Tree) → IfSome (t.nodes m.to) (HasRoom most)
    → IfSome ((relink m t).nodes m.to) (HasRoom most)
room_relinked most m t h = room_by_parent most m.from m.to t m.reparents h

pub room_left : (most : ℕ) (now : Moment) (from to : ℕ) (name : List ℕ) (nodes : Nodes) → IfSome (nodes to) (HasRoom most)
    → IfSome (with_node from (option_map (λ n. touch now (drop_name name n)) (nodes from)) nodes to) (HasRoom most)
room_left most now from to name nodes h = kept (HasRoom most) from to (λ n. touch now (drop_name name n)) nodes
    (room_forgotten most now name) h

pub room_at_first : (most : ℕ) (o : Option Node) → IfSome o (λ n. lacks_cookies n.inode ≡ false)
    → IfSome o (λ n. length n.names + 1 ≤ most) → IfSome o (HasRoom most)
room_at_first most (Some n) cookies enough = (cookies, enough)
room_at_first most None cookies enough = cookies

-- ---- room for a further link

links_by_kind : (now : Moment) (to : ℕ) (name : List ℕ) (fileid : ℕ) (t : Tree)
    → IfSome (t.nodes to) (λ n. n.inode.nlink < 2 ^ 32)
    → IfSome ((drop_directory now to name fileid t).nodes to) (λ n. n.inode.nlink + 1 < 2 ^ 32)
unfolding drop_directory
links_by_kind now to name fileid t h =
    at_made (λ n. n.inode.nlink < 2 ^ 32) (λ n. n.inode.nlink + 1 < 2 ^ 32) to (λ n. touch now (drop_link (drop_name name n)))
    (drop_node fileid t) (λ n k. omega (arith, k)) (drop_kept (λ n. n.inode.nlink < 2 ^ 32) fileid to t h)

pub links_replaced : (now : Moment) (to : ℕ) (name : List ℕ) (replaced : Option Replaced) (t : Tree)
    → HasLinks replaced (t.nodes to) → IfSome ((replace now to name replaced t).nodes to) (λ n. n.inode.nlink + 1 < 2 ^ 32)
links_replaced now to name None t h = h
links_replaced now to name (Some r) t h =
    subst (λ (b : Bool). IfSome ((if b then drop_directory now to name r.fileid t else remove_file now to name r.fileid t).nodes
    to) (λ n. n.inode.nlink + 1 < 2 ^ 32)) (sym h.0) (links_by_kind now to name r.fileid t h.1)

pub links_left : (from to : ℕ) (nodes : Nodes) → IfSome (nodes to) (λ n. n.inode.nlink + 1 < 2 ^ 32)
    → IfSome (with_node from (option_map drop_link (nodes from)) nodes to) (λ n. n.inode.nlink + 1 < 2 ^ 32)
links_left from to nodes h = kept (λ n. n.inode.nlink + 1 < 2 ^ 32) from to drop_link nodes (λ n k. omega (arith, k)) h

-- ---- all of it

moves : (now : Moment) (a : RenameArgs (List ℕ)) (m : RenamePlan) (t w u : Tree) (first second third : Nodes)
    → w ≡ replace now m.to a.to.name m.replaced t
    → u ≡ relink m w
    → first ≡ with_node m.from (option_map (λ n. touch now (drop_name a.from.name n)) (u.nodes m.from)) u.nodes
    → second ≡ with_node m.to (option_map (λ n. touch now (add_name a.to.name m.fileid n)) (first m.to)) first
    → third ≡ with_node m.fileid (option_map (renew m now) (second m.fileid)) second
    → record u { nodes = third } ≡ move_node now a m t
unfolding move_node edit_node
moves now a m t w u first second third goes joins leaves comes ends =
    subst (λ (x : Nodes). record u { nodes = x } ≡ move_node now a m t) (sym ends)
    (subst (λ (x : Nodes). record u { nodes = with_node m.fileid (option_map (renew m now) (x m.fileid)) x } ≡ move_node now a m
    t) (sym comes)
    (subst (λ (x : Nodes). edit_node m.fileid (renew m now) (edit_node m.to (λ n. touch now (add_name a.to.name m.fileid n))
    (record u { nodes = x })) ≡ move_node now a m t) (sym leaves)
    (subst (λ (x : Tree). edit_node m.fileid (renew m now) (edit_node m.to (λ n. touch now (add_name a.to.name m.fileid n))
    (edit_node m.from (λ n. touch now (drop_name a.from.name n)) x)) ≡ move_node now a m t) (sym joins)
    (subst (λ (x : Tree). edit_node m.fileid (renew m now) (edit_node m.to (λ n. touch now (add_name a.to.name m.fileid n))
    (edit_node m.from (λ n. touch now (drop_name a.from.name n)) (relink m x))) ≡ move_node now a m t) (sym goes) refl))))

-- the steps of a move, whose names are those of the call
pub moves_by : (now : Moment) (a : RenameArgs (List ℕ)) (m : RenamePlan) (t w u : Tree) (first second third : Nodes)
    (to from new : List ℕ)
    → to ≡ a.to.name → from ≡ a.from.name → new ≡ a.to.name
    → w ≡ replace now m.to to m.replaced t
    → u ≡ relink m w
    → first ≡ with_node m.from (option_map (λ n. touch now (drop_name from n)) (u.nodes m.from)) u.nodes
    → second ≡ with_node m.to (option_map (λ n. touch now (add_name new m.fileid n)) (first m.to)) first
    → third ≡ with_node m.fileid (option_map (renew m now) (second m.fileid)) second
    → record u { nodes = third } ≡ move_node now a m t
moves_by now a m t w u first second third to from new to_is from_is new_is goes joins leaves comes ends =
    moves now a m t w u first second third
    (subst (λ (x : List ℕ). w ≡ replace now m.to x m.replaced t) to_is goes) joins
    (subst (λ (x : List ℕ). first ≡ with_node m.from (option_map (λ n. touch now (drop_name x n)) (u.nodes m.from)) u.nodes)
    from_is leaves)
    (subst (λ (x : List ℕ). second ≡ with_node m.to (option_map (λ n. touch now (add_name x m.fileid n)) (first m.to)) first)
    new_is comes)
    ends
