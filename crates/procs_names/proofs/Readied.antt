-- On a sound tree the edits of REMOVE, RMDIR and LINK may be made, once their checks have passed.
use Rattle.std.proofs.Common.{◌≡◌, ◌∙◌, ℕ, ◌≤◌, Bool, true, false, if◌then◌else◌, List, [], refl, sym, ap, subst, Option, Some}
use Rattle.std.proofs.Common.{None}
use Rattle.std.proofs.Common.{option_and_then, option_map}
use Rattle.std.proofs.lemmas.Bool.{eq-eqb, ne_eqb, false≢true}
use Rattle.std.specs.Prelude.{⊤, IfSome, IsSome, IsSomeAnd}
use Rattle.nfs3_types.specs.declared.file_type.FileType.{FileType}
use Rattle.nfs3_types.specs.declared.file_type.FileType.TheVariants.{Reg, Dir, Blk, Chr, Lnk, Sock, Fifo}
use Rattle.nfs3_types.specs.declared.moment.Moment.{Moment}
use Rattle.fs_rules.specs.declared.name_entry.NameEntry.{NameEntry}
use Rattle.fs_rules.specs.declared.plans.LinkPlan.{LinkPlan}
use Rattle.fs_rules.specs.declared.plans.RemovePlan.{RemovePlan}
use Rattle.fs_rules.specs.Attributes.{is_directory}
use Rattle.fs_rules.specs.Edits.{add_link, add_name, drop_node, edit_node, set_ctime, touch, with_node}
use Rattle.fs_rules.specs.Limits.{most_links}
use Rattle.fs_rules.specs.Making.{gain_name}
use Rattle.fs_rules.specs.Names.{named}
use Rattle.fs_rules.specs.Places.{names_of}
use Rattle.fs_rules.specs.Removing.{lose_link, lose_name}
use Rattle.fs_rules.specs.Sound.{IsNodeWithin, IsOfKind, IsSound, is_given}
use Rattle.fs_rules.specs.Tree.{Node, Nodes, Tree}
use Rattle.fs_shows.specs.Files.{MayGo}
use Rattle.fs_shows.specs.Views.{IsThere}
use Rattle.dir_ops.specs.Directories.{CanDrop}
use Rattle.dir_ops.proofs.Keeping.{can-add, can-drop, sound-gains, sound-keeps}
use Rattle.procs_names.specs.declared.linking.Linking.{Linking}
use Rattle.procs_names.specs.declared.removing.Removal.{Removal}
use Rattle.procs_names.specs.Naming.{IsLinking, IsRemoval}
use Rattle.procs_names.specs.Readying.{CanRemove, CanRemoveDirectory, CanLink, with_link}

-- a name of what is no directory costs no link
pub gains-plain : (kind : FileType) (name : List ℕ) (file : ℕ) (now : Moment) (directory : ℕ) (t : Tree) → is_directory kind ≡
    false
    → edit_node directory (gain_name kind name file now) t ≡ edit_node directory (λ n. touch now (add_name name file n)) t
gains-plain kind name file now directory t plain =
    ap (λ (b : Bool). edit_node directory (λ n. touch now (add_name name file (if b then add_link n else n))) t) plain

-- ---- trees where one node is another

here : (id : ℕ) (o : Option Node) (nodes : Nodes) → with_node id o nodes id ≡ o
unfolding with_node
here id o nodes = ap (λ (b : Bool). if b then o else nodes id) (eq-eqb id id refl)

elsewhere : (id q : ℕ) (o : Option Node) (nodes : Nodes) → (q ≡ id → ⊥) → with_node id o nodes q ≡ nodes q
unfolding with_node
elsewhere id q o nodes apart = ap (λ (b : Bool). if b then o else nodes q) (ne_eqb q id apart)

pub edited_here : (id : ℕ) (edit : Node → Node) (t : Tree) (n : Node) → t.nodes id ≡ Some n
    → (edit_node id edit t).nodes id ≡ Some (edit n)
unfolding edit_node
edited_here id edit t n is = here id (option_map edit (t.nodes id)) t.nodes ∙ ap (λ (o : Option Node). option_map edit o) is

pub edited_elsewhere : (id q : ℕ) (edit : Node → Node) (t : Tree) → (q ≡ id → ⊥) → (edit_node id edit t).nodes q ≡ t.nodes q
unfolding edit_node
edited_elsewhere id q edit t apart = elsewhere id q (option_map edit (t.nodes id)) t.nodes apart

pub lost_elsewhere : (now : Moment) (id q : ℕ) (t : Tree) → (q ≡ id → ⊥) → (lose_name now id t).nodes q ≡ t.nodes q
unfolding lose_name
lost_elsewhere now id q t apart = elsewhere id q (option_and_then (lose_link now) (t.nodes id)) t.nodes apart

pub dropped_elsewhere : (id q : ℕ) (t : Tree) → (q ≡ id → ⊥) → (drop_node id t).nodes q ≡ t.nodes q
unfolding drop_node
dropped_elsewhere id q t apart = elsewhere id q None t.nodes apart

-- ---- nodes of a sound tree

there_so : (id : ℕ) (t : Tree) (n : Node) → t.nodes id ≡ Some n → IsThere id t
there_so id t n is = subst (λ (o : Option Node). IsSomeAnd o (λ n. ⊤)) (sym is) tt

same_node : (o : Option Node) (n m : Node) → o ≡ Some n → o ≡ Some m → n ≡ m
same_node o n m is too = cc

bare_by : (kind : FileType) (id : ℕ) (n : Node) → is_directory kind ≡ false → IsOfKind kind id n → n.names ≡ []
bare_by Reg id n is within = within.leaf.nothing
bare_by Dir id n is within = absurd (cc)
bare_by Blk id n is within = absurd within
bare_by Chr id n is within = absurd within
bare_by Lnk id n is within = within.leaf.nothing
bare_by Sock id n is within = absurd within
bare_by Fifo id n is within = absurd within

module _ (t : Tree) (s : IsSound t) (id : ℕ) (n : Node) (is : t.nodes id ≡ Some n) where
  within_of : IsNodeWithin id n
  within_of = subst (λ (o : Option Node). IfSome o (IsNodeWithin id)) is (s.bounds.live.each id)

  given_of : is_given t id ≡ true
  given_of = subst (λ (o : Option Node). IfSome o (λ n. is_given t id ≡ true)) is (s.bounds.live.given id)

  -- what is no directory has no names
  pub bare_of : is_directory n.inode.kind ≡ false → n.names ≡ []
  bare_of plain = bare_by n.inode.kind id n plain within_of.kind

  pub few_links : n.inode.nlink ≤ most_links
  few_links = within_of.links

  may_go : n.names ≡ [] → MayGo id t
  may_go bare = record { given = given_of; bare = ap (λ (o : Option Node). names_of o) is ∙ bare }

-- ---- REMOVE and RMDIR

none_named : (name : List ℕ) (o : List NameEntry) → o ≡ [] → IsSome (named name o) → ⊥
unfolding named
none_named name o none has = let P : List NameEntry → Type 0 = λ o. IsSome (named name o) in
    false≢true (subst P none has)

module _ (t : Tree) (s : IsSound t) (name : List ℕ) (x : Removal) (plan : RemovePlan) (r : IsRemoval name t x plan) where
  pub removed_other : plan.directory ≡ plan.fileid → ⊥
  removed_other same =
      let one : r.above ≡ r.within =
      same_node (t.nodes plan.fileid) r.above r.within (ap t.nodes (sym same) ∙ r.directory) r.goes in
      none_named name r.above.names (ap (λ (n : Node). n.names) one ∙ r.bare) r.has

  drops : (after : Tree) → after.nodes plan.directory ≡ t.nodes plan.directory → CanDrop plan.directory name after
  drops after same =
      can-drop after plan.directory r.above (same ∙ r.directory) (sound-keeps t s plan.directory r.above r.directory r.kind) name
      r.has

  pub can_remove : (now : Moment) → CanRemove now plan.directory name plan.fileid t
  can_remove now = record {
    lose = record { there = there_so plan.fileid t r.within r.goes; go = may_go t s plan.fileid r.within r.goes r.bare };
    drop = drops (lose_name now plan.fileid t) (lost_elsewhere now plan.fileid plan.directory t removed_other);
  }

  pub can_remove_directory : CanRemoveDirectory plan.directory name plan.fileid t
  can_remove_directory = record {
    go = may_go t s plan.fileid r.within r.goes r.bare;
    drop = drops (drop_node plan.fileid t) (dropped_elsewhere plan.fileid plan.directory t removed_other);
  }

-- ---- LINK

has_room : (o : Option Node) (n : Node) → o ≡ Some n → n.inode.nlink ≤ most_links → IsSomeAnd o (λ n. n.inode.nlink ≤ most_links)
has_room o n is room = subst (λ (o : Option Node). IsSomeAnd o (λ n. n.inode.nlink ≤ most_links)) (sym is) room

module _ (t : Tree) (s : IsSound t) (name : List ℕ) (x : Linking) (plan : LinkPlan) (l : IsLinking name t x plan) where
  pub linked_other : plan.directory ≡ plan.file → ⊥
  linked_other same =
      let one : l.above ≡ l.file =
      same_node (t.nodes plan.file) l.above l.file (ap t.nodes (sym same) ∙ l.directory) l.there in
      false≢true (sym l.plain ∙ sym (ap (λ (n : Node). is_directory n.inode.kind) one) ∙ l.kind)

  pub can_link : (now : Moment) → CanLink now plan.directory name plan.file t
  can_link now = record {
    link = has_room (t.nodes plan.file) l.file l.there (few_links t s plan.file l.file l.there);
    add =
        can-add (with_link now plan.file t) plan.directory l.above
        (edited_elsewhere plan.file plan.directory (λ n. set_ctime now (add_link n)) t linked_other ∙ l.directory)
        (sound-keeps t s plan.directory l.above l.directory l.kind) name l.free
        (sound-gains t s plan.directory l.above l.directory l.kind);
  }
