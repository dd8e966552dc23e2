-- How nodes hang together depends on their skeletons alone.
use Rattle.std.proofs.Common.{◌≡◌, ℕ, zero, suc, ◌+◌, ◌≤◌, ◌==◌, Bool, true, false, if◌then◌else◌, All, IfSome, List, Option}
use Rattle.std.proofs.Common.{Some, None, is_some, option_map, refl, sym, ap, subst, ◌∙◌}
use Rattle.std.proofs.lemmas.Bool.{eqb-true}
use Rattle.nfs3_types.specs.declared.file_type.FileType.{FileType}
use Rattle.fs_rules.specs.Answers.{after}
use Rattle.fs_rules.specs.Attributes.{is_directory}
use Rattle.fs_rules.specs.Edits.{edit_node, with_node}
use Rattle.fs_rules.specs.Renaming.{parent_of}
use Rattle.fs_rules.specs.Sound.{AreNames, HangTogether, IsLinked, IsRoot, LeadsUp, all_numbers, ancestor, count_in}
use Rattle.fs_rules.specs.Sound.{count_names, count_of, is_some_directory, subdirectories}
use Rattle.fs_rules.specs.Tree.{Node, Nodes, Tree}
use Rattle.fs_rules.specs.declared.name_entry.NameEntry.{NameEntry}
use Rattle.fs_sound.proofs.Counts.{lead_same, subdirectories_same}
use Rattle.fs_sound.proofs.Sums.{sum_same}

-- what of a node counts
pub record Skeleton : Type 0 where
  pub kind : FileType
  pub names : List NameEntry
  pub nlink : ℕ
  pub parent : ℕ

abbrev pub skeleton : Node → Skeleton
skeleton n = record { kind = n.inode.kind; names = n.names; nlink = n.inode.nlink; parent = n.inode.parent }

abbrev pub AreAlike : Nodes → Nodes → Type 0
AreAlike nodes after = (id : ℕ) → option_map skeleton (nodes id) ≡ option_map skeleton (after id)

-- ---- of one node

bones : (n m : Node) → Some (skeleton n) ≡ Some (skeleton m) → skeleton n ≡ skeleton m
bones n m e = cc

names_alike : (o p : Option Node) (id : ℕ) → option_map skeleton o ≡ option_map skeleton p → count_in o id ≡ count_in p id
names_alike (Some n) (Some m) id e = ap (λ (s : Skeleton). count_of id s.names) (bones n m e)
names_alike (Some n) None id e = absurd cc
names_alike None (Some m) id e = absurd cc
names_alike None None id e = refl

parent_alike : (o p : Option Node) (id : ℕ) → option_map skeleton o ≡ option_map skeleton p → parent_of o id ≡ parent_of p id
parent_alike (Some n) (Some m) id e = ap (λ (s : Skeleton). s.parent) (bones n m e)
parent_alike (Some n) None id e = absurd cc
parent_alike None (Some m) id e = absurd cc
parent_alike None None id e = refl

directory_alike : (o p : Option Node) → option_map skeleton o ≡ option_map skeleton p → is_some_directory o ≡ is_some_directory p
directory_alike (Some n) (Some m) e = ap (λ (s : Skeleton). is_directory s.kind) (bones n m e)
directory_alike (Some n) None e = absurd cc
directory_alike None (Some m) e = absurd cc
directory_alike None None e = refl

some_alike : (o p : Option Node) → option_map skeleton o ≡ option_map skeleton p → is_some o ≡ true → is_some p ≡ true
some_alike (Some n) (Some m) e h = refl
some_alike (Some n) None e h = absurd cc
some_alike None p e h = absurd cc

root_alike : (o p : Option Node) → option_map skeleton o ≡ option_map skeleton p → IsRoot o → IsRoot p
root_alike (Some n) (Some m) e r = subst (λ (s : Skeleton). (is_directory s.kind ≡ true) × (s.parent ≡ 1)) (bones n m e) r
root_alike (Some n) None e r = absurd cc
root_alike None p e r = absurd r

-- ---- of all nodes

module _ (nodes after : Nodes) (alike : AreAlike nodes after) where
  names_of_alike : (id : ℕ) → count_names nodes id ≡ count_names after id
  unfolding count_names
  names_of_alike id = sum_same (λ d. count_in (nodes d) id) (λ d. count_in (after d) id) all_numbers
      (λ d. names_alike (nodes d) (after d) id (alike d))

  ancestor_alike : (steps id : ℕ) → ancestor nodes steps id ≡ ancestor after steps id
  unfolding ancestor
  ancestor_alike zero id = refl
  ancestor_alike (suc steps) id =
      ancestor_alike steps (parent_of (nodes id) id) ∙ ap (ancestor after steps)
      (parent_alike (nodes id) (after id) id (alike id))

  up_alike : (id : ℕ) → LeadsUp nodes id → LeadsUp after id
  up_alike id u = record { steps = u.steps; ends = sym (ancestor_alike u.steps id) ∙ u.ends }

  subdirectories_alike : (names : List NameEntry) → subdirectories nodes names ≡ subdirectories after names
  subdirectories_alike names = subdirectories_same nodes after names (λ id. directory_alike (nodes id) (after id) (alike id))

  linked_alike : (b : Bool) (id : ℕ) (n m : Node) → skeleton n ≡ skeleton m → IsLinked b nodes id n → IsLinked b after id m
  linked_alike true id n m s l = record {
    links = ap (λ (k : Skeleton). k.nlink) (sym s) ∙ l.links ∙ ap (λ (k : ℕ). 2 + k)
        (subdirectories_alike n.names ∙ ap (λ (k : Skeleton). subdirectories after k.names) s);
    up = up_alike id l.up;
    parent = λ apart.
        let p = l.parent apart in
        record {
          once = sym (names_of_alike id) ∙ p.once;
          there = ap (λ (k : Skeleton). count_in (after k.parent) id) (sym s) ∙ sym
              (names_alike (nodes n.inode.parent) (after n.inode.parent) id (alike n.inode.parent)) ∙ p.there;
        };
  }
  linked_alike false id n m s l = record {
    count = sym (names_of_alike id) ∙ l.count ∙ ap (λ (k : Skeleton). k.nlink) s;
    some = subst (λ (k : Skeleton). 1 ≤ k.nlink) s l.some;
  }

  links_alike : (id : ℕ) (o p : Option Node) → option_map skeleton o ≡ option_map skeleton p
      → IfSome o (λ n. IsLinked (is_directory n.inode.kind) nodes id n)
      → IfSome p (λ n. IsLinked (is_directory n.inode.kind) after id n)
  links_alike id (Some n) (Some m) e l =
      let s = bones n m e in
      linked_alike (is_directory m.inode.kind) id n m s (subst (λ (k : Skeleton). IsLinked (is_directory k.kind) nodes id n) s l)
  links_alike id (Some n) None e l = tt
  links_alike id None (Some m) e l = absurd cc
  links_alike id None None e l = tt

  entries_alike : (o p : Option Node) → option_map skeleton o ≡ option_map skeleton p
      → IfSome o (λ n. AreNames nodes n.names) → IfSome p (λ n. AreNames after n.names)
  entries_alike (Some n) (Some m) e a =
      let l : All (λ e. is_some (after e.fileid) ≡ true) n.names =
      lead_same nodes after n.names (λ id. some_alike (nodes id) (after id) (alike id)) a.lead in
      subst (λ (k : Skeleton). AreNames after k.names) (bones n m e) (record { distinct = a.distinct; lead = l })
  entries_alike (Some n) None e a = tt
  entries_alike None (Some m) e a = absurd cc
  entries_alike None None e a = tt

  pub same_skeleton : HangTogether nodes → HangTogether after
  same_skeleton h = record {
    root = root_alike (nodes 1) (after 1) (alike 1) h.root;
    unnamed = sym (names_of_alike 1) ∙ h.unnamed;
    names = λ id. entries_alike (nodes id) (after id) (alike id) (h.names id);
    links = λ id. links_alike id (nodes id) (after id) (alike id) (h.links id);
  }

-- ---- an edit of one node that keeps its skeleton

mapped_alike : (edit : Node → Node) (o : Option Node) → ((n : Node) → skeleton n ≡ skeleton (edit n))
    → option_map skeleton o ≡ option_map skeleton (option_map edit o)
mapped_alike edit (Some n) keeps = ap Some (keeps n)
mapped_alike edit None keeps = refl

edited_by : (nodes : Nodes) (edit : Node → Node) (fileid q : ℕ) (b : Bool) → ((n : Node) → skeleton n ≡ skeleton (edit n))
    → (q == fileid) ≡ b
    → option_map skeleton (nodes q) ≡ option_map skeleton (if b then option_map edit (nodes fileid) else nodes q)
edited_by nodes edit fileid q true keeps e =
    ap (λ (k : ℕ). option_map skeleton (nodes k)) (eqb-true q fileid e) ∙ mapped_alike edit (nodes fileid) keeps
edited_by nodes edit fileid q false keeps e = refl

pub edited_alike : (nodes : Nodes) (edit : Node → Node) (fileid : ℕ) → ((n : Node) → skeleton n ≡ skeleton (edit n))
    → AreAlike nodes (with_node fileid (option_map edit (nodes fileid)) nodes)
unfolding with_node
edited_alike nodes edit fileid keeps q = edited_by nodes edit fileid q (q == fileid) keeps refl

pub at_keeps : (t : Tree) (edit : Node → Node) (fileid : ℕ) → ((n : Node) → skeleton n ≡ skeleton (edit n))
    → HangTogether t.nodes → HangTogether (edit_node fileid edit t).nodes
unfolding edit_node
at_keeps t edit fileid keeps h =
    same_skeleton t.nodes (with_node fileid (option_map edit (t.nodes fileid)) t.nodes) (edited_alike t.nodes edit fileid keeps) h
