-- LINK: the tree after it hangs together.
use Rattle.std.proofs.Common.{not, ◌≡◌, ℕ, ◌+◌, nat_le, Bool, true, false, true≢false, List, [], Option, Some, None, Ok}
use Rattle.std.proofs.Common.{⊎_elim, refl, sym, ap, subst, ◌∙◌, arith}
use Rattle.std.proofs.lemmas.Bool.{cases_eq}
use Rattle.nfs3_types.specs.declared.args.LinkArgs.{LinkArgs}
use Rattle.nfs3_types.specs.declared.cred.Cred.{Cred}
use Rattle.nfs3_types.specs.declared.moment.Moment.{Moment}
use Rattle.nfs3_types.specs.declared.status.Status.TheVariants.{NotDir, Inval, Acces, MLink, NoSpc, Rofs, Xdev}
use Rattle.fs_rules.specs.Answers.{tree_by}
use Rattle.fs_rules.specs.Attributes.{is_directory}
use Rattle.fs_rules.specs.Checks.{find_object, is_live}
use Rattle.fs_rules.specs.Edits.{add_link, add_name, edit_node, set_ctime, touch}
use Rattle.fs_rules.specs.Limits.{most_links}
use Rattle.fs_rules.specs.Making.{lacks_cookies, need_free_name}
use Rattle.fs_rules.specs.Names.{name_fault, named}
use Rattle.fs_rules.specs.Places.{fileid_at}
use Rattle.fs_rules.specs.Renaming.{link, link_plan, parent_of}
use Rattle.fs_rules.specs.Rights.{may_search}
use Rattle.fs_rules.specs.Sound.{HangTogether, HasLinks, IsLinked, IsSound, LeadsUp, count_in, count_of, is_some_directory}
use Rattle.fs_rules.specs.Sound.{subdirectories}
use Rattle.fs_rules.specs.Tree.{Node, Tree}
use Rattle.fs_rules.specs.declared.plans.LinkPlan.{LinkPlan}
use Rattle.fs_laws.proofs.Copies.{done_has}
use Rattle.fs_laws.proofs.Passed.{ended, next_of, past, past_fault}
use Rattle.fs_laws.proofs.Places.{live_found, of_live, to_live}
use Rattle.fs_sound.proofs.Checked.{entry_of, live_directory_ok}
use Rattle.fs_sound.proofs.Counts.{count_nil, named_lacks, one_if, subdirectories_same}
use Rattle.fs_sound.proofs.Edited.{at_elsewhere, at_here}
use Rattle.fs_sound.proofs.Facts.{file_nothing, has_links, there_below}
use Rattle.fs_sound.proofs.Grown.{Grows, all_own, free_ok, grown_hangs, kind_kept, parent_kept, root_is}
use Rattle.fs_sound.proofs.Up.{up_same}

-- ---- LINK

-- the file and the directory are there, and the name is free
pub record IsLinking (t : Tree) (name : List ℕ) (plan : LinkPlan) : Type 0 where
  pub file : Node
  pub directory : Node
  pub there : t.nodes plan.file ≡ Some file
  pub plain : is_directory file.inode.kind ≡ false
  pub is : t.nodes plan.directory ≡ Some directory
  pub kind : is_directory directory.inode.kind ≡ true
  pub free : named name directory.names ≡ None

pub link_ok : (t : Tree) (cred : Cred) (a : LinkArgs (List ℕ)) (plan : LinkPlan) → link_plan t cred a ≡ Ok plan
    → IsLinking t a.link.name plan
unfolding link_plan
link_ok t cred a plan e =
    next_of (find_object t a.file) _ plan e (λ file one e.
    next_of (find_object t a.link.directory) _ plan e (λ directory two e.
    past (not (is_directory directory.inode.kind)) NotDir _ plan e (λ kind e.
    past (not (is_live directory.place)) Rofs _ plan e (λ alive e.
    past (not (is_live file.place)) Xdev _ plan e (λ lives e.
    past_fault (name_fault a.link.name) _ plan e (λ good e.
    past (is_directory file.inode.kind) Inval _ plan e (λ leaf e.
    past (not (may_search cred directory.inode)) Acces _ plan e (λ may e.
    next_of (need_free_name t cred directory a.link.name) _ plan e (λ u free e.
    past (nat_le most_links file.inode.nlink) MLink _ plan e (λ room e.
    past (lacks_cookies directory.inode) NoSpc _ plan e (λ cookies e.
    live_found t a.file file one lives (λ f m of_file.
    let l = live_directory_ok t a.link.directory directory two kind alive in
    ended (IsLinking t a.link.name) (record { file = fileid_at file.place; directory = fileid_at directory.place }) plan e
    (of_live (λ x. IsLinking t a.link.name (record { file = fileid_at x.place; directory = fileid_at directory.place })) of_file
    (of_live (λ x. IsLinking t a.link.name (record { file = f; directory = fileid_at x.place })) l.live (record {
      file = m;
      directory = l.node.node;
      there = of_file.stands;
      plain = to_live (λ x. is_directory x.inode.kind ≡ false) of_file leaf;
      is = l.stands.is;
      kind = l.stands.kind;
      free = sym (entry_of t directory l a.link.name) ∙ free_ok t cred directory a.link.name u free;
    })))))))))))))))

-- the tree after it
abbrev with_link : Moment → ℕ → Tree → Tree
with_link now fileid t = edit_node fileid (λ n. set_ctime now (add_link n)) t

abbrev with_name : Moment → List ℕ → LinkPlan → Tree → Tree
with_name now name plan t = edit_node plan.directory (λ n. touch now (add_name name plan.file n)) (with_link now plan.file t)

module _ (t : Tree) (now : Moment) (name : List ℕ) (plan : LinkPlan) (s : IsSound t) (l : IsLinking t name plan) where
  file_plain : is_some_directory (t.nodes plan.file) ≡ false
  file_plain = ap is_some_directory l.there ∙ l.plain

  file_apart : plan.file ≡ plan.directory → ⊥
  file_apart is = true≢false (sym (ap is_some_directory l.is ∙ l.kind) ∙ sym (ap (λ (k : ℕ). is_some_directory (t.nodes k)) is)
      ∙ file_plain)

  file_other : plan.file ≡ 1 → ⊥
  file_other is = true≢false (sym (root_is (t.nodes 1) s.live.root).0 ∙ sym (ap (λ (k : ℕ). is_some_directory (t.nodes k)) is) ∙
      file_plain)

  file_names : l.file.names ≡ []
  file_names = file_nothing t t.nodes plan.file l.file s.bounds.live l.there l.plain

  file_after : (with_name now name plan t).nodes plan.file ≡ Some (set_ctime now (add_link l.file))
  file_after =
      at_elsewhere plan.directory plan.file (λ n. touch now (add_name name plan.file n)) (with_link now plan.file t) file_apart
      ∙ at_here plan.file (λ n. set_ctime now (add_link n)) t l.file l.there

  directory_after : (with_name now name plan t).nodes plan.directory ≡ Some (touch now (add_name name plan.file l.directory))
  directory_after =
      at_here plan.directory (λ n. touch now (add_name name plan.file n)) (with_link now plan.file t) l.directory
      (at_elsewhere plan.file plan.directory (λ n. set_ctime now (add_link n)) t (λ is. file_apart (sym is)) ∙ l.is)

  link_grows : Grows t.nodes (with_name now name plan t).nodes plan.directory plan.file
  link_grows = record {
    before = l.directory;
    grown = touch now (add_name name plan.file l.directory);
    cookie = l.directory.inode.next_cookie;
    name = name;
    low = there_below t t.nodes plan.directory l.directory s.bounds s.bounds.live l.is;
    was = l.is;
    is = directory_after;
    directory = l.kind;
    kind = refl;
    parent = refl;
    names = refl;
    lacks = named_lacks name l.directory l.free;
    links = omega (arith, ap one_if (ap is_some_directory file_after ∙ l.plain));
    target = set_ctime now (add_link l.file);
    led = file_after;
    nothing = file_names;
    nameless = λ id. ap (λ (o : Option Node). count_in o id) l.there ∙ ap (count_of id) file_names ∙ count_nil id;
    apart = file_apart;
    other = file_other;
    rest = λ id other apart.
        at_elsewhere plan.directory id (λ n. touch now (add_name name plan.file n)) (with_link now plan.file t) apart
        ∙ at_elsewhere plan.file id (λ n. set_ctime now (add_link n)) t other;
  }

  link_parents : (id : ℕ) → parent_of (t.nodes id) id ≡ parent_of ((with_name now name plan t).nodes id) id
  link_parents id =
      ⊎_elim
      (λ is.
      subst (λ (k : ℕ). parent_of (t.nodes k) k ≡ parent_of ((with_name now name plan t).nodes k) k) (sym is)
      (ap (λ (o : Option Node). parent_of o plan.file) l.there ∙ sym (ap (λ (o : Option Node). parent_of o plan.file)
      file_after)))
      (λ other. parent_kept t.nodes (with_name now name plan t).nodes plan.directory plan.file link_grows id other)
      (cases_eq id plan.file)

  link_kinds : (id : ℕ) → is_some_directory (t.nodes id) ≡ is_some_directory ((with_name now name plan t).nodes id)
  link_kinds id =
      ⊎_elim
      (λ is.
      subst (λ (k : ℕ). is_some_directory (t.nodes k) ≡ is_some_directory ((with_name now name plan t).nodes k)) (sym is)
      (ap is_some_directory l.there ∙ sym (ap is_some_directory file_after)))
      (λ other. kind_kept t.nodes (with_name now name plan t).nodes plan.directory plan.file link_grows id other)
      (cases_eq id plan.file)

  link_up : (id : ℕ) → LeadsUp t.nodes id → LeadsUp (with_name now name plan t).nodes id
  link_up id u = up_same t.nodes (with_name now name plan t).nodes (λ k. Unit {0})
      (λ k p apart. record { same = link_parents k; next = tt }) id tt u

  link_below : (id : ℕ) (n : Node) → t.nodes id ≡ Some n
      → subdirectories t.nodes n.names ≡ subdirectories (with_name now name plan t).nodes n.names
  link_below id n is = subdirectories_same t.nodes (with_name now name plan t).nodes n.names link_kinds

  file_links : HasLinks (with_name now name plan t).nodes plan.file (set_ctime now (add_link l.file))
  file_links =
      let h = has_links t.nodes plan.file l.file s.live l.there l.plain in
      record {
        count = all_own t.nodes (with_name now name plan t).nodes plan.directory plan.file link_grows ∙ ap (λ (k : ℕ). k + 1)
            h.count;
        some = omega arith;
      }

  linked_hangs : HangTogether (with_name now name plan t).nodes
  unfolding link_grows
  linked_hangs =
      grown_hangs t.nodes (with_name now name plan t).nodes plan.directory plan.file link_grows s.live link_up link_below
      (subst (λ (b : Bool). IsLinked b (with_name now name plan t).nodes plan.file (set_ctime now (add_link l.file)))
      (sym l.plain) file_links)

pub link_hangs : (t : Tree) (cred : Cred) (a : LinkArgs (List ℕ)) (now : Moment) → IsSound t
    → HangTogether (tree_by t (link t cred a now)).nodes
unfolding link
link_hangs t cred a now s = done_has (λ (x : Tree). HangTogether x.nodes) t (link_plan t cred a) _ s.live
    (λ plan is. linked_hangs t now a.link.name plan s (link_ok t cred a plan is))
