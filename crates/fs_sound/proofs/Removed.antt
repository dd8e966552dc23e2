-- Trees where a name was removed: that of a file, or that of an empty directory.
use Rattle.std.proofs.Common.{◌≡◌, ℕ, ◌+◌, ◌-◌, nat_lt, if◌then◌else◌, Bool, true, false, cond, not, All, IfSome, List, []}
use Rattle.std.proofs.Common.{◌∷◌, length, filter, find, Option, Some, None, Ok, is_some, option_and_then, refl, sym, ap}
use Rattle.std.proofs.Common.{subst, ◌∙◌, arith}
use Rattle.std.proofs.lemmas.Bool.{ltb-true, ltb-false}
use Rattle.std.proofs.lemmas.List.Elements.{All-nil}
use Rattle.nfs3_types.specs.declared.args.DirOp.{DirOp}
use Rattle.nfs3_types.specs.declared.cred.Cred.{Cred}
use Rattle.nfs3_types.specs.declared.moment.Moment.{Moment}
use Rattle.nfs3_types.specs.declared.status.Status.TheVariants.{Acces, Exist, Inval, IsDir, NoEnt, NotDir, NotEmpty}
use Rattle.fs_rules.specs.Answers.{tree_by}
use Rattle.fs_rules.specs.Attributes.{is_directory}
use Rattle.fs_rules.specs.Checks.{find_directory, find_object, need_place_for}
use Rattle.fs_rules.specs.Edits.{drop_link, drop_name, drop_node, set_ctime, touch}
use Rattle.fs_rules.specs.Names.{has_name, is_dot, is_dot_dot, is_dots, named}
use Rattle.fs_rules.specs.Places.{Object, entry_at, fileid_at, is_snapshots_name, leads_to, names_at, names_of, node_at}
use Rattle.fs_rules.specs.Removing.{drop_directory, find_removable, has_names, lose_link, lose_name, may_alter, remove}
use Rattle.fs_rules.specs.Removing.{remove_directory, remove_directory_plan, remove_file, remove_plan}
use Rattle.fs_rules.specs.Sound.{AreDistinct, AreNames, HangTogether, IsLinked, IsSound, count_in, count_names, count_of}
use Rattle.fs_rules.specs.Sound.{is_some_directory, subdirectories}
use Rattle.fs_rules.specs.Tree.{Node, Nodes, Tree}
use Rattle.fs_rules.specs.declared.name_entry.NameEntry.{NameEntry}
use Rattle.fs_rules.specs.declared.place.Place.TheVariants.{Live}
use Rattle.fs_rules.specs.declared.plans.RemovePlan.{RemovePlan}
use Rattle.fs_laws.proofs.Copies.{done_has}
use Rattle.fs_laws.proofs.Passed.{ended, is_true, next_of, past, past_some, some_found}
use Rattle.fs_laws.proofs.Places.{IsLive, of_live, to_live}
use Rattle.fs_sound.proofs.Checked.{IsLiveDirectory, directory_ok, entry_of, leads_ok, place_ok}
use Rattle.fs_sound.proofs.Counts.{count_nil, lead_but, lead_same, subdirectories_but, subdirectories_same}
use Rattle.fs_sound.proofs.Edited.{at_elsewhere, at_here, drop_elsewhere, drop_here, elsewhere, here}
use Rattle.fs_sound.proofs.Facts.{has_links, placed, some_has}
use Rattle.fs_sound.proofs.Removal.{AreNone, IsWithin, Removal, bounds_within, directories_alike, links_before, none_left}
use Rattle.fs_sound.proofs.Removal.{not_root, one_less, one_or, onward, removal_hangs, removal_within, same_some, some_of}

-- ---- a file with one name less

-- a link less, or nothing
abbrev lost : Moment → Node → Bool → Option Node
lost now n b = if b then Some (set_ctime now (drop_link n)) else None

lost_names : (now : Moment) (n : Node) (x : ℕ) (b : Bool) → n.names ≡ [] → count_in (lost now n b) x ≡ 0
lost_names now n x true empty = ap (count_of x) empty ∙ count_nil x
lost_names now n x false empty = refl

lost_nothing : (now : Moment) (n : Node) (b : Bool) → n.names ≡ [] → IfSome (lost now n b) AreNone
lost_nothing now n true empty = λ kind. empty
lost_nothing now n false empty = tt

lost_directory : (now : Moment) (n : Node) (b : Bool) → is_directory n.inode.kind ≡ false
    → is_some_directory (lost now n b) ≡ false
lost_directory now n true kind = kind
lost_directory now n false kind = refl

no_names : (nodes : Nodes) (names : List NameEntry) → names ≡ [] → AreNames nodes names
unfolding AreDistinct
no_names nodes names empty =
    subst (AreNames nodes) (sym empty) (record { distinct = tt; lead = All-nil (λ e. is_some (nodes e.fileid) ≡ true) })

module _ (now : Moment) (nodes after : Nodes) (d f : ℕ) (r : Removal nodes after d f) (h : HangTogether nodes)
    (w : IsWithin nodes) (n : Node)
    (was : nodes f ≡ Some n) (kind : is_directory n.inode.kind ≡ false) (empty : n.names ≡ []) (is : after f ≡ lose_link now n)
    (stays : r.later.inode.nlink ≡ r.before.inode.nlink) where
  count_before : count_names after f + 1 ≡ n.inode.nlink
  count_before = sym (one_less nodes after d f r h w) ∙ (has_links nodes f n h was kind).count

  file_leads_by : (b : Bool) → nat_lt 1 n.inode.nlink ≡ b → (x : ℕ) (m : Node) → after x ≡ Some m
      → All (λ e. is_some (nodes e.fileid) ≡ true) m.names → All (λ e. is_some (after e.fileid) ≡ true) m.names
  file_leads_by true e x m at lead =
      lead_same nodes after m.names
      (λ id.
      one_or (λ k. is_some (nodes k) ≡ true → is_some (after k) ≡ true) f id
      (λ there. ap is_some is ∙ ap (λ (b : Bool). is_some (lost now n b)) e)
      (onward nodes after d f r h w id))
      lead
  file_leads_by false e x m at lead =
      lead_but nodes after f m.names (onward nodes after d f r h w)
      (none_left nodes after d f r h w x m at (omega (arith, count_before, ltb-false 1 n.inode.nlink e)))
      lead

  file_directories : (x : ℕ) → is_some_directory (nodes x) ≡ is_some_directory (after x)
  file_directories x =
      one_or (λ k. is_some_directory (nodes k) ≡ is_some_directory (after k)) f x
      (ap is_some_directory was ∙ kind ∙ sym (lost_directory now n (nat_lt 1 n.inode.nlink) kind) ∙ ap is_some_directory (sym is))
      (directories_alike nodes after d f r h w x)

  file_links : r.later.inode.nlink ≡ 2 + subdirectories nodes r.later.names
  file_links =
      stays
      ∙ links_before nodes after d f r h w
      ∙ ap (λ (b : Bool). 2 + (subdirectories nodes r.later.names + (if b then 1 else 0))) (ap is_some_directory was ∙ kind)
      ∙ ap (λ (k : ℕ). 2 + k) (omega arith)

  gone_by : (b : Bool) → nat_lt 1 n.inode.nlink ≡ b → (m : Node) → lost now n b ≡ Some m
      → AreNames after m.names × IsLinked (is_directory m.inode.kind) after f m
  gone_by true e m at =
      let same : set_ctime now (drop_link n) ≡ m = same_some (set_ctime now (drop_link n)) m at in
      let linked : IsLinked false after f (set_ctime now (drop_link n)) =
      record { count = omega (arith, count_before); some = omega (arith, ltb-true 1 n.inode.nlink e) } in
      subst (λ (m : Node). AreNames after m.names × IsLinked (is_directory m.inode.kind) after f m) same
      (no_names after n.names empty, subst (λ (b : Bool). IsLinked b after f (set_ctime now (drop_link n))) (sym kind) linked)
  gone_by false e m at = absurd cc

  pub file_hangs : HangTogether after
  file_hangs =
      removal_hangs nodes after d f r h w
      (file_leads_by (nat_lt 1 n.inode.nlink) refl)
      (λ x m at. subdirectories_same nodes after m.names file_directories)
      file_links
      (λ m at. gone_by (nat_lt 1 n.inode.nlink) refl m (sym is ∙ at))

-- ---- an empty directory that goes

module _ (nodes after : Nodes) (d f : ℕ) (r : Removal nodes after d f) (h : HangTogether nodes) (w : IsWithin nodes) (n : Node)
    (was : nodes f ≡ Some n) (kind : is_directory n.inode.kind ≡ true) (is : after f ≡ None)
    (less : r.later.inode.nlink ≡ r.before.inode.nlink - 1) where
  no_name_left : count_names after f ≡ 0
  no_name_left = omega (
    arith,
    one_less nodes after d f r h w,
    ((placed nodes f n h was kind).parent
        (not_root nodes after d f r h w)).once,
  )

  directory_links : r.later.inode.nlink ≡ 2 + subdirectories nodes r.later.names
  directory_links =
      let before : r.before.inode.nlink ≡ 2 + (subdirectories nodes r.later.names + 1) =
      links_before nodes after d f r h w
      ∙ ap (λ (b : Bool). 2 + (subdirectories nodes r.later.names + (if b then 1 else 0))) (ap is_some_directory was ∙ kind) in
      omega (arith, less, before)

  pub directory_hangs : HangTogether after
  directory_hangs =
      removal_hangs nodes after d f r h w
      (λ x m at lead. lead_but nodes after f m.names (onward nodes after d f r h w)
      (none_left nodes after d f r h w x m at no_name_left) lead)
      (λ x m at. subdirectories_but nodes after f m.names (directories_alike nodes after d f r h w)
      (none_left nodes after d f r h w x m at no_name_left))
      directory_links
      (λ m at. absurd (none_some m (sym is ∙ at)))
    where
      none_some : (m : Node) → None ≡ Some m → ⊥
      none_some m e = cc

-- ---- the two edits of a tree

-- a directory, a name in it, and the node that the name leads to
pub record Removable (t : Tree) (d : ℕ) (name : List ℕ) (e : NameEntry) (dn n : Node) : Type 0 where
  pub directory : t.nodes d ≡ Some dn
  pub found : named name dn.names ≡ Some e
  pub there : t.nodes e.fileid ≡ Some n

not_found : (e : NameEntry) → None ≡ Some e → ⊥
not_found e is = cc

-- what has no names is not the directory itself
pub removed_apart : (t : Tree) (d : ℕ) (name : List ℕ) (e : NameEntry) (dn n : Node) → Removable t d name e dn n → n.names ≡ []
    → d ≡ e.fileid → ⊥
unfolding named
removed_apart t d name e dn n r empty is =
    let same : dn ≡ n = same_some dn n (sym r.directory ∙ ap t.nodes is ∙ r.there) in
    not_found e (sym (ap (find (has_name name)) (ap (λ (m : Node). m.names) same ∙ empty)) ∙ r.found)

lose_here : (now : Moment) (f : ℕ) (t : Tree) (n : Node) → t.nodes f ≡ Some n → (lose_name now f t).nodes f ≡ lose_link now n
unfolding lose_name
lose_here now f t n is = here f (option_and_then (lose_link now) (t.nodes f)) t.nodes ∙ ap (option_and_then (lose_link now)) is

lose_elsewhere : (now : Moment) (f x : ℕ) (t : Tree) → (x ≡ f → ⊥) → (lose_name now f t).nodes x ≡ t.nodes x
unfolding lose_name
lose_elsewhere now f x t apart = elsewhere f x (option_and_then (lose_link now) (t.nodes f)) t.nodes apart

pub removed_directory : (now : Moment) (d : ℕ) (name : List ℕ) (t : Tree) (e : NameEntry) (dn n : Node)
    → Removable t d name e dn n → (d ≡ e.fileid → ⊥)
    → (remove_file now d name e.fileid t).nodes d ≡ Some (touch now (drop_name name dn))
unfolding remove_file
removed_directory now d name t e dn n r apart =
    at_here d (λ n. touch now (drop_name name n)) (lose_name now e.fileid t) dn
    (lose_elsewhere now e.fileid d t apart ∙ r.directory)

pub removed_there : (now : Moment) (d : ℕ) (name : List ℕ) (t : Tree) (e : NameEntry) (dn n : Node) → Removable t d name e dn n
    → (d ≡ e.fileid → ⊥)
    → (remove_file now d name e.fileid t).nodes e.fileid ≡ lose_link now n
unfolding remove_file
removed_there now d name t e dn n r apart =
    at_elsewhere d e.fileid (λ n. touch now (drop_name name n)) (lose_name now e.fileid t) (λ is. apart (sym is)) ∙ lose_here
    now e.fileid t n r.there

pub removed_elsewhere : (now : Moment) (d : ℕ) (name : List ℕ) (t : Tree) (f x : ℕ) → (x ≡ d → ⊥) → (x ≡ f → ⊥)
    → (remove_file now d name f t).nodes x ≡ t.nodes x
unfolding remove_file
removed_elsewhere now d name t f x apart other =
    at_elsewhere d x (λ n. touch now (drop_name name n)) (lose_name now f t) apart ∙ lose_elsewhere now f x t other

pub directory_removed_directory : (now : Moment) (d : ℕ) (name : List ℕ) (t : Tree) (e : NameEntry) (dn n : Node)
    → Removable t d name e dn n → (d ≡ e.fileid → ⊥)
    → (drop_directory now d name e.fileid t).nodes d ≡ Some (touch now (drop_link (drop_name name dn)))
unfolding drop_directory
directory_removed_directory now d name t e dn n r apart =
    at_here d (λ n. touch now (drop_link (drop_name name n))) (drop_node e.fileid t) dn
    (drop_elsewhere e.fileid d t apart ∙ r.directory)

pub directory_removed_there : (now : Moment) (d : ℕ) (name : List ℕ) (t : Tree) (f : ℕ) → (d ≡ f → ⊥)
    → (drop_directory now d name f t).nodes f ≡ None
unfolding drop_directory
directory_removed_there now d name t f apart =
    at_elsewhere d f (λ n. touch now (drop_link (drop_name name n))) (drop_node f t) (λ is. apart (sym is)) ∙ drop_here f t

pub directory_removed_elsewhere : (now : Moment) (d : ℕ) (name : List ℕ) (t : Tree) (f x : ℕ) → (x ≡ d → ⊥) → (x ≡ f → ⊥)
    → (drop_directory now d name f t).nodes x ≡ t.nodes x
unfolding drop_directory
directory_removed_elsewhere now d name t f x apart other =
    at_elsewhere d x (λ n. touch now (drop_link (drop_name name n))) (drop_node f t) apart ∙ drop_elsewhere f x t other

none_in : (o : Option Node) (n : Node) (x : ℕ) → o ≡ Some n → n.names ≡ [] → count_in o x ≡ 0
none_in o n x is empty = ap (λ (o : Option Node). count_in o x) is ∙ ap (count_of x) empty ∙ count_nil x

removal_of_file : (now : Moment) (d : ℕ) (name : List ℕ) (t : Tree) (e : NameEntry) (dn n : Node) → Removable t d name e dn n
    → n.names ≡ []
    → Removal t.nodes (remove_file now d name e.fileid t).nodes d e.fileid
removal_of_file now d name t e dn n r empty =
    let apart = removed_apart t d name e dn n r empty in
    record {
      name = name;
      entry = e;
      before = dn;
      later = touch now (drop_name name dn);
      was = r.directory;
      is = removed_directory now d name t e dn n r apart;
      found = r.found;
      leads = refl;
      names = refl;
      parent = refl;
      kind = refl;
      apart = apart;
      there = some_of (t.nodes e.fileid) n r.there;
      empty = λ x. none_in (t.nodes e.fileid) n x r.there empty;
      left = λ x. ap (λ (o : Option Node). count_in o x) (removed_there now d name t e dn n r apart) ∙ lost_names now n x
          (nat_lt 1 n.inode.nlink) empty;
      same = λ x apart other. removed_elsewhere now d name t e.fileid x apart other;
    }

nothing_of : (nodes : Nodes) (f : ℕ) (n : Node) → IsWithin nodes → nodes f ≡ Some n → is_directory n.inode.kind ≡ false
    → n.names ≡ []
nothing_of nodes f n w is kind = some_has AreNone (nodes f) n is (w.nothing f) kind

-- the name of a file goes
pub file_removed : (now : Moment) (d : ℕ) (name : List ℕ) (t : Tree) (e : NameEntry) (dn n : Node) → IsWithin t.nodes
    → HangTogether t.nodes
    → Removable t d name e dn n → is_directory n.inode.kind ≡ false → HangTogether (remove_file now d name e.fileid t).nodes
unfolding removal_of_file
file_removed now d name t e dn n w h r kind =
    let empty = nothing_of t.nodes e.fileid n w r.there kind in
    file_hangs now t.nodes (remove_file now d name e.fileid t).nodes d e.fileid (removal_of_file now d name t e dn n r empty) h
    w n r.there kind empty
    (removed_there now d name t e dn n r (removed_apart t d name e dn n r empty)) refl

pub file_removed_within : (now : Moment) (d : ℕ) (name : List ℕ) (t : Tree) (e : NameEntry) (dn n : Node) → IsWithin t.nodes
    → HangTogether t.nodes
    → Removable t d name e dn n → is_directory n.inode.kind ≡ false → IsWithin (remove_file now d name e.fileid t).nodes
file_removed_within now d name t e dn n w h r kind =
    let empty = nothing_of t.nodes e.fileid n w r.there kind in
    removal_within t.nodes (remove_file now d name e.fileid t).nodes d e.fileid (removal_of_file now d name t e dn n r empty) h w
    (subst (λ (o : Option Node). IfSome o AreNone)
    (sym (removed_there now d name t e dn n r (removed_apart t d name e dn n r empty)))
    (lost_nothing now n (nat_lt 1 n.inode.nlink) empty))

removal_of_directory : (now : Moment) (d : ℕ) (name : List ℕ) (t : Tree) (e : NameEntry) (dn n : Node)
    → Removable t d name e dn n → n.names ≡ []
    → Removal t.nodes (drop_directory now d name e.fileid t).nodes d e.fileid
removal_of_directory now d name t e dn n r empty =
    let apart = removed_apart t d name e dn n r empty in
    record {
      name = name;
      entry = e;
      before = dn;
      later = touch now (drop_link (drop_name name dn));
      was = r.directory;
      is = directory_removed_directory now d name t e dn n r apart;
      found = r.found;
      leads = refl;
      names = refl;
      parent = refl;
      kind = refl;
      apart = apart;
      there = some_of (t.nodes e.fileid) n r.there;
      empty = λ x. none_in (t.nodes e.fileid) n x r.there empty;
      left = λ x. ap (λ (o : Option Node). count_in o x) (directory_removed_there now d name t e.fileid apart);
      same = λ x apart other. directory_removed_elsewhere now d name t e.fileid x apart other;
    }

-- an empty directory and its name go
pub directory_removed_hangs : (now : Moment) (d : ℕ) (name : List ℕ) (t : Tree) (e : NameEntry) (dn n : Node) → IsWithin t.nodes
    → HangTogether t.nodes
    → Removable t d name e dn n → is_directory n.inode.kind ≡ true → n.names ≡ []
    → HangTogether (drop_directory now d name e.fileid t).nodes
unfolding removal_of_directory
directory_removed_hangs now d name t e dn n w h r kind empty =
    directory_hangs t.nodes (drop_directory now d name e.fileid t).nodes d e.fileid
    (removal_of_directory now d name t e dn n r empty) h w n r.there kind
    (directory_removed_there now d name t e.fileid (removed_apart t d name e dn n r empty)) refl

pub directory_removed_within : (now : Moment) (d : ℕ) (name : List ℕ) (t : Tree) (e : NameEntry) (dn n : Node)
    → IsWithin t.nodes → HangTogether t.nodes
    → Removable t d name e dn n → is_directory n.inode.kind ≡ true → n.names ≡ []
    → IsWithin (drop_directory now d name e.fileid t).nodes
directory_removed_within now d name t e dn n w h r kind empty =
    removal_within t.nodes (drop_directory now d name e.fileid t).nodes d e.fileid
    (removal_of_directory now d name t e dn n r empty) h w
    (subst (λ (o : Option Node). IfSome o AreNone)
    (sym (directory_removed_there now d name t e.fileid (removed_apart t d name e dn n r empty))) tt)

-- ---- the name is free then

none_passes : (q : NameEntry → Bool) (x : NameEntry) (names : List NameEntry) (b : Bool) → q x ≡ b → find q names ≡ None
    → find q (cond (not b) (x ∷ names) names) ≡ None
none_passes q x names true is rest = rest
none_passes q x names false is rest = ap (λ (b : Bool). cond b (Some x) (find q names)) is ∙ rest

free_of : (q : NameEntry → Bool) (names : List NameEntry) → find q (filter (λ e. not (q e)) names) ≡ None
free_of q [] = refl
free_of q (x ∷ names) = none_passes q x (filter (λ e. not (q e)) names) (q x) refl (free_of q names)

pub without_lacks : (name : List ℕ) (dn : Node) → named name (drop_name name dn).names ≡ None
unfolding named
without_lacks name dn = free_of (has_name name) dn.names

-- ---- the calls

-- what may be taken away
pub record MayGo (t : Tree) (d : ℕ) (n : Node) (name : List ℕ) (o : Object) : Type 0 where
  pub entry : NameEntry
  pub node : Node
  pub removable : Removable t d name entry n node
  pub live : IsLive t entry.fileid node o

pub may_go : (t : Tree) (cred : Cred) (d : Object) (name : List ℕ) (o : Object) (l : IsLiveDirectory t d)
    → find_removable t cred d name ≡ Ok o
    → MayGo t l.node.fileid l.node.node name o
unfolding find_removable
may_go t cred d name o l e =
    past (is_snapshots_name d.place name) Acces _ o e (λ p e.
    past (not (may_alter cred d.inode)) Acces _ o e (λ q e.
    past_some (entry_at t d.place name) NoEnt _ o e (λ entry there e.
    let to = leads_ok t entry.fileid o (some_found (leads_to t (Live entry.fileid)) NoEnt o e) in
    record {
      entry = entry;
      node = to.node;
      removable = record { directory = l.stands.is; found = sym (entry_of t d l name) ∙ there; there = to.live.stands };
      live = to.live;
    })))

remove_plan_hangs : (t : Tree) (cred : Cred) (a : DirOp (List ℕ)) (now : Moment) (plan : RemovePlan) → IsWithin t.nodes
    → HangTogether t.nodes
    → remove_plan t cred a ≡ Ok plan → HangTogether (remove_file now plan.directory a.name plan.fileid t).nodes
unfolding remove_plan
remove_plan_hangs t cred a now plan w h e =
    next_of (find_directory t a) _ plan e (λ d is e.
    past (is_dots a.name) Inval _ plan e (λ dots e.
    next_of (find_removable t cred d a.name) _ plan e (λ o may e.
    past (is_directory o.inode.kind) IsDir _ plan e (λ kind e.
    let l = directory_ok t a d is in
    let x = may_go t cred d a.name o l may in
    ended (λ (r : RemovePlan). HangTogether (remove_file now r.directory a.name r.fileid t).nodes)
    (record { directory = fileid_at d.place; fileid = fileid_at o.place }) plan e
    (of_live (λ y. HangTogether (remove_file now (fileid_at y.place) a.name (fileid_at o.place) t).nodes) l.live
    (of_live (λ y. HangTogether (remove_file now l.node.fileid a.name (fileid_at y.place) t).nodes) x.live
    (file_removed now l.node.fileid a.name t x.entry l.node.node x.node w h x.removable
    (to_live (λ y. is_directory y.inode.kind ≡ false) x.live kind))))))))

pub remove_hangs : (t : Tree) (cred : Cred) (a : DirOp (List ℕ)) (now : Moment) → IsSound t
    → HangTogether (tree_by t (remove t cred a now)).nodes
unfolding remove
remove_hangs t cred a now s = done_has (λ (x : Tree). HangTogether x.nodes) t (remove_plan t cred a) _ s.live
    (λ plan e. remove_plan_hangs t cred a now plan (bounds_within t s.bounds) s.live e)

-- an empty list has no length
pub empty_by : (names : List NameEntry) → nat_lt 0 (length names) ≡ false → names ≡ []
empty_by [] e = refl
empty_by (x ∷ names) e = absurd (omega (arith, ltb-false 0 (length (x ∷ names)) e))

pub names_live : (t : Tree) (fileid : ℕ) (n : Node) → t.nodes fileid ≡ Some n → names_at t (Live fileid) ≡ n.names
unfolding node_at
names_live t fileid n is = ap names_of is

remove_directory_plan_hangs : (t : Tree) (cred : Cred) (bytes name : List ℕ) (now : Moment) (d : Object) (plan : RemovePlan)
    → IsWithin t.nodes
    → HangTogether t.nodes → find_object t bytes ≡ Ok d → remove_directory_plan t cred name d ≡ Ok plan
    → HangTogether (drop_directory now plan.directory name plan.fileid t).nodes
unfolding remove_directory_plan
remove_directory_plan_hangs t cred bytes name now d plan w h is e =
    next_of (need_place_for d name) _ plan e (λ u fits e.
    past (is_dot name) Inval _ plan e (λ dot e.
    past (is_dot_dot name) Exist _ plan e (λ dots e.
    next_of (find_removable t cred d name) _ plan e (λ o may e.
    past (not (is_directory o.inode.kind)) NotDir _ plan e (λ kind e.
    past (has_names t o.place) NotEmpty _ plan e (λ empty e.
    let l = place_ok t bytes d name u is fits in
    let x = may_go t cred d name o l may in
    let none : nat_lt 0 (length x.node.names) ≡ false =
    subst (λ (names : List NameEntry). nat_lt 0 (length names) ≡ false) (names_live t x.entry.fileid x.node x.live.stands)
    (to_live (λ y. has_names t y.place ≡ false) x.live empty) in
    ended (λ (r : RemovePlan). HangTogether (drop_directory now r.directory name r.fileid t).nodes)
    (record { directory = fileid_at d.place; fileid = fileid_at o.place }) plan e
    (of_live (λ y. HangTogether (drop_directory now (fileid_at y.place) name (fileid_at o.place) t).nodes) l.live
    (of_live (λ y. HangTogether (drop_directory now l.node.fileid name (fileid_at y.place) t).nodes) x.live
    (directory_removed_hangs now l.node.fileid name t x.entry l.node.node x.node w h x.removable
    (to_live (λ y. is_directory y.inode.kind ≡ true) x.live (is_true (is_directory o.inode.kind) kind))
    (empty_by x.node.names none))))))))))

pub remove_directory_hangs : (t : Tree) (cred : Cred) (bytes name : List ℕ) (now : Moment) (o : Object) → IsSound t
    → find_object t bytes ≡ Ok o
    → HangTogether (tree_by t (remove_directory t cred name now o)).nodes
unfolding remove_directory
remove_directory_hangs t cred bytes name now o s is =
    done_has (λ (x : Tree). HangTogether x.nodes) t (remove_directory_plan t cred name o) _ s.live
    (λ plan e. remove_directory_plan_hangs t cred bytes name now o plan (bounds_within t s.bounds) s.live is e)
