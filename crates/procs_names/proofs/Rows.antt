-- The rows of REMOVE, RMDIR and LINK, once their plans are made.
use Rattle.std.proofs.Common.{◌≡◌, ◌∙◌, ℕ, ◌≤◌, List, length, refl, sym, ap, subst, Option, Some, Ok, Err}
use Rattle.std.specs.Prelude.{option_map}
use Rattle.nfs3_types.specs.declared.args.DirOp.{DirOp}
use Rattle.nfs3_types.specs.declared.args.LinkArgs.{LinkArgs}
use Rattle.nfs3_types.specs.declared.attributes.Fattr.{Fattr}
use Rattle.nfs3_types.specs.declared.attributes.Wcc.{Wcc}
use Rattle.nfs3_types.specs.declared.body.Body.TheVariants.{Link, Remove}
use Rattle.nfs3_types.specs.declared.cred.Cred.{Cred}
use Rattle.nfs3_types.specs.declared.moment.Moment.{Moment}
use Rattle.nfs3_types.specs.declared.status.Status.{Status}
use Rattle.fs_rules.specs.declared.place.Place.TheVariants.{Live}
use Rattle.fs_rules.specs.declared.plans.LinkPlan.{LinkPlan}
use Rattle.fs_rules.specs.declared.plans.RemovePlan.{RemovePlan}
use Rattle.fs_rules.specs.Attributes.{attributes_of, size_of, wcc_of}
use Rattle.fs_rules.specs.Checks.{Check, done}
use Rattle.fs_rules.specs.Edits.{add_link, add_name, drop_link, drop_name, edit_node, set_ctime, touch}
use Rattle.fs_rules.specs.Limits.{most_links}
use Rattle.fs_rules.specs.Places.{attributes, change, node_at, object_at, object_by, shown}
use Rattle.fs_rules.specs.Removing.{lose_name, remove, remove_file, remove_plan}
use Rattle.fs_rules.specs.Renaming.{link, link_plan}
use Rattle.fs_rules.specs.Sound.{IsSound}
use Rattle.fs_rules.specs.Tree.{Node, Tree}
use Rattle.procs_names.specs.declared.linking.Linking.{Linking}
use Rattle.procs_names.specs.declared.removing.Removal.{Removal}
use Rattle.procs_names.specs.Naming.{IsLinking, IsRemoval}
use Rattle.procs_names.specs.Readying.{CanLink, CanRemove, linked, linked_more, touched, touched_less, with_link}
use Rattle.procs_names.proofs.Readied.{can_link, can_remove, edited_elsewhere, edited_here, few_links, linked_other}
use Rattle.procs_names.proofs.Readied.{lost_elsewhere, removed_other}

-- ---- what is shown of a live node

pub shown_live : (t : Tree) (id : ℕ) (n : Node) → t.nodes id ≡ Some n
    → shown t (Live id) ≡ Some (attributes_of t.fsid id n.inode (length n.content))
unfolding shown object_at node_at attributes
shown_live t id n is = ap (λ (o : Option Node). option_map (attributes t) (option_map (object_by (Live id)) o)) is

same_shown : (o : Option Fattr) (a b : Fattr) → o ≡ Some a → o ≡ Some b → a ≡ b
same_shown o a b is too = cc

-- behind an edit that changes the attributes of a node so
pub shown_after : (t after : Tree) (id : ℕ) (n m : Node) (a : Fattr) (changed : Fattr → Fattr) → after.fsid ≡ t.fsid
    → t.nodes id ≡ Some n → shown t (Live id) ≡ Some a → after.nodes id ≡ Some m
    → attributes_of t.fsid id m.inode (length m.content) ≡ changed (attributes_of t.fsid id n.inode (length n.content))
    → shown after (Live id) ≡ Some (changed a)
shown_after t after id n m a changed fsid is before later same =
    shown_live after id m later
    ∙ ap (λ (f : ℕ). Some (attributes_of f id m.inode (length m.content))) fsid
    ∙ ap (λ (x : Fattr). Some x) same
    ∙ ap (λ (x : Fattr). Some (changed x)) (same_shown (shown t (Live id)) _ a (shown_live t id n is) before)

-- ---- how the edits of a node change its attributes

module _ (fsid id : ℕ) (now : Moment) (name : List ℕ) (file : ℕ) (n : Node) where
  lost_name : attributes_of fsid id (touch now (drop_name name n)).inode (length n.content)
      ≡ touched now (attributes_of fsid id n.inode (length n.content))
  unfolding attributes_of size_of
  lost_name = refl

  pub lost_directory : attributes_of fsid id (touch now (drop_link (drop_name name n))).inode (length n.content)
      ≡ touched_less now (attributes_of fsid id n.inode (length n.content))
  unfolding attributes_of size_of
  lost_directory = refl

  has_name_more : attributes_of fsid id (touch now (add_name name file n)).inode (length n.content)
      ≡ touched now (attributes_of fsid id n.inode (length n.content))
  unfolding attributes_of size_of
  has_name_more = refl

  has_link_more : attributes_of fsid id (set_ctime now (add_link n)).inode (length n.content)
      ≡ linked_more now (attributes_of fsid id n.inode (length n.content))
  unfolding attributes_of size_of
  has_link_more = refl

-- ---- REMOVE

module _ (t : Tree) (s : IsSound t) (cred : Cred) (a : DirOp (List ℕ)) (now : Moment) (x : Removal) (plan : RemovePlan)
    (planned : remove_plan t cred a ≡ Ok plan) (r : IsRemoval a.name t x plan) where
  removed_fsid : (remove_file now plan.directory a.name plan.fileid t).fsid ≡ t.fsid
  unfolding remove_file lose_name edit_node
  removed_fsid = refl

  removed_directory : (remove_file now plan.directory a.name plan.fileid t).nodes plan.directory
      ≡ Some (touch now (drop_name a.name r.above))
  unfolding remove_file
  removed_directory =
      edited_here plan.directory (λ n. touch now (drop_name a.name n)) (lose_name now plan.fileid t) r.above
      (lost_elsewhere now plan.fileid plan.directory t (removed_other t s a.name x plan r) ∙ r.directory)

  removed_shown : shown (remove_file now plan.directory a.name plan.fileid t) (Live plan.directory)
      ≡ Some (touched now x.directory)
  removed_shown =
      shown_after t (remove_file now plan.directory a.name plan.fileid t) plan.directory r.above
      (touch now (drop_name a.name r.above))
      x.directory (touched now) removed_fsid r.directory r.before removed_directory
      (lost_name t.fsid plan.directory now a.name plan.fileid r.above)

  removed_by : (w : Wcc) → w ≡ wcc_of (Some x.directory) (Some (touched now x.directory))
      → remove t cred a now ≡ Ok (record { body = Remove w; tree = remove_file now plan.directory a.name plan.fileid t })
  unfolding remove
  removed_by w is =
      ap (λ (c : Check RemovePlan). done c (λ plan. remove_file now plan.directory a.name plan.fileid t)
      (λ plan after. Remove (change t after (Live plan.directory)))) planned
      ∙ ap (λ (w : Wcc). Ok (record { body = Remove w; tree = remove_file now plan.directory a.name plan.fileid t }))
      (ap (λ (o : Option Fattr). wcc_of o (shown (remove_file now plan.directory a.name plan.fileid t) (Live plan.directory)))
      r.before
      ∙ ap (λ (o : Option Fattr). wcc_of (Some x.directory) o) removed_shown ∙ sym is)

  -- the plan is done, and told
  pub remove_done : (w : Wcc) → w ≡ wcc_of (Some x.directory) (Some (touched now x.directory))
      → remove t cred a now
      ≡ Ok (record { body = Remove w; tree = remove_file now x.plan.directory a.name x.plan.fileid t })
  remove_done w is =
      removed_by w is
      ∙ ap (λ (p : RemovePlan). Ok (record { body = Remove w; tree = remove_file now p.directory a.name p.fileid t })) r.is

  pub removal_can : CanRemove now x.plan.directory a.name x.plan.fileid t
  removal_can =
      subst (λ (p : RemovePlan). CanRemove now p.directory a.name p.fileid t) r.is (can_remove t s a.name x plan r now)

pub remove_refused : (t : Tree) (cred : Cred) (a : DirOp (List ℕ)) (now : Moment) (status : Status) → remove_plan t cred a ≡ Err
    status
    → remove t cred a now ≡ Err status
unfolding remove
remove_refused t cred a now status refused =
    ap (λ (c : Check RemovePlan). done c (λ plan. remove_file now plan.directory a.name plan.fileid t)
    (λ plan after. Remove (change t after (Live plan.directory)))) refused

-- ---- LINK

module _ (t : Tree) (s : IsSound t) (cred : Cred) (a : LinkArgs (List ℕ)) (now : Moment) (x : Linking) (plan : LinkPlan)
    (planned : link_plan t cred a ≡ Ok plan) (l : IsLinking a.link.name t x plan) where
  linked_fsid : (linked now plan.directory a.link.name plan.file t).fsid ≡ t.fsid
  unfolding edit_node
  linked_fsid = refl

  linked_shown : shown (linked now plan.directory a.link.name plan.file t) (Live plan.directory) ≡ Some (touched now x.directory)
  linked_shown =
      shown_after t (linked now plan.directory a.link.name plan.file t) plan.directory l.above
      (touch now (add_name a.link.name plan.file l.above)) x.directory (touched now) linked_fsid l.directory l.before
      (edited_here plan.directory (λ n. touch now (add_name a.link.name plan.file n)) (with_link now plan.file t) l.above
      (edited_elsewhere plan.file plan.directory (λ n. set_ctime now (add_link n)) t (linked_other t s a.link.name x plan l)
      ∙ l.directory))
      (has_name_more t.fsid plan.directory now a.link.name plan.file l.above)

  file_shown : shown (linked now plan.directory a.link.name plan.file t) (Live plan.file) ≡ Some (linked_more now x.file)
  file_shown =
      shown_after t (linked now plan.directory a.link.name plan.file t) plan.file l.file
      (set_ctime now (add_link l.file)) x.file (linked_more now) linked_fsid l.there l.shows
      (edited_elsewhere plan.directory plan.file (λ n. touch now (add_name a.link.name plan.file n)) (with_link now plan.file t)
      (λ same. linked_other t s a.link.name x plan l (sym same))
      ∙ edited_here plan.file (λ n. set_ctime now (add_link n)) t l.file l.there)
      (has_link_more t.fsid plan.file now a.link.name plan.file l.file)

  -- its links are few
  pub linking_few : x.file.nlink ≤ most_links
  unfolding attributes_of
  linking_few =
      subst (λ (n : ℕ). n ≤ most_links)
      (ap (λ (f : Fattr). f.nlink)
      (same_shown (shown t (Live plan.file)) (attributes_of t.fsid plan.file l.file.inode (length l.file.content)) x.file
      (shown_live t plan.file l.file l.there) l.shows))
      (few_links t s plan.file l.file l.there)

  linked_by : (w : Wcc) (more : Fattr) → w ≡ wcc_of (Some x.directory) (Some (touched now x.directory))
      → more ≡ linked_more now x.file
      → link t cred a now ≡ Ok (record {
        body = Link (record { attributes = Some more; directory = w });
        tree = linked now plan.directory a.link.name plan.file t;
      })
  unfolding link
  linked_by w more is is_more =
      ap (λ (c : Check LinkPlan). done c (λ plan. linked now plan.directory a.link.name plan.file t)
      (λ plan after. Link (record {
        attributes = shown after (Live plan.file);
        directory = change t after (Live plan.directory);
      })))
      planned
      ∙ ap (λ (o : Option Fattr). Ok (record {
        body = Link (record {
          attributes = o;
          directory = change t (linked now plan.directory a.link.name plan.file t) (Live plan.directory);
        });
        tree = linked now plan.directory a.link.name plan.file t;
      })) (file_shown ∙ ap (λ (f : Fattr). Some f) (sym is_more))
      ∙ ap (λ (w : Wcc). Ok (record {
        body = Link (record { attributes = Some more; directory = w });
        tree = linked now plan.directory a.link.name plan.file t;
      }))
      (ap (λ (o : Option Fattr). wcc_of o (shown (linked now plan.directory a.link.name plan.file t) (Live plan.directory)))
      l.before
      ∙ ap (λ (o : Option Fattr). wcc_of (Some x.directory) o) linked_shown ∙ sym is)

  -- the plan is done, and told
  pub link_done : (w : Wcc) (more : Fattr) → w ≡ wcc_of (Some x.directory) (Some (touched now x.directory))
      → more ≡ linked_more now x.file
      → link t cred a now ≡ Ok (record {
        body = Link (record { attributes = Some more; directory = w });
        tree = linked now x.plan.directory a.link.name x.plan.file t;
      })
  link_done w more is is_more =
      linked_by w more is is_more
      ∙ ap (λ (p : LinkPlan). Ok (record {
        body = Link (record { attributes = Some more; directory = w });
        tree = linked now p.directory a.link.name p.file t;
      })) l.is

  pub linking_can : CanLink now x.plan.directory a.link.name x.plan.file t
  linking_can =
      subst (λ (p : LinkPlan). CanLink now p.directory a.link.name p.file t) l.is (can_link t s a.link.name x plan l now)

pub link_refused : (t : Tree) (cred : Cred) (a : LinkArgs (List ℕ)) (now : Moment) (status : Status) → link_plan t cred a ≡ Err
    status
    → link t cred a now ≡ Err status
unfolding link
link_refused t cred a now status refused =
    ap (λ (c : Check LinkPlan). done c (λ plan. linked now plan.directory a.link.name plan.file t)
    (λ plan after. Link (record { attributes = shown after (Live plan.file); directory = change t after (Live plan.directory) })))
    refused
