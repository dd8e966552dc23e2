-- On a sound tree no reply leaves anything out.
use Rattle.std.proofs.Common.{◌≡◌, ℕ, ◌<◌, ◌==◌, ◌+◌, ◌&&◌, ◌||◌, if◌then◌else◌, nat_lt, nat_le, not, cond, Bool, true, false}
use Rattle.std.proofs.Common.{List, [], ◌∷◌, ◌++◌, length, find, map, Option, Some, None, is_some, option_map, Ok, Err, All}
use Rattle.std.proofs.Common.{IfSome, refl, sym, ap, subst, ◌∙◌}
use Rattle.std.specs.Prelude.{⊤}
use Rattle.std.proofs.lemmas.Bool.{eq-eqb, ne_eqb, or_parts}
use Rattle.std.proofs.lemmas.List.Elements.{All-map, All-push, All-weaker}
use Rattle.nfs3_types.specs.declared.args.AccessArgs.{AccessArgs}
use Rattle.nfs3_types.specs.declared.args.CreateArgs.{CreateArgs}
use Rattle.nfs3_types.specs.declared.args.CreateHow.{CreateHow}
use Rattle.nfs3_types.specs.declared.args.DirOp.{DirOp}
use Rattle.nfs3_types.specs.declared.args.FileRange.{FileRange}
use Rattle.nfs3_types.specs.declared.args.LinkArgs.{LinkArgs}
use Rattle.nfs3_types.specs.declared.args.MkdirArgs.{MkdirArgs}
use Rattle.nfs3_types.specs.declared.args.ReadDirArgs.{ReadDirArgs}
use Rattle.nfs3_types.specs.declared.args.ReadDirPlusArgs.{ReadDirPlusArgs}
use Rattle.nfs3_types.specs.declared.args.RenameArgs.{RenameArgs}
use Rattle.nfs3_types.specs.declared.args.SetAttrArgs.{SetAttrArgs}
use Rattle.nfs3_types.specs.declared.args.SymlinkArgs.{SymlinkArgs}
use Rattle.nfs3_types.specs.declared.args.WriteArgs.{WriteArgs}
use Rattle.nfs3_types.specs.declared.body.Body.{Body}
use Rattle.nfs3_types.specs.declared.call.CallOver.TheVariants.{Null, GetAttr, SetAttr, Lookup, Access, ReadLink, Read, Write}
use Rattle.nfs3_types.specs.declared.call.CallOver.TheVariants.{Create, Mkdir, Symlink, Mknod, Remove, Rmdir, Rename, Link}
use Rattle.nfs3_types.specs.declared.call.CallOver.TheVariants.{ReadDir, ReadDirPlus, FsStat, FsInfo, PathConf, Commit}
use Rattle.nfs3_types.specs.declared.cred.Cred.{Cred}
use Rattle.nfs3_types.specs.declared.moment.Moment.{Moment}
use Rattle.nfs3_types.specs.declared.status.Status.TheVariants.{Acces, Exist, FBig, Inval, IsDir, NoEnt, NoSpc, NotDir, NotEmpty}
use Rattle.nfs3_types.specs.declared.status.Status.TheVariants.{NotSync, Rofs}
use Rattle.nfs3_types.specs.Calls.{Call, procedure_of}
use Rattle.fs_rules.specs.Answers.{Asked, answer, reply_by, row, row_of}
use Rattle.fs_rules.specs.Attributes.{given, is_directory, is_file, is_link, is_too_large, sattr_fault}
use Rattle.fs_rules.specs.Checks.{Check, Done, Row, find_directory, find_object, is_live, need_place_for, told, ◌>>=◌}
use Rattle.fs_rules.specs.Edits.{add_link, add_name, edit_node, set_attributes, set_ctime, set_size_if, touch, write_at}
use Rattle.fs_rules.specs.Limits.{most_size}
use Rattle.fs_rules.specs.Listing.{Listed, count_all, entry_plus, entry_plus_size, entry_size, page, read_dir, read_dir_plus}
use Rattle.fs_rules.specs.Looking.{lookup}
use Rattle.fs_rules.specs.Making.{Making, told_of_new}
use Rattle.fs_rules.specs.Making.{create, create_edit, create_plan, give_size, is_reserved, make_directory, make_directory_plan}
use Rattle.fs_rules.specs.Making.{make_node, may_reuse, need_free_name, need_new_node, new_directory, new_file, new_link}
use Rattle.fs_rules.specs.Making.{create_attributes, new_plan, plan_by, reuse_plan, size_over, symlink, symlink_plan}
use Rattle.fs_rules.specs.Names.{is_dot, is_dot_dot, is_dots, named, target_fault}
use Rattle.fs_rules.specs.Places.{Object, attributes, change, entry_at, fileid_at, has_number, leads_to, node_at, node_in}
use Rattle.fs_rules.specs.Places.{object_at, object_by, shown, snapshot_numbered}
use Rattle.fs_rules.specs.Removing.{drop_directory, find_removable, has_names, remove, remove_directory, remove_directory_plan}
use Rattle.fs_rules.specs.Removing.{remove_file, remove_plan}
use Rattle.fs_rules.specs.Renaming.{Renaming, differs, find_renaming, is_in_the_way, is_same_node, link, link_plan, move_node}
use Rattle.fs_rules.specs.Renaming.{need_room, rename, rename_plan, replaced_by, reparents, target_at}
use Rattle.fs_rules.specs.Rights.{may_search, may_write}
use Rattle.fs_rules.specs.Setting.{is_same, lacks_cuts, set_attr, set_attr_plan}
use Rattle.fs_rules.specs.Snapshots.{add_snapshot, drop_named, drop_snapshot, is_snapshot_directory, mkdir, need_new_snapshot}
use Rattle.fs_rules.specs.Snapshots.{need_snapshot, rmdir, take_snapshot}
use Rattle.fs_rules.specs.Sound.{HangTogether, IsSound}
use Rattle.fs_rules.specs.Telling.{access, fs_info, fs_stat, get_attr, path_conf, read_link}
use Rattle.fs_rules.specs.Transfers.{commit, may_fill, read, write, write_count, write_plan}
use Rattle.fs_rules.specs.Tree.{Node, Snapshot, Tree}
use Rattle.fs_rules.specs.declared.name_entry.NameEntry.{NameEntry}
use Rattle.fs_rules.specs.declared.place.Place.TheVariants.{Kept, Live, SnapshotDirectory}
use Rattle.fs_rules.specs.declared.plans.CreatePlan.{CreatePlan}
use Rattle.fs_rules.specs.declared.plans.LinkPlan.{LinkPlan}
use Rattle.fs_rules.specs.declared.plans.NewPlan.{NewPlan}
use Rattle.fs_rules.specs.declared.plans.RemovePlan.{RemovePlan}
use Rattle.fs_rules.specs.declared.plans.RenamePlan.{RenamePlan}
use Rattle.fs_rules.specs.declared.plans.SetAttrPlan.{SetAttrPlan}
use Rattle.fs_rules.specs.declared.plans.WritePlan.{WritePlan}
use Rattle.fs_laws.proofs.Checked.{Shows, checks, either_is}
use Rattle.fs_laws.proofs.Passed.{ended, is_true, next_of, past, past_fault, past_some}
use Rattle.fs_laws.proofs.Places.{IsLive, live_found, number_is, of_live, to_live}
use Rattle.fs_laws.proofs.Shaped.{find_has}
use Rattle.fs_sound.specs.Whole.{IsWhole, IsWholeEntry, IsWholeNew}
use Rattle.fs_sound.proofs.Checked.{IsLiveDirectory, directory_ok, entry_of, leads_ok, place_ok}
use Rattle.fs_sound.proofs.Facts.{file_nothing}
use Rattle.fs_sound.proofs.Linked.{IsLinking, link_ok}
use Rattle.fs_sound.proofs.Listed.{kept_by, page_leads}
use Rattle.fs_sound.proofs.Moved.{AreFound, can_go, found}
use Rattle.fs_sound.proofs.Present.{kept_root}
use Rattle.fs_sound.proofs.Removed.{MayGo, empty_by, may_go, names_live, removed_apart}
use Rattle.fs_sound.proofs.Replacing.{empty_of, nameless, some_named}
use Rattle.fs_sound.proofs.Staying.{IsShown, IsThere, Stays, change_whole, directory_removed_keeps, edit_keeps, made_keeps}
use Rattle.fs_sound.proofs.Staying.{made_there, moved_keeps, new_whole, removed_keeps, shown_found, shown_snapshots, shown_there}
use Rattle.fs_sound.proofs.Staying.{stays_whole}

-- ---- rows

abbrev WholeRow : Row → Type 0
WholeRow (Ok d) = IsWhole d.body
WholeRow (Err status) = ⊤

done_whole : {Plan : Type 0} (c : Check Plan) (f : Plan → Done) → ((plan : Plan) → c ≡ Ok plan → IsWhole (f plan).body)
    → WholeRow (c >>= (λ plan. Ok (f plan)))
done_whole (Ok plan) f h = h plan refl
done_whole (Err status) f h = tt

told_whole : (t : Tree) (c : Check Body) → ((body : Body) → c ≡ Ok body → IsWhole body) → WholeRow (told t c)
told_whole t (Ok body) h = h body refl
told_whole t (Err status) h = tt

told_shown : (t : Tree) (c : Check Body) → Shows IsWhole c → WholeRow (told t c)
told_shown t (Ok body) h = h.is
told_shown t (Err status) h = tt

found_whole : (t : Tree) (bytes : List ℕ) (next : Object → Row)
    → ((o : Object) → find_object t bytes ≡ Ok o → WholeRow (next o)) → WholeRow (find_object t bytes >>= next)
found_whole t bytes next h = by (find_object t bytes) next h
  where
    by : (c : Check Object) (next : Object → Row) → ((o : Object) → c ≡ Ok o → WholeRow (next o)) → WholeRow (c >>= next)
    by (Ok o) next h = h o refl
    by (Err status) next h = tt

-- ---- calls that only read

lookup_whole : (t : Tree) (cred : Cred) (a : DirOp (List ℕ)) → Shows IsWhole (lookup t cred a)
unfolding lookup
lookup_whole t cred a = search checks depth 14

access_whole : (t : Tree) (cred : Cred) (a : AccessArgs (List ℕ)) → Shows IsWhole (access t cred a)
unfolding access
access_whole t cred a = search checks

get_attr_whole : (t : Tree) (handle : List ℕ) → Shows IsWhole (get_attr t handle)
unfolding get_attr
get_attr_whole t handle = search checks

read_link_whole : (t : Tree) (handle : List ℕ) → Shows IsWhole (read_link t handle)
unfolding read_link
read_link_whole t handle = search checks

read_whole : (t : Tree) (cred : Cred) (a : FileRange (List ℕ)) → Shows IsWhole (read t cred a)
unfolding read
read_whole t cred a = search checks

fs_stat_whole : (t : Tree) (handle : List ℕ) → Shows IsWhole (fs_stat t handle)
unfolding fs_stat
fs_stat_whole t handle = search checks

fs_info_whole : (t : Tree) (handle : List ℕ) → Shows IsWhole (fs_info t handle)
unfolding fs_info
fs_info_whole t handle = search checks

path_conf_whole : (t : Tree) (handle : List ℕ) → Shows IsWhole (path_conf t handle)
unfolding path_conf
path_conf_whole t handle = search checks

commit_whole : (t : Tree) (a : FileRange (List ℕ)) (body : Body) → commit t a ≡ Ok body → IsWhole body
unfolding commit
commit_whole t a body e =
    next_of (find_object t a.file) _ body e (λ o is e.
    past (not (is_file o.inode.kind)) Inval _ body e (λ kind e.
    let there = shown_found t a.file o is in
    ended IsWhole _ body e (change_whole t t o.place there there)))

read_dir_whole : (t : Tree) (cred : Cred) (a : ReadDirArgs (List ℕ)) (body : Body) → read_dir t cred a ≡ Ok body → IsWhole body
unfolding read_dir
read_dir_whole t cred a body e = next_of (page t cred entry_size a) _ body e (λ p is e. ended IsWhole _ body e refl)

read_dir_plus_whole : (t : Tree) (cred : Cred) (a : ReadDirPlusArgs (List ℕ)) (body : Body) → IsSound t
    → read_dir_plus t cred a ≡ Ok body → IsWhole body
unfolding read_dir_plus
read_dir_plus_whole t cred a body k e =
    next_of (page t cred entry_plus_size (count_all a)) _ body e (λ p is e.
    ended IsWhole _ body e (
      refl,
      All-map IsWholeEntry (entry_plus t) p.told
          (All-weaker (λ (x : Listed). IsShown t x.place) (λ (x : Listed). IsWholeEntry (entry_plus t x))
          (λ x h. record { object = refl; attributes = h }) p.told
          (page_leads t cred entry_plus_size (count_all a) p k is)),
    ))

-- ---- SETATTR and WRITE

live_there : (t : Tree) (bytes : List ℕ) (o : Object) → find_object t bytes ≡ Ok o → not (is_live o.place) ≡ false
    → IsThere t (fileid_at o.place)
live_there t bytes o is live = live_found t bytes o is live (λ fileid n alive.
    ap (λ (k : ℕ). is_some (t.nodes k)) (number_is alive) ∙ ap is_some alive.stands)

set_there : (t : Tree) (cred : Cred) (a : SetAttrArgs (List ℕ)) (now : Moment) (plan : SetAttrPlan)
    → set_attr_plan t cred a now ≡ Ok plan → IsThere t plan.fileid
unfolding set_attr_plan
set_there t cred a now plan e =
    next_of (find_object t a.object) _ plan e (λ o is e.
    past (not (is_live o.place)) Rofs _ plan e (λ live e.
    past (given a.guard (λ guard. not (is_same guard o.inode.ctime))) NotSync _ plan e (λ guard e.
    past_fault (sattr_fault cred (attributes t o) a.attributes) _ plan e (λ fine e.
    past (lacks_cuts a.attributes.size o) NoSpc _ plan e (λ cuts e.
    ended (λ (p : SetAttrPlan). IsThere t p.fileid) _ plan e (live_there t a.object o is live))))))

write_there : (t : Tree) (cred : Cred) (a : WriteArgs (List ℕ)) (plan : WritePlan) → write_plan t cred a ≡ Ok plan
    → IsThere t plan.fileid
unfolding write_plan
write_there t cred a plan e =
    next_of (find_object t a.file) _ plan e (λ o is e.
    past (not (is_file o.inode.kind)) Inval _ plan e (λ kind e.
    past (not (is_live o.place)) Rofs _ plan e (λ live e.
    past (not (a.count == length a.«data»)) Inval _ plan e (λ count e.
    past (not (may_fill cred o.inode)) Acces _ plan e (λ may e.
    past (nat_lt 0 (write_count a) && nat_lt most_size (a.offset + write_count a)) FBig _ plan e (λ big e.
    ended (λ (p : WritePlan). IsThere t p.fileid) _ plan e (live_there t a.file o is live)))))))

-- before and after an edit of a node
edited : (t : Tree) (fileid : ℕ) (edit : Node → Node) → IsThere t fileid → Stays t (edit_node fileid edit t) fileid
edited t fileid edit h = record { before = h; after = edit_keeps t fileid edit fileid h }

-- ---- MKDIR, SYMLINK and CREATE

directory_there : (t : Tree) (o : Object) → IsLiveDirectory t o → IsThere t (fileid_at o.place)
directory_there t o l = ap (λ (k : ℕ). is_some (t.nodes k)) (number_is l.live) ∙ ap is_some l.stands.is

make_there : (t : Tree) (cred : Cred) (a : MkdirArgs (List ℕ)) (lane : ℕ) (o : Object) (plan : NewPlan)
    → find_object t a.place.directory ≡ Ok o → make_directory_plan t cred a lane o ≡ Ok plan → IsThere t plan.directory
unfolding make_directory_plan
make_there t cred a lane o plan is e =
    next_of (need_place_for o a.place.name) _ plan e (λ u fits e.
    past (not (may_search cred o.inode)) Acces _ plan e (λ may e.
    next_of (need_free_name t cred o a.place.name) _ plan e (λ v free e.
    next_of (need_new_node t cred lane o.inode _ a.attributes) _ plan e (λ w room e.
    ended (λ (p : NewPlan). IsThere t p.directory) _ plan e
    (directory_there t o (place_ok t a.place.directory o a.place.name u is fits))))))

symlink_there : (t : Tree) (cred : Cred) (a : SymlinkArgs (List ℕ)) (lane : ℕ) (plan : NewPlan)
    → symlink_plan t cred a lane ≡ Ok plan → IsThere t plan.directory
unfolding symlink_plan
symlink_there t cred a lane plan e =
    next_of (find_directory t a.place) _ plan e (λ o is e.
    past (not (may_search cred o.inode)) Acces _ plan e (λ may e.
    next_of (need_free_name t cred o a.place.name) _ plan e (λ v free e.
    past_fault (target_fault a.target) _ plan e (λ good e.
    next_of (need_new_node t cred lane o.inode _ a.attributes) _ plan e (λ w room e.
    ended (λ (p : NewPlan). IsThere t p.directory) _ plan e (directory_there t o (directory_ok t a.place o is)))))))

-- the directory is there, and so is a file that is taken again
record CanCreate (t : Tree) (plan : CreatePlan) : Type 0 where
  directory : IsThere t plan.directory
  file : plan.is_new ≡ false → IsThere t plan.fileid

reuse_there : (t : Tree) (cred : Cred) (o : Object) (e : NameEntry) (how : CreateHow) (plan : CreatePlan)
    → IsThere t (fileid_at o.place) → reuse_plan t cred o e how ≡ Ok plan → CanCreate t plan
unfolding reuse_plan
reuse_there t cred o e how plan there is =
    past_some (leads_to t (Live e.fileid)) Exist _ plan is (λ file leads is.
    past (not (is_file file.inode.kind)) Exist _ plan is (λ kind is.
    past (not (may_reuse how file.inode)) Exist _ plan is (λ reuse is.
    past (is_some (size_over how) && not (may_fill cred file.inode)) Acces _ plan is (λ may is.
    past (is_too_large (size_over how)) Inval _ plan is (λ large is.
    past (lacks_cuts (size_over how) file) NoSpc _ plan is (λ cuts is.
    ended (CanCreate t) _ plan is
    (record { directory = there; file = λ new. ap is_some (leads_ok t e.fileid file leads).live.stands })))))))

new_there : (t : Tree) (cred : Cred) (o : Object) (how : CreateHow) (lane : ℕ) (plan : CreatePlan)
    → IsThere t (fileid_at o.place) → new_plan t cred o how lane ≡ Ok plan → CanCreate t plan
unfolding new_plan
new_there t cred o how lane plan there e =
    past (not (may_write cred o.inode)) Acces _ plan e (λ may e.
    next_of (need_new_node t cred lane o.inode _ (create_attributes how)) _ plan e (λ w room e.
    ended (CanCreate t) _ plan e (record { directory = there; file = λ new. absurd cc })))

create_by : (t : Tree) (cred : Cred) (o : Object) (x : Option NameEntry) (how : CreateHow) (lane : ℕ) (plan : CreatePlan)
    → IsThere t (fileid_at o.place) → plan_by t cred o x how lane ≡ Ok plan → CanCreate t plan
create_by t cred o (Some e) how lane plan there is = reuse_there t cred o e how plan there is
create_by t cred o None how lane plan there is = new_there t cred o how lane plan there is

create_there : (t : Tree) (cred : Cred) (a : CreateArgs (List ℕ)) (lane : ℕ) (plan : CreatePlan)
    → create_plan t cred a lane ≡ Ok plan → CanCreate t plan
unfolding create_plan
create_there t cred a lane plan e =
    next_of (find_directory t a.place) _ plan e (λ o is e.
    past (not (may_search cred o.inode)) Acces _ plan e (λ may e.
    past (is_reserved o a.place.name) Exist _ plan e (λ free e.
    create_by t cred o (entry_at t o.place a.place.name) a.how lane plan (directory_there t o (directory_ok t a.place o is)) e)))

by_choice : (P : Tree → Type 0) (b : Bool) (x y : Tree) → P x → (b ≡ false → P y) → P (if b then x else y)
by_choice P true x y h k = h
by_choice P false x y h k = k refl

abbrev new_of : CreatePlan → NewPlan
new_of plan = record { directory = plan.directory; fileid = plan.fileid }

created_whole : (t : Tree) (cred : Cred) (a : CreateArgs (List ℕ)) (now : Moment) (lane : ℕ) (plan : CreatePlan)
    → CanCreate t plan
    → IsThere (create_edit t cred a now lane plan) plan.directory × IsThere (create_edit t cred a now lane plan) plan.fileid
unfolding create_edit
created_whole t cred a now lane plan c =
    let made : Tree = make_node cred now lane (new_of plan) a.place.name (new_file a.how) t in
    let sized : Tree = edit_node plan.fileid (give_size plan.size now) t in (
      by_choice (λ (x : Tree). IsThere x plan.directory) plan.is_new made sized
          (made_keeps t cred now lane (new_of plan) a.place.name (new_file a.how) plan.directory c.directory)
          (λ old. edit_keeps t plan.fileid (give_size plan.size now) plan.directory c.directory),
      by_choice (λ (x : Tree). IsThere x plan.fileid) plan.is_new made sized
          (made_there t cred now lane (new_of plan) a.place.name (new_file a.how))
          (λ old. edit_keeps t plan.fileid (give_size plan.size now) plan.fileid (c.file old)),
    )

-- ---- REMOVE and RMDIR

abbrev Removes : (Moment → ℕ → List ℕ → ℕ → Tree → Tree) → Tree → Moment → List ℕ → RemovePlan → Type 0
Removes edit t now name plan = Stays t (edit now plan.directory name plan.fileid t) plan.directory

remove_stays : (t : Tree) (cred : Cred) (a : DirOp (List ℕ)) (now : Moment) (plan : RemovePlan) → IsSound t
    → remove_plan t cred a ≡ Ok plan → Removes remove_file t now a.name plan
unfolding remove_plan
remove_stays t cred a now plan k e =
    next_of (find_directory t a) _ plan e (λ d is e.
    past (is_dots a.name) Inval _ plan e (λ dots e.
    next_of (find_removable t cred d a.name) _ plan e (λ o may e.
    past (is_directory o.inode.kind) IsDir _ plan e (λ kind e.
    let l = directory_ok t a d is in
    let x = may_go t cred d a.name o l may in
    let file = to_live (λ y. is_directory y.inode.kind ≡ false) x.live kind in
    let empty = file_nothing t t.nodes x.entry.fileid x.node k.bounds.live x.removable.there file in
    let far = removed_apart t l.node.fileid a.name x.entry l.node.node x.node x.removable empty in
    ended (Removes remove_file t now a.name) (record { directory = fileid_at d.place; fileid = fileid_at o.place }) plan e
    (of_live (λ y. Removes remove_file t now a.name
    (record { directory = fileid_at y.place; fileid = fileid_at o.place })) l.live
    (of_live (λ y. Removes remove_file t now a.name (record { directory = l.node.fileid; fileid = fileid_at y.place })) x.live
    (record {
      before = ap is_some l.stands.is;
      after = removed_keeps now l.node.fileid a.name x.entry.fileid t l.node.fileid far (ap is_some l.stands.is);
    })))))))

remove_directory_stays : (t : Tree) (cred : Cred) (bytes name : List ℕ) (now : Moment) (d : Object) (plan : RemovePlan)
    → find_object t bytes ≡ Ok d → remove_directory_plan t cred name d ≡ Ok plan → Removes drop_directory t now name plan
unfolding remove_directory_plan
remove_directory_stays t cred bytes name now d plan is e =
    next_of (need_place_for d name) _ plan e (λ u fits e.
    past (is_dot name) Inval _ plan e (λ dot e.
    past (is_dot_dot name) Exist _ plan e (λ dots e.
    next_of (find_removable t cred d name) _ plan e (λ o may e.
    past (not (is_directory o.inode.kind)) NotDir _ plan e (λ kind e.
    past (has_names t o.place) NotEmpty _ plan e (λ none e.
    let l = place_ok t bytes d name u is fits in
    let x = may_go t cred d name o l may in
    let empty = empty_by x.node.names (subst (λ (names : List NameEntry). nat_lt 0 (length names) ≡ false)
    (names_live t x.entry.fileid x.node x.live.stands) (to_live (λ y. has_names t y.place ≡ false) x.live none)) in
    let far = removed_apart t l.node.fileid name x.entry l.node.node x.node x.removable empty in
    ended (Removes drop_directory t now name) (record { directory = fileid_at d.place; fileid = fileid_at o.place }) plan e
    (of_live (λ y. Removes drop_directory t now name (record { directory = fileid_at y.place; fileid = fileid_at o.place }))
    l.live
    (of_live (λ y. Removes drop_directory t now name (record { directory = l.node.fileid; fileid = fileid_at y.place })) x.live
    (record {
      before = ap is_some l.stands.is;
      after = directory_removed_keeps now l.node.fileid name x.entry.fileid t l.node.fileid far (ap is_some l.stands.is);
    })))))))))

-- ---- RENAME

-- what goes has no names
gone_by : (t : Tree) (y : ℕ) (n : Node) → IsSound t → t.nodes y ≡ Some n
    → (is_directory n.inode.kind && has_names t (Live y)) ≡ false → (dir : Bool) → is_directory n.inode.kind ≡ dir
    → n.names ≡ []
gone_by t y n k at clear true dir =
    empty_of (is_directory n.inode.kind) n.names dir
    (subst (λ (names : List NameEntry). (is_directory n.inode.kind && nat_lt 0 (length names)) ≡ false) (names_live t y n at)
    clear)
gone_by t y n k at clear false file = file_nothing t t.nodes y n k.bounds.live at file

-- it is no directory with a name
far_by : (t : Tree) (source : Object) (d : ℕ) (dn : Node) (name : List ℕ) (e : NameEntry) → IsSound t → t.nodes d ≡ Some dn
    → named name dn.names ≡ Some e → (y : ℕ) (o : Option Node) → t.nodes y ≡ o
    → given (option_map (object_by (Live y)) o) (is_in_the_way t source) ≡ false
    → given (option_map replaced_by (option_map (object_by (Live y)) o)) (λ r. r.fileid == d) ≡ false
far_by t source d dn name e k is had y (Some n) at clear =
    let kinds = differs (is_directory n.inode.kind) (is_directory source.inode.kind) in
    let empty = gone_by t y n k at (or_parts kinds (is_directory n.inode.kind && has_names t (Live y)) clear).1
    (is_directory n.inode.kind) refl in
    ne_eqb y d (λ same. nameless t.nodes d y e.fileid n at empty (some_named t.nodes d dn name e k.live is had) (sym same))
far_by t source d dn name e k is had y None at clear = refl

target_far : (t : Tree) (source : Object) (d : ℕ) (dn : Node) (name : List ℕ) (e : NameEntry) → IsSound t → t.nodes d ≡ Some dn
    → named name dn.names ≡ Some e → (o : Option NameEntry) → given (target_at t o) (is_in_the_way t source) ≡ false
    → given (option_map replaced_by (target_at t o)) (λ r. r.fileid == d) ≡ false
unfolding object_at node_at
target_far t source d dn name e k is had (Some y) clear =
    far_by t source d dn name e k is had y.fileid (t.nodes y.fileid) refl clear
target_far t source d dn name e k is had None clear = refl

-- the same of the directory that has the new name
own_far : (t : Tree) (source : Object) (d : ℕ) (dn : Node) (name : List ℕ) (o : Option NameEntry) → IsSound t
    → t.nodes d ≡ Some dn → named name dn.names ≡ o → given (target_at t o) (is_in_the_way t source) ≡ false
    → given (option_map replaced_by (target_at t o)) (λ r. r.fileid == d) ≡ false
own_far t source d dn name (Some y) k is had clear = target_far t source d dn name y k is had (Some y) clear
own_far t source d dn name None k is had clear = refl

abbrev plan_of : Renaming → RenamePlan
plan_of r = record {
  from = fileid_at r.from.place;
  to = fileid_at r.to.place;
  fileid = fileid_at r.source.place;
  is_same = is_same_node r;
  reparents = reparents r;
  replaced = option_map replaced_by r.target;
}

abbrev Spares : Renaming → ℕ → Tree → Option Object → Type 0
Spares r d t target =
    given target (is_in_the_way t r.source) ≡ false → given (option_map replaced_by target) (λ x. x.fileid == d) ≡ false

moved_stays : (same : Bool) (t : Tree) (a : RenameArgs (List ℕ)) (now : Moment) (r : Renaming) (u : Unit {0}) (d : ℕ)
    → (if same then Ok tt else need_room t r) ≡ Ok u → IsThere t d → Spares r d t r.target
    → Stays t (if same then t else move_node now a (plan_of r) t) d
moved_stays true t a now r u d e h spares = record { before = h; after = h }
moved_stays false t a now r u d e h spares =
    record { before = h; after = moved_keeps now a (plan_of r) t d (spares (can_go t r u e).clear) h }

abbrev Renames : Tree → Moment → RenameArgs (List ℕ) → RenamePlan → Type 0
Renames t now a p =
    Stays t (if p.is_same then t else move_node now a p t) p.from × Stays t (if p.is_same then t else move_node now a p t) p.to

rename_stays : (t : Tree) (cred : Cred) (a : RenameArgs (List ℕ)) (now : Moment) (plan : RenamePlan) → IsSound t
    → rename_plan t cred a ≡ Ok plan → Renames t now a plan
unfolding rename_plan
rename_stays t cred a now plan k e =
    next_of (find_renaming t cred a) _ plan e (λ r is e.
    next_of (if is_same_node r then Ok tt else need_room t r) _ plan e (λ u room e.
    let f = found t cred a r is in
    let from : ℕ = fileid_at r.from.place in
    let to : ℕ = fileid_at r.to.place in
    let other = entry_at t r.to.place a.to.name in
    let spares_from : Spares r from t (target_at t other) =
    target_far t r.source from f.from.node.node a.from.name f.entry k (ap t.nodes (number_is f.from.live) ∙ f.from.stands.is)
    (sym (entry_of t r.from f.from a.from.name) ∙ f.old) other in
    let spares_to : Spares r to t (target_at t other) =
    own_far t r.source to f.to.node.node a.to.name other k (ap t.nodes (number_is f.to.live) ∙ f.to.stands.is)
    (sym (entry_of t r.to f.to a.to.name)) in
    ended (Renames t now a) (plan_of r) plan e (
      moved_stays (is_same_node r) t a now r u from room (directory_there t r.from f.from)
          (subst (Spares r from t) (sym f.target) spares_from),
      moved_stays (is_same_node r) t a now r u to room (directory_there t r.to f.to)
          (subst (Spares r to t) (sym f.target) spares_to),
    )))

-- ---- LINK

linked_whole : (t : Tree) (now : Moment) (name : List ℕ) (plan : LinkPlan) (q : ℕ) → IsThere t q
    → IsThere (edit_node plan.directory (λ n. touch now (add_name name plan.file n))
    (edit_node plan.file (λ n. set_ctime now (add_link n)) t)) q
linked_whole t now name plan q h =
    edit_keeps (edit_node plan.file (λ n. set_ctime now (add_link n)) t) plan.directory
    (λ n. touch now (add_name name plan.file n)) q (edit_keeps t plan.file (λ n. set_ctime now (add_link n)) q h)

-- ---- snapshots

last_found : (p : Snapshot → Bool) (s : Snapshot) (snapshots : List Snapshot) → p s ≡ true
    → is_some (find p (snapshots ++ (s ∷ []))) ≡ true
last_found p s [] h = ap (λ (b : Bool). is_some (cond b (Some s) None)) h
last_found p s (x ∷ snapshots) h = by (p x) x (find p (snapshots ++ (s ∷ []))) (last_found p s snapshots h)
  where
    by : (b : Bool) (x : Snapshot) (o : Option Snapshot) → is_some o ≡ true → is_some (cond b (Some x) o) ≡ true
    by true x o h = refl
    by false x o h = h

taken_shown : (t : Tree) (now : Moment) (name : List ℕ) → IsSound t → IsShown (add_snapshot now name t) (Kept t.epoch 1)
unfolding add_snapshot snapshot_numbered
taken_shown t now name k =
    let s : Snapshot = record { name = name; number = t.epoch; nodes = t.nodes } in
    let all : All (λ (x : Snapshot). HangTogether x.nodes) (t.snapshots ++ (s ∷ [])) =
    All-push (λ (x : Snapshot). HangTogether x.nodes) t.snapshots s k.kept k.live in
    kept_by (add_snapshot now name t) t.epoch (find (has_number t.epoch) (t.snapshots ++ (s ∷ []))) refl 1
    (kept_root (find (has_number t.epoch) (t.snapshots ++ (s ∷ [])))
    (last_found (has_number t.epoch) s t.snapshots (eq-eqb t.epoch t.epoch refl))
    (find_has (λ (x : Snapshot). HangTogether x.nodes) (has_number t.epoch) (t.snapshots ++ (s ∷ [])) all))

taken_whole : (t : Tree) (cred : Cred) (name : List ℕ) (now : Moment) → IsSound t → WholeRow (take_snapshot t cred name now)
unfolding take_snapshot
taken_whole t cred name now k = done_whole (need_new_snapshot t cred name) _ (λ plan is.
    new_whole t (add_snapshot now name t) SnapshotDirectory (Kept t.epoch 1) (taken_shown t now name k) (shown_snapshots t)
    (shown_snapshots (add_snapshot now name t)))

dropped_whole : (t : Tree) (cred : Cred) (name : List ℕ) (now : Moment) → WholeRow (drop_snapshot t cred name now)
unfolding drop_snapshot
dropped_whole t cred name now = done_whole (need_snapshot t cred name) _ (λ plan is.
    change_whole t (drop_named now name t) SnapshotDirectory (shown_snapshots t) (shown_snapshots (drop_named now name t)))

-- ---- the rows that change the tree

set_whole : (t : Tree) (cred : Cred) (a : SetAttrArgs (List ℕ)) (now : Moment) → WholeRow (set_attr t cred a now)
unfolding set_attr
set_whole t cred a now = done_whole (set_attr_plan t cred a now) _ (λ plan is.
    let edit : Node → Node = λ n. set_attributes plan.attributes (set_size_if a.attributes.size n) in
    stays_whole t (edit_node plan.fileid edit t) plan.fileid (edited t plan.fileid edit (set_there t cred a now plan is)))

write_whole : (t : Tree) (cred : Cred) (a : WriteArgs (List ℕ)) (now : Moment) → WholeRow (write t cred a now)
unfolding write
write_whole t cred a now = done_whole (write_plan t cred a) _ (λ plan is.
    stays_whole t _ plan.fileid (edited t plan.fileid _ (write_there t cred a plan is)))

create_whole : (t : Tree) (cred : Cred) (a : CreateArgs (List ℕ)) (now : Moment) (lane : ℕ)
    → WholeRow (create t cred a now lane)
unfolding create
create_whole t cred a now lane = done_whole (create_plan t cred a lane) _ (λ plan is.
    let u : Tree = create_edit t cred a now lane plan in
    let c = create_there t cred a lane plan is in
    let there = created_whole t cred a now lane plan c in
    new_whole t u (Live plan.directory) (Live plan.fileid) (shown_there u plan.fileid there.1)
    (shown_there t plan.directory c.directory) (shown_there u plan.directory there.0))

made_whole : (t : Tree) (cred : Cred) (now : Moment) (lane : ℕ) (plan : NewPlan) (name : List ℕ) (m : Making)
    → IsThere t plan.directory
    → IsWholeNew (told_of_new t (make_node cred now lane plan name m t) (Live plan.directory) (Live plan.fileid))
made_whole t cred now lane plan name m h =
    let u : Tree = make_node cred now lane plan name m t in
    new_whole t u (Live plan.directory) (Live plan.fileid)
    (shown_there u plan.fileid (made_there t cred now lane plan name m)) (shown_there t plan.directory h)
    (shown_there u plan.directory (made_keeps t cred now lane plan name m plan.directory h))

make_whole : (t : Tree) (cred : Cred) (a : MkdirArgs (List ℕ)) (now : Moment) (lane : ℕ) (o : Object)
    → find_object t a.place.directory ≡ Ok o → WholeRow (make_directory t cred a now lane o)
unfolding make_directory
make_whole t cred a now lane o is = done_whole (make_directory_plan t cred a lane o) _ (λ plan fits.
    made_whole t cred now lane plan a.place.name (new_directory a.attributes) (make_there t cred a lane o plan is fits))

symlink_whole : (t : Tree) (cred : Cred) (a : SymlinkArgs (List ℕ)) (now : Moment) (lane : ℕ)
    → WholeRow (symlink t cred a now lane)
unfolding symlink
symlink_whole t cred a now lane = done_whole (symlink_plan t cred a lane) _ (λ plan is.
    made_whole t cred now lane plan a.place.name (new_link a.attributes a.target) (symlink_there t cred a lane plan is))

mkdir_whole : (t : Tree) (cred : Cred) (a : MkdirArgs (List ℕ)) (now : Moment) (lane : ℕ) → IsSound t
    → WholeRow (mkdir t cred a now lane)
unfolding mkdir
mkdir_whole t cred a now lane k = found_whole t a.place.directory _ (λ o is.
    either_is WholeRow (is_snapshot_directory o.place) (take_snapshot t cred a.place.name now)
    (make_directory t cred a now lane o) (taken_whole t cred a.place.name now k) (make_whole t cred a now lane o is))

remove_whole : (t : Tree) (cred : Cred) (a : DirOp (List ℕ)) (now : Moment) → IsSound t → WholeRow (remove t cred a now)
unfolding remove
remove_whole t cred a now k = done_whole (remove_plan t cred a) _ (λ plan is.
    stays_whole t _ plan.directory (remove_stays t cred a now plan k is))

removed_whole : (t : Tree) (cred : Cred) (bytes name : List ℕ) (now : Moment) (o : Object) → find_object t bytes ≡ Ok o
    → WholeRow (remove_directory t cred name now o)
unfolding remove_directory
removed_whole t cred bytes name now o is = done_whole (remove_directory_plan t cred name o) _ (λ plan fits.
    stays_whole t _ plan.directory (remove_directory_stays t cred bytes name now o plan is fits))

rmdir_whole : (t : Tree) (cred : Cred) (a : DirOp (List ℕ)) (now : Moment) → WholeRow (rmdir t cred a now)
unfolding rmdir
rmdir_whole t cred a now = found_whole t a.directory _ (λ o is.
    either_is WholeRow (is_snapshot_directory o.place) (drop_snapshot t cred a.name now)
    (remove_directory t cred a.name now o) (dropped_whole t cred a.name now)
    (removed_whole t cred a.directory a.name now o is))

rename_whole : (t : Tree) (cred : Cred) (a : RenameArgs (List ℕ)) (now : Moment) → IsSound t → WholeRow (rename t cred a now)
unfolding rename
rename_whole t cred a now k = done_whole (rename_plan t cred a) _ (λ plan is.
    let s = rename_stays t cred a now plan k is in (stays_whole t _ plan.from s.0, stays_whole t _ plan.to s.1))

link_whole : (t : Tree) (cred : Cred) (a : LinkArgs (List ℕ)) (now : Moment) → WholeRow (link t cred a now)
unfolding link
link_whole t cred a now = done_whole (link_plan t cred a) _ (λ plan is.
    let l = link_ok t cred a plan is in
    let directory = ap is_some l.is in (
      shown_there _ plan.file (linked_whole t now a.link.name plan plan.file (ap is_some l.there)),
      stays_whole t _ plan.directory
          (record { before = directory; after = linked_whole t now a.link.name plan plan.directory directory }),
    ))

-- ---- all rows

row_whole : (t : Tree) (cred : Cred) (now : Moment) (lane : ℕ) (call : Call) → IsSound t
    → WholeRow (row_of t cred now lane call)
row_whole t cred now lane Null k = tt
row_whole t cred now lane (GetAttr a) k = told_shown t (get_attr t a) (get_attr_whole t a)
row_whole t cred now lane (SetAttr a) k = set_whole t cred a now
row_whole t cred now lane (Lookup a) k = told_shown t (lookup t cred a) (lookup_whole t cred a)
row_whole t cred now lane (Access a) k = told_shown t (access t cred a) (access_whole t cred a)
row_whole t cred now lane (ReadLink a) k = told_shown t (read_link t a) (read_link_whole t a)
row_whole t cred now lane (Read a) k = told_shown t (read t cred a) (read_whole t cred a)
row_whole t cred now lane (Write a) k = write_whole t cred a now
row_whole t cred now lane (Create a) k = create_whole t cred a now lane
row_whole t cred now lane (Mkdir a) k = mkdir_whole t cred a now lane k
row_whole t cred now lane (Symlink a) k = symlink_whole t cred a now lane
row_whole t cred now lane (Mknod a) k = tt
row_whole t cred now lane (Remove a) k = remove_whole t cred a now k
row_whole t cred now lane (Rmdir a) k = rmdir_whole t cred a now
row_whole t cred now lane (Rename a) k = rename_whole t cred a now k
row_whole t cred now lane (Link a) k = link_whole t cred a now
row_whole t cred now lane (ReadDir a) k = told_whole t (read_dir t cred a) (read_dir_whole t cred a)
row_whole t cred now lane (ReadDirPlus a) k =
    told_whole t (read_dir_plus t cred a) (λ body is. read_dir_plus_whole t cred a body k is)
row_whole t cred now lane (FsStat a) k = told_shown t (fs_stat t a) (fs_stat_whole t a)
row_whole t cred now lane (FsInfo a) k = told_shown t (fs_info t a) (fs_info_whole t a)
row_whole t cred now lane (PathConf a) k = told_shown t (path_conf t a) (path_conf_whole t a)
row_whole t cred now lane (Commit a) k = told_whole t (commit t a) (commit_whole t a)

reply_whole : (procedure : ℕ) (r : Row) → WholeRow r → IsWhole (reply_by procedure r).body
reply_whole procedure (Ok d) h = h
reply_whole procedure (Err status) h = tt

pub answer_whole : (t : Tree) (a : Asked) → IsSound t → IsWhole (answer t a).body
unfolding row
answer_whole t a k =
    reply_whole (procedure_of a.call) (row_of t a.cred a.now a.lane a.call) (row_whole t a.cred a.now a.lane a.call k)
