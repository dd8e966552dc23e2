-- CREATE, MKDIR and SYMLINK leave the tree within its bounds.
use Rattle.std.proofs.Common.{◌≡◌, ℕ, ◌≤◌, ◌<◌, ◌==◌, nat_le, nat_lt, ◌||◌, ◌&&◌, Bool, true, false, not, if◌then◌else◌, List}
use Rattle.std.proofs.Common.{length, Option, Some, None, IfSome, is_some, unwrap_or, Ok, refl, subst, arith}
use Rattle.std.proofs.Math.ListN.{length-replicate}
use Rattle.std.proofs.lemmas.Bool.{eqb-false, eqb-true, leb-false, ltb-false}
use Rattle.std.proofs.lemmas.List.Elements.{All-nil}
use Rattle.nfs3_types.specs.declared.args.CreateArgs.{CreateArgs}
use Rattle.nfs3_types.specs.declared.args.CreateHow.{CreateHow}
use Rattle.nfs3_types.specs.declared.args.MkdirArgs.{MkdirArgs}
use Rattle.nfs3_types.specs.declared.args.SymlinkArgs.{SymlinkArgs}
use Rattle.nfs3_types.specs.declared.attributes.Sattr.{Sattr}
use Rattle.nfs3_types.specs.declared.cred.Cred.{Cred}
use Rattle.nfs3_types.specs.declared.file_type.FileType.{FileType}
use Rattle.nfs3_types.specs.declared.file_type.FileType.TheVariants.{Reg, Dir, Lnk}
use Rattle.nfs3_types.specs.declared.moment.Moment.{Moment}
use Rattle.nfs3_types.specs.declared.status.Status.TheVariants.{Acces, Exist, Inval, MLink, NameTooLong, NoSpc, Perm}
use Rattle.fs_rules.specs.Answers.{tree_by}
use Rattle.fs_rules.specs.Attributes.{given, is_directory, is_file, is_too_large}
use Rattle.fs_rules.specs.Checks.{find_directory, find_object, need_place_for}
use Rattle.fs_rules.specs.Edits.{add_link, add_name, add_node, edit_node, give_number, set_size, touch, with_node}
use Rattle.fs_rules.specs.Limits.{longest_target, most_links, most_numbers, most_size}
use Rattle.fs_rules.specs.Listing.{entry}
use Rattle.fs_rules.specs.Making.{Making, create, create_attributes, create_edit, create_plan, gain_name, give_size}
use Rattle.fs_rules.specs.Making.{is_of_others, is_others, is_reserved, is_taken, lacks_cookies, lacks_links, lacks_numbers}
use Rattle.fs_rules.specs.Making.{make_directory, make_directory_plan, make_node, may_reuse, need_free_name, need_new_node}
use Rattle.fs_rules.specs.Making.{new_directory, new_file, new_link, new_node, new_plan, plan_by, reuse_plan, size_over}
use Rattle.fs_rules.specs.Making.{symlink, symlink_plan}
use Rattle.fs_rules.specs.Names.{has_nul, target_fault}
use Rattle.fs_rules.specs.Places.{Object, entry_at, fileid_at, leads_to, node_at, object_at, object_by}
use Rattle.fs_rules.specs.Rights.{may_search, may_write}
use Rattle.fs_rules.specs.Setting.{lacks_cuts}
use Rattle.fs_rules.specs.Sound.{HasBounds, IsEntryName, IsNodeWithin, IsOfKind, Rise, is_given}
use Rattle.fs_rules.specs.Transfers.{may_fill}
use Rattle.fs_rules.specs.Tree.{Node, Tree, next_fileid}
use Rattle.fs_rules.specs.declared.inode.Inode.{Inode}
use Rattle.fs_rules.specs.declared.name_entry.NameEntry.{NameEntry}
use Rattle.fs_rules.specs.declared.place.Place.TheVariants.{Live}
use Rattle.fs_rules.specs.declared.plans.CreatePlan.{CreatePlan}
use Rattle.fs_rules.specs.declared.plans.NewPlan.{NewPlan}
use Rattle.fs_laws.proofs.NodesWithin.{add_name_within, link_more_within, touch_within}
use Rattle.fs_laws.proofs.Passed.{ended, is_true, next_of, or_false, past, past_fault, past_some, test_passed}
use Rattle.fs_laws.proofs.Places.{IsLive, IsPlace, live_of, of_live, place_for, place_of_name, to_live}
use Rattle.fs_laws.proofs.SettingWithin.{done_within, none_past, size_within}
use Rattle.fs_laws.proofs.TreesWithin.{each_node_within, edit_node_within, edited_within, given_next, next_within, not_given}
use Rattle.fs_laws.proofs.TreesWithin.{of_some, put_within}

-- ---- a directory that gets a further name

-- it has room for a node of this kind
pub record HasRoom (kind : FileType) (n : Node) : Type 0 where
  pub directory : n.inode.kind ≡ Dir
  pub cookies : n.inode.next_cookie < most_numbers
  pub links : lacks_links kind n.inode ≡ false

gain_by : (b : Bool) (name : List ℕ) (target : ℕ) (now : Moment) (fileid : ℕ) (n : Node) → n.inode.kind ≡ Dir
    → n.inode.next_cookie < most_numbers → (b && nat_le most_links n.inode.nlink) ≡ false → IsEntryName fileid name
    → IsNodeWithin fileid n
    → IsNodeWithin fileid (touch now (add_name name target (if b then add_link n else n)))
gain_by true name target now fileid n is cookies links own h =
    touch_within now fileid (add_name name target (add_link n))
    (add_name_within name target fileid (add_link n) is own cookies
    (link_more_within fileid n (leb-false most_links n.inode.nlink links) h))
gain_by false name target now fileid n is cookies links own h =
    touch_within now fileid (add_name name target n) (add_name_within name target fileid n is own cookies h)

gain_within : (kind : FileType) (name : List ℕ) (target : ℕ) (now : Moment) (fileid : ℕ) (n : Node) → IsEntryName fileid name
    → HasRoom kind n → IsNodeWithin fileid n → IsNodeWithin fileid (gain_name kind name target now n)
gain_within kind name target now fileid n own room h =
    gain_by (is_directory kind) name target now fileid n room.directory room.cookies room.links own h

-- ---- a new node

first_links : (b : Bool) → (if b then 2 else 1) ≤ most_links
unfolding most_links
first_links true = omega arith
first_links false = omega arith

new_within : (cred : Cred) (now : Moment) (parent fileid : ℕ) (m : Making) → IsOfKind m.kind fileid (new_node cred now parent m)
    → IsNodeWithin fileid (new_node cred now parent m)
unfolding new_node most_numbers
new_within cred now parent fileid m h =
    record { kind = h; mode = omega arith; links = first_links (is_directory m.kind); cuts = omega arith }

new_directory_kind : (cred : Cred) (now : Moment) (parent fileid : ℕ) (s : Sattr)
    → IsOfKind Dir fileid (new_node cred now parent (new_directory s))
unfolding new_node Rise most_numbers
new_directory_kind cred now parent fileid s = record {
  empty = refl;
  entries = record { own = All-nil (λ e. IsEntryName fileid e.name); cookies = omega arith };
  most = omega arith;
  verifier = refl;
}

target_length : (target : List ℕ) → target_fault target ≡ None → (1 ≤ length target) × (length target ≤ longest_target)
unfolding target_fault
target_length target e =
    none_past ((length target == 0) || has_nul target) Inval _ e (λ some e.
    none_past (nat_lt longest_target (length target)) NameTooLong _ e (λ short e.
    let some : length target ≡ 0 → ⊥ = eqb-false (length target) 0 (or_false (length target == 0) (has_nul target) some).0 in
    (omega (arith, some), ltb-false longest_target (length target) short)))

new_link_kind : (cred : Cred) (now : Moment) (parent fileid : ℕ) (s : Sattr) (target : List ℕ) → target_fault target ≡ None
    → IsOfKind Lnk fileid (new_node cred now parent (new_link s target))
unfolding new_node
new_link_kind cred now parent fileid s target e =
    let long = target_length target e in
    record { leaf = record { nothing = refl; parent = refl; cookie = refl }; some = long.0; short = long.1; verifier = refl }

size_given : (size : Option ℕ) → is_too_large size ≡ false → unwrap_or size 0 ≤ most_size
size_given (Some size) e = ltb-false most_size size e
size_given None e = omega arith

new_file_kind : (cred : Cred) (now : Moment) (parent fileid : ℕ) (how : CreateHow)
    → is_too_large (create_attributes how).size ≡ false
    → IsOfKind Reg fileid (new_node cred now parent (new_file how))
unfolding new_node
new_file_kind cred now parent fileid how e = record {
  leaf = record { nothing = refl; parent = refl; cookie = refl };
  size = omega (
    arith,
    length-replicate {A = ℕ} (unwrap_or (create_attributes how).size 0) 0,
    size_given
        (create_attributes how).size e,
  );
}

-- ---- a new node in a directory

other_node : (t : Tree) (lane directory : ℕ) (new : Option Node) (P : Node → Type 0) (b : Bool)
    → (directory == next_fileid t lane) ≡ b
    → lane < 16 → HasBounds t → is_given t directory ≡ true → IfSome (t.nodes directory) P
    → IfSome (if b then new else t.nodes directory) P
other_node t lane directory new P true e low h given old =
    absurd (not_given t lane low h (subst (λ (x : ℕ). is_given t x ≡ true) (eqb-true directory (next_fileid t lane) e) given))
other_node t lane directory new P false e low h given old = old

still_there : (P : Node → Type 0) (t : Tree) (lane directory : ℕ) (n : Node) → lane < 16 → HasBounds t
    → is_given t directory ≡ true
    → IfSome (t.nodes directory) P → IfSome ((add_node (next_fileid t lane) n (give_number lane t)).nodes directory) P
unfolding add_node give_number with_node
still_there P t lane directory n low h given old =
    other_node t lane directory (Some n) P (directory == next_fileid t lane) refl low h given old

added_within : (t : Tree) (lane : ℕ) (n : Node) → lane < 16 → next_fileid t lane < most_numbers
    → IsNodeWithin (next_fileid t lane) n
    → HasBounds t → HasBounds (add_node (next_fileid t lane) n (give_number lane t))
unfolding add_node
added_within t lane n low left new h =
    put_within (give_number lane t) (next_fileid t lane) (Some n) new (given_next t lane low h) (next_within t lane low left h)

given_there : (t : Tree) (fileid : ℕ) (o : Option Node) (n : Node) → o ≡ Some n → IfSome o (λ n. is_given t fileid ≡ true)
    → is_given t fileid ≡ true
given_there t fileid (Some m) n e h = h
given_there t fileid None n e h = absurd cc

-- a place for a new node: its directory, and the next number of the lane
abbrev pub plan_at : Tree → ℕ → ℕ → NewPlan
plan_at t lane directory = record { directory = directory; fileid = next_fileid t lane }

make_next : (cred : Cred) (now : Moment) (lane directory : ℕ) (name : List ℕ) (m : Making) (t : Tree) (n : Node) → lane < 16
    → next_fileid t lane < most_numbers → t.nodes directory ≡ Some n → HasRoom m.kind n → IsEntryName directory name
    → IsOfKind m.kind (next_fileid t lane) (new_node cred now directory m) → HasBounds t
    → HasBounds (make_node cred now lane (plan_at t lane directory) name m t)
unfolding make_node
make_next cred now lane directory name m t n low left there room own new h =
    let given = given_there t directory (t.nodes directory) n there (h.live.given directory) in
    let more = add_node (next_fileid t lane) (new_node cred now directory m) (give_number lane t) in
    edit_node_within (HasRoom m.kind) more directory (gain_name m.kind name (next_fileid t lane) now)
    (λ d. gain_within m.kind name (next_fileid t lane) now directory d own)
    (still_there (HasRoom m.kind) t lane directory (new_node cred now directory m) low h given
    (of_some (HasRoom m.kind) (t.nodes directory) n there room))
    (added_within t lane (new_node cred now directory m) low left (new_within cred now directory (next_fileid t lane) m new) h)

-- ---- the checks

-- a new node of this kind can be made in the directory
pub record CanMake (t : Tree) (lane : ℕ) (directory : Inode) (kind : FileType) (s : Sattr) : Type 0 where
  pub size : (is_file kind && is_too_large s.size) ≡ false
  pub links : lacks_links kind directory ≡ false
  pub left : next_fileid t lane < most_numbers
  pub cookies : directory.next_cookie < most_numbers

pub can_make : (t : Tree) (cred : Cred) (lane : ℕ) (directory : Inode) (kind : FileType) (s : Sattr) (u : Unit {0})
    → need_new_node t cred lane directory kind s ≡ Ok u → CanMake t lane directory kind s
unfolding need_new_node
can_make t cred lane directory kind s u e =
    past (is_others cred s.uid) Perm _ u e (λ one e.
    past (is_of_others cred s.gid) Perm _ u e (λ two e.
    past (is_file kind && is_too_large s.size) Inval _ u e (λ size e.
    past (lacks_links kind directory) MLink _ u e (λ links e.
    past (lacks_numbers t lane) NoSpc _ u e (λ left e. record {
      size = size;
      links = links;
      left = leb-false most_numbers (next_fileid t lane) left;
      cookies = leb-false most_numbers directory.next_cookie (test_passed (lacks_cookies directory) NoSpc u e);
    })))))

pub name_is_free : (t : Tree) (cred : Cred) (fileid : ℕ) (n : Node) (directory : Object) (name : List ℕ) (u : Unit {0})
    → IsPlace t fileid n directory name → need_free_name t cred directory name ≡ Ok u → IsEntryName fileid name
unfolding need_free_name
name_is_free t cred fileid n directory name u at e = past (is_taken t directory name) Exist _ u e (λ free e. record {
  good = at.good;
  free = to_live (λ x. is_reserved x name ≡ false) at.live
      (or_false (is_reserved directory name) (is_some (entry_at t directory.place name)) free).0;
})

-- what is made once these checks have passed
made_within : (cred : Cred) (now : Moment) (lane : ℕ) (t : Tree) (fileid : ℕ) (n : Node) (o : Object) (name : List ℕ)
    (m : Making) (s : Sattr)
    → lane < 16 → IsPlace t fileid n o name → IsEntryName fileid name → CanMake t lane o.inode m.kind s
    → IsOfKind m.kind (next_fileid t lane) (new_node cred now fileid m) → HasBounds t
    → HasBounds (make_node cred now lane (plan_at t lane (fileid_at o.place)) name m t)
made_within cred now lane t fileid n o name m s low at own can new h =
    let here = to_live (λ x. CanMake t lane x.inode m.kind s) at.live can in
    of_live (λ x. HasBounds (make_node cred now lane (plan_at t lane (fileid_at x.place)) name m t)) at.live
    (make_next cred now lane fileid name m t n low here.left at.live.stands
    (record { directory = at.kind; cookies = here.cookies; links = here.links }) own new h)

-- ---- MKDIR and SYMLINK

make_directory_done : (t : Tree) (cred : Cred) (a : MkdirArgs (List ℕ)) (now : Moment) (lane : ℕ) (o : Object) (plan : NewPlan)
    → lane < 16
    → HasBounds t → find_object t a.place.directory ≡ Ok o → make_directory_plan t cred a lane o ≡ Ok plan
    → HasBounds (make_node cred now lane plan a.place.name (new_directory a.attributes) t)
unfolding make_directory_plan
make_directory_done t cred a now lane o plan low h is e =
    let m = new_directory a.attributes in
    next_of (need_place_for o a.place.name) _ plan e (λ u fits e.
    past (not (may_search cred o.inode)) Acces _ plan e (λ search e.
    next_of (need_free_name t cred o a.place.name) _ plan e (λ v free e.
    next_of (need_new_node t cred lane o.inode Dir a.attributes) _ plan e (λ w can e.
    place_for t a.place.directory o a.place.name u is fits (λ fileid n at.
    ended (λ (p : NewPlan). HasBounds (make_node cred now lane p a.place.name m t)) (plan_at t lane (fileid_at o.place)) plan e
    (made_within cred now lane t fileid n o a.place.name m a.attributes low at
    (name_is_free t cred fileid n o a.place.name v at free)
    (can_make t cred lane o.inode Dir a.attributes w can) (new_directory_kind cred now fileid (next_fileid t lane) a.attributes)
    h))))))

pub make_directory_within : (t : Tree) (cred : Cred) (a : MkdirArgs (List ℕ)) (now : Moment) (lane : ℕ) (o : Object) → lane < 16
    → HasBounds t → find_object t a.place.directory ≡ Ok o → HasBounds (tree_by t (make_directory t cred a now lane o))
unfolding make_directory
make_directory_within t cred a now lane o low h is =
    done_within t (make_directory_plan t cred a lane o) _ h (λ plan. make_directory_done t cred a now lane o plan low h is)

symlink_done : (t : Tree) (cred : Cred) (a : SymlinkArgs (List ℕ)) (now : Moment) (lane : ℕ) (plan : NewPlan) → lane < 16
    → HasBounds t
    → symlink_plan t cred a lane ≡ Ok plan → HasBounds (make_node cred now lane plan a.place.name
    (new_link a.attributes a.target) t)
unfolding symlink_plan
symlink_done t cred a now lane plan low h e =
    let m = new_link a.attributes a.target in
    next_of (find_directory t a.place) _ plan e (λ o is e.
    past (not (may_search cred o.inode)) Acces _ plan e (λ search e.
    next_of (need_free_name t cred o a.place.name) _ plan e (λ v free e.
    past_fault (target_fault a.target) _ plan e (λ target e.
    next_of (need_new_node t cred lane o.inode Lnk a.attributes) _ plan e (λ w can e.
    place_of_name t a.place o is (λ fileid n at.
    ended (λ (p : NewPlan). HasBounds (make_node cred now lane p a.place.name m t)) (plan_at t lane (fileid_at o.place)) plan e
    (made_within cred now lane t fileid n o a.place.name m a.attributes low at
    (name_is_free t cred fileid n o a.place.name v at free)
    (can_make t cred lane o.inode Lnk a.attributes w can) (new_link_kind cred now fileid (next_fileid t lane) a.attributes
    a.target target) h)))))))

pub symlink_within : (t : Tree) (cred : Cred) (a : SymlinkArgs (List ℕ)) (now : Moment) (lane : ℕ) → lane < 16 → HasBounds t
    → HasBounds (tree_by t (symlink t cred a now lane))
unfolding symlink
symlink_within t cred a now lane low h =
    done_within t (symlink_plan t cred a lane) _ h (λ plan. symlink_done t cred a now lane plan low h)

-- ---- CREATE

give_size_within : (t : Tree) (fileid : ℕ) (n : Node) (size : Option ℕ) (now : Moment) → t.nodes fileid ≡ Some n
    → is_file n.inode.kind ≡ true → is_too_large size ≡ false → lacks_cuts size (object_by (Live fileid) n) ≡ false → HasBounds t
    → HasBounds (edit_node fileid (give_size size now) t)
give_size_within t fileid n (Some size) now there kind low cuts h =
    edited_within t fileid n (give_size (Some size) now) there
    (λ k. touch_within now fileid (set_size size n) (size_within size fileid n kind low cuts k)) h
give_size_within t fileid n None now there kind low cuts h = each_node_within t fileid (give_size None now) (λ n k. k) h

-- what a name leads to stands in the live tree
pub leads_live : {G : Type 0} (t : Tree) (fileid : ℕ) (o : Object) → leads_to t (Live fileid) ≡ Some o
    → ((n : Node) → IsLive t fileid n o → G) → G
unfolding object_at node_at
leads_live t fileid o e more = live_of t fileid (t.nodes fileid) o refl e more

reuse_done : (t : Tree) (cred : Cred) (a : CreateArgs (List ℕ)) (now : Moment) (lane : ℕ) (directory : Object) (e : NameEntry)
    (plan : CreatePlan)
    → HasBounds t → reuse_plan t cred directory e a.how ≡ Ok plan → HasBounds (create_edit t cred a now lane plan)
unfolding reuse_plan create_edit
reuse_done t cred a now lane directory entry plan h e =
    past_some (leads_to t (Live entry.fileid)) Exist _ plan e (λ o there e.
    past (not (is_file o.inode.kind)) Exist _ plan e (λ kind e.
    past (not (may_reuse a.how o.inode)) Exist _ plan e (λ own e.
    past (is_some (size_over a.how) && not (may_fill cred o.inode)) Acces _ plan e (λ may e.
    past (is_too_large (size_over a.how)) Inval _ plan e (λ low e.
    past (lacks_cuts (size_over a.how) o) NoSpc _ plan e (λ cuts e.
    leads_live t entry.fileid o there (λ n is.
    ended (λ (p : CreatePlan). HasBounds (create_edit t cred a now lane p))
    (record { directory = fileid_at directory.place; fileid = entry.fileid; is_new = false; size = size_over a.how }) plan e
    (give_size_within t entry.fileid n (size_over a.how) now is.stands
    (to_live (λ x. is_file x.inode.kind ≡ true) is (is_true (is_file o.inode.kind) kind)) low
    (to_live (λ x. lacks_cuts (size_over a.how) x ≡ false) is cuts) h))))))))

new_done : (t : Tree) (cred : Cred) (a : CreateArgs (List ℕ)) (now : Moment) (lane fileid : ℕ) (n : Node) (o : Object)
    (plan : CreatePlan)
    → lane < 16 → IsPlace t fileid n o a.place.name → IsEntryName fileid a.place.name → HasBounds t
    → new_plan t cred o a.how lane ≡ Ok plan → HasBounds (create_edit t cred a now lane plan)
unfolding new_plan create_edit
new_done t cred a now lane fileid n o plan low at own h e =
    past (not (may_write cred o.inode)) Acces _ plan e (λ may e.
    next_of (need_new_node t cred lane o.inode Reg (create_attributes a.how)) _ plan e (λ u is e.
    let can = can_make t cred lane o.inode Reg (create_attributes a.how) u is in
    ended (λ (p : CreatePlan). HasBounds (create_edit t cred a now lane p))
    (record { directory = fileid_at o.place; fileid = next_fileid t lane; is_new = true; size = None }) plan e
    (made_within cred now lane t fileid n o a.place.name (new_file a.how) (create_attributes a.how) low at own can
    (new_file_kind cred now fileid (next_fileid t lane) a.how can.size) h)))

by_done : (t : Tree) (cred : Cred) (a : CreateArgs (List ℕ)) (now : Moment) (lane fileid : ℕ) (n : Node) (o : Object)
    (there : Option NameEntry) (plan : CreatePlan) → lane < 16 → IsPlace t fileid n o a.place.name
    → IsEntryName fileid a.place.name
    → HasBounds t → plan_by t cred o there a.how lane ≡ Ok plan → HasBounds (create_edit t cred a now lane plan)
by_done t cred a now lane fileid n o (Some e) plan low at own h is = reuse_done t cred a now lane o e plan h is
by_done t cred a now lane fileid n o None plan low at own h is = new_done t cred a now lane fileid n o plan low at own h is

create_done : (t : Tree) (cred : Cred) (a : CreateArgs (List ℕ)) (now : Moment) (lane : ℕ) (plan : CreatePlan) → lane < 16
    → HasBounds t
    → create_plan t cred a lane ≡ Ok plan → HasBounds (create_edit t cred a now lane plan)
unfolding create_plan
create_done t cred a now lane plan low h e =
    next_of (find_directory t a.place) _ plan e (λ o is e.
    past (not (may_search cred o.inode)) Acces _ plan e (λ search e.
    past (is_reserved o a.place.name) Exist _ plan e (λ free e.
    place_of_name t a.place o is (λ fileid n at.
    by_done t cred a now lane fileid n o (entry_at t o.place a.place.name) plan low at
    (record { good = at.good; free = to_live (λ x. is_reserved x a.place.name ≡ false) at.live free }) h e))))

pub create_within : (t : Tree) (cred : Cred) (a : CreateArgs (List ℕ)) (now : Moment) (lane : ℕ) → lane < 16 → HasBounds t
    → HasBounds (tree_by t (create t cred a now lane))
unfolding create
create_within t cred a now lane low h =
    done_within t (create_plan t cred a lane) _ h (λ plan. create_done t cred a now lane plan low h)
