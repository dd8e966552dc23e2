-- RENAME and LINK leave the tree within its bounds.
use Rattle.std.proofs.Common.{◌+◌, subst, sym, ◌≡◌, ℕ, ◌<◌, ◌==◌, nat_le, ◌||◌, ◌&&◌, Bool, true, false, not}
use Rattle.std.proofs.Common.{if◌then◌else◌, List, Option, Some, None, IfSome, is_none, option_map, Ok, refl, arith}
use Rattle.std.proofs.lemmas.Bool.{and_parts, leb-false}
use Rattle.nfs3_types.specs.declared.args.LinkArgs.{LinkArgs}
use Rattle.nfs3_types.specs.declared.args.RenameArgs.{RenameArgs}
use Rattle.nfs3_types.specs.declared.cred.Cred.{Cred}
use Rattle.nfs3_types.specs.declared.file_type.FileType.TheVariants.{Dir}
use Rattle.nfs3_types.specs.declared.moment.Moment.{Moment}
use Rattle.nfs3_types.specs.declared.status.Status.TheVariants.{Acces, Exist, Inval, MLink, NoEnt, NoSpc, NotDir}
use Rattle.nfs3_types.specs.declared.status.Status.TheVariants.{Rofs, Xdev}
use Rattle.fs_rules.specs.Answers.{tree_by}
use Rattle.fs_rules.specs.Attributes.{given, is_directory}
use Rattle.fs_rules.specs.Checks.{find_object, is_live}
use Rattle.fs_rules.specs.Edits.{add_link, add_name, drop_link, drop_name, drop_node, edit_node, set_ctime, set_parent, touch}
use Rattle.fs_rules.specs.Limits.{deepest, most_links, most_numbers}
use Rattle.fs_rules.specs.Making.{lacks_cookies, need_free_name}
use Rattle.fs_rules.specs.Names.{is_dots, name_fault}
use Rattle.fs_rules.specs.Places.{Object, entry_at, fileid_at, is_snapshots_name, leads_to}
use Rattle.fs_rules.specs.Removing.{drop_directory, has_names, may_alter, remove_file}
use Rattle.fs_rules.specs.Renaming.{Renaming, allow_move, climb, differs, find_renaming, is_in_the_way, is_same_node, link}
use Rattle.fs_rules.specs.Renaming.{link_plan, move_node, need_room, relink, rename, rename_plan, renew, reparents, replace}
use Rattle.fs_rules.specs.Renaming.{replaced_by, target_at}
use Rattle.fs_rules.specs.Rights.{may_search}
use Rattle.fs_rules.specs.Sound.{HasBounds, IsEntryName, IsNodeWithin}
use Rattle.fs_rules.specs.Tree.{Node, Tree}
use Rattle.fs_rules.specs.declared.place.Place.TheVariants.{Live}
use Rattle.fs_rules.specs.declared.plans.LinkPlan.{LinkPlan}
use Rattle.fs_rules.specs.declared.plans.RenamePlan.{RenamePlan}
use Rattle.fs_rules.specs.declared.plans.Replaced.{Replaced}
use Rattle.fs_laws.proofs.MakingWithin.{leads_live, name_is_free}
use Rattle.fs_laws.proofs.NodesWithin.{add_name_within, ctime_within, directory_is, drop_name_within, link_less_within}
use Rattle.fs_laws.proofs.NodesWithin.{link_more_within, parent_within, touch_within}
use Rattle.fs_laws.proofs.Passed.{ended, next_of, or_false, past, past_fault, past_some, test_passed}
use Rattle.fs_laws.proofs.Places.{IsLive, IsPlace, live_found, live_kind, number_is, of_live, to_live}
use Rattle.fs_laws.proofs.RemovingWithin.{drop_directory_keeps, drop_directory_within, remove_file_keeps, remove_file_within}
use Rattle.fs_laws.proofs.SettingWithin.{done_within}
use Rattle.fs_laws.proofs.TreesWithin.{drop_keeps, each_node_within, edit_node_gives, edit_node_keeps, edit_node_within}
use Rattle.fs_laws.proofs.TreesWithin.{edited_within, of_some}

-- ---- what a directory needs

-- a directory that can get a further name
record IsOpen (n : Node) : Type 0 where
  directory : n.inode.kind ≡ Dir
  cookies : n.inode.next_cookie < most_numbers

-- a node that can get a further link
record CanLink (n : Node) : Type 0 where
  room : n.inode.nlink < most_links

abbrev IsDir : Node → Type 0
IsDir n = n.inode.kind ≡ Dir

name_within : (name : List ℕ) (target : ℕ) (now : Moment) (fileid : ℕ) (n : Node) → IsEntryName fileid name → IsOpen n
    → IsNodeWithin fileid n → IsNodeWithin fileid (touch now (add_name name target n))
name_within name target now fileid n own open' h =
    touch_within now fileid (add_name name target n) (add_name_within name target fileid n open'.directory own open'.cookies h)

-- ---- LINK

abbrev linked_tree : Tree → ℕ → ℕ → List ℕ → Moment → Tree
linked_tree t file directory name now =
    edit_node directory (λ n. touch now (add_name name file n)) (edit_node file (λ n. set_ctime now (add_link n)) t)

link_edit : (t : Tree) (file directory : ℕ) (m n : Node) (name : List ℕ) (now : Moment) → t.nodes file ≡ Some m
    → m.inode.nlink < most_links → t.nodes directory ≡ Some n → IsOpen n → IsEntryName directory name → HasBounds t
    → HasBounds (linked_tree t file directory name now)
link_edit t file directory m n name now there room at open' own h =
    edit_node_within IsOpen (edit_node file (λ n. set_ctime now (add_link n)) t) directory (λ n. touch now (add_name name file n))
    (λ n. name_within name file now directory n own)
    (edit_node_keeps IsOpen t file directory (λ n. set_ctime now (add_link n))
    (λ n k. record { directory = k.directory; cookies = k.cookies })
    (of_some IsOpen (t.nodes directory) n at open'))
    (edited_within t file m (λ n. set_ctime now (add_link n)) there
    (λ k. ctime_within now file (add_link m) (link_more_within file m room k)) h)

link_done : (t : Tree) (cred : Cred) (a : LinkArgs (List ℕ)) (now : Moment) (plan : LinkPlan) → HasBounds t
    → link_plan t cred a ≡ Ok plan
    → HasBounds (linked_tree t plan.file plan.directory a.link.name now)
unfolding link_plan
link_done t cred a now plan h e =
    next_of (find_object t a.file) _ plan e (λ file one e.
    next_of (find_object t a.link.directory) _ plan e (λ directory two e.
    past (not (is_directory directory.inode.kind)) NotDir _ plan e (λ kind e.
    past (not (is_live directory.place)) Rofs _ plan e (λ alive e.
    past (not (is_live file.place)) Xdev _ plan e (λ lives e.
    past_fault (name_fault a.link.name) _ plan e (λ good e.
    past (is_directory file.inode.kind) Inval _ plan e (λ leaf e.
    past (not (may_search cred directory.inode)) Acces _ plan e (λ may e.
    next_of (need_free_name t cred directory a.link.name) _ plan e (λ u free e.
    past (nat_le most_links file.inode.nlink) MLink _ plan e (λ room e.
    past (lacks_cookies directory.inode) NoSpc _ plan e (λ cookies e.
    live_found t a.file file one lives (λ f m of_file.
    live_found t a.link.directory directory two alive (λ d n of_directory.
    let at : IsPlace t d n directory a.link.name =
    record { live = of_directory; kind = live_kind t d n directory of_directory kind; good = good } in
    ended (λ (p : LinkPlan). HasBounds (linked_tree t p.file p.directory a.link.name now))
    (record { file = fileid_at file.place; directory = fileid_at directory.place }) plan e
    (of_live (λ x. HasBounds (linked_tree t (fileid_at x.place) (fileid_at directory.place) a.link.name now)) of_file
    (of_live (λ x. HasBounds (linked_tree t f (fileid_at x.place) a.link.name now)) of_directory
    (link_edit t f d m n a.link.name now of_file.stands
    (leb-false most_links m.inode.nlink (to_live (λ x. nat_le most_links x.inode.nlink ≡ false) of_file room)) of_directory.stands
    (record {
      directory = at.kind;
      cookies = leb-false most_numbers n.inode.next_cookie (to_live (λ x. lacks_cookies x.inode ≡ false) of_directory cookies);
    })
    (name_is_free t cred d n directory a.link.name u at free) h))))))))))))))))

pub link_within : (t : Tree) (cred : Cred) (a : LinkArgs (List ℕ)) (now : Moment) → HasBounds t
    → HasBounds (tree_by t (link t cred a now))
unfolding link
link_within t cred a now h = done_within t (link_plan t cred a) _ h (λ plan. link_done t cred a now plan h)

-- ---- what has the new name goes

replaced_within : (b : Bool) (now : Moment) (to : ℕ) (name : List ℕ) (fileid : ℕ) (t : Tree) → HasBounds t
    → HasBounds (if b then drop_directory now to name fileid t else remove_file now to name fileid t)
replaced_within true now to name fileid t h = drop_directory_within now to name fileid t h
replaced_within false now to name fileid t h = remove_file_within now to name fileid t h

replace_within : (now : Moment) (to : ℕ) (name : List ℕ) (r : Option Replaced) (t : Tree) → HasBounds t
    → HasBounds (replace now to name r t)
replace_within now to name (Some r) t h = replaced_within r.is_directory now to name r.fileid t h
replace_within now to name None t h = h

replaced_open : (b : Bool) (now : Moment) (to : ℕ) (name : List ℕ) (fileid : ℕ) (t : Tree) → IfSome (t.nodes to) IsOpen
    → IfSome ((if b then drop_directory now to name fileid t else remove_file now to name fileid t).nodes to) IsOpen
replaced_open true now to name fileid t h =
    drop_directory_keeps IsOpen now to name fileid to t (λ n k. record { directory = k.directory; cookies = k.cookies }) h
replaced_open false now to name fileid t h =
    remove_file_keeps IsOpen now to name fileid to t (λ n k. record { directory = k.directory; cookies = k.cookies })
    (λ n k. record { directory = k.directory; cookies = k.cookies }) h

replace_open : (now : Moment) (to : ℕ) (name : List ℕ) (r : Option Replaced) (t : Tree) → IfSome (t.nodes to) IsOpen
    → IfSome ((replace now to name r t).nodes to) IsOpen
replace_open now to name (Some r) t h = replaced_open r.is_directory now to name r.fileid t h
replace_open now to name None t h = h

-- a directory that goes leaves a link in its parent
one_less : (now : Moment) (name : List ℕ) (fileid : ℕ) (n : Node) → IsNodeWithin fileid n
    → CanLink (touch now (drop_link (drop_name name n)))
unfolding most_links
one_less now name fileid n h = record { room = omega (arith, h.links) }

directory_room : (now : Moment) (to : ℕ) (name : List ℕ) (fileid : ℕ) (t : Tree) → HasBounds t
    → IfSome ((drop_directory now to name fileid t).nodes to) CanLink
unfolding drop_directory
directory_room now to name fileid t h =
    edit_node_gives (IsNodeWithin to) CanLink (drop_node fileid t) to (λ n. touch now (drop_link (drop_name name n)))
    (one_less now name to) (drop_keeps (IsNodeWithin to) t fileid to (h.live.each to))

replaced_room : (b : Bool) (now : Moment) (to : ℕ) (name : List ℕ) (fileid : ℕ) (t : Tree) → b ≡ true → HasBounds t
    → IfSome ((if b then drop_directory now to name fileid t else remove_file now to name fileid t).nodes to) CanLink
replaced_room true now to name fileid t e h = directory_room now to name fileid t h
replaced_room false now to name fileid t e h = absurd cc

and_rest : (a b c : Bool) → (a && b && c) ≡ false → a ≡ true → b ≡ true → c ≡ false
and_rest true true c e p q = e
and_rest true false c e p q = absurd cc
and_rest false b c e p q = absurd cc

same_kinds : (a b : Bool) → differs a b ≡ false → b ≡ true → a ≡ true
same_kinds true b e k = refl
same_kinds false b e k = absurd cc

-- where a directory gets another parent, that has room for its link
room_left : (now : Moment) (t : Tree) (to : ℕ) (n : Node) (name : List ℕ) (source : Object) (moves : Bool)
    (target : Option Object)
    → moves ≡ true → is_directory source.inode.kind ≡ true → (moves && is_none target && nat_le most_links n.inode.nlink) ≡ false
    → given target (is_in_the_way t source) ≡ false → t.nodes to ≡ Some n → HasBounds t
    → IfSome ((replace now to name (option_map replaced_by target) t).nodes to) CanLink
room_left now t to n name source moves (Some o) on directory links way there h =
    let one = differs (is_directory o.inode.kind) (is_directory source.inode.kind) in
    replaced_room (is_directory o.inode.kind) now to name (fileid_at o.place) t
    (same_kinds (is_directory o.inode.kind) (is_directory source.inode.kind)
    (or_false one (is_directory o.inode.kind && has_names t o.place) way).0 directory) h
room_left now t to n name source moves None on directory links way there h =
    of_some CanLink (t.nodes to) n there
    (record { room = leb-false most_links n.inode.nlink (and_rest moves true (nat_le most_links n.inode.nlink) links on refl) })

-- ---- the links of the parents

parents_within : (from to : ℕ) (t : Tree) → IfSome (t.nodes to) CanLink → HasBounds t
    → HasBounds (edit_node to add_link (edit_node from drop_link t))
parents_within from to t room h =
    edit_node_within CanLink (edit_node from drop_link t) to add_link (λ n k. link_more_within to n k.room)
    (edit_node_keeps CanLink t from to drop_link (λ n k. record { room = omega (arith, k.room) }) room)
    (each_node_within t from drop_link (link_less_within from) h)

relink_by : (moves : Bool) (from to : ℕ) (t : Tree) → (moves ≡ true → IfSome (t.nodes to) CanLink) → HasBounds t
    → HasBounds (if moves then edit_node to add_link (edit_node from drop_link t) else t)
relink_by true from to t room h = parents_within from to t (room refl) h
relink_by false from to t room h = h

-- what relinking leaves as it was
keeps_by : (P : Node → Type 0) (moves : Bool) (from to q : ℕ) (t : Tree) → ((n : Node) → P n → P (add_link n))
    → ((n : Node) → P n → P (drop_link n))
    → IfSome (t.nodes q) P → IfSome ((if moves then edit_node to add_link (edit_node from drop_link t) else t).nodes q) P
keeps_by P true from to q t more less h =
    edit_node_keeps P (edit_node from drop_link t) to q add_link more (edit_node_keeps P t from q drop_link less h)
keeps_by P false from to q t more less h = h

-- what replacing leaves as it was, of a node that is not the one that goes
replaced_dir : (b : Bool) (now : Moment) (to : ℕ) (name : List ℕ) (fileid q : ℕ) (t : Tree) → IfSome (t.nodes q) IsDir
    → IfSome ((if b then drop_directory now to name fileid t else remove_file now to name fileid t).nodes q) IsDir
replaced_dir true now to name fileid q t h = drop_directory_keeps IsDir now to name fileid q t (λ n k. k) h
replaced_dir false now to name fileid q t h = remove_file_keeps IsDir now to name fileid q t (λ n k. k) (λ n k. k) h

replace_dir : (now : Moment) (to : ℕ) (name : List ℕ) (r : Option Replaced) (q : ℕ) (t : Tree) → IfSome (t.nodes q) IsDir
    → IfSome ((replace now to name r t).nodes q) IsDir
replace_dir now to name (Some r) q t h = replaced_dir r.is_directory now to name r.fileid q t h
replace_dir now to name None q t h = h

-- ---- the move

renew_by : (moves : Bool) (to : ℕ) (now : Moment) (fileid : ℕ) (n : Node) → (moves ≡ true → IsDir n) → IsNodeWithin fileid n
    → IsNodeWithin fileid (set_ctime now (if moves then set_parent to n else n))
renew_by true to now fileid n is h = ctime_within now fileid (set_parent to n) (parent_within to fileid n (is refl) h)
renew_by false to now fileid n is h = ctime_within now fileid n h

if_moves : (moves : Bool) (o : Option Node) → (moves ≡ true → IfSome o IsDir) → IfSome o (λ n. moves ≡ true → IsDir n)
if_moves moves (Some n) h = h
if_moves moves None h = tt

move_within : (now : Moment) (a : RenameArgs (List ℕ)) (p : RenamePlan) (t : Tree) → IsEntryName p.to a.to.name
    → IfSome (t.nodes p.to) IsOpen
    → (p.reparents ≡ true → IfSome (t.nodes p.fileid) IsDir)
    → (p.reparents ≡ true → IfSome ((replace now p.to a.to.name p.replaced t).nodes p.to) CanLink) → HasBounds t
    → HasBounds (move_node now a p t)
unfolding move_node
move_within now a p t own there directory room h =
    let one = replace now p.to a.to.name p.replaced t in
    let two = relink p one in
    let without = λ (n : Node). touch now (drop_name a.from.name n) in
    let more = λ (n : Node). touch now (add_name a.to.name p.fileid n) in
    let three = edit_node p.from without two in
    let four = edit_node p.to more three in
    let kept : HasBounds three = each_node_within two p.from without
    (λ n k. touch_within now p.from (drop_name a.from.name n) (drop_name_within a.from.name p.from n k))
    (relink_by p.reparents p.from p.to one room (replace_within now p.to a.to.name p.replaced t h)) in
    let still : IfSome (three.nodes p.to) IsOpen = edit_node_keeps IsOpen two p.from p.to without
    (λ n k. record { directory = k.directory; cookies = k.cookies })
    (keeps_by IsOpen p.reparents p.from p.to p.to one (λ n k. record { directory = k.directory; cookies = k.cookies })
    (λ n k. record { directory = k.directory; cookies = k.cookies }) (replace_open now p.to a.to.name p.replaced t there)) in
    let dir : p.reparents ≡ true → IfSome (four.nodes p.fileid) IsDir = λ on.
    edit_node_keeps IsDir three p.to p.fileid more (λ n k. k) (edit_node_keeps IsDir two p.from p.fileid without (λ n k. k)
    (keeps_by IsDir p.reparents p.from p.to p.fileid one (λ n k. k) (λ n k. k)
    (replace_dir now p.to a.to.name p.replaced p.fileid t (directory on)))) in
    edit_node_within (λ n. p.reparents ≡ true → IsDir n) four p.fileid (renew p now) (renew_by p.reparents p.to now p.fileid)
    (if_moves p.reparents (four.nodes p.fileid) dir)
    (edit_node_within IsOpen three p.to more (λ n. name_within a.to.name p.fileid now p.to n own) still kept)

-- ---- RENAME

or_both : (a b : Bool) → a ≡ false → b ≡ false → (a || b) ≡ false
or_both true b e k = absurd cc
or_both false b e k = k

-- what has been found: the directory of the new name, the name itself, and the node that gets it
record IsFound (t : Tree) (a : RenameArgs (List ℕ)) (r : Renaming) : Type 0 where
  directory : ℕ
  node : Node
  at : IsPlace t directory node r.to a.to.name
  own : IsEntryName directory a.to.name
  fileid : ℕ
  moved : Node
  source : IsLive t fileid moved r.source

found : (t : Tree) (cred : Cred) (a : RenameArgs (List ℕ)) (r : Renaming) → find_renaming t cred a ≡ Ok r → IsFound t a r
unfolding find_renaming
found t cred a r e =
    next_of (find_object t a.from.directory) _ r e (λ from one e.
    next_of (find_object t a.to.directory) _ r e (λ to two e.
    past (not (is_directory from.inode.kind)) NotDir _ r e (λ three e.
    past (not (is_directory to.inode.kind)) NotDir _ r e (λ kind e.
    past (not (is_live from.place)) Rofs _ r e (λ four e.
    past (not (is_live to.place)) Rofs _ r e (λ alive e.
    past_fault (name_fault a.from.name) _ r e (λ five e.
    past_fault (name_fault a.to.name) _ r e (λ good e.
    past (is_dots a.from.name || is_dots a.to.name) Inval _ r e (λ dots e.
    past (is_snapshots_name from.place a.from.name || is_snapshots_name to.place a.to.name) Acces _ r e (λ snapshots e.
    past (not (may_alter cred from.inode)) Acces _ r e (λ six e.
    past (not (may_alter cred to.inode)) Acces _ r e (λ seven e.
    past_some (entry_at t from.place a.from.name) NoEnt _ r e (λ entry there e.
    past_some (leads_to t (Live entry.fileid)) NoEnt _ r e (λ source leads e.
    live_found t a.to.directory to two alive (λ directory n is.
    leads_live t entry.fileid source leads (λ m of_source.
    let free = to_live (λ x. is_snapshots_name x.place a.to.name ≡ false) is
    (or_false (is_snapshots_name from.place a.from.name) (is_snapshots_name to.place a.to.name) snapshots).1 in
    ended (IsFound t a) (record { from = from; to = to; source = source; target = target_at t (entry_at t to.place a.to.name) })
    r e (record {
      directory = directory;
      node = n;
      at = record { live = is; kind = live_kind t directory n to is kind; good = good };
      own = record {
        good = good;
        free = or_both (is_dots a.to.name) (is_snapshots_name (Live directory) a.to.name)
            (or_false (is_dots a.from.name) (is_dots a.to.name) dots).1 free;
      };
      fileid = entry.fileid;
      moved = m;
      source = of_source;
    })))))))))))))))))

-- the plan of what was found
abbrev plan_of : Renaming → RenamePlan
plan_of r = record {
  from = fileid_at r.from.place;
  to = fileid_at r.to.place;
  fileid = fileid_at r.source.place;
  is_same = is_same_node r;
  reparents = reparents r;
  replaced = option_map replaced_by r.target;
}

move_done : (t : Tree) (a : RenameArgs (List ℕ)) (now : Moment) (r : Renaming) (u : Unit {0}) → IsFound t a r → HasBounds t
    → need_room t r ≡ Ok u → HasBounds (move_node now a (plan_of r) t)
unfolding need_room
move_done t a now r u is h e =
    next_of (if reparents r then allow_move (climb t.nodes (fileid_at r.source.place) (deepest + 1) (fileid_at r.to.place)) else
    Ok tt) _ u e (λ v way e.
    past (given r.target (is_in_the_way t r.source)) Exist _ u e (λ free e.
    past (reparents r && is_none r.target && nat_le most_links r.to.inode.nlink) MLink _ u e (λ links e.
    let cookies = test_passed (lacks_cookies r.to.inode) NoSpc u e in
    let to = number_is is.at.live in
    let open' : IsOpen is.node = record {
      directory = is.at.kind;
      cookies = leb-false most_numbers is.node.inode.next_cookie (to_live (λ x. lacks_cookies x.inode ≡ false) is.at.live
          cookies);
    } in
    let kind = λ (on : reparents r ≡ true).
    (and_parts (is_directory r.source.inode.kind) (not (fileid_at r.from.place == fileid_at r.to.place)) on).0 in
    move_within now a (plan_of r) t
    (subst (λ (x : ℕ). IsEntryName x a.to.name) (sym to) is.own)
    (subst (λ (x : ℕ). IfSome (t.nodes x) IsOpen) (sym to) (of_some IsOpen (t.nodes is.directory) is.node is.at.live.stands
    open'))
    (λ on. subst (λ (x : ℕ). IfSome (t.nodes x) IsDir) (sym (number_is is.source))
    (of_some IsDir (t.nodes is.fileid) is.moved is.source.stands
    (directory_is is.moved.inode.kind (to_live (λ x. is_directory x.inode.kind ≡ true) is.source (kind on)))))
    (λ on. subst (λ (x : ℕ). IfSome ((replace now x a.to.name (option_map replaced_by r.target) t).nodes x) CanLink) (sym to)
    (room_left now t is.directory is.node a.to.name r.source (reparents r) r.target on (kind on)
    (to_live (λ x. (reparents r && is_none r.target && nat_le most_links x.inode.nlink) ≡ false) is.at.live links) free
    is.at.live.stands h)) h)))

same_or_moved : (same : Bool) (t : Tree) (a : RenameArgs (List ℕ)) (now : Moment) (r : Renaming) (u : Unit {0}) → IsFound t a r
    → HasBounds t
    → (if same then Ok tt else need_room t r) ≡ Ok u → HasBounds (if same then t else move_node now a (plan_of r) t)
same_or_moved true t a now r u is h e = h
same_or_moved false t a now r u is h e = move_done t a now r u is h e

rename_done : (t : Tree) (cred : Cred) (a : RenameArgs (List ℕ)) (now : Moment) (plan : RenamePlan) → HasBounds t
    → rename_plan t cred a ≡ Ok plan → HasBounds (if plan.is_same then t else move_node now a plan t)
unfolding rename_plan
rename_done t cred a now plan h e =
    next_of (find_renaming t cred a) _ plan e (λ r is e.
    next_of (if is_same_node r then Ok tt else need_room t r) _ plan e (λ u room e.
    ended (λ (p : RenamePlan). HasBounds (if p.is_same then t else move_node now a p t)) (plan_of r) plan e
    (same_or_moved (is_same_node r) t a now r u (found t cred a r is) h room)))

pub rename_within : (t : Tree) (cred : Cred) (a : RenameArgs (List ℕ)) (now : Moment) → HasBounds t
    → HasBounds (tree_by t (rename t cred a now))
unfolding rename
rename_within t cred a now h = done_within t (rename_plan t cred a) _ h (λ plan. rename_done t cred a now plan h)
