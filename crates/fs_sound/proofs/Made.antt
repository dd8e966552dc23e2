-- MKDIR, SYMLINK and CREATE: the tree after each of them hangs together.
use Rattle.std.proofs.Common.{◌≡◌, ℕ, ◌+◌, ◌<◌, Bool, true, false, true≢false, not, ◌&&◌, if◌then◌else◌, List}
use Rattle.std.proofs.Common.{[], ◌∷◌, ◌++◌, Option, Some, None, is_some, Ok, refl, sym, ap, subst, ◌∙◌, arith}
use Rattle.nfs3_types.specs.declared.args.CreateArgs.{CreateArgs}
use Rattle.nfs3_types.specs.declared.args.CreateHow.{CreateHow}
use Rattle.nfs3_types.specs.declared.args.MkdirArgs.{MkdirArgs}
use Rattle.nfs3_types.specs.declared.args.SymlinkArgs.{SymlinkArgs}
use Rattle.nfs3_types.specs.declared.cred.Cred.{Cred}
use Rattle.nfs3_types.specs.declared.moment.Moment.{Moment}
use Rattle.nfs3_types.specs.declared.status.Status.TheVariants.{Acces, Exist, Inval, NoSpc}
use Rattle.fs_rules.specs.Answers.{tree_by}
use Rattle.fs_rules.specs.Attributes.{is_directory, is_file, is_too_large}
use Rattle.fs_rules.specs.Checks.{find_object, no_fault, some_or}
use Rattle.fs_rules.specs.Edits.{add_link, add_node, edit_node, give_number}
use Rattle.fs_rules.specs.Listing.{entry}
use Rattle.fs_rules.specs.Making.{Making, create, create_edit, create_plan, gain_name, give_size, is_reserved, make_directory}
use Rattle.fs_rules.specs.Making.{make_directory_plan, make_node, may_reuse, new_directory, new_file, new_link, new_node}
use Rattle.fs_rules.specs.Making.{new_plan, plan_by, reuse_plan, size_over, symlink, symlink_plan}
use Rattle.fs_rules.specs.Names.{named, target_fault}
use Rattle.fs_rules.specs.Places.{Object, entry_at, fileid_at, leads_to}
use Rattle.fs_rules.specs.Renaming.{parent_of}
use Rattle.fs_rules.specs.Rights.{may_search}
use Rattle.fs_rules.specs.Setting.{lacks_cuts}
use Rattle.fs_rules.specs.Sound.{HangTogether, IsLinked, IsSound, LeadsUp, count_in, count_names, is_some_directory}
use Rattle.fs_rules.specs.Sound.{subdirectories}
use Rattle.fs_rules.specs.Transfers.{may_fill}
use Rattle.fs_rules.specs.Tree.{Node, Nodes, Tree, next_fileid}
use Rattle.fs_rules.specs.declared.name_entry.NameEntry.{NameEntry}
use Rattle.fs_rules.specs.declared.place.Place.TheVariants.{Live}
use Rattle.fs_rules.specs.declared.plans.CreatePlan.{CreatePlan}
use Rattle.fs_rules.specs.declared.plans.NewPlan.{NewPlan}
use Rattle.fs_laws.proofs.Copies.{done_has}
use Rattle.fs_laws.proofs.MakingWithin.{plan_at}
use Rattle.fs_laws.proofs.Places.{number_is}
use Rattle.fs_sound.proofs.Checked.{IsLiveDirectory, both, directory_ok, entry_of, passed, place_ok}
use Rattle.fs_sound.proofs.Counts.{counts_one, named_lacks, one_if, subdirectories_but, subdirectories_nil}
use Rattle.fs_sound.proofs.Edited.{add_elsewhere, add_here, at_elsewhere, at_here}
use Rattle.fs_sound.proofs.Facts.{next_free, next_other, none_named, none_named_in, placed, there_below}
use Rattle.fs_sound.proofs.Grown.{Grows, all_own, free_ok, grown_hangs, kind_kept, names_grown, ok_is, parent_kept, step}
use Rattle.fs_sound.proofs.Kept.{given_size_hangs}
use Rattle.fs_sound.proofs.Up.{up_added, up_below}

-- ---- a node where none was: a directory has two links and this parent, and what is no directory has one link

pub record IsFresh (d : ℕ) (n : Node) : Type 0 where
  pub parent : is_directory n.inode.kind ≡ true → n.inode.parent ≡ d
  pub links : n.inode.nlink ≡ 1 + one_if (is_directory n.inode.kind)

module _ (nodes after : Nodes) (d x : ℕ) (g : Grows nodes after d x) (h : HangTogether nodes) (free : nodes x ≡ None)
    (fresh : IsFresh d g.target) where
  up_grown : (id : ℕ) → LeadsUp nodes id → LeadsUp after id
  up_grown id u = up_added nodes after x free g.other (parent_kept nodes after d x g) id u

  below_grown : (id : ℕ) (n : Node) → nodes id ≡ Some n → subdirectories nodes n.names ≡ subdirectories after n.names
  below_grown id n is =
      subdirectories_but nodes after x n.names (kind_kept nodes after d x g)
      (sym (ap (λ (o : Option Node). count_in o x) is) ∙ none_named_in nodes x id h free)

  once_there : count_names after x ≡ 1
  once_there = all_own nodes after d x g ∙ ap (λ (k : ℕ). k + 1) (none_named nodes x h free)

  once_in : count_in (after d) x ≡ 1
  once_in = omega (arith, names_grown nodes after d x g x, none_named_in nodes x d h free, counts_one x x refl)

  stands : is_directory g.target.inode.kind ≡ true → parent_of (after x) x ≡ d
  stands dir = ap (λ (o : Option Node). parent_of o x) g.led ∙ fresh.parent dir

  fresh_linked : (b : Bool) → is_directory g.target.inode.kind ≡ b → IsLinked b after x g.target
  fresh_linked true dir = record {
    links = omega (arith, fresh.links, ap one_if dir, ap (subdirectories after) g.nothing, subdirectories_nil after);
    up = up_below after x d (stands dir) (up_grown d (placed nodes d g.before h g.was g.directory).up);
    parent = λ apart. record { once = once_there; there = ap (λ (k : ℕ). count_in (after k) x) (fresh.parent dir) ∙ once_in };
  }
  fresh_linked false dir = record {
    count = omega (arith, once_there, fresh.links, ap one_if dir);
    some = omega (arith, fresh.links);
  }

  pub added_hangs : HangTogether after
  added_hangs = grown_hangs nodes after d x g h up_grown below_grown (fresh_linked (is_directory g.target.inode.kind) refl)

-- ---- what the checks say: the directory is there, the name is free, and the number is the lane's next

pub record IsFree (t : Tree) (lane : ℕ) (name : List ℕ) (plan : NewPlan) : Type 0 where
  pub directory : Node
  pub is : t.nodes plan.directory ≡ Some directory
  pub kind : is_directory directory.inode.kind ≡ true
  pub free : named name directory.names ≡ None
  pub next : plan.fileid ≡ next_fileid t lane

-- a free name in a live directory, and the number that the lane gives
free_plan : (t : Tree) (lane : ℕ) (name : List ℕ) (o : Object) → IsLiveDirectory t o → entry_at t o.place name ≡ None
    → IsFree t lane name (plan_at t lane (fileid_at o.place))
free_plan t lane name o l free =
    subst (λ (x : ℕ). IsFree t lane name (plan_at t lane x)) (sym (number_is l.live)) (record {
      directory = l.node.node;
      is = l.stands.is;
      kind = l.stands.kind;
      free = sym (entry_of t o l name) ∙ free;
      next = refl;
    })

make_directory_ok : (t : Tree) (cred : Cred) (a : MkdirArgs (List ℕ)) (lane : ℕ) (o : Object) (plan : NewPlan)
    → find_object t a.place.directory ≡ Ok o → make_directory_plan t cred a lane o ≡ Ok plan → IsFree t lane a.place.name plan
unfolding make_directory_plan
make_directory_ok t cred a lane o plan is e =
    let place = both _ _ plan e in
    let search = step _ _ _ plan place.rest in
    let name = both _ _ plan search.1 in
    let room = both {A = Unit {0}} _ (λ u. Ok (plan_at t lane (fileid_at o.place))) plan name.rest in
    subst (IsFree t lane a.place.name) (ok_is (plan_at t lane (fileid_at o.place)) plan room.rest)
    (free_plan t lane a.place.name o (place_ok t a.place.directory o a.place.name place.value is place.first)
    (free_ok t cred o a.place.name name.value name.first))

symlink_ok : (t : Tree) (cred : Cred) (a : SymlinkArgs (List ℕ)) (lane : ℕ) (plan : NewPlan)
    → symlink_plan t cred a lane ≡ Ok plan
    → IsFree t lane a.place.name plan
unfolding symlink_plan
symlink_ok t cred a lane plan e =
    let directory = both _ _ plan e in
    let o = directory.value in
    let search = step _ _ _ plan directory.rest in
    let name = both _ _ plan search.1 in
    let target = both (no_fault (target_fault a.target)) _ plan name.rest in
    let room = both {A = Unit {0}} _ (λ u. Ok (plan_at t lane (fileid_at o.place))) plan target.rest in
    subst (IsFree t lane a.place.name) (ok_is (plan_at t lane (fileid_at o.place)) plan room.rest)
    (free_plan t lane a.place.name o (directory_ok t a.place o directory.first)
    (free_ok t cred o a.place.name name.value name.first))

-- ---- the tree after it

part_linked : {A : Type 0} (part : Node → A) (b : Bool) (n : Node) → part (add_link n) ≡ part n
    → part (if b then add_link n else n) ≡ part n
part_linked part true n e = e
part_linked part false n e = refl

links_linked : (b : Bool) (n : Node) → (if b then add_link n else n).inode.nlink ≡ n.inode.nlink + one_if b
links_linked true n = refl
links_linked false n = omega arith

two_or_one : (b : Bool) → (if b then 2 else 1) ≡ 1 + one_if b
two_or_one true = refl
two_or_one false = refl

own_parent : (b : Bool) (parent : ℕ) → b ≡ true → (if b then parent else 0) ≡ parent
own_parent true parent h = refl
own_parent false parent h = absurd cc

some_none : (nodes : Nodes) (x d : ℕ) (n : Node) → nodes x ≡ None → nodes d ≡ Some n → x ≡ d → ⊥
some_none nodes x d n none is same =
    true≢false (sym (ap is_some is) ∙ sym (ap (λ (k : ℕ). is_some (nodes k)) same) ∙ ap is_some none)

-- the new node is in no directory yet
abbrev with_new : Cred → Moment → ℕ → NewPlan → Making → Tree → Tree
with_new cred now lane plan m t = add_node plan.fileid (new_node cred now plan.directory m) (give_number lane t)

module _ (t : Tree) (cred : Cred) (now : Moment) (lane : ℕ) (plan : NewPlan) (name : List ℕ) (m : Making) (low : lane < 16)
    (s : IsSound t) (f : IsFree t lane name plan) where
  new_none : t.nodes plan.fileid ≡ None
  new_none = ap t.nodes f.next ∙ next_free t lane low s.bounds

  new_apart : plan.fileid ≡ plan.directory → ⊥
  new_apart is = some_none t.nodes plan.fileid plan.directory f.directory new_none f.is is

  new_kept : (id : ℕ) → (id ≡ plan.fileid → ⊥) → (with_new cred now lane plan m t).nodes id ≡ t.nodes id
  unfolding give_number
  new_kept id other = add_elsewhere plan.fileid id (new_node cred now plan.directory m) (give_number lane t) other

  made_new : (make_node cred now lane plan name m t).nodes plan.fileid ≡ Some (new_node cred now plan.directory m)
  unfolding make_node
  made_new =
      at_elsewhere plan.directory plan.fileid (gain_name m.kind name plan.fileid now) (with_new cred now lane plan m t) new_apart
      ∙ add_here plan.fileid (new_node cred now plan.directory m) (give_number lane t)

  made_directory : (make_node cred now lane plan name m t).nodes plan.directory ≡ Some
      (gain_name m.kind name plan.fileid now f.directory)
  unfolding make_node
  made_directory =
      at_here plan.directory (gain_name m.kind name plan.fileid now) (with_new cred now lane plan m t) f.directory
      (new_kept plan.directory (λ is. new_apart (sym is)) ∙ f.is)

  made_kept : (id : ℕ) → (id ≡ plan.fileid → ⊥) → (id ≡ plan.directory → ⊥)
      → (make_node cred now lane plan name m t).nodes id ≡ t.nodes id
  unfolding make_node
  made_kept id other apart =
      at_elsewhere plan.directory id (gain_name m.kind name plan.fileid now) (with_new cred now lane plan m t) apart ∙ new_kept
      id other

  made_grows : Grows t.nodes (make_node cred now lane plan name m t).nodes plan.directory plan.fileid
  unfolding new_node
  made_grows =
      let b : Bool = is_directory m.kind in
      let e : NameEntry = record {
        cookie = (if b then add_link f.directory else f.directory).inode.next_cookie;
        name = name;
        fileid = plan.fileid;
      } in
      record {
        before = f.directory;
        grown = gain_name m.kind name plan.fileid now f.directory;
        cookie = e.cookie;
        name = name;
        low = there_below t t.nodes plan.directory f.directory s.bounds s.bounds.live f.is;
        was = f.is;
        is = made_directory;
        directory = f.kind;
        kind = part_linked (λ n. n.inode.kind) b f.directory refl;
        parent = part_linked (λ n. n.inode.parent) b f.directory refl;
        names = ap (λ (names : List NameEntry). names ++ (e ∷ [])) (part_linked (λ n. n.names) b f.directory refl);
        lacks = named_lacks name f.directory f.free;
        links = links_linked b f.directory ∙ ap (λ (k : Bool). f.directory.inode.nlink + one_if k)
            (sym (ap is_some_directory made_new));
        target = new_node cred now plan.directory m;
        led = made_new;
        nothing = refl;
        nameless = λ id. ap (λ (o : Option Node). count_in o id) new_none;
        apart = new_apart;
        other = λ is. next_other t lane low s.bounds (sym f.next ∙ is);
        rest = made_kept;
      }

  new_fresh : IsFresh plan.directory (new_node cred now plan.directory m)
  unfolding new_node
  new_fresh = record { parent = own_parent (is_directory m.kind) plan.directory; links = two_or_one (is_directory m.kind) }

  made_hangs : HangTogether (make_node cred now lane plan name m t).nodes
  unfolding made_grows
  made_hangs =
      added_hangs t.nodes (make_node cred now lane plan name m t).nodes plan.directory plan.fileid made_grows s.live new_none
      new_fresh

-- ---- MKDIR and SYMLINK

pub make_directory_hangs : (t : Tree) (cred : Cred) (a : MkdirArgs (List ℕ)) (now : Moment) (lane : ℕ) (o : Object) → lane < 16
    → IsSound t
    → find_object t a.place.directory ≡ Ok o → HangTogether (tree_by t (make_directory t cred a now lane o)).nodes
unfolding make_directory
make_directory_hangs t cred a now lane o low s found =
    done_has (λ (x : Tree). HangTogether x.nodes) t (make_directory_plan t cred a lane o) _ s.live (λ plan is.
    made_hangs t cred now lane plan a.place.name (new_directory a.attributes) low s
    (make_directory_ok t cred a lane o plan found is))

pub symlink_hangs : (t : Tree) (cred : Cred) (a : SymlinkArgs (List ℕ)) (now : Moment) (lane : ℕ) → lane < 16 → IsSound t
    → HangTogether (tree_by t (symlink t cred a now lane)).nodes
unfolding symlink
symlink_hangs t cred a now lane low s =
    done_has (λ (x : Tree). HangTogether x.nodes) t (symlink_plan t cred a lane) _ s.live (λ plan is.
    made_hangs t cred now lane plan a.place.name (new_link a.attributes a.target) low s (symlink_ok t cred a lane plan is))

-- ---- CREATE

-- what a plan for a new file says
abbrev new_of : CreatePlan → NewPlan
new_of plan = record { directory = plan.directory; fileid = plan.fileid }

record IsFreeIn (t : Tree) (lane : ℕ) (name : List ℕ) (plan : CreatePlan) : Type 0 where
  is : plan.is_new ≡ true → IsFree t lane name (new_of plan)

reuse_ok : (t : Tree) (cred : Cred) (lane : ℕ) (name : List ℕ) (o : Object) (e : NameEntry) (how : CreateHow) (plan : CreatePlan)
    → reuse_plan t cred o e how ≡ Ok plan → IsFreeIn t lane name plan
unfolding reuse_plan
reuse_ok t cred lane name o entry how plan e =
    let file = both (some_or (leads_to t (Live entry.fileid)) Exist) _ plan e in
    let kind = step (not (is_file file.value.inode.kind)) Exist _ plan file.rest in
    let own = step (not (may_reuse how file.value.inode)) Exist _ plan kind.1 in
    let may = step (is_some (size_over how) && not (may_fill cred file.value.inode)) Acces _ plan own.1 in
    let low = step (is_too_large (size_over how)) Inval _ plan may.1 in
    let old : CreatePlan =
    record { directory = fileid_at o.place; fileid = entry.fileid; is_new = false; size = size_over how } in
    let cuts = step (lacks_cuts (size_over how) file.value) NoSpc (Ok old) plan low.1 in
    let same : old ≡ plan = ok_is old plan cuts.1 in
    record { is = λ new. absurd (true≢false (sym new ∙ sym (ap (λ (p : CreatePlan). p.is_new) same))) }

new_ok : (t : Tree) (cred : Cred) (lane : ℕ) (name : List ℕ) (o : Object) (how : CreateHow) (plan : CreatePlan)
    → IsLiveDirectory t o
    → entry_at t o.place name ≡ None → new_plan t cred o how lane ≡ Ok plan → IsFreeIn t lane name plan
unfolding new_plan
new_ok t cred lane name o how plan l free e =
    let right = step _ _ _ plan e in
    let new : CreatePlan = record { directory = fileid_at o.place; fileid = next_fileid t lane; is_new = true; size = None } in
    let room = both {A = Unit {0}} _ (λ u. Ok new) plan right.1 in
    subst (IsFreeIn t lane name) (ok_is new plan room.rest) (record { is = λ _. free_plan t lane name o l free })

plan_by_ok : (t : Tree) (cred : Cred) (o : Object) (x : Option NameEntry) (how : CreateHow) (lane : ℕ) (name : List ℕ)
    (plan : CreatePlan)
    → IsLiveDirectory t o → entry_at t o.place name ≡ x → plan_by t cred o x how lane ≡ Ok plan → IsFreeIn t lane name plan
plan_by_ok t cred o (Some x) how lane name plan l is e = reuse_ok t cred lane name o x how plan e
plan_by_ok t cred o None how lane name plan l is e = new_ok t cred lane name o how plan l is e

create_ok : (t : Tree) (cred : Cred) (a : CreateArgs (List ℕ)) (lane : ℕ) (plan : CreatePlan)
    → create_plan t cred a lane ≡ Ok plan
    → IsFreeIn t lane a.place.name plan
unfolding create_plan
create_ok t cred a lane plan e =
    let directory = both _ _ plan e in
    let o = directory.value in
    let search = passed (not (may_search cred o.inode)) Acces _ plan directory.rest in
    let name = passed (is_reserved o a.place.name) Exist _ plan search.1 in
    plan_by_ok t cred directory.value (entry_at t directory.value.place a.place.name) a.how lane a.place.name plan
    (directory_ok t a.place directory.value directory.first) refl name.1

created_by : (b : Bool) (x y : Tree) → (b ≡ true → HangTogether x.nodes) → HangTogether y.nodes
    → HangTogether (if b then x else y).nodes
created_by true x y h k = h refl
created_by false x y h k = k

created_hangs : (t : Tree) (cred : Cred) (a : CreateArgs (List ℕ)) (now : Moment) (lane : ℕ) (plan : CreatePlan) → lane < 16
    → IsSound t
    → IsFreeIn t lane a.place.name plan → HangTogether (create_edit t cred a now lane plan).nodes
unfolding create_edit
created_hangs t cred a now lane plan low s f =
    created_by plan.is_new (make_node cred now lane (new_of plan) a.place.name (new_file a.how) t)
    (edit_node plan.fileid (give_size plan.size now) t)
    (λ new. made_hangs t cred now lane (new_of plan) a.place.name (new_file a.how) low s (f.is new))
    (given_size_hangs t plan.fileid plan.size now s.live)

pub create_hangs : (t : Tree) (cred : Cred) (a : CreateArgs (List ℕ)) (now : Moment) (lane : ℕ) → lane < 16 → IsSound t
    → HangTogether (tree_by t (create t cred a now lane)).nodes
unfolding create
create_hangs t cred a now lane low s =
    done_has (λ (x : Tree). HangTogether x.nodes) t (create_plan t cred a lane) _ s.live (λ plan is.
    created_hangs t cred a now lane plan low s (create_ok t cred a lane plan is))
