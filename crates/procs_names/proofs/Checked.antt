-- The table's plans, taken apart into what is asked before a name is looked up, the look-up, and what is asked behind it.
use Rattle.std.proofs.Common.{◌≡◌, ◌∙◌, ℕ, ◌≤◌, nat_lt, Bool, true, false, not, if◌then◌else◌, List, length, refl, sym, ap}
use Rattle.std.proofs.Common.{subst, Option, Some, None, Ok, Err}
use Rattle.std.specs.Prelude.{◌==◌, option_map, IsSome}
use Rattle.std.proofs.lemmas.Bool.{ltb-false}
use Rattle.nfs3_types.specs.declared.args.DirOp.{DirOp}
use Rattle.nfs3_types.specs.declared.attributes.Fattr.{Fattr}
use Rattle.nfs3_types.specs.declared.cred.Cred.{Cred}
use Rattle.nfs3_types.specs.declared.handle.Handle.{Handle}
use Rattle.nfs3_types.specs.declared.status.Status.{Status}
use Rattle.nfs3_types.specs.declared.status.Status.TheVariants.{Acces, BadHandle, Inval, IsDir, NameTooLong, NoEnt, Stale}
use Rattle.nfs3_types.specs.Handles.{handle_in}
use Rattle.fs_rules.specs.declared.inode.Inode.{Inode}
use Rattle.fs_rules.specs.declared.name_entry.NameEntry.{NameEntry}
use Rattle.fs_rules.specs.declared.place.Place.{Place}
use Rattle.fs_rules.specs.declared.place.Place.TheVariants.{Kept, Live, SnapshotDirectory}
use Rattle.fs_rules.specs.declared.plans.RemovePlan.{RemovePlan}
use Rattle.fs_rules.specs.Attributes.{attributes_of, is_directory}
use Rattle.fs_rules.specs.Checks.{Check, ◌>>=◌, find_directory, find_object, is_live, refuse_if, some_or}
use Rattle.fs_rules.specs.Limits.{longest_name}
use Rattle.fs_rules.specs.Names.{is_dots, name_fault, named}
use Rattle.fs_rules.specs.Places.{Object, attributes, entry_at, fileid_at, fsid_at, is_snapshots_name, leads_to, names_of}
use Rattle.fs_rules.specs.Places.{node_at, object_at, object_by, object_of, place_of, shown}
use Rattle.fs_rules.specs.Removing.{find_removable, may_alter, remove_plan}
use Rattle.fs_rules.specs.Sound.{IsSound}
use Rattle.fs_rules.specs.Tree.{Node, Tree}
use Rattle.procs_object.specs.declared.object.Found.{Found}
use Rattle.fs_rules.specs.Snapshots.{is_snapshot_directory}
use Rattle.procs_object.specs.Finding.{IsObject}
use Rattle.procs_object.proofs.Told.{object-inode, object-place}
use Rattle.procs_names.proofs.Readied.{bare_of}
use Rattle.procs_names.specs.Naming.{IsRemoval, child_at, need_alterable, need_removable, removal_of, seen}

-- ---- names and places

short_by : (b c : Bool) (n most : ℕ) → nat_lt most n ≡ c
    → (if b then Some Inval else (if c then Some NameTooLong else None)) ≡ None → n ≤ most
short_by true c n most at is = absurd (cc)
short_by false true n most at is = absurd (cc)
short_by false false n most at is = ltb-false most n at

-- a name without fault is short
pub short_named : (name : List ℕ) → name_fault name ≡ None → length name ≤ longest_name
unfolding name_fault
short_named name is = short_by _ (nat_lt longest_name (length name)) (length name) longest_name refl is

pub live_place : (p : Place) → is_live p ≡ true → p ≡ Live (fileid_at p)
live_place (Live id) live = refl
live_place SnapshotDirectory live = absurd (cc)
live_place (Kept number id) live = absurd (cc)

-- ---- what was found

module _ (t : Tree) (x : Found) (o : Object) (is : IsObject t x o) where
  -- the attributes at its place
  pub found_shown : shown t x.place ≡ Some x.attributes
  unfolding shown object_at
  found_shown =
      ap (λ (n : Option Node). option_map (attributes t) (option_map (object_by x.place) n)) is.there
      ∙ ap (λ (o : Object). Some (attributes t o)) (sym is.is) ∙ ap (λ (a : Fattr). Some a) is.attributes

  module _ (live : is_live x.place ≡ true) where
    pub found_place : o.place ≡ Live (fileid_at x.place)
    found_place = object-place t x o is ∙ live_place x.place live

    pub found_fsid : t.fsid ≡ x.attributes.fsid
    unfolding attributes attributes_of
    found_fsid =
        sym (ap (λ (p : Place). fsid_at t p) found_place) ∙ ap (λ (a : Fattr). a.fsid) is.attributes

    pub live_shown : shown t (Live (fileid_at x.place)) ≡ Some x.attributes
    live_shown = ap (λ (p : Place). shown t p) (sym (live_place x.place live)) ∙ found_shown

    pub found_node : t.nodes (fileid_at x.place) ≡ Some is.node
    unfolding node_at
    found_node = ap (λ (p : Place). node_at t p) (sym (live_place x.place live)) ∙ is.there

    pub found_kind : (b : Bool) → is_directory x.inode.head.kept.kind ≡ b → is_directory is.node.inode.kind ≡ b
    found_kind b kind = ap (λ (i : Inode). is_directory i.kind) (sym is.inode.kept) ∙ kind

-- the entries of a live directory
pub entry_here : (t : Tree) (id : ℕ) (n : Node) (name : List ℕ) → t.nodes id ≡ Some n → entry_at t (Live id) name ≡ named name
    n.names
unfolding entry_at node_at
entry_here t id n name is = ap (λ (o : Option Node). named name (names_of o)) is

has_some : (o : Option NameEntry) (status : Status) (next : NameEntry → Check Object) (b : Object)
    → (some_or o status >>= next) ≡ Ok b → IsSome o
has_some (Some e) status next b is = refl
has_some None status next b is = absurd (cc)

-- what has a child has its name
pub child_named : (t : Tree) (id : ℕ) (n : Node) (name : List ℕ) (o : Object) → t.nodes id ≡ Some n
    → child_at t (Live id) name ≡ Ok o → IsSome (named name n.names)
unfolding child_at
child_named t id n name o is to =
    let P : Option NameEntry → Type 0 = λ e. IsSome e in
    subst P (entry_here t id n name is) (has_some (entry_at t (Live id) name) NoEnt _ o to)

-- what a handle leads to, as it was found
abbrev pub IsSeen : List ℕ → Found → Tree → Type 0
IsSeen handle x t = (o : Object) × (find_object t handle ≡ Ok o) × IsObject t x o

-- what the name leads to, as it was found
abbrev pub IsChild : ℕ → List ℕ → Found → Tree → Type 0
IsChild id name y t = (o : Object) × (child_at t (Live id) name ≡ Ok o) × IsObject t y o

-- the directory and the name, as they are looked at
abbrev pub place_in : DirOp (List ℕ) → DirOp (List ℕ)
place_in a = record { directory = a.directory; name = a.name }

-- the directory of a name, as it was found
abbrev pub IsPlaceOf : DirOp (List ℕ) → Found → Tree → Type 0
IsPlaceOf a x t = (o : Object) × (find_directory t (place_in a) ≡ Ok o) × IsObject t x o

-- ---- checks one after another

two : {B : Type 0} (a b : Bool) (s r : Status) (rest : Check B)
    → (refuse_if a s >>= (λ _. refuse_if b r >>= (λ _. rest))) ≡ ((refuse_if a s >>= (λ _. refuse_if b r)) >>= (λ _. rest))
two true b s r rest = refl
two false true s r rest = refl
two false false s r rest = refl

-- ---- REMOVE and RMDIR

pub find_steps : (t : Tree) (cred : Cred) (d : Object) (name : List ℕ)
    → find_removable t cred d name ≡ (need_alterable cred d name >>= (λ _. child_at t d.place name))
unfolding find_removable need_alterable child_at
find_steps t cred d name =
    two (is_snapshots_name d.place name) (not (may_alter cred d.inode)) Acces Acces
    (some_or (entry_at t d.place name) NoEnt >>= (λ e. some_or (leads_to t (Live e.fileid)) NoEnt))

abbrev pub remove_last : Object → Object → Check RemovePlan
remove_last d o =
    refuse_if (is_directory o.inode.kind) IsDir >>= (λ _. Ok
    (record { directory = fileid_at d.place; fileid = fileid_at o.place }))

remove_flat : (b : Bool) (q : Check (Unit {0})) (c : Check Object) (last : Object → Check RemovePlan)
    → (refuse_if b Inval >>= (λ _. (q >>= (λ _. c)) >>= last)) ≡ ((refuse_if b Inval >>= (λ _. q)) >>= (λ _. c >>= last))
remove_flat true q c last = refl
remove_flat false (Err status) c last = refl
remove_flat false (Ok v) c last = refl

abbrev remove_next : Tree → Cred → List ℕ → Object → Check RemovePlan
remove_next t cred name d =
    refuse_if (is_dots name) Inval >>= (λ _. find_removable t cred d name >>= remove_last d)

pub remove_halted : (t : Tree) (cred : Cred) (a : DirOp (List ℕ)) (status : Status) → find_directory t (place_in a) ≡ Err status
    → remove_plan t cred a ≡ Err status
unfolding remove_plan find_directory
remove_halted t cred a status refused = ap (λ (c : Check Object). c >>= remove_next t cred a.name) refused

module _ (t : Tree) (cred : Cred) (a : DirOp (List ℕ)) (x : Found) (d : Object) (found : find_directory t (place_in a) ≡ Ok d)
    (is : IsObject t x d) where
  remove_steps : remove_plan t cred a ≡ (need_removable cred d a.name >>= (λ _. child_at t d.place a.name >>= remove_last d))
  unfolding remove_plan find_directory need_removable
  remove_steps =
      ap (λ (c : Check Object). c >>= remove_next t cred a.name) found
      ∙ ap (λ (r : Check Object). refuse_if (is_dots a.name) Inval >>= (λ _. r >>= remove_last d)) (find_steps t cred d a.name)
      ∙ remove_flat (is_dots a.name) (need_alterable cred d a.name) (child_at t d.place a.name) (remove_last d)

  removable_seen : need_removable cred d a.name ≡ need_removable cred (seen x) a.name
  unfolding need_removable need_alterable
  removable_seen =
      ap (λ (p : Place). need_removable cred (record { place = p; inode = d.inode; size = x.inode.head.size }) a.name)
      (object-place t x d is)
      ∙ ap (λ (i : Inode). need_removable cred (record { place = x.place; inode = i; size = x.inode.head.size }) a.name)
      (object-inode t x d is)

  -- what is asked before refuses
  pub remove_refused : (status : Status) → need_removable cred (seen x) a.name ≡ Err status → remove_plan t cred a ≡ Err status
  remove_refused status refused =
      remove_steps
      ∙ ap (λ (p : Check (Unit {0})). p >>= (λ _. child_at t d.place a.name >>= remove_last d)) (removable_seen ∙ refused)

  module _ (asked : need_removable cred (seen x) a.name ≡ Ok tt) (live : is_live x.place ≡ true) where
    remove_looks : remove_plan t cred a ≡ (child_at t (Live (fileid_at x.place)) a.name >>= remove_last d)
    remove_looks =
        remove_steps
        ∙ ap (λ (p : Check (Unit {0})). p >>= (λ _. child_at t d.place a.name >>= remove_last d)) (removable_seen ∙ asked)
        ∙ ap (λ (p : Place). child_at t p a.name >>= remove_last d) (found_place t x d is live)

    -- the name leads nowhere
    pub remove_lacks : (status : Status) → child_at t (Live (fileid_at x.place)) a.name ≡ Err status
        → remove_plan t cred a ≡ Err status
    remove_lacks status refused = remove_looks ∙ ap (λ (c : Check Object). c >>= remove_last d) refused

    module _ (y : Found) (o : Object) (to : child_at t (Live (fileid_at x.place)) a.name ≡ Ok o) (of : IsObject t y o) where
      pub remove_ends : (b : Bool) → is_directory y.inode.head.kept.kind ≡ b
          → remove_plan t cred a ≡ (refuse_if b IsDir >>= (λ _. Ok (removal_of x y).plan))
      remove_ends b kind =
          remove_looks
          ∙ ap (λ (c : Check Object). c >>= remove_last d) to
          ∙ ap (λ (p : Place). refuse_if (is_directory o.inode.kind) IsDir
          >>= (λ _. Ok (record { directory = fileid_at p; fileid = fileid_at o.place }))) (object-place t x d is)
          ∙ ap (λ (p : Place). refuse_if (is_directory o.inode.kind) IsDir
          >>= (λ _. Ok (record { directory = fileid_at x.place; fileid = fileid_at p }))) (object-place t y o of)
          ∙ ap (λ (b : Bool). refuse_if b IsDir >>= (λ _. Ok (removal_of x y).plan))
          (ap (λ (i : Inode). is_directory i.kind) (object-inode t y o of) ∙ kind)

      -- the plan is made
      pub remove_plans : IsSound t → is_directory x.inode.head.kept.kind ≡ true → is_live y.place ≡ true
          → is_directory y.inode.head.kept.kind ≡ false
          → (plan : RemovePlan) × (remove_plan t cred a ≡ Ok plan) × IsRemoval a.name t (removal_of x y) plan
      remove_plans sound dir lives plain =
          let goes = found_node t y o of lives in (
            (removal_of x y).plan,
            remove_ends false plain,
            record {
              is = refl;
              before = live_shown t x d is live;
              above = is.node;
              directory = found_node t x d is live;
              kind = found_kind t x d is live true dir;
              has = child_named t (fileid_at x.place) is.node a.name o (found_node t x d is live) to;
              within = of.node;
              goes = goes;
              bare = bare_of t sound (fileid_at y.place) of.node goes (found_kind t y o of lives false plain);
            },
          )
