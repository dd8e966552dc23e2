-- The row of RMDIR in `.snapshot`.
use Rattle.std.proofs.Common.{◌≡◌, ◌∙◌, ℕ, ◌+◌, ◌-◌, Bool, true, false, not, if◌then◌else◌, List, [], ◌∷◌, length, map, refl, sym, ap}
use Rattle.std.proofs.Common.{subst, Option, Some, None, Ok, Err, arith}
use Rattle.std.specs.Prelude.{◌==◌, filter, find, is_some, option_map}
use Rattle.std.specs.Str.{bytes_eq}
use Rattle.nfs3_types.specs.declared.args.DirOp.{DirOp}
use Rattle.nfs3_types.specs.declared.attributes.Fattr.{Fattr}
use Rattle.nfs3_types.specs.declared.attributes.Wcc.{Wcc}
use Rattle.nfs3_types.specs.declared.body.Body.TheVariants.{Rmdir}
use Rattle.nfs3_types.specs.declared.cred.Cred.{Cred}
use Rattle.nfs3_types.specs.declared.moment.Moment.{Moment}
use Rattle.nfs3_types.specs.declared.status.Status.{Status}
use Rattle.nfs3_types.specs.declared.status.Status.TheVariants.{Acces, Exist, Inval, NoEnt}
use Rattle.pairs.proofs.VersionsLaws.{same-is}
use Rattle.fs_rules.specs.declared.name_entry.NameEntry.{NameEntry}
use Rattle.fs_rules.specs.declared.place.Place.{Place}
use Rattle.fs_rules.specs.declared.place.Place.TheVariants.{Live, SnapshotDirectory, Kept}
use Rattle.fs_rules.specs.declared.times.Times.{Times}
use Rattle.fs_rules.specs.Attributes.{attributes_of, size_of, wcc_of}
use Rattle.fs_rules.specs.Checks.{Check, Row, ◌>>=◌, done, find_object, need, no_fault, refuse_if}
use Rattle.fs_rules.specs.Names.{has_name, is_dot, is_dot_dot, name_fault, named}
use Rattle.fs_rules.specs.Places.{Object, attributes, change, entry_at, node_at, object_at, shown, snapshot_directory}
use Rattle.fs_rules.specs.Places.{snapshot_entry}
use Rattle.fs_rules.specs.Removing.{remove_directory}
use Rattle.fs_rules.specs.Snapshots.{drop_named, drop_snapshot, has_snapshot, is_snapshot_directory, need_snapshot, rmdir}
use Rattle.fs_rules.specs.Snapshots.{touch_times}
use Rattle.fs_rules.specs.Sound.{AreDistinct, IsSound, Lacks}
use Rattle.fs_rules.specs.Tree.{Snapshot, Tree, root_inode}
use Rattle.fs_shows.proofs.NameLists.{all-tail}
use Rattle.snap_ops.specs.Dropping.{IsNamed}
use Rattle.procs_object.specs.declared.object.Found.{Found}
use Rattle.procs_object.specs.Finding.{IsObject, says_snapshots}
use Rattle.procs_object.proofs.Told.{object-place}
use Rattle.procs_object.proofs.Saying.{place_says}
use Rattle.procs_names.specs.declared.dropping.Dropping.{Dropping}
use Rattle.procs_names.specs.Naming.{IsDropping, drop_check, fileid_of, need_droppable}
use Rattle.procs_names.specs.Readying.{touched_less}
use Rattle.procs_names.proofs.Checked.{found_shown}

-- ---- what is asked

flat : (f : Option Status) (a b c d : Bool)
    → (no_fault f >>= (λ _. refuse_if a Inval >>= (λ _. refuse_if b Exist >>= (λ _. need c Acces >>= (λ _. need d NoEnt)))))
    ≡ ((no_fault f >>= (λ _. refuse_if a Inval >>= (λ _. refuse_if b Exist >>= (λ _. need c Acces)))) >>= (λ _. need d NoEnt))
flat (Some status) a b c d = refl
flat None true b c d = refl
flat None false true c d = refl
flat None false false true d = refl
flat None false false false d = refl

number-there : (o : Option NameEntry) → is_some o ≡ is_some (option_map fileid_of o)
number-there None = refl
number-there (Some e) = refl

module _ (t : Tree) (cred : Cred) (a : DirOp (List ℕ)) where
  pub drop-halted : (status : Status) → find_object t a.directory ≡ Err status → drop_check t cred a ≡ Err status
  unfolding drop_check
  drop-halted status refused = ap (λ (c : Check Object). c >>= (λ _. need_snapshot t cred a.name)) refused

  module _ (o : Object) (found : find_object t a.directory ≡ Ok o) where
    drop-asks : drop_check t cred a ≡ (need_droppable cred a.name >>= (λ _. need (has_snapshot t a.name) NoEnt))
    unfolding drop_check need_snapshot need_droppable
    drop-asks =
        ap (λ (c : Check Object). c >>= (λ _. need_snapshot t cred a.name)) found
        ∙ flat (name_fault a.name) (is_dot a.name) (is_dot_dot a.name) (cred.uid == 0) (has_snapshot t a.name)

    -- what is asked before the name is looked up refuses
    pub drop-refused : (status : Status) → need_droppable cred a.name ≡ Err status → drop_check t cred a ≡ Err status
    drop-refused status refused = drop-asks ∙ ap (λ (c : Check (Unit {0})). c >>= (λ _. need (has_snapshot t a.name) NoEnt)) refused

    module _ (asked : need_droppable cred a.name ≡ Ok tt) (number : Option ℕ)
        (said : option_map fileid_of (entry_at t SnapshotDirectory a.name) ≡ number) where
      drop-by : drop_check t cred a ≡ need (is_some number) NoEnt
      drop-by =
          drop-asks ∙ ap (λ (c : Check (Unit {0})). c >>= (λ _. need (has_snapshot t a.name) NoEnt)) asked
          ∙ ap (λ (b : Bool). need b NoEnt)
          (number-there (entry_at t SnapshotDirectory a.name) ∙ ap (λ (n : Option ℕ). is_some n) said)

      pub drop-lacks : number ≡ None → drop_check t cred a ≡ Err NoEnt
      drop-lacks none = drop-by ∙ ap (λ (n : Option ℕ). need (is_some n) NoEnt) none

      pub drop-passes : (n : ℕ) → number ≡ Some n → drop_check t cred a ≡ Ok tt
      drop-passes n some = drop-by ∙ ap (λ (n : Option ℕ). need (is_some n) NoEnt) some

-- ---- the directory of snapshots

directory-place : (p : Place) → is_snapshot_directory p ≡ true → p ≡ SnapshotDirectory
directory-place (Live id) is = absurd (cc)
directory-place SnapshotDirectory is = refl
directory-place (Kept number id) is = absurd (cc)

pub drop-before : (t : Tree) (bytes : List ℕ) (x : Found) (o : Object) → says_snapshots bytes ≡ true
    → find_object t bytes ≡ Ok o → IsObject t x o → shown t SnapshotDirectory ≡ Some x.attributes
drop-before t bytes x o says found is =
    subst (λ (p : Place). shown t p ≡ Some x.attributes)
    (sym (object-place t x o is) ∙ directory-place o.place (place_says t bytes o true says found)) (found_shown t x o is)

-- ---- one snapshot less

left : List ℕ → List Snapshot → List Snapshot
left name ss = filter (λ (s : Snapshot). not (bytes_eq s.name name)) ss

all-left : (name : List ℕ) (ss : List Snapshot) → Lacks name (map snapshot_entry ss) → length (left name ss) ≡ length ss
unfolding left
all-left name [] lacks = refl
all-left name (s ∷ ss) lacks =
    by_test (bytes_eq s.name name) (lacks 0 (snapshot_entry s) (omega arith))
    (all-left name ss (all-tail (λ e. bytes_eq e.name name ≡ false) (snapshot_entry s) (map snapshot_entry ss) lacks))
  where
    by_test : (u : Bool) → u ≡ false → length (left name ss) ≡ length ss
        → length (if not u then s ∷ left name ss else left name ss) ≡ length (s ∷ ss)
    by_test true is rest = absurd (cc)
    by_test false is rest = omega (arith, rest)

one-less : (name : List ℕ) (ss : List Snapshot) → AreDistinct (map snapshot_entry ss)
    → is_some (named name (map snapshot_entry ss)) ≡ true → length (left name ss) + 1 ≡ length ss
unfolding left AreDistinct named has_name
one-less name [] distinct there = absurd (cc)
one-less name (s ∷ ss) distinct there =
    by_test (bytes_eq s.name name) refl there (one-less name ss distinct.1)
  where
    by_test : (u : Bool) → bytes_eq s.name name ≡ u
        → is_some (if u then Some (snapshot_entry s) else find (λ e. bytes_eq e.name name) (map snapshot_entry ss)) ≡ true
        → (is_some (find (λ e. bytes_eq e.name name) (map snapshot_entry ss)) ≡ true → length (left name ss) + 1 ≡ length ss)
        → length (if not u then s ∷ left name ss else left name ss) + 1 ≡ length (s ∷ ss)
    by_test true is there more =
        let rest = all-left name ss
        (subst (λ (n : List ℕ). Lacks n (map snapshot_entry ss)) (same-is s.name name is) distinct.0) in
        omega (arith, rest)
    by_test false is there more = let rest = more there in omega (arith, rest)

module _ (t : Tree) where
  abbrev told-of : ℕ → Times → Fattr
  told-of n times = attributes_of t.fsid 2 (root_inode (2 + n) (t.epoch + 2) times) 0

  shown-by : (times : Times) → t.snapshot_times ≡ times → shown t SnapshotDirectory ≡ Some (told-of (length t.snapshots) times)
  unfolding shown object_at node_at snapshot_directory attributes
  shown-by times is = ap (λ (times : Times). Some (told-of (length t.snapshots) times)) is

  shown-left : (now : Moment) (name : List ℕ) → shown (drop_named now name t) SnapshotDirectory
      ≡ Some (told-of (length (left name t.snapshots)) (touch_times now t.snapshot_times))
  unfolding shown object_at node_at snapshot_directory attributes drop_named left
  shown-left now name = refl

  told-less : (now : Moment) (m n : ℕ) → m + 1 ≡ n
      → told-of m (touch_times now t.snapshot_times) ≡ touched_less now (told-of n t.snapshot_times)
  unfolding attributes_of root_inode size_of
  told-less now m n is =
      subst (λ (n : ℕ). told-of m (touch_times now t.snapshot_times) ≡ touched_less now (told-of n t.snapshot_times)) is
      (ap (λ (k : ℕ). let a : Fattr = record (told-of m (touch_times now t.snapshot_times)) { nlink = k } in a)
      (links m))
    where
      links : (m : ℕ) → 2 + m ≡ 2 + (m + 1) - 1
      links m = omega arith

module _ (t : Tree) (cred : Cred) (a : DirOp (List ℕ)) (now : Moment) (says : says_snapshots a.directory ≡ true) where
  abbrev drop-row : Check (Unit {0}) → Row
  drop-row check = done check (λ plan. drop_named now a.name t) (λ plan after. Rmdir (change t after SnapshotDirectory))

  row-by : (c : Check Object) → find_object t a.directory ≡ c
      → (c >>= (λ o. if is_snapshot_directory o.place then drop_snapshot t cred a.name now
      else remove_directory t cred a.name now o)) ≡ drop-row (c >>= (λ _. need_snapshot t cred a.name))
  unfolding drop_snapshot
  row-by (Err status) is = refl
  row-by (Ok o) is =
      ap (λ (b : Bool). if b then drop_snapshot t cred a.name now else remove_directory t cred a.name now o)
      (place_says t a.directory o true says is)

  drop-as : rmdir t cred a now ≡ drop-row (drop_check t cred a)
  unfolding rmdir drop_check
  drop-as = row-by (find_object t a.directory) refl

  pub drop-fails : (status : Status) → drop_check t cred a ≡ Err status → rmdir t cred a now ≡ Err status
  drop-fails status refused = drop-as ∙ ap drop-row refused

  module _ (sound : IsSound t) (x : Dropping) (asked : Unit {0}) (passed : drop_check t cred a ≡ Ok asked)
      (is : IsDropping a.name t x asked) where
    -- the snapshot of the name is the one of the number
    pub drop-can : IsNamed x.number a.name t
    unfolding entry_at node_at snapshot_directory
    drop-can = record { there = is.number; snapshots = sound.bounds.snapshots }

    drop-there : is_some (named a.name (map snapshot_entry t.snapshots)) ≡ true
    unfolding entry_at node_at snapshot_directory
    drop-there =
        number-there (named a.name (map snapshot_entry t.snapshots)) ∙ ap (λ (n : Option ℕ). is_some n) is.number

    drop-shown : shown (drop_named now a.name t) SnapshotDirectory ≡ Some (touched_less now x.directory)
    drop-shown =
        let whole : Some (told-of t (length t.snapshots) t.snapshot_times) ≡ Some x.directory =
        sym (shown-by t t.snapshot_times refl) ∙ is.before in
        shown-left t now a.name
        ∙ ap (λ (f : Fattr). Some f)
        (told-less t now (length (left a.name t.snapshots)) (length t.snapshots)
        (one-less a.name t.snapshots sound.bounds.snapshots.distinct drop-there))
        ∙ ap (λ (o : Option Fattr). option_map (touched_less now) o) whole

    -- the snapshot is dropped, and that is told
    pub drop-done : (w : Wcc) → w ≡ wcc_of (Some x.directory) (Some (touched_less now x.directory))
        → rmdir t cred a now ≡ Ok (record { body = Rmdir w; tree = drop_named now a.name t })
    drop-done w same =
        drop-as ∙ ap drop-row passed
        ∙ ap (λ (w : Wcc). Ok (record { body = Rmdir w; tree = drop_named now a.name t }))
        (ap (λ (o : Option Fattr). wcc_of o (shown (drop_named now a.name t) SnapshotDirectory)) is.before
        ∙ ap (λ (o : Option Fattr). wcc_of (Some x.directory) o) drop-shown ∙ sym same)
