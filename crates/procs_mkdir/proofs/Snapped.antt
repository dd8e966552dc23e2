-- The row of MKDIR in `.snapshot`.
use Rattle.std.proofs.Common.{◌≡◌, ◌∙◌, ℕ, ◌+◌, ◌%◌, ◌^◌, ◌<◌, ◌≤◌, Bool, true, false, if◌then◌else◌, List, [], ◌∷◌, ◌++◌, length, map, refl, sym, ap}
use Rattle.std.proofs.Common.{subst, Option, Some, None, Ok, Err, arith}
use Rattle.std.proofs.lemmas.Bool.{eq-eqb, eqb-true, leb-false}
use Rattle.std.proofs.lemmas.List.{length-map}
use Rattle.std.specs.Prelude.{◌==◌, ◌||◌, All, nat_le, find, is_some, option_map}
use Rattle.nfs3_types.specs.declared.args.MkdirArgs.{MkdirArgs}
use Rattle.nfs3_types.specs.declared.attributes.Fattr.{Fattr}
use Rattle.nfs3_types.specs.declared.body.Body.TheVariants.{Mkdir}
use Rattle.nfs3_types.specs.declared.body.CreateOk.{CreateOk}
use Rattle.nfs3_types.specs.declared.cred.Cred.{Cred}
use Rattle.nfs3_types.specs.declared.moment.Moment.{Moment}
use Rattle.nfs3_types.specs.declared.status.Status.{Status}
use Rattle.nfs3_types.specs.declared.status.Status.TheVariants.{Acces, Exist, NoSpc}
use Rattle.nfs3_types.specs.Handles.{handle}
use Rattle.fs_rules.specs.declared.name_entry.NameEntry.{NameEntry}
use Rattle.fs_rules.specs.declared.place.Place.TheVariants.{Live, SnapshotDirectory, Kept}
use Rattle.fs_rules.specs.declared.times.Times.{Times}
use Rattle.fs_rules.specs.Attributes.{attributes_of, size_of, wcc_of}
use Rattle.fs_rules.specs.Checks.{Check, Row, ◌>>=◌, done, find_object, need, need_good_name, refuse_if}
use Rattle.fs_rules.specs.Limits.{last_epoch, most_snapshots}
use Rattle.fs_rules.specs.Making.{make_directory, told_of_new}
use Rattle.fs_rules.specs.Names.{is_dots, named}
use Rattle.fs_rules.specs.Places.{Object, attributes, change, entry_at, handle_at, has_number, node_at, node_in, object_at}
use Rattle.fs_rules.specs.Places.{object_by, shown, snapshot_directory, snapshot_entry, snapshot_numbered}
use Rattle.fs_rules.specs.Snapshots.{add_snapshot, is_snapshot_directory, mkdir, need_new_snapshot, take_snapshot}
use Rattle.fs_rules.specs.Snapshots.{touch_times}
use Rattle.fs_rules.specs.Sound.{IsSound}
use Rattle.fs_rules.specs.Tree.{Node, Snapshot, Tree, root_inode}
use Rattle.fs_keys.specs.declared.rows.First.{First}
use Rattle.fs_shows.specs.Shows.{first_of}
use Rattle.fs_shows.proofs.NameLists.{all-tail, rise-below}
use Rattle.snap_ops.specs.Taking.{MayTake}
use Rattle.procs_object.specs.declared.object.Found.{Found}
use Rattle.procs_object.specs.Finding.{IsLed, says_snapshots}
use Rattle.procs_object.proofs.Saying.{place_says}
use Rattle.procs_mkdir.specs.declared.taking.Taking.{Taking}
use Rattle.procs_mkdir.specs.Taking.{IsTaking, new_check, root_at, root_told, snapshot_told, take_check, touched_more}

-- ---- what is asked

-- the checks of a name, beside entries and so many snapshots, at an epoch
abbrev asks : Cred → List ℕ → List NameEntry → ℕ → ℕ → Check (Unit {0})
asks cred name entries count epoch =
    need_good_name name >>= (λ _. need (cred.uid == 0) Acces >>= (λ _.
    refuse_if (is_dots name || is_some (named name entries)) Exist >>= (λ _.
    refuse_if (nat_le most_snapshots count) NoSpc >>= (λ _. refuse_if (nat_le last_epoch epoch) NoSpc))))

module _ (t : Tree) (cred : Cred) (a : MkdirArgs (List ℕ)) where
  pub take-halted : (status : Status) → find_object t a.place.directory ≡ Err status → take_check t cred a ≡ Err status
  unfolding take_check
  take-halted status refused = ap (λ (c : Check Object). c >>= (λ _. need_new_snapshot t cred a.place.name)) refused

  module _ (o : Object) (found : find_object t a.place.directory ≡ Ok o) (entries : List NameEntry) (row : First)
      (listed : map snapshot_entry t.snapshots ≡ entries) (first : first_of t ≡ row) where
    pub take-asks : take_check t cred a ≡ new_check cred a.place.name entries row.epoch
    unfolding take_check need_new_snapshot new_check entry_at node_at snapshot_directory
    take-asks =
        ap (λ (c : Check Object). c >>= (λ _. need_new_snapshot t cred a.place.name)) found
        ∙ ap (λ (es : List NameEntry). asks cred a.place.name es (length t.snapshots) t.epoch) listed
        ∙ ap (λ (n : ℕ). asks cred a.place.name entries n t.epoch)
        (sym (length-map t.snapshots snapshot_entry) ∙ ap length listed)
        ∙ ap (λ (r : First). asks cred a.place.name entries (length entries) r.epoch) first

-- what passed leaves an epoch at which a snapshot may be taken
asks-early : (cred : Cred) (name : List ℕ) (entries : List NameEntry) (count epoch : ℕ)
    → asks cred name entries count epoch ≡ Ok tt → epoch < last_epoch
asks-early cred name entries count epoch passed =
    by_good (need_good_name name) (need (cred.uid == 0) Acces)
    (refuse_if (is_dots name || is_some (named name entries)) Exist) (refuse_if (nat_le most_snapshots count) NoSpc)
    (nat_le last_epoch epoch) refl passed
  where
    by_good : (c d e f : Check (Unit {0})) (late : Bool) → nat_le last_epoch epoch ≡ late
        → (c >>= (λ _. d >>= (λ _. e >>= (λ _. f >>= (λ _. refuse_if late NoSpc))))) ≡ Ok tt → epoch < last_epoch
    by_good (Ok c) (Ok d) (Ok e) (Ok f) true is passed = absurd (cc)
    by_good (Ok c) (Ok d) (Ok e) (Ok f) false is passed =
        let less = leb-false last_epoch epoch is in
        omega (arith, less)
    by_good (Ok c) (Ok d) (Ok e) (Err f) late is passed = absurd (cc)
    by_good (Ok c) (Ok d) (Err e) f late is passed = absurd (cc)
    by_good (Ok c) (Err d) e f late is passed = absurd (cc)
    by_good (Err c) d e f late is passed = absurd (cc)

-- ---- the root in the new snapshot

module _ (t : Tree) (row : First) (first : first_of t ≡ row) (fsid : ℕ) (sum : fsid ≡ row.fsid + row.epoch) where
  fits : t.fsid + t.epoch ≡ fsid
  fits = ap (λ (r : First). r.fsid + r.epoch) first ∙ sym sum

  -- the root that was found, as the snapshot has it
  pub root-is : (found : Option Found) → IsLed t found (object_at t (Live 1))
      → option_map (root_at (t.fsid + t.epoch)) (object_at t (Live 1)) ≡ option_map (root_told fsid) found
  unfolding object_at node_at attributes attributes_of
  root-is found led = by_node found (t.nodes 1) led
    where
      by_node : (x : Option Found) (n : Option Node) → IsLed t x (option_map (object_by (Live 1)) n)
          → option_map (root_at (t.fsid + t.epoch)) (option_map (object_by (Live 1)) n) ≡ option_map (root_told fsid) x
      by_node None None led = refl
      by_node None (Some n) led = absurd led
      by_node (Some x) None led = absurd led
      by_node (Some x) (Some n) led =
          ap (λ (f : Fattr). Some (record f { fsid = t.fsid + t.epoch })) led.attributes
          ∙ ap (λ (k : ℕ). Some (root_told k x)) fits

-- the number of the snapshot's file system fits
pub sum-low : (t : Tree) (row : First) → first_of t ≡ row → IsSound t → row.fsid + row.epoch < 2 ^ 64
unfolding last_epoch
sum-low t row first sound =
    let low : row.fsid ≤ 2 ^ 63 = subst (λ (r : First). r.fsid ≤ 2 ^ 63) first sound.bounds.fsid in
    let early : row.epoch ≤ last_epoch = subst (λ (r : First). r.epoch ≤ last_epoch) first sound.bounds.epoch in
    omega (arith, low, early)

-- ---- the tree behind it

-- a snapshot behind others of lower numbers is found by its number
numbered-last : (ss : List Snapshot) (s : Snapshot) → All (λ (e : NameEntry). e.cookie < s.number + 2) (map snapshot_entry ss)
    → find (has_number s.number) (ss ++ s ∷ []) ≡ Some s
numbered-last [] s all =
    ap (λ (b : Bool). if b then Some s else None) (eq-eqb s.number s.number refl)
numbered-last (x ∷ ss) s all =
    by_test (x.number == s.number) refl
    (numbered-last ss s (all-tail (λ (e : NameEntry). e.cookie < s.number + 2) (snapshot_entry x) (map snapshot_entry ss) all))
  where
    by_test : (b : Bool) → (x.number == s.number) ≡ b → find (has_number s.number) (ss ++ s ∷ []) ≡ Some s
        → (if b then Some x else find (has_number s.number) (ss ++ s ∷ [])) ≡ Some s
    by_test true is rest =
        let less : x.number + 2 < s.number + 2 = all 0 (snapshot_entry x) (omega arith) in
        absurd (omega (arith, less, eqb-true x.number s.number is))
    by_test false is rest = rest

module _ (t : Tree) (cred : Cred) (a : MkdirArgs (List ℕ)) (now : Moment) (lane : ℕ)
    (says : says_snapshots a.place.directory ≡ true) where
  abbrev take-row : Check (Unit {0}) → Row
  take-row check =
      done check (λ plan. add_snapshot now a.place.name t)
      (λ plan after. Mkdir (told_of_new t after SnapshotDirectory (Kept t.epoch 1)))

  row-by : (c : Check Object) → find_object t a.place.directory ≡ c
      → (c >>= (λ o. if is_snapshot_directory o.place then take_snapshot t cred a.place.name now
      else make_directory t cred a now lane o)) ≡ take-row (c >>= (λ _. need_new_snapshot t cred a.place.name))
  unfolding take_snapshot
  row-by (Err status) is = refl
  row-by (Ok o) is =
      ap (λ (b : Bool). if b then take_snapshot t cred a.place.name now else make_directory t cred a now lane o)
      (place_says t a.place.directory o true says is)

  take-as : mkdir t cred a now lane ≡ take-row (take_check t cred a)
  unfolding mkdir take_check
  take-as = row-by (find_object t a.place.directory) refl

  pub take-fails : (status : Status) → take_check t cred a ≡ Err status → mkdir t cred a now lane ≡ Err status
  take-fails status refused = take-as ∙ ap take-row refused

  abbrev after : Tree
  after = add_snapshot now a.place.name t

  abbrev new : Snapshot
  new = record { name = a.place.name; number = t.epoch; nodes = t.nodes }

  -- the new snapshot is found by its number
  new-numbered : IsSound t → snapshot_numbered after t.epoch ≡ Some new
  unfolding snapshot_numbered add_snapshot
  new-numbered sound =
      numbered-last t.snapshots new (rise-below 3 (t.epoch + 2) (map snapshot_entry t.snapshots)
      sound.bounds.snapshots.entries.cookies)

  -- its root is the live one
  shown-root : IsSound t → shown after (Kept t.epoch 1) ≡ option_map (root_at (t.fsid + t.epoch)) (object_at t (Live 1))
  unfolding shown object_at node_at attributes add_snapshot
  shown-root sound =
      ap (λ (s : Option Snapshot). option_map (attributes after) (option_map (object_by (Kept t.epoch 1)) (node_in s 1)))
      (new-numbered sound)
      ∙ by_node (t.nodes 1)
    where
      by_node : (n : Option Node) → option_map (attributes after) (option_map (object_by (Kept t.epoch 1)) n)
          ≡ option_map (root_at (t.fsid + t.epoch)) (option_map (object_by (Live 1)) n)
      by_node None = refl
      by_node (Some n) = refl

  handle-is : handle_at after (Kept t.epoch 1) ≡ handle.spelling (record { fsid = t.fsid; snapshot = t.epoch; fileid = 1 })
  unfolding handle_at add_snapshot
  handle-is = refl

  abbrev told-of : ℕ → Times → Fattr
  told-of n times = attributes_of t.fsid 2 (root_inode (2 + n) (t.epoch + 2) times) 0

  shown-before : shown t SnapshotDirectory ≡ Some (told-of (length t.snapshots) t.snapshot_times)
  unfolding shown object_at node_at snapshot_directory attributes
  shown-before = refl

  more : length (t.snapshots ++ new ∷ []) ≡ length t.snapshots + 1
  more = length-more t.snapshots
    where
      length-more : (ss : List Snapshot) → length (ss ++ new ∷ []) ≡ length ss + 1
      length-more [] = refl
      length-more (s ∷ ss) = let rest = length-more ss in omega (arith, rest)

  shown-after : IsSound t
      → shown after SnapshotDirectory ≡ Some (touched_more now (told-of (length t.snapshots) t.snapshot_times))
  unfolding shown object_at node_at snapshot_directory attributes add_snapshot attributes_of root_inode size_of most_snapshots
  shown-after sound =
      ap (λ (n : ℕ). Some (record (told-of (length t.snapshots) (touch_times now t.snapshot_times)) { nlink = 2 + n })) more
      ∙ ap (λ (n : ℕ). Some (record (told-of (length t.snapshots) (touch_times now t.snapshot_times)) { nlink = n }))
      (fits (length t.snapshots)
      (subst (λ (n : ℕ). n ≤ most_snapshots) (length-map t.snapshots snapshot_entry) sound.bounds.snapshots.few))
    where
      fits : (n : ℕ) → n ≤ most_snapshots → 2 + (n + 1) ≡ (2 + n + 1) % 2 ^ 32
      fits n few = omega (arith, few)

  module _ (sound : IsSound t) (x : Taking) (asked : Unit {0}) (passed : take_check t cred a ≡ Ok asked)
      (is : IsTaking t x asked) where
    directory-is : change t after SnapshotDirectory ≡ wcc_of (Some x.directory) (Some (touched_more now x.directory))
    directory-is =
        let whole : Some (told-of (length t.snapshots) t.snapshot_times) ≡ Some x.directory = sym shown-before ∙ is.before in
        ap (λ (o : Option Fattr). wcc_of o (shown after SnapshotDirectory)) is.before
        ∙ ap (λ (o : Option Fattr). wcc_of (Some x.directory) o) (shown-after sound
        ∙ ap (λ (o : Option Fattr). option_map (touched_more now) o) whole)

    told-is : told_of_new t after SnapshotDirectory (Kept t.epoch 1) ≡ snapshot_told x.begins x.root x.directory now
    unfolding told_of_new
    told-is =
        ap (λ (o : Option Fattr). let ok : CreateOk = record {
          object = Some (handle_at after (Kept t.epoch 1));
          attributes = o;
          directory = change t after SnapshotDirectory;
        } in ok) (shown-root sound ∙ is.root)
        ∙ ap (λ (h : List ℕ). let ok : CreateOk = record {
          object = Some h;
          attributes = x.root;
          directory = change t after SnapshotDirectory;
        } in ok) (handle-is
        ∙ ap (λ (r : First). handle.spelling (record { fsid = r.fsid; snapshot = r.epoch; fileid = 1 })) is.first)
        ∙ ap (λ w. let ok : CreateOk = record {
          object = Some (handle.spelling (record { fsid = x.begins.fsid; snapshot = x.begins.epoch; fileid = 1 }));
          attributes = x.root;
          directory = w;
        } in ok) directory-is

    -- the snapshot is taken, and that is told
    pub take-done : (ok : CreateOk) → ok ≡ snapshot_told x.begins x.root x.directory now
        → mkdir t cred a now lane ≡ Ok (record { body = Mkdir ok; tree = add_snapshot now a.place.name t })
    take-done ok same =
        take-as ∙ ap take-row passed
        ∙ ap (λ (c : CreateOk). Ok (record { body = Mkdir c; tree = add_snapshot now a.place.name t })) (told-is ∙ sym same)

pub take-may : (t : Tree) (cred : Cred) (a : MkdirArgs (List ℕ)) (asked : Unit {0}) → take_check t cred a ≡ Ok asked → MayTake t
unfolding take_check need_new_snapshot entry_at node_at snapshot_directory
take-may t cred a asked passed = by_found (find_object t a.place.directory) passed
  where
    by_found : (c : Check Object) → (c >>= (λ _. need_new_snapshot t cred a.place.name)) ≡ Ok asked → MayTake t
    by_found (Ok o) passed =
        asks-early cred a.place.name (map snapshot_entry t.snapshots) (length t.snapshots) t.epoch passed
    by_found (Err status) passed = absurd (cc)
