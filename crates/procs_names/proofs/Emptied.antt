-- RMDIR's plan, taken apart into what is asked before the name is looked up, the look-up, and what is asked behind; and its row.
use Rattle.std.proofs.Common.{◌≡◌, ◌∙◌, ℕ, nat_lt, Bool, true, false, if◌then◌else◌, List, [], ◌∷◌, length, refl, sym, ap}
use Rattle.std.proofs.Common.{subst, Option, Some, Ok, Err, arith}
use Rattle.std.proofs.lemmas.Bool.{ltb-false}
use Rattle.nfs3_types.specs.declared.args.DirOp.{DirOp}
use Rattle.nfs3_types.specs.declared.attributes.Fattr.{Fattr}
use Rattle.nfs3_types.specs.declared.attributes.Wcc.{Wcc}
use Rattle.nfs3_types.specs.declared.body.Body.TheVariants.{Rmdir}
use Rattle.nfs3_types.specs.declared.cred.Cred.{Cred}
use Rattle.nfs3_types.specs.declared.moment.Moment.{Moment}
use Rattle.nfs3_types.specs.declared.status.Status.{Status}
use Rattle.nfs3_types.specs.declared.status.Status.TheVariants.{Exist, Inval, NotDir, NotEmpty}
use Rattle.fs_rules.specs.declared.inode.Inode.{Inode}
use Rattle.fs_rules.specs.declared.name_entry.NameEntry.{NameEntry}
use Rattle.fs_rules.specs.declared.place.Place.{Place}
use Rattle.fs_rules.specs.declared.place.Place.TheVariants.{Live}
use Rattle.fs_rules.specs.declared.plans.RemovePlan.{RemovePlan}
use Rattle.fs_rules.specs.Attributes.{is_directory, wcc_of}
use Rattle.fs_rules.specs.Checks.{Check, Row, ◌>>=◌, done, find_directory, find_object, is_live, need, need_place_for, refuse_if}
use Rattle.fs_rules.specs.Edits.{drop_link, drop_name, drop_node, edit_node, touch}
use Rattle.fs_rules.specs.Names.{is_dot, is_dot_dot}
use Rattle.fs_rules.specs.Places.{Object, change, fileid_at, names_of, node_at, shown}
use Rattle.fs_rules.specs.Removing.{drop_directory, find_removable, has_names, remove_directory, remove_directory_plan}
use Rattle.fs_rules.specs.Snapshots.{drop_snapshot, is_snapshot_directory, rmdir}
use Rattle.fs_rules.specs.Sound.{IsSound}
use Rattle.fs_rules.specs.Tree.{Node, Tree}
use Rattle.procs_object.specs.declared.object.Found.{Found}
use Rattle.procs_object.specs.Finding.{IsObject, says_snapshots}
use Rattle.procs_object.proofs.Told.{object-inode, object-place}
use Rattle.procs_object.proofs.Saying.{place_says}
use Rattle.procs_names.specs.declared.removing.Removal.{Removal}
use Rattle.procs_names.specs.Naming.{IsRemoval, child_at, need_alterable, need_removable_directory, removal_of, rmdir_plan, seen}
use Rattle.procs_names.specs.Readying.{CanRemoveDirectory, touched_less}
use Rattle.procs_names.proofs.Checked.{child_named, find_steps, found_kind, found_node, found_place, live_shown}
use Rattle.procs_names.proofs.Checked.{place_in}
use Rattle.procs_names.proofs.Readied.{can_remove_directory, dropped_elsewhere, edited_here, removed_other}
use Rattle.procs_names.proofs.Rows.{lost_directory, shown_after}

-- ---- the directory of the name

parts_at : (o d : Object) (asks : Object → Check (Unit {0})) (q : Check (Unit {0})) → asks o ≡ q → (q >>= (λ _. Ok o)) ≡ Ok d
    → (u : Unit {0}) × (o ≡ d) × (asks d ≡ Ok u)
parts_at o d asks (Ok u) at is = let same : o ≡ d = cc in (u, same, subst (λ (x : Object). asks x ≡ Ok u) same at)
parts_at o d asks (Err status) at is = absurd (cc)

parts : (c : Check Object) (asks : Object → Check (Unit {0})) (d : Object) → (c >>= (λ o. asks o >>= (λ _. Ok o))) ≡ Ok d
    → (u : Unit {0}) × (c ≡ Ok d) × (asks d ≡ Ok u)
parts (Ok o) asks d is = let p = parts_at o d asks (asks o) refl is in (p.0, ap (λ (x : Object). Ok x) p.1, p.2)
parts (Err status) asks d is = absurd (cc)

halted_at : {B : Type 0} (o : Object) (next : Check B) (q : Check (Unit {0})) (status : Status) → (q >>= (λ _. Ok o)) ≡ Err status
    → (q >>= (λ _. next)) ≡ Err status
halted_at o next (Ok u) status is = absurd (cc)
halted_at o next (Err other) status is = cc

halted_by : {B : Type 0} (c : Check Object) (asks : Object → Check (Unit {0})) (next : Object → Check B) (status : Status)
    → (c >>= (λ o. asks o >>= (λ _. Ok o))) ≡ Err status → (c >>= (λ o. asks o >>= (λ _. next o))) ≡ Err status
halted_by (Ok o) asks next status is = halted_at o (next o) (asks o) status is
halted_by (Err other) asks next status is = cc

-- ---- the plan

abbrev rmdir_last : Tree → Object → Object → Check RemovePlan
rmdir_last t d o =
    need (is_directory o.inode.kind) NotDir >>= (λ _. refuse_if (has_names t o.place) NotEmpty
    >>= (λ _. Ok (record { directory = fileid_at d.place; fileid = fileid_at o.place })))

abbrev rmdir_next : Tree → Cred → List ℕ → Object → Check RemovePlan
rmdir_next t cred name d =
    refuse_if (is_dot name) Inval >>= (λ _. refuse_if (is_dot_dot name) Exist
    >>= (λ _. find_removable t cred d name >>= rmdir_last t d))

rmdir_flat : (b c : Bool) (q : Check (Unit {0})) (r : Check Object) (last : Object → Check RemovePlan)
    → (refuse_if b Inval >>= (λ _. refuse_if c Exist >>= (λ _. (q >>= (λ _. r)) >>= last)))
    ≡ ((refuse_if b Inval >>= (λ _. refuse_if c Exist >>= (λ _. q))) >>= (λ _. r >>= last))
rmdir_flat true c q r last = refl
rmdir_flat false true q r last = refl
rmdir_flat false false (Err status) r last = refl
rmdir_flat false false (Ok u) r last = refl

pub rmdir_halted : (t : Tree) (cred : Cred) (a : DirOp (List ℕ)) (status : Status) → find_directory t (place_in a) ≡ Err status
    → rmdir_plan t cred a ≡ Err status
unfolding rmdir_plan remove_directory_plan find_directory
rmdir_halted t cred a status refused =
    halted_by (find_object t a.directory) (λ o. need_place_for o a.name) (rmdir_next t cred a.name) status refused

-- it has no names
nameless : (names : List NameEntry) → nat_lt 0 (length names) ≡ false → names ≡ []
nameless [] is = refl
nameless (e ∷ names) is = absurd (omega (arith, ltb-false 0 (length (e ∷ names)) is))

module _ (t : Tree) (cred : Cred) (a : DirOp (List ℕ)) (x : Found) (d : Object) (found : find_directory t (place_in a) ≡ Ok d)
    (is : IsObject t x d) where
  rmdir_steps : rmdir_plan t cred a
      ≡ (need_removable_directory cred d a.name >>= (λ _. child_at t d.place a.name >>= rmdir_last t d))
  unfolding rmdir_plan remove_directory_plan find_directory need_removable_directory
  rmdir_steps =
      let p = parts (find_object t a.directory) (λ o. need_place_for o a.name) d found in
      ap (λ (c : Check Object). c >>= (λ o. need_place_for o a.name >>= (λ _. rmdir_next t cred a.name o))) p.1
      ∙ ap (λ (q : Check (Unit {0})). q >>= (λ _. rmdir_next t cred a.name d)) p.2
      ∙ ap (λ (r : Check Object). refuse_if (is_dot a.name) Inval >>= (λ _. refuse_if (is_dot_dot a.name) Exist
      >>= (λ _. r >>= rmdir_last t d))) (find_steps t cred d a.name)
      ∙ rmdir_flat (is_dot a.name) (is_dot_dot a.name) (need_alterable cred d a.name) (child_at t d.place a.name) (rmdir_last t d)

  removable_seen : need_removable_directory cred d a.name ≡ need_removable_directory cred (seen x) a.name
  unfolding need_removable_directory need_alterable
  removable_seen =
      ap (λ (p : Place). need_removable_directory cred (record { place = p; inode = d.inode; size = x.inode.head.size }) a.name)
      (object-place t x d is)
      ∙ ap (λ (i : Inode). need_removable_directory cred (record { place = x.place; inode = i; size = x.inode.head.size }) a.name)
      (object-inode t x d is)

  -- what is asked before refuses
  pub rmdir_refused : (status : Status) → need_removable_directory cred (seen x) a.name ≡ Err status
      → rmdir_plan t cred a ≡ Err status
  rmdir_refused status refused =
      rmdir_steps
      ∙ ap (λ (p : Check (Unit {0})). p >>= (λ _. child_at t d.place a.name >>= rmdir_last t d)) (removable_seen ∙ refused)

  module _ (asked : need_removable_directory cred (seen x) a.name ≡ Ok tt) (live : is_live x.place ≡ true) where
    rmdir_looks : rmdir_plan t cred a ≡ (child_at t (Live (fileid_at x.place)) a.name >>= rmdir_last t d)
    rmdir_looks =
        rmdir_steps
        ∙ ap (λ (p : Check (Unit {0})). p >>= (λ _. child_at t d.place a.name >>= rmdir_last t d)) (removable_seen ∙ asked)
        ∙ ap (λ (p : Place). child_at t p a.name >>= rmdir_last t d) (found_place t x d is live)

    -- the name leads nowhere
    pub rmdir_lacks : (status : Status) → child_at t (Live (fileid_at x.place)) a.name ≡ Err status
        → rmdir_plan t cred a ≡ Err status
    rmdir_lacks status refused = rmdir_looks ∙ ap (λ (c : Check Object). c >>= rmdir_last t d) refused

    module _ (y : Found) (o : Object) (to : child_at t (Live (fileid_at x.place)) a.name ≡ Ok o) (of : IsObject t y o) where
      rmdir_ends : (b : Bool) → is_directory y.inode.head.kept.kind ≡ b → rmdir_plan t cred a
          ≡ (need b NotDir >>= (λ _. refuse_if (has_names t o.place) NotEmpty
          >>= (λ _. Ok (record { directory = fileid_at d.place; fileid = fileid_at o.place }))))
      rmdir_ends b kind =
          rmdir_looks
          ∙ ap (λ (c : Check Object). c >>= rmdir_last t d) to
          ∙ ap (λ (b : Bool). need b NotDir >>= (λ _. refuse_if (has_names t o.place) NotEmpty
          >>= (λ _. Ok (record { directory = fileid_at d.place; fileid = fileid_at o.place }))))
          (ap (λ (i : Inode). is_directory i.kind) (object-inode t y o of) ∙ kind)

      -- it is no directory
      pub rmdir_other : is_directory y.inode.head.kept.kind ≡ false → rmdir_plan t cred a ≡ Err NotDir
      rmdir_other plain = rmdir_ends false plain

      module _ (kind : is_directory y.inode.head.kept.kind ≡ true) (lives : is_live y.place ≡ true) where
        rmdir_empties : (b : Bool) → has_names t (Live (fileid_at y.place)) ≡ b
            → rmdir_plan t cred a ≡ (refuse_if b NotEmpty >>= (λ _. Ok (removal_of x y).plan))
        rmdir_empties b names =
            rmdir_ends true kind
            ∙ ap (λ (p : Place). refuse_if (has_names t o.place) NotEmpty
            >>= (λ _. Ok (record { directory = fileid_at p; fileid = fileid_at o.place }))) (object-place t x d is)
            ∙ ap (λ (p : Place). refuse_if (has_names t p) NotEmpty
            >>= (λ _. Ok (record { directory = fileid_at x.place; fileid = fileid_at p }))) (found_place t y o of lives)
            ∙ ap (λ (b : Bool). refuse_if b NotEmpty >>= (λ _. Ok (removal_of x y).plan)) names

        -- it has names
        pub rmdir_full : has_names t (Live (fileid_at y.place)) ≡ true → rmdir_plan t cred a ≡ Err NotEmpty
        rmdir_full names = rmdir_empties true names

        bare_here : has_names t (Live (fileid_at y.place)) ≡ false → of.node.names ≡ []
        unfolding node_at
        bare_here none =
            nameless of.node.names
            (sym (ap (λ (n : Option Node). nat_lt 0 (length (names_of n))) (found_node t y o of lives)) ∙ none)

        -- the plan is made
        pub rmdir_plans : is_directory x.inode.head.kept.kind ≡ true → has_names t (Live (fileid_at y.place)) ≡ false
            → (plan : RemovePlan) × (rmdir_plan t cred a ≡ Ok plan) × IsRemoval a.name t (removal_of x y) plan
        rmdir_plans dir none = (
          (removal_of x y).plan,
          rmdir_empties false none,
          record {
            is = refl;
            before = live_shown t x d is live;
            above = is.node;
            directory = found_node t x d is live;
            kind = found_kind t x d is live true dir;
            has = child_named t (fileid_at x.place) is.node a.name o (found_node t x d is live) to;
            within = of.node;
            goes = found_node t y o of lives;
            bare = bare_here none;
          },
        )

-- ---- the row

abbrev rmdir_tree : Tree → DirOp (List ℕ) → Moment → RemovePlan → Tree
rmdir_tree t a now plan = drop_directory now plan.directory a.name plan.fileid t

abbrev rmdir_row : Tree → DirOp (List ℕ) → Moment → Check RemovePlan → Row
rmdir_row t a now plan = done plan (rmdir_tree t a now) (λ plan after. Rmdir (change t after (Live plan.directory)))

module _ (t : Tree) (cred : Cred) (a : DirOp (List ℕ)) (now : Moment) (other : says_snapshots a.directory ≡ false) where
  row_by : (c : Check Object) → find_object t a.directory ≡ c
      → (c >>= (λ o. if is_snapshot_directory o.place then drop_snapshot t cred a.name now
      else remove_directory t cred a.name now o))
      ≡ rmdir_row t a now (c >>= (λ o. remove_directory_plan t cred a.name o))
  unfolding remove_directory
  row_by (Err status) is = refl
  row_by (Ok o) is =
      ap (λ (b : Bool). if b then drop_snapshot t cred a.name now else remove_directory t cred a.name now o)
      (place_says t a.directory o false other is)

  rmdir_as : rmdir t cred a now ≡ rmdir_row t a now (rmdir_plan t cred a)
  unfolding rmdir rmdir_plan
  rmdir_as = row_by (find_object t a.directory) refl

  pub rmdir_fails : (status : Status) → rmdir_plan t cred a ≡ Err status → rmdir t cred a now ≡ Err status
  rmdir_fails status refused = rmdir_as ∙ ap (λ (c : Check RemovePlan). rmdir_row t a now c) refused

  module _ (s : IsSound t) (x : Removal) (plan : RemovePlan) (planned : rmdir_plan t cred a ≡ Ok plan)
      (r : IsRemoval a.name t x plan) where
    dropped_fsid : (rmdir_tree t a now plan).fsid ≡ t.fsid
    unfolding drop_directory drop_node edit_node
    dropped_fsid = refl

    dropped_directory : (rmdir_tree t a now plan).nodes plan.directory ≡ Some (touch now (drop_link (drop_name a.name r.above)))
    unfolding drop_directory
    dropped_directory =
        edited_here plan.directory (λ n. touch now (drop_link (drop_name a.name n))) (drop_node plan.fileid t) r.above
        (dropped_elsewhere plan.fileid plan.directory t (removed_other t s a.name x plan r) ∙ r.directory)

    dropped_shown : shown (rmdir_tree t a now plan) (Live plan.directory) ≡ Some (touched_less now x.directory)
    dropped_shown =
        shown_after t (rmdir_tree t a now plan) plan.directory r.above (touch now (drop_link (drop_name a.name r.above)))
        x.directory (touched_less now) dropped_fsid r.directory r.before dropped_directory
        (lost_directory t.fsid plan.directory now a.name plan.fileid r.above)

    rmdir_by : (w : Wcc) → w ≡ wcc_of (Some x.directory) (Some (touched_less now x.directory))
        → rmdir t cred a now ≡ Ok (record { body = Rmdir w; tree = rmdir_tree t a now plan })
    rmdir_by w same =
        rmdir_as
        ∙ ap (λ (c : Check RemovePlan). rmdir_row t a now c) planned
        ∙ ap (λ (w : Wcc). Ok (record { body = Rmdir w; tree = rmdir_tree t a now plan }))
        (ap (λ (o : Option Fattr). wcc_of o (shown (rmdir_tree t a now plan) (Live plan.directory))) r.before
        ∙ ap (λ (o : Option Fattr). wcc_of (Some x.directory) o) dropped_shown ∙ sym same)

    -- the plan is done, and told
    pub rmdir_done : (w : Wcc) → w ≡ wcc_of (Some x.directory) (Some (touched_less now x.directory))
        → rmdir t cred a now ≡ Ok (record { body = Rmdir w; tree = rmdir_tree t a now x.plan })
    rmdir_done w same =
        rmdir_by w same ∙ ap (λ (p : RemovePlan). Ok (record { body = Rmdir w; tree = rmdir_tree t a now p })) r.is

    pub rmdir_can : CanRemoveDirectory x.plan.directory a.name x.plan.fileid t
    rmdir_can =
        subst (λ (p : RemovePlan). CanRemoveDirectory p.directory a.name p.fileid t) r.is
        (can_remove_directory t s a.name x plan r)
