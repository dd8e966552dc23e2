-- LINK, taken apart into what is asked before the name is looked up, and what is asked behind that.
use Rattle.std.proofs.Common.{◌≡◌, ◌∙◌, ℕ, nat_le, Bool, true, false, ◌||◌, List, refl, sym, ap, Option, Some, None, Ok, Err}
use Rattle.std.specs.Prelude.{is_some, option_map}
use Rattle.nfs3_types.specs.declared.args.LinkArgs.{LinkArgs}
use Rattle.nfs3_types.specs.declared.cred.Cred.{Cred}
use Rattle.nfs3_types.specs.declared.status.Status.{Status}
use Rattle.nfs3_types.specs.declared.status.Status.TheVariants.{Acces, Exist, Inval, MLink, NoSpc, NotDir, Rofs, Xdev}
use Rattle.fs_rules.specs.declared.inode.Inode.{Inode}
use Rattle.fs_rules.specs.declared.name_entry.NameEntry.{NameEntry}
use Rattle.fs_rules.specs.declared.place.Place.{Place}
use Rattle.fs_rules.specs.declared.place.Place.TheVariants.{Live}
use Rattle.fs_rules.specs.declared.plans.LinkPlan.{LinkPlan}
use Rattle.fs_rules.specs.Attributes.{is_directory}
use Rattle.fs_rules.specs.Checks.{Check, ◌>>=◌, find_object, is_live, need, need_directory, need_good_name, need_live}
use Rattle.fs_rules.specs.Checks.{need_search, no_fault, refuse_if}
use Rattle.fs_rules.specs.Limits.{most_links}
use Rattle.fs_rules.specs.Making.{is_taken, lacks_cookies, need_free_name}
use Rattle.fs_rules.specs.Names.{is_dots, name_fault}
use Rattle.fs_rules.specs.Places.{Object, entry_at, fileid_at, is_snapshots_name}
use Rattle.fs_rules.specs.Renaming.{link_plan}
use Rattle.fs_rules.specs.Tree.{Tree}
use Rattle.fs_keys.specs.declared.rows.NameRow.{NameRow}
use Rattle.fs_shows.specs.Nodes.{name_row}
use Rattle.procs_object.specs.declared.object.Found.{Found}
use Rattle.procs_object.specs.Finding.{IsObject}
use Rattle.procs_object.proofs.Told.{object-inode, object-place}
use Rattle.procs_names.specs.Naming.{IsLinking, is_taken_by, linking_of, need_linkable, need_room, seen}
use Rattle.procs_names.proofs.Checked.{entry_here, found_kind, found_node, found_place, live_shown}
use Rattle.procs_names.proofs.Entries.{entry-is}

-- a directory has this record of a name, or has none
abbrev pub HasRow : ℕ → List ℕ → Option NameRow → Tree → Type 0
HasRow id name row t = option_map name_row (entry_at t (Live id) name) ≡ row

abbrev link_rest : Tree → Cred → List ℕ → Object → Object → Check LinkPlan
link_rest t cred name file directory =
    need_directory directory >>= (λ _. need_live directory >>= (λ _. need (is_live file.place) Xdev
    >>= (λ _. need_good_name name >>= (λ _. refuse_if (is_directory file.inode.kind) Inval >>= (λ _. need_search cred directory
    >>= (λ _. need_free_name t cred directory name >>= (λ _. refuse_if (nat_le most_links file.inode.nlink) MLink
    >>= (λ _. refuse_if (lacks_cookies directory.inode) NoSpc
    >>= (λ _. Ok (record { file = fileid_at file.place; directory = fileid_at directory.place }))))))))))

abbrev link_next : Tree → Cred → LinkArgs (List ℕ) → Object → Check LinkPlan
link_next t cred a file = find_object t a.link.directory >>= link_rest t cred a.link.name file

abbrev asked_first : Bool → Bool → Bool → Option Status → Bool → Bool → Check (Unit {0})
asked_first a b c f d e =
    refuse_if a NotDir >>= (λ _. refuse_if b Rofs >>= (λ _. refuse_if c Xdev >>= (λ _. no_fault f
    >>= (λ _. refuse_if d Inval >>= (λ _. refuse_if e Acces)))))

abbrev asked_then : Bool → Bool → Bool → Bool → Check (Unit {0})
asked_then g h k l =
    refuse_if g Exist >>= (λ _. refuse_if h Acces >>= (λ _. refuse_if k MLink >>= (λ _. refuse_if l NoSpc)))

link_flat : (a b c : Bool) (f : Option Status) (d e g h k l : Bool) (plan : LinkPlan)
    → (refuse_if a NotDir >>= (λ _. refuse_if b Rofs >>= (λ _. refuse_if c Xdev >>= (λ _. no_fault f
    >>= (λ _. refuse_if d Inval >>= (λ _. refuse_if e Acces >>= (λ _. (refuse_if g Exist >>= (λ _. refuse_if h Acces))
    >>= (λ _. refuse_if k MLink >>= (λ _. refuse_if l NoSpc >>= (λ _. Ok plan))))))))))
    ≡ (asked_first a b c f d e >>= (λ _. asked_then g h k l >>= (λ _. Ok plan)))
link_flat true b c f d e g h k l plan = refl
link_flat false true c f d e g h k l plan = refl
link_flat false false true f d e g h k l plan = refl
link_flat false false false (Some status) d e g h k l plan = refl
link_flat false false false None true e g h k l plan = refl
link_flat false false false None false true g h k l plan = refl
link_flat false false false None false false true h k l plan = refl
link_flat false false false None false false false true k l plan = refl
link_flat false false false None false false false false true l plan = refl
link_flat false false false None false false false false false true plan = refl
link_flat false false false None false false false false false false plan = refl

none_taken : (reserved entry : Bool) (rest : Unit {0} → Check (Unit {0})) → (refuse_if (reserved || entry) Exist >>= rest) ≡ Ok tt
    → entry ≡ false
none_taken true entry rest is = absurd (cc)
none_taken false true rest is = absurd (cc)
none_taken false false rest is = refl

no_entry : (o : Option NameEntry) (row : Option NameRow) → option_map name_row o ≡ row → is_some row ≡ false → o ≡ None
no_entry None row is none = refl
no_entry (Some e) None is none = absurd (cc)
no_entry (Some e) (Some r) is none = absurd (cc)

-- the file's handle leads nowhere
pub link_halted : (t : Tree) (cred : Cred) (a : LinkArgs (List ℕ)) (status : Status) → find_object t a.file ≡ Err status
    → link_plan t cred a ≡ Err status
unfolding link_plan
link_halted t cred a status refused = ap (λ (c : Check Object). c >>= link_next t cred a) refused

module _ (t : Tree) (cred : Cred) (a : LinkArgs (List ℕ)) (x : Found) (file : Object) (found : find_object t a.file ≡ Ok file)
    (is : IsObject t x file) where
  link_on : link_plan t cred a ≡ link_next t cred a file
  unfolding link_plan
  link_on = ap (λ (c : Check Object). c >>= link_next t cred a) found

  -- the directory's handle leads nowhere
  pub link_lost : (status : Status) → find_object t a.link.directory ≡ Err status → link_plan t cred a ≡ Err status
  link_lost status refused = link_on ∙ ap (λ (c : Check Object). c >>= link_rest t cred a.link.name file) refused

  module _ (y : Found) (d : Object) (led : find_object t a.link.directory ≡ Ok d) (of : IsObject t y d) where
    link_steps : link_plan t cred a ≡ (need_linkable cred file d a.link.name
        >>= (λ _. need_room cred file d (is_taken t d a.link.name)
        >>= (λ _. Ok (record { file = fileid_at file.place; directory = fileid_at d.place }))))
    unfolding need_linkable need_room need_free_name
    link_steps =
        link_on ∙ ap (λ (c : Check Object). c >>= link_rest t cred a.link.name file) led
        ∙ link_flat _ _ _ (name_fault a.link.name) _ _ _ _ _ _ _

    linkable_seen : need_linkable cred file d a.link.name ≡ need_linkable cred (seen x) (seen y) a.link.name
    unfolding need_linkable
    linkable_seen =
        ap (λ (p : Place). need_linkable cred (record { place = p; inode = file.inode; size = x.inode.head.size }) d a.link.name)
        (object-place t x file is)
        ∙ ap (λ (i : Inode). need_linkable cred (record { place = x.place; inode = i; size = x.inode.head.size }) d a.link.name)
        (object-inode t x file is)
        ∙ ap (λ (p : Place). need_linkable cred (seen x) (record { place = p; inode = d.inode; size = y.inode.head.size })
        a.link.name)
        (object-place t y d of)
        ∙ ap (λ (i : Inode). need_linkable cred (seen x) (record { place = y.place; inode = i; size = y.inode.head.size })
        a.link.name) (object-inode t y d of)

    room_seen : (taken : Bool) → need_room cred file d taken ≡ need_room cred (seen x) (seen y) taken
    unfolding need_room
    room_seen taken =
        ap (λ (i : Inode). need_room cred (record { place = x.place; inode = i; size = x.inode.head.size }) d taken)
        (object-inode t x file is)
        ∙ ap (λ (i : Inode). need_room cred (seen x) (record { place = y.place; inode = i; size = y.inode.head.size }) taken)
        (object-inode t y d of)

    -- what is asked before refuses
    pub link_refused : (status : Status) → need_linkable cred (seen x) (seen y) a.link.name ≡ Err status
        → link_plan t cred a ≡ Err status
    link_refused status refused =
        link_steps
        ∙ ap (λ (p : Check (Unit {0})). p >>= (λ _. need_room cred file d (is_taken t d a.link.name)
        >>= (λ _. Ok (record { file = fileid_at file.place; directory = fileid_at d.place })))) (linkable_seen ∙ refused)

    module _ (asked : need_linkable cred (seen x) (seen y) a.link.name ≡ Ok tt) (live : is_live y.place ≡ true)
        (row : Option NameRow)
        (said : option_map name_row (entry_at t (Live (fileid_at y.place)) a.link.name) ≡ row) where
      taken_is : is_taken t d a.link.name ≡ is_taken_by y.place a.link.name (is_some row)
      taken_is =
          ap (λ (p : Place). (is_dots a.link.name || is_snapshots_name p a.link.name) || is_some (entry_at t d.place a.link.name))
          (object-place t y d of)
          ∙ ap (λ (p : Place). is_taken_by y.place a.link.name (is_some (entry_at t p a.link.name))) (found_place t y d of live)
          ∙ ap (λ (b : Bool). is_taken_by y.place a.link.name b)
          (entry-is (entry_at t (Live (fileid_at y.place)) a.link.name) row said)

      link_asks : link_plan t cred a
          ≡ (need_room cred (seen x) (seen y) (is_taken_by y.place a.link.name (is_some row)) >>= (λ _. Ok (linking_of x y).plan))
      link_asks =
          link_steps
          ∙ ap (λ (p : Check (Unit {0})). p >>= (λ _. need_room cred file d (is_taken t d a.link.name)
          >>= (λ _. Ok (record { file = fileid_at file.place; directory = fileid_at d.place })))) (linkable_seen ∙ asked)
          ∙ ap (λ (b : Bool). need_room cred file d b
          >>= (λ _. Ok (record { file = fileid_at file.place; directory = fileid_at d.place }))) taken_is
          ∙ ap (λ (p : Check (Unit {0})). p >>= (λ _. Ok (record { file = fileid_at file.place; directory = fileid_at d.place })))
          (room_seen (is_taken_by y.place a.link.name (is_some row)))
          ∙ ap (λ (p : Place). need_room cred (seen x) (seen y) (is_taken_by y.place a.link.name (is_some row))
          >>= (λ _. Ok (record { file = fileid_at p; directory = fileid_at d.place }))) (object-place t x file is)
          ∙ ap (λ (p : Place). need_room cred (seen x) (seen y) (is_taken_by y.place a.link.name (is_some row))
          >>= (λ _. Ok (record { file = fileid_at x.place; directory = fileid_at p }))) (object-place t y d of)

      -- what is asked behind that refuses
      pub link_lacks : (status : Status)
          → need_room cred (seen x) (seen y) (is_taken_by y.place a.link.name (is_some row)) ≡ Err status
          → link_plan t cred a ≡ Err status
      link_lacks status refused =
          link_asks ∙ ap (λ (p : Check (Unit {0})). p >>= (λ _. Ok (linking_of x y).plan)) refused

      -- the name is free where the plan is made
      free_by : need_room cred (seen x) (seen y) (is_taken_by y.place a.link.name (is_some row)) ≡ Ok tt
          → entry_at t (Live (fileid_at y.place)) a.link.name ≡ None
      unfolding need_room
      free_by room =
          no_entry _ row said
          (none_taken (is_dots a.link.name || is_snapshots_name y.place a.link.name) (is_some row) _ room)

      -- the plan is made
      pub link_plans : is_directory x.inode.head.kept.kind ≡ false → is_directory y.inode.head.kept.kind ≡ true
          → is_live x.place ≡ true
          → need_room cred (seen x) (seen y) (is_taken_by y.place a.link.name (is_some row)) ≡ Ok tt
          → (plan : LinkPlan) × (link_plan t cred a ≡ Ok plan) × IsLinking a.link.name t (linking_of x y) plan
      link_plans plain dir lives room = (
        (linking_of x y).plan,
        link_asks ∙ ap (λ (p : Check (Unit {0})). p >>= (λ _. Ok (linking_of x y).plan)) room,
        record {
          is = refl;
          shows = live_shown t x file is lives;
          before = live_shown t y d of live;
          file = is.node;
          there = found_node t x file is lives;
          plain = found_kind t x file is lives false plain;
          above = of.node;
          directory = found_node t y d of live;
          kind = found_kind t y d of live true dir;
          free = sym (entry_here t (fileid_at y.place) of.node a.link.name (found_node t y d of live)) ∙ free_by room;
        },
      )
