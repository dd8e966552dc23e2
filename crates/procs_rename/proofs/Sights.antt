-- What both handles and both names lead to, as the table finds it.
use Rattle.std.proofs.Common.{◌≡◌, ◌∙◌, ℕ, true, List, refl, sym, ap, subst, Option, Some, None, Ok, Err}
use Rattle.std.specs.Prelude.{option_map, IfSome}
use Rattle.nfs3_types.specs.declared.args.RenameArgs.{RenameArgs}
use Rattle.nfs3_types.specs.declared.attributes.Fattr.{Fattr}
use Rattle.nfs3_types.specs.declared.cred.Cred.{Cred}
use Rattle.nfs3_types.specs.declared.status.Status.{Status}
use Rattle.nfs3_types.specs.declared.status.Status.TheVariants.{NoEnt}
use Rattle.fs_rules.specs.declared.inode.Inode.{Inode as Kept}
use Rattle.fs_rules.specs.declared.name_entry.NameEntry.{NameEntry}
use Rattle.fs_rules.specs.declared.place.Place.{Place}
use Rattle.fs_rules.specs.declared.plans.RenamePlan.{RenamePlan}
use Rattle.fs_rules.specs.declared.place.Place.TheVariants.{Live, SnapshotDirectory, Kept as KeptPlace}
use Rattle.fs_rules.specs.Attributes.{attributes_of}
use Rattle.fs_rules.specs.Checks.{Check, ◌>>=◌, find_object, is_live, some_or}
use Rattle.fs_rules.specs.Places.{Object, attributes, entry_at, fileid_at, fsid_at, leads_to}
use Rattle.fs_rules.specs.Renaming.{Renaming, find_renaming, rename_plan, target_at}
use Rattle.fs_rules.specs.Tree.{Tree}
use Rattle.fs_keys.specs.declared.rows.NameRow.{NameRow}
use Rattle.fs_shows.specs.Nodes.{name_row}
use Rattle.procs_object.specs.declared.object.Found.{Found}
use Rattle.procs_object.specs.Finding.{IsObject, IsLed}
use Rattle.procs_object.proofs.Handles.{led-nowhere, led-there}
use Rattle.procs_rename.specs.declared.seeing.Ends.{Ends}
use Rattle.procs_rename.specs.Seeing.{found_as, behind_ends, AreOpen, AreEnds, source_at, IsNamed, IsSeen, other_room, plan_by}

-- ---- what was found

pub live-place : (p : Place) → is_live p ≡ true → p ≡ Live (fileid_at p)
live-place (Live id) live = refl
live-place SnapshotDirectory live = absurd (cc)
live-place (KeptPlace number id) live = absurd (cc)

pub live-at : (p : Place) (id : ℕ) → p ≡ Live id → is_live p ≡ true
live-at p id is = ap (λ (p : Place). is_live p) is

pub lives-at : (o : Option Found) (id : ℕ) → IfSome o (λ x. x.place ≡ Live id) → IfSome o (λ x. is_live x.place ≡ true)
lives-at None id is = tt
lives-at (Some x) id is = live-at x.place id is

live-fsid : (t : Tree) (p : Place) → is_live p ≡ true → fsid_at t p ≡ t.fsid
live-fsid t (Live id) live = refl
live-fsid t SnapshotDirectory live = absurd (cc)
live-fsid t (KeptPlace number id) live = absurd (cc)

module _ (t : Tree) (x : Found) (o : Object) (is : IsObject t x o) where
  pub place-is : o.place ≡ x.place
  place-is = ap (λ (o : Object). o.place) is.is

  said-fsid : fsid_at t o.place ≡ x.attributes.fsid
  unfolding attributes attributes_of
  said-fsid = ap (λ (a : Fattr). a.fsid) is.attributes

  -- its attributes say which file system it is
  pub own-fsid : is_live x.place ≡ true → t.fsid ≡ x.attributes.fsid
  own-fsid live = sym (live-fsid t x.place live) ∙ ap (fsid_at t) (sym place-is) ∙ said-fsid

  -- it is what was found, in some size
  pub as-found : o ≡ found_as o.size x
  as-found =
      let by : Object = o in
      ap (λ (p : Place). let q : Object = record { place = p; inode = by.inode; size = by.size } in q) place-is
      ∙ ap (λ (k : Kept). let q : Object = record { place = x.place; inode = k; size = by.size } in q)
      (ap (λ (o : Object). o.inode) is.is ∙ sym is.inode.kept)

-- ---- names

pub row-none : (o : Option NameEntry) → option_map name_row o ≡ None → o ≡ None
row-none None is = refl
row-none (Some e) is = absurd (cc)

pub row-some : (o : Option NameEntry) (r : NameRow) → option_map name_row o ≡ Some r
    → (e : NameEntry) × (o ≡ Some e) × (e.fileid ≡ r.fileid)
row-some None r is = absurd (cc)
row-some (Some e) r is = (e, refl, fileid (name_row e) is)
  where
    fileid : (q : NameRow) → Some q ≡ Some r → q.fileid ≡ r.fileid
    fileid q is = let same : q ≡ r = cc in ap (λ (r : NameRow). r.fileid) same

module _ (t : Tree) (directory : ℕ) (name : List ℕ) where
  -- the directory has no such name
  pub source-unnamed : option_map name_row (entry_at t (Live directory) name) ≡ None → source_at t directory name ≡ Err NoEnt
  source-unnamed none =
      ap (λ (o : Option NameEntry). some_or o NoEnt >>= (λ e. some_or (leads_to t (Live e.fileid)) NoEnt))
      (row-none (entry_at t (Live directory) name) none)

  pub target-unnamed : option_map name_row (entry_at t (Live directory) name) ≡ None
      → IsLed t None (target_at t (entry_at t (Live directory) name))
  target-unnamed none =
      let P : Option NameEntry → Type 0 = λ o. IsLed t None (target_at t o) in
      subst P (sym (row-none (entry_at t (Live directory) name) none)) tt

  module _ (row : NameRow) (named : option_map name_row (entry_at t (Live directory) name) ≡ Some row) where
    looked : (e : NameEntry) × (entry_at t (Live directory) name ≡ Some e) × (e.fileid ≡ row.fileid)
    looked = row-some (entry_at t (Live directory) name) row named

    source-as : (o : Option Object) → leads_to t (Live row.fileid) ≡ o → source_at t directory name ≡ some_or o NoEnt
    source-as o is =
        ap (λ (o : Option NameEntry). some_or o NoEnt >>= (λ e. some_or (leads_to t (Live e.fileid)) NoEnt)) looked.1
        ∙ ap (λ (id : ℕ). some_or (leads_to t (Live id)) NoEnt) looked.2 ∙ ap (λ (o : Option Object). some_or o NoEnt) is

    pub source-nowhere : IsLed t None (leads_to t (Live row.fileid)) → source_at t directory name ≡ Err NoEnt
    source-nowhere led = source-as None (led-nowhere t (leads_to t (Live row.fileid)) led)

    pub source-there : (x : Found) → IsLed t (Some x) (leads_to t (Live row.fileid))
        → (o : Object) × (source_at t directory name ≡ Ok o) × IsNamed directory name t x o
    source-there x led =
        let p = led-there t x (leads_to t (Live row.fileid)) led in (
          p.0,
          source-as (Some p.0) p.1,
          record {
            is = p.2;
            entry = looked.0;
            named = looked.1;
            leads = ap (λ (id : ℕ). leads_to t (Live id)) looked.2 ∙ p.1;
          },
        )

    pub target-there : (x : Option Found) → IsLed t x (leads_to t (Live row.fileid))
        → IsLed t x (target_at t (entry_at t (Live directory) name))
    target-there x led =
        let P : Option NameEntry → Type 0 = λ o. IsLed t x (target_at t o) in
        let Q : ℕ → Type 0 = λ id. IsLed t x (leads_to t (Live id)) in
        subst P (sym looked.1) (subst Q (sym looked.2) led)

-- ---- the table's way to what is found

abbrev pub room_then : Tree → Renaming → Check RenamePlan
room_then t r = other_room t r >>= (λ _. Ok (plan_by r))

behind : {A B C : Type 0} (o : Option A) (status : Status) (f : A → Check B) (k : B → Check C) (r : Check B)
    → (some_or o status >>= f) ≡ r → (some_or o status >>= (λ a. f a >>= k)) ≡ (r >>= k)
behind None status f k r is = ap (λ (c : Check _). c >>= k) is
behind (Some a) status f k r is = ap (λ (c : Check _). c >>= k) is

module _ (t : Tree) (cred : Cred) (a : RenameArgs (List ℕ)) where
  pub planned-by : (c : Check Renaming) → find_renaming t cred a ≡ c → rename_plan t cred a ≡ (c >>= room_then t)
  unfolding rename_plan
  planned-by c is = ap (λ (c : Check Renaming). c >>= room_then t) is

  pub not-found : (status : Status) → find_renaming t cred a ≡ Err status → rename_plan t cred a ≡ Err status
  not-found status refused = planned-by (Err status) refused

  -- behind the checks of directories and names
  abbrev found_then : Object → Object → Object → Check Renaming
  found_then from to source =
      Ok (record { from = from; to = to; source = source; target = target_at t (entry_at t to.place a.to.name) })

  abbrev names_then : Object → Object → Check Renaming
  names_then from to =
      some_or (entry_at t from.place a.from.name) NoEnt
      >>= (λ e. some_or (leads_to t (Live e.fileid)) NoEnt >>= found_then from to)

  abbrev ends_then : Object → Object → Check Renaming
  ends_then from to = behind_ends cred a from to (names_then from to)

  looked-for : (c d : Check Object) → find_object t a.from.directory ≡ c → find_object t a.to.directory ≡ d
      → find_renaming t cred a ≡ (c >>= (λ from. d >>= ends_then from))
  unfolding find_renaming behind_ends
  looked-for c d from to =
      ap (λ (c : Check Object). c >>= (λ from. find_object t a.to.directory >>= ends_then from)) from
      ∙ ap (λ (d : Check Object). c >>= (λ from. d >>= ends_then from)) to

  -- a handle leads nowhere
  pub from-refused : (status : Status) → find_object t a.from.directory ≡ Err status → rename_plan t cred a ≡ Err status
  from-refused status refused =
      not-found status (looked-for (Err status) (find_object t a.to.directory) refused refl)

  pub to-refused : (from : Object) (status : Status) → find_object t a.from.directory ≡ Ok from
      → find_object t a.to.directory ≡ Err status → rename_plan t cred a ≡ Err status
  to-refused from status found refused = not-found status (looked-for (Ok from) (Err status) found refused)

  module _ (from to : Object) (from-found : find_object t a.from.directory ≡ Ok from)
      (to-found : find_object t a.to.directory ≡ Ok to) (x y : Found) (from-is : IsObject t x from)
      (to-is : IsObject t y to) where
    -- a check of both directories and names, and what is behind it
    checked : (rest : Check Renaming) (c : Check Renaming)
        → behind_ends cred a (found_as from.size x) (found_as to.size y) rest ≡ c → behind_ends cred a from to rest ≡ c
    checked rest c is =
        ap (λ (o : Object). behind_ends cred a o to rest) (as-found t x from from-is)
        ∙ ap (λ (o : Object). behind_ends cred a (found_as from.size x) o rest) (as-found t y to to-is) ∙ is

    pub ends-refused : (status : Status)
        → ((m n : ℕ) (rest : Check Renaming) → behind_ends cred a (found_as m x) (found_as n y) rest ≡ Err status)
        → rename_plan t cred a ≡ Err status
    ends-refused status refused =
        not-found status (looked-for (Ok from) (Ok to) from-found to-found
        ∙ checked (names_then from to) (Err status) (refused from.size to.size (names_then from to)))

    pub ends-passed : ((m n : ℕ) (rest : Check Renaming) → behind_ends cred a (found_as m x) (found_as n y) rest ≡ rest)
        → AreEnds cred a (record { from = x; to = y }) t
    ends-passed passed = record {
      from = from;
      to = to;
      from_found = from-found;
      to_found = to-found;
      from_is = from-is;
      to_is = to-is;
      passed = λ rest. checked rest rest (passed from.size to.size rest);
    }

  module _ (x : Ends) (ends : AreEnds cred a x t) (opens : AreOpen a x.from x.to) where
    from-place : ends.from.place ≡ Live (fileid_at x.from.place)
    from-place = place-is t x.from ends.from ends.from_is ∙ live-place x.from.place opens.from_live

    to-place : ends.to.place ≡ Live (fileid_at x.to.place)
    to-place = place-is t x.to ends.to ends.to_is ∙ live-place x.to.place opens.to_live

    pub ends-fsid : t.fsid ≡ x.from.attributes.fsid
    ends-fsid = own-fsid t x.from ends.from ends.from_is opens.from_live

    named-by : (r : Check Object) → source_at t (fileid_at x.from.place) a.from.name ≡ r
        → find_renaming t cred a ≡ (r >>= found_then ends.from ends.to)
    named-by r is =
        looked-for (Ok ends.from) (Ok ends.to) ends.from_found ends.to_found ∙ ends.passed (names_then ends.from ends.to)
        ∙ ap (λ (p : Place). some_or (entry_at t p a.from.name) NoEnt
        >>= (λ e. some_or (leads_to t (Live e.fileid)) NoEnt >>= found_then ends.from ends.to)) from-place
        ∙ behind (entry_at t (Live (fileid_at x.from.place)) a.from.name) NoEnt (λ e. some_or (leads_to t (Live e.fileid)) NoEnt)
        (found_then ends.from ends.to) r is

    -- the old name leads nowhere
    pub source-refused : (status : Status) → source_at t (fileid_at x.from.place) a.from.name ≡ Err status
        → rename_plan t cred a ≡ Err status
    source-refused status refused = not-found status (named-by (Err status) refused)

    pub all-seen : (source : Found) (target : Option Found) (o : Object) → source_at t (fileid_at x.from.place) a.from.name ≡ Ok o
        → IsNamed (fileid_at x.from.place) a.from.name t source o
        → IsLed t target (target_at t (entry_at t (Live (fileid_at x.to.place)) a.to.name))
        → IsSeen cred a (record { from = x.from; to = x.to; source = source; target = target }) t
    all-seen source target o found named led =
        let P : Place → Type 0 = λ p. IsLed t target (target_at t (entry_at t p a.to.name)) in
        record {
          renaming = record {
            from = ends.from;
            to = ends.to;
            source = o;
            target = target_at t (entry_at t ends.to.place a.to.name);
          };
          found = named-by (Ok o) found;
          from = ends.from_is;
          to = ends.to_is;
          source = named;
          target = subst P (sym to-place) led;
          aimed = ap (λ (p : Place). target_at t (entry_at t p a.to.name)) to-place;
        }
