-- LOOKUP, taken apart into what is asked before the name is looked up, the look-up, and what is told.
use Rattle.std.proofs.Common.{◌≡◌, ◌∙◌, ℕ, Bool, true, false, List, refl, ap, Option, Some, None, Ok, Err}
use Rattle.nfs3_types.specs.declared.args.DirOp.{DirOp}
use Rattle.nfs3_types.specs.declared.attributes.Fattr.{Fattr}
use Rattle.nfs3_types.specs.declared.body.Body.{Body}
use Rattle.nfs3_types.specs.declared.body.Body.TheVariants.{Lookup}
use Rattle.nfs3_types.specs.declared.cred.Cred.{Cred}
use Rattle.nfs3_types.specs.declared.status.Status.{Status}
use Rattle.nfs3_types.specs.declared.status.Status.TheVariants.{Acces, NoEnt, NotDir}
use Rattle.fs_rules.specs.declared.inode.Inode.{Inode}
use Rattle.fs_rules.specs.declared.place.Place.{Place}
use Rattle.fs_rules.specs.Checks.{Check, ◌>>=◌, find_object, need_directory, need_good_name, need_search, no_fault}
use Rattle.fs_rules.specs.Checks.{refuse_if, some_or, told}
use Rattle.fs_rules.specs.Looking.{lookup}
use Rattle.fs_rules.specs.Names.{name_fault}
use Rattle.fs_rules.specs.Places.{Object, attributes, handle_at, leads_to}
use Rattle.fs_rules.specs.Places.{place_named}
use Rattle.fs_rules.specs.Tree.{Tree}
use Rattle.fs_keys.specs.declared.rows.First.{First}
use Rattle.fs_shows.specs.Shows.{first_of}
use Rattle.procs_object.specs.declared.object.Found.{Found}
use Rattle.procs_object.specs.Finding.{IsObject}
use Rattle.procs_object.proofs.Told.{object-inode, object-place}
use Rattle.procs_names.specs.Naming.{found_body, leads_at, need_lookup, seen}

-- what a name of a directory leads to, as it was found
abbrev pub IsNamed : Found → List ℕ → Found → Tree → Type 0
IsNamed x name y t = (o : Object) × (leads_at t (seen x) name ≡ Ok o) × IsObject t y o

abbrev lookup_last : Tree → Object → Object → Check Body
lookup_last t d o = Ok (Lookup (record {
  object = handle_at t o.place;
  attributes = Some (attributes t o);
  directory = Some (attributes t d);
}))

abbrev lookup_next : Tree → Cred → List ℕ → Object → Check Body
lookup_next t cred name d =
    need_directory d >>= (λ _. need_good_name name >>= (λ _. need_search cred d >>= (λ _. some_or (place_named t d name) NoEnt
    >>= (λ place. some_or (leads_to t place) NoEnt >>= lookup_last t d))))

lookup_flat : (a : Bool) (f : Option Status) (b : Bool) (o : Option Place) (leads : Place → Check Object)
    (last : Object → Check Body)
    → (refuse_if a NotDir >>= (λ _. no_fault f >>= (λ _. refuse_if b Acces >>=
    (λ _. some_or o NoEnt >>= (λ p. leads p >>= last)))))
    ≡ ((refuse_if a NotDir >>= (λ _. no_fault f >>= (λ _. refuse_if b Acces))) >>= (λ _. (some_or o NoEnt >>= leads) >>= last))
lookup_flat true f b o leads last = refl
lookup_flat false (Some status) b o leads last = refl
lookup_flat false None true o leads last = refl
lookup_flat false None false None leads last = refl
lookup_flat false None false (Some p) leads last = refl

pub lookup_halted : (t : Tree) (cred : Cred) (a : DirOp (List ℕ)) (status : Status) → find_object t a.directory ≡ Err status
    → lookup t cred a ≡ Err status
unfolding lookup
lookup_halted t cred a status refused = ap (λ (c : Check Object). c >>= lookup_next t cred a.name) refused

module _ (t : Tree) (cred : Cred) (a : DirOp (List ℕ)) (x : Found) (d : Object) (found : find_object t a.directory ≡ Ok d)
    (is : IsObject t x d) where
  lookup_steps : lookup t cred a ≡ (need_lookup cred d a.name >>= (λ _. leads_at t d a.name >>= lookup_last t d))
  unfolding lookup need_lookup
  lookup_steps =
      ap (λ (c : Check Object). c >>= lookup_next t cred a.name) found
      ∙ lookup_flat _ (name_fault a.name) _ (place_named t d a.name) (λ place. some_or (leads_to t place) NoEnt) (lookup_last t d)

  lookup_seen : need_lookup cred d a.name ≡ need_lookup cred (seen x) a.name
  unfolding need_lookup
  lookup_seen =
      ap (λ (i : Inode). need_lookup cred (record { place = x.place; inode = i; size = x.inode.head.size }) a.name)
      (object-inode t x d is)

  -- what is asked before refuses
  pub lookup_refused : (status : Status) → need_lookup cred (seen x) a.name ≡ Err status → lookup t cred a ≡ Err status
  lookup_refused status refused =
      lookup_steps
      ∙ ap (λ (p : Check (Unit {0})). p >>= (λ _. leads_at t d a.name >>= lookup_last t d)) (lookup_seen ∙ refused)

  module _ (asked : need_lookup cred (seen x) a.name ≡ Ok tt) where
    leads_seen : leads_at t d a.name ≡ leads_at t (seen x) a.name
    unfolding place_named
    leads_seen =
        ap (λ (p : Place). leads_at t (record { place = p; inode = d.inode; size = x.inode.head.size }) a.name)
        (object-place t x d is)
        ∙ ap (λ (i : Inode). leads_at t (record { place = x.place; inode = i; size = x.inode.head.size }) a.name)
        (object-inode t x d is)

    lookup_looks : lookup t cred a ≡ (leads_at t (seen x) a.name >>= lookup_last t d)
    lookup_looks =
        lookup_steps
        ∙ ap (λ (p : Check (Unit {0})). p >>= (λ _. leads_at t d a.name >>= lookup_last t d)) (lookup_seen ∙ asked)
        ∙ ap (λ (c : Check Object). c >>= lookup_last t d) leads_seen

    -- the name leads nowhere
    pub lookup_lacks : (status : Status) → leads_at t (seen x) a.name ≡ Err status → lookup t cred a ≡ Err status
    lookup_lacks status refused = lookup_looks ∙ ap (λ (c : Check Object). c >>= lookup_last t d) refused

    -- what it leads to is told
    pub lookup_tells : (row : First) (y : Found) (o : Object) → first_of t ≡ row → leads_at t (seen x) a.name ≡ Ok o
        → IsObject t y o → lookup t cred a ≡ Ok (found_body row.fsid y.place y.attributes x.attributes)
    unfolding handle_at
    lookup_tells row y o begins to of =
        lookup_looks
        ∙ ap (λ (c : Check Object). c >>= lookup_last t d) to
        ∙ ap (λ (r : First). Ok (found_body r.fsid o.place (attributes t o) (attributes t d))) begins
        ∙ ap (λ (p : Place). Ok (found_body row.fsid p (attributes t o) (attributes t d))) (object-place t y o of)
        ∙ ap (λ (at : Fattr). Ok (found_body row.fsid y.place at (attributes t d))) of.attributes
        ∙ ap (λ (at : Fattr). Ok (found_body row.fsid y.place y.attributes at)) is.attributes

-- ---- the row

pub told_of : (t : Tree) (check : Check Body) (body : Body) → check ≡ Ok body → told t check ≡ Ok
    (record { body = body; tree = t })
told_of t check body is = ap (λ (c : Check Body). told t c) is

pub told_not : (t : Tree) (check : Check Body) (status : Status) → check ≡ Err status → told t check ≡ Err status
told_not t check status is = ap (λ (c : Check Body). told t c) is
