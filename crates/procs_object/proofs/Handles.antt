-- Where a handle leads, by the first record and the inode that are read.
use Rattle.std.proofs.Common.{◌≡◌, ◌≢◌, ◌∙◌, ℕ, Bool, true, false, if◌then◌else◌, List, length, refl, sym, ap, subst, Option}
use Rattle.std.proofs.Common.{Some, None, Ok, Err}
use Rattle.std.specs.Prelude.{◌==◌, option_map}
use Rattle.std.proofs.lemmas.Bool.{ne_eqb, eq-eqb}
use Rattle.nfs3_types.specs.declared.attributes.Fattr.{Fattr}
use Rattle.nfs3_types.specs.declared.handle.Handle.{Handle}
use Rattle.nfs3_types.specs.declared.status.Status.TheVariants.{BadHandle, Stale}
use Rattle.nfs3_types.specs.Handles.{handle_in}
use Rattle.fs_rules.specs.declared.inode.Inode.{Inode as Kept}
use Rattle.fs_rules.specs.declared.place.Place.{Place}
use Rattle.fs_rules.specs.Attributes.{is_directory, size_of, attributes_of}
use Rattle.fs_rules.specs.Checks.{find_object, ◌>>=◌, some_or}
use Rattle.fs_rules.specs.Places.{Object, object_by, object_at, object_of, leads_to, node_at, place_of, attributes}
use Rattle.fs_rules.specs.Places.{fileid_at, fsid_at}
use Rattle.fs_rules.specs.Tree.{Tree, Node}
use Rattle.fs_keys.specs.declared.inode.Inode.{Inode}
use Rattle.fs_shows.specs.Nodes.{IsInodeOf}
use Rattle.fs_shows.specs.Views.{IsFoundAs}
use Rattle.procs_object.specs.declared.object.Found.{Found}
use Rattle.procs_object.specs.Finding.{IsObject, IsLed}

-- ---- attributes, from the size that an inode says

size-again : (b : Bool) (n : ℕ) → (if b then 4096 else (if b then 4096 else n)) ≡ (if b then 4096 else n)
size-again true n = refl
size-again false n = refl

sized-again : (i : Kept) (n : ℕ) → size_of i (size_of i n) ≡ size_of i n
unfolding size_of
sized-again i n = size-again (is_directory i.kind) n

pub attributes-by-size : (fsid id : ℕ) (i : Kept) (m n : ℕ) → size_of i m ≡ size_of i n
    → attributes_of fsid id i m ≡ attributes_of fsid id i n
unfolding attributes_of
attributes-by-size fsid id i m n same =
    ap (λ (s : ℕ). let a : Fattr = record {
      kind = i.kind;
      mode = i.mode;
      nlink = i.nlink;
      uid = i.uid;
      gid = i.gid;
      size = s;
      used = s;
      rdev = record { major = 0; minor = 0 };
      fsid = fsid;
      fileid = id;
      atime = i.atime;
      mtime = i.mtime;
      ctime = i.ctime;
    } in a) same

-- the attributes of a node, by its inode
pub attributes-by-inode : (fsid id : ℕ) (i : Inode) (n : Node) → IsInodeOf i n
    → attributes_of fsid id n.inode (length n.content) ≡ attributes_of fsid id i.head.kept i.head.size
attributes-by-inode fsid id i n is =
    sym (ap (λ (k : Kept). attributes_of fsid id k i.head.size) is.kept
    ∙ ap (λ (s : ℕ). attributes_of fsid id n.inode s) is.size
    ∙ attributes-by-size fsid id n.inode (size_of n.inode (length n.content)) (length n.content) (sized-again n.inode
    (length n.content)))

-- ---- what was found, or was not

none-of : (o : Option Node) → IsFoundAs None o → o ≡ None
none-of None is = refl
none-of (Some n) is = absurd is

pub record Stood (i : Inode) (o : Option Node) : Type 0 where
  pub node : Node
  pub is : o ≡ Some node
  pub inode : IsInodeOf i node

some-of : (i : Inode) (o : Option Node) → IsFoundAs (Some i) o → Stood i o
some-of i None is = absurd is
some-of i (Some n) is = record { node = n; is = refl; inode = is }

-- ---- numbers

module _ (t : Tree) where
  pub led-nowhere : (o : Option Object) → IsLed t None o → o ≡ None
  led-nowhere None led = refl
  led-nowhere (Some o) led = absurd led

  pub led-there : (x : Found) (o : Option Object) → IsLed t (Some x) o → (p : Object) × (o ≡ Some p) × IsObject t x p
  led-there x None led = absurd led
  led-there x (Some p) led = (p, refl, led)

module _ (t : Tree) (p : Place) where
  object-as : (o : Option Node) → node_at t p ≡ o → object_at t p ≡ option_map (object_by p) o
  unfolding object_at
  object-as o is = ap (λ (o : Option Node). option_map (object_by p) o) is

  attributes-here : (i : Inode) (n : Node) (fsid : ℕ) → fsid_at t p ≡ fsid → IsInodeOf i n
      → attributes t (object_by p n) ≡ attributes_of fsid (fileid_at p) i.head.kept i.head.size
  unfolding attributes
  attributes-here i n fsid own is =
      attributes-by-inode (fsid_at t p) (fileid_at p) i n is
      ∙ ap (λ (f : ℕ). attributes_of f (fileid_at p) i.head.kept i.head.size) own

  pub led-none : IsFoundAs None (node_at t p) → IsLed t None (leads_to t p)
  led-none found =
      let P : Option Object → Type 0 = λ o. IsLed t None o in
      subst P (sym (object-as None (none-of (node_at t p) found))) tt

  pub led-some : (fsid : ℕ) (i : Inode) (a : Fattr) → fsid_at t p ≡ fsid
      → a ≡ attributes_of fsid (fileid_at p) i.head.kept i.head.size → IsFoundAs (Some i) (node_at t p)
      → IsLed t (Some (record { place = p; inode = i; attributes = a })) (leads_to t p)
  led-some fsid i a own is found =
      let s = some-of i (node_at t p) found in
      let x : Found = record { place = p; inode = i; attributes = a } in
      let P : Option Object → Type 0 = λ o. IsLed t (Some x) o in
      subst P (sym (object-as (Some s.node) s.is)) (record {
        node = s.node;
        there = s.is;
        inode = s.inode;
        is = refl;
        attributes = attributes-here i s.node fsid own s.inode ∙ sym is;
      })

-- ---- handles

module _ (t : Tree) (bytes : List ℕ) where
  pub bad-handle : handle_in bytes ≡ None → find_object t bytes ≡ Err BadHandle
  unfolding find_object
  bad-handle other = ap (λ (o : Option Handle). some_or o BadHandle >>= (λ h. some_or (object_of t h) Stale)) other

  module _ (h : Handle) where
    looked : handle_in bytes ≡ Some h → find_object t bytes ≡ some_or (object_of t h) Stale
    unfolding find_object
    looked said = ap (λ (o : Option Handle). some_or o BadHandle >>= (λ h. some_or (object_of t h) Stale)) said

    object-elsewhere : (h.fsid == t.fsid) ≡ false → object_of t h ≡ None
    unfolding object_of
    object-elsewhere other = ap (λ (b : Bool). if b then object_at t (place_of h) else None) other

    pub elsewhere : (fsid : ℕ) → handle_in bytes ≡ Some h → t.fsid ≡ fsid → h.fsid ≢ fsid → find_object t bytes ≡ Err Stale
    elsewhere fsid said begins other =
        looked said
        ∙ ap (λ (o : Option Object). some_or o Stale) (object-elsewhere (ne_eqb h.fsid t.fsid (λ same. other (same ∙ begins))))

    object-here : (h.fsid == t.fsid) ≡ true → object_of t h ≡ leads_to t (place_of h)
    unfolding object_of
    object-here own = ap (λ (b : Bool). if b then object_at t (place_of h) else None) own

    module _ (said : handle_in bytes ≡ Some h) (own : h.fsid ≡ t.fsid) where
      found-as : (o : Option Object) → leads_to t (place_of h) ≡ o → find_object t bytes ≡ some_or o Stale
      found-as o is =
          looked said
          ∙ ap (λ (o : Option Object). some_or o Stale) (object-here (eq-eqb h.fsid t.fsid own) ∙ is)

      pub not-there : IsLed t None (leads_to t (place_of h)) → find_object t bytes ≡ Err Stale
      not-there led = found-as None (led-nowhere t (leads_to t (place_of h)) led)

      pub there : (x : Found) → IsLed t (Some x) (leads_to t (place_of h))
          → (o : Object) × (find_object t bytes ≡ Ok o) × IsObject t x o
      there x led =
          let p = led-there t x (leads_to t (place_of h)) led in
          (p.0, found-as (Some p.0) p.1, p.2)
