-- The rows of READ and COMMIT.
use Rattle.std.proofs.Common.{◌≡◌, ◌∙◌, ℕ, ◌+◌, Bool, true, false, List, length, take, drop, refl, sym, ap, subst}
use Rattle.std.proofs.Common.{Option, Some, None, Ok, Err, nat_le, ◌||◌}
use Rattle.std.specs.Prelude.{IsSome, IsSomeAnd, option_map}
use Rattle.nfs3_types.specs.declared.args.FileRange.{FileRange}
use Rattle.nfs3_types.specs.declared.attributes.Fattr.{Fattr}
use Rattle.nfs3_types.specs.declared.attributes.Wcc.{Wcc}
use Rattle.nfs3_types.specs.declared.body.Body.{Body}
use Rattle.nfs3_types.specs.declared.body.Body.TheVariants.{Read, Commit}
use Rattle.nfs3_types.specs.declared.cred.Cred.{Cred}
use Rattle.nfs3_types.specs.declared.status.Status.{Status}
use Rattle.nfs3_types.specs.declared.status.Status.TheVariants.{Inval, Acces}
use Rattle.pairs.specs.declared.at.At.{At}
use Rattle.fs_rules.specs.declared.inode.Inode.{Inode as Kept}
use Rattle.fs_rules.specs.declared.place.Place.{Place}
use Rattle.fs_rules.specs.declared.place.Place.TheVariants.{Live as LivePlace, SnapshotDirectory, Kept as KeptPlace}
use Rattle.fs_rules.specs.Attributes.{is_file, wcc_of}
use Rattle.fs_rules.specs.Checks.{Check, ◌>>=◌, need, find_object, told}
use Rattle.fs_rules.specs.Places.{Object, object_by, object_at, node_at, node_in, attributes, shown, change, content_at}
use Rattle.fs_rules.specs.Places.{fileid_at}
use Rattle.fs_rules.specs.Places.{snapshot_numbered, snapshot_directory}
use Rattle.fs_rules.specs.Rights.{owns, may_read, may_search}
use Rattle.fs_rules.specs.Transfers.{read, commit, read_count}
use Rattle.fs_rules.specs.Tree.{Tree, Node, Snapshot, root_inode}
use Rattle.fs_keys.specs.declared.rows.First.{First}
use Rattle.fs_shows.specs.Shows.{first_of}
use Rattle.fs_shows.specs.Views.{place_in, IsKept}
use Rattle.procs_object.specs.declared.object.Found.{Found}
use Rattle.procs_object.specs.Finding.{IsObject}
use Rattle.procs_object.proofs.Told.{object-place, object-inode, told-so, told-not, told-refused}
use Rattle.file_ops.specs.Given.{HasFile, IsFile}
use Rattle.file_ops.proofs.Ranged.{file-size}
use Rattle.procs_bytes.specs.Seeing.{view_of}

-- ---- what is shown of what was found

pub shown-at : (t : Tree) (p : Place) (n : Node) → node_at t p ≡ Some n → shown t p ≡ Some (attributes t (object_by p n))
unfolding shown object_at
shown-at t p n is = ap (λ (o : Option Node). option_map (attributes t) (option_map (object_by p) o)) is

module _ (t : Tree) (x : Found) (o : Object) (is : IsObject t x o) where
  pub shown-is : shown t o.place ≡ Some x.attributes
  shown-is =
      ap (λ (p : Place). shown t p) (object-place t x o is) ∙ shown-at t x.place is.node is.there
      ∙ ap (λ (o : Object). Some (attributes t o)) (sym is.is) ∙ ap (λ (a : Fattr). Some a) is.attributes

  pub kind-is : (b : Bool) → is_file x.inode.head.kept.kind ≡ b → is_file o.inode.kind ≡ b
  kind-is b kind = ap (λ (k : Kept). is_file k.kind) (object-inode t x o is) ∙ kind

-- ---- COMMIT

abbrev pub commit-body : Wcc → List ℕ → Body
commit-body w verifier = Commit (record { file = w; verifier = verifier })

module _ (t : Tree) (a : FileRange (List ℕ)) where
  abbrev committed : Object → Check Body
  committed o =
      need (is_file o.inode.kind) Inval
      >>= (λ _. Ok (Commit (record { file = change t t o.place; verifier = t.verifier })))

  pub commit-refused : (status : Status) → find_object t a.file ≡ Err status → told t (commit t a) ≡ Err status
  unfolding commit
  commit-refused status refused = told-refused t (find_object t a.file) committed status refused

  module _ (x : Found) (o : Object) (found : find_object t a.file ≡ Ok o) (is : IsObject t x o) where
    pub commit-inval : is_file x.inode.head.kept.kind ≡ false → told t (commit t a) ≡ Err Inval
    unfolding commit
    commit-inval other =
        told-not t x o is (find_object t a.file) committed Inval found
        (ap (λ (b : Bool). need b Inval
        >>= (λ _. Ok (Commit (record { file = change t t o.place; verifier = t.verifier })))) (kind-is t x o is false other))

    pub commit-told : (begins : First) (w : Wcc) → w ≡ wcc_of (Some x.attributes) (Some x.attributes) → first_of t ≡ begins
        → is_file x.inode.head.kept.kind ≡ true
        → told t (commit t a) ≡ Ok (record { body = commit-body w begins.verifier; tree = t })
    unfolding commit
    commit-told begins w same first file =
        told-so t x o is (find_object t a.file) committed (commit-body w begins.verifier) found
        (ap (λ (b : Bool). need b Inval
        >>= (λ _. Ok (Commit (record { file = change t t o.place; verifier = t.verifier })))) (kind-is t x o is true file)
        ∙ ap (λ (s : Option Fattr). Ok (commit-body (wcc_of s s) t.verifier)) (shown-is t x o is)
        ∙ ap (λ (w : Wcc). Ok (commit-body w t.verifier)) (sym same)
        ∙ ap (λ (r : First). Ok (commit-body w r.verifier)) first)

-- ---- READ

-- the view of a place has what stands there
pub record Viewed (t : Tree) (p : Place) : Type 0 where
  pub kept : IsKept (view_of p) t
  pub place : place_in (view_of p) (fileid_at p) ≡ p

pub viewed-at : (t : Tree) (p : Place) (n : Node) → node_at t p ≡ Some n → IsFile n → Viewed t p
unfolding node_at snapshot_directory root_inode
viewed-at t (LivePlace id) n there file = record { kept = tt; place = refl }
viewed-at t SnapshotDirectory n there file = absurd (no_file n there file)
  where
    same : (a b : Node) → Some a ≡ Some b → a ≡ b
    same a b is = cc

    no : false ≡ true → ⊥
    no is = cc

    no_file : (n : Node) → Some (snapshot_directory t) ≡ Some n → IsFile n → ⊥
    no_file n there file = no (ap (λ (n : Node). is_file n.inode.kind) (same (snapshot_directory t) n there) ∙ file)
viewed-at t (KeptPlace number id) n there file = record { kept = by_snapshot (snapshot_numbered t number) there; place = refl }
  where
    by_snapshot : (s : Option Snapshot) → node_in s id ≡ Some n → IsSome s
    by_snapshot None there = absurd (cc)
    by_snapshot (Some s) there = refl

abbrev pub may_see : Cred → Kept → Bool
may_see cred i = owns cred i.uid || may_read cred i || may_search cred i

abbrev pub read-body : Fattr → ℕ → Bool → List ℕ → Body
read-body a count eof bytes = Read (record { attributes = Some a; count = count; eof = eof; «data» = bytes })

module _ (t : Tree) (cred : Cred) (a : FileRange (List ℕ)) where
  abbrev read-of : Object → Body
  read-of o =
      read-body (attributes t o) (read_count a o.size) (nat_le o.size (a.offset + read_count a o.size))
      (take (read_count a o.size) (drop a.offset (content_at t o.place)))

  abbrev seen-by : Bool → Bool → Object → Check Body
  seen-by file sees o = need file Inval >>= (λ _. need sees Acces >>= (λ _. Ok (read-of o)))

  abbrev read-next : Object → Check Body
  read-next o = seen-by (is_file o.inode.kind) (may_see cred o.inode) o

  pub read-refused : (status : Status) → find_object t a.file ≡ Err status → told t (read t cred a) ≡ Err status
  unfolding read
  read-refused status refused = told-refused t (find_object t a.file) read-next status refused

  module _ (x : Found) (o : Object) (found : find_object t a.file ≡ Ok o) (is : IsObject t x o) where
    sees-is : (b : Bool) → may_see cred x.inode.head.kept ≡ b → may_see cred o.inode ≡ b
    sees-is b sees = ap (λ (k : Kept). may_see cred k) (object-inode t x o is) ∙ sees

    pub read-inval : is_file x.inode.head.kept.kind ≡ false → told t (read t cred a) ≡ Err Inval
    unfolding read
    read-inval other =
        told-not t x o is (find_object t a.file) read-next Inval found
        (ap (λ (b : Bool). seen-by b (may_see cred o.inode) o) (kind-is t x o is false other))

    pub read-acces : is_file x.inode.head.kept.kind ≡ true → may_see cred x.inode.head.kept ≡ false
        → told t (read t cred a) ≡ Err Acces
    unfolding read
    read-acces file sees =
        told-not t x o is (find_object t a.file) read-next Acces found
        (ap (λ (b : Bool). seen-by b (may_see cred o.inode) o) (kind-is t x o is true file)
        ∙ ap (λ (b : Bool). seen-by true b o) (sees-is false sees))

    module _ (file : is_file x.inode.head.kept.kind ≡ true) where
      found-file : IsFile is.node
      found-file = ap (λ (k : Kept). is_file k.kind) (sym is.inode.kept) ∙ file

      viewed : Viewed t x.place
      viewed = viewed-at t x.place is.node is.there found-file

      has-file : HasFile (view_of x.place) (fileid_at x.place) t
      has-file = record {
        kept = viewed.kept;
        file = subst (λ (p : Place). IsSomeAnd (node_at t p) IsFile) (sym viewed.place)
            (subst (λ (n : Option Node). IsSomeAnd n IsFile) (sym is.there) found-file);
      }

      size-is : o.size ≡ x.inode.head.size
      size-is = ap (λ (o : Object). o.size) is.is ∙ sym (is.inode.size ∙ file-size is.node found-file (length is.node.content))

      count-is : read_count a o.size ≡ read_count a x.inode.head.size
      count-is = ap (λ (s : ℕ). read_count a s) size-is

      module _ (view : At) (id : ℕ) (view-is : view ≡ view_of x.place) (id-is : id ≡ fileid_at x.place) where
        -- what was found is a file of its view
        pub read-has : HasFile view id t
        read-has =
            subst (λ (v : At). HasFile v id t) (sym view-is) (subst (λ (i : ℕ). HasFile (view_of x.place) i t) (sym id-is)
            has-file)

        place-is : place_in view id ≡ x.place
        place-is =
            ap (λ (v : At). place_in v id) view-is ∙ ap (λ (i : ℕ). place_in (view_of x.place) i) id-is ∙ viewed.place

        pub read-told : (count : ℕ) (eof : Bool) (bytes : List ℕ) → may_see cred x.inode.head.kept ≡ true
            → count ≡ read_count a x.inode.head.size → eof ≡ nat_le x.inode.head.size (a.offset + count)
            → bytes ≡ take count (drop a.offset (content_at t (place_in view id)))
            → told t (read t cred a) ≡ Ok (record { body = read-body x.attributes count eof bytes; tree = t })
        unfolding read
        read-told count eof bytes sees count-so eof-so bytes-so =
            told-so t x o is (find_object t a.file) read-next (read-body x.attributes count eof bytes) found
            (ap (λ (b : Bool). seen-by b (may_see cred o.inode) o) (kind-is t x o is true file)
            ∙ ap (λ (b : Bool). seen-by true b o) (sees-is true sees)
            ∙ ap (λ (at : Fattr). Ok (read-body at (read_count a o.size) (nat_le o.size (a.offset + read_count a o.size))
            (take (read_count a o.size) (drop a.offset (content_at t o.place))))) is.attributes
            ∙ ap (λ (n : ℕ). Ok (read-body x.attributes n (nat_le o.size (a.offset + n))
            (take n (drop a.offset (content_at t o.place))))) (count-is ∙ sym count-so)
            ∙ ap (λ (e : Bool). Ok (read-body x.attributes count e (take count (drop a.offset (content_at t o.place)))))
            (ap (λ (s : ℕ). nat_le s (a.offset + count)) size-is ∙ sym eof-so)
            ∙ ap (λ (bs : List ℕ). Ok (read-body x.attributes count eof bs))
            (ap (λ (p : Place). take count (drop a.offset (content_at t p))) (object-place t x o is ∙ sym place-is)
            ∙ sym bytes-so))
