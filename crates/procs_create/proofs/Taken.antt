-- A file that is there: what is found of it, and what is told behind it.
use Rattle.std.proofs.Common.{◌≡◌, ◌∙◌, ℕ, ◌==◌, Bool, true, false, List, length, Option, Some, None, Ok, Err}
use Rattle.std.proofs.Common.{refl, sym, ap, subst}
use Rattle.std.proofs.Math.Path.{fun_ext}
use Rattle.std.proofs.lemmas.Bool.{eqb-true}
use Rattle.std.specs.Prelude.{option_map, is_some, not, ◌&&◌, if◌then◌else◌}
use Rattle.nfs3_types.specs.declared.args.CreateHow.{CreateHow}
use Rattle.nfs3_types.specs.declared.attributes.Fattr.{Fattr}
use Rattle.nfs3_types.specs.declared.body.CreateOk.{CreateOk}
use Rattle.nfs3_types.specs.declared.cred.Cred.{Cred}
use Rattle.nfs3_types.specs.declared.file_type.FileType.{FileType}
use Rattle.nfs3_types.specs.declared.file_type.FileType.TheVariants.{Dir}
use Rattle.nfs3_types.specs.declared.handle.Handle.{Handle}
use Rattle.nfs3_types.specs.declared.moment.Moment.{Moment}
use Rattle.nfs3_types.specs.declared.status.Status.{Status}
use Rattle.nfs3_types.specs.declared.status.Status.TheVariants.{Acces, Exist, Inval, NoSpc}
use Rattle.nfs3_types.specs.Handles.{handle}
use Rattle.fs_rules.specs.declared.inode.Inode.{Inode as Kept}
use Rattle.fs_rules.specs.declared.place.Place.TheVariants.{Live}
use Rattle.fs_rules.specs.Attributes.{attributes_of, is_directory, is_file, is_too_large, wcc_of}
use Rattle.fs_rules.specs.Checks.{Check, ◌>>=◌, need, refuse_if, some_or}
use Rattle.fs_rules.specs.Edits.{edit_node, set_size, with_node}
use Rattle.fs_rules.specs.Making.{give_size, may_reuse, size_over, told_of_new}
use Rattle.fs_rules.specs.Places.{Object, handle_at, leads_to, shown}
use Rattle.fs_rules.specs.Transfers.{may_fill}
use Rattle.fs_rules.specs.Tree.{Tree, Node, Nodes}
use Rattle.procs_object.specs.declared.object.Found.{Found}
use Rattle.procs_object.specs.Finding.{IsLed, IsObject}
use Rattle.procs_object.proofs.Handles.{led-nowhere, led-there}
use Rattle.procs_object.proofs.Told.{object-inode}
use Rattle.file_ops.specs.Given.{IsFile}
use Rattle.file_ops.proofs.Ranged.{file-size}
use Rattle.procs_bytes.proofs.SizeSet.{long-sized}
use Rattle.procs_making.proofs.Placed.{shown-live, some-same}
use Rattle.procs_making.proofs.Sounds.{at-elsewhere, at-here, kind-is}
use Rattle.procs_create.specs.Taking.{cuts_lack, taken, taken_attributes, taken_check, taken_found, told_taken}

-- ---- the checks

passed-first : {A : Type 0} (b : Bool) (status : Status) (next : Unit {0} → Check A) (a : A) → (need b status >>= next) ≡ Ok a
    → b ≡ true
passed-first true status next a is = refl
passed-first false status next a is = absurd (cc)

-- those behind the first
abbrev more : Cred → CreateHow → Kept → ℕ → Check (Unit {0})
more cred how i long =
    need (may_reuse how i) Exist >>= (λ _. refuse_if (is_some (size_over how) && not (may_fill cred i)) Acces
    >>= (λ _. refuse_if (is_too_large (size_over how)) Inval >>= (λ _. refuse_if (cuts_lack (size_over how) i long) NoSpc)))

-- what was taken is a file
pub taken-file : (cred : Cred) (how : CreateHow) (i : Kept) (long : ℕ) (u : Unit {0}) → taken_check cred how i long ≡ Ok u
    → is_file i.kind ≡ true
unfolding taken_check
taken-file cred how i long u is = passed-first (is_file i.kind) Exist (λ _. more cred how i long) u is

-- of what is no file the size does not count
same-sized : (cred : Cred) (how : CreateHow) (i : Kept) (m n : ℕ) (b : Bool) → is_file i.kind ≡ b → (b ≡ true → m ≡ n)
    → taken_check cred how i m ≡ taken_check cred how i n
unfolding taken_check
same-sized cred how i m n true is same =
    ap (λ (long : ℕ). need (is_file i.kind) Exist >>= (λ _. more cred how i long)) (same refl)
same-sized cred how i m n false is same =
    ap (λ (b : Bool). need b Exist >>= (λ _. more cred how i m)) is
    ∙ sym (ap (λ (b : Bool). need b Exist >>= (λ _. more cred how i n)) is)

-- ---- what was found

module _ (t : Tree) (cred : Cred) (how : CreateHow) (fileid : ℕ) where
  found-as : (o : Option Object) → leads_to t (Live fileid) ≡ o
      → taken_found t cred how fileid
      ≡ (some_or o Exist >>= (λ file. taken_check cred how file.inode file.size >>= (λ _. Ok file)))
  unfolding taken_found
  found-as o is =
      ap (λ (o : Option Object). some_or o Exist >>= (λ file. taken_check cred how file.inode file.size >>= (λ _. Ok file))) is

  -- nothing is there
  pub taken-none : IsLed t None (leads_to t (Live fileid)) → taken_found t cred how fileid ≡ Err Exist
  taken-none led = found-as None (led-nowhere t (leads_to t (Live fileid)) led)

  module _ (x : Found) (led : IsLed t (Some x) (leads_to t (Live fileid))) where
    there : (p : Object) × (leads_to t (Live fileid) ≡ Some p) × IsObject t x p
    there = led-there t x (leads_to t (Live fileid)) led

    -- the size of a file is the one that its inode says
    size-is : is_file x.inode.head.kept.kind ≡ true → there.0.size ≡ x.inode.head.size
    size-is file =
        let n : Node = there.2.node in
        ap (λ (o : Object). o.size) there.2.is
        ∙ sym (there.2.inode.size
        ∙ file-size n (ap (λ (k : Kept). is_file k.kind) (sym there.2.inode.kept) ∙ file) (length n.content))

    checked : (c : Check (Unit {0})) → taken_check cred how x.inode.head.kept x.inode.head.size ≡ c
        → taken_found t cred how fileid ≡ (c >>= (λ _. Ok there.0))
    checked c is =
        found-as (Some there.0) there.1
        ∙ ap (λ (c : Check (Unit {0})). c >>= (λ _. Ok there.0))
        (ap (λ (k : Kept). taken_check cred how k there.0.size) (object-inode t x there.0 there.2)
        ∙ same-sized cred how x.inode.head.kept there.0.size x.inode.head.size (is_file x.inode.head.kept.kind) refl size-is ∙ is)

    -- it may not be taken
    pub taken-refused : (status : Status) → taken_check cred how x.inode.head.kept x.inode.head.size ≡ Err status
        → taken_found t cred how fileid ≡ Err status
    taken-refused status is = checked (Err status) is

    -- it may be taken
    pub taken-so : (u : Unit {0}) → taken_check cred how x.inode.head.kept x.inode.head.size ≡ Ok u
        → (o : Object) × (taken_found t cred how fileid ≡ Ok o) × IsObject t x o
    taken-so u is = (there.0, checked (Ok u) is, there.2)

-- ---- the attributes behind it

pub given-attributes : (fsid id : ℕ) (size : Option ℕ) (now : Moment) (n : Node) → IsFile n
    → attributes_of fsid id (give_size size now n).inode (length (give_size size now n).content)
    ≡ taken_attributes size now (attributes_of fsid id n.inode (length n.content))
unfolding attributes_of set_size
given-attributes fsid id None now n file = refl
given-attributes fsid id (Some size) now n file =
    let p : Fattr = taken_attributes (Some size) now (attributes_of fsid id n.inode (length n.content)) in
    ap (λ (z : ℕ). let r : Fattr = record p { size = z; used = z } in r)
    (file-size (give_size (Some size) now n) file (length (give_size (Some size) now n).content) ∙ long-sized size n)

-- where no size is given the tree stays
same-at : (id q : ℕ) (nodes : Nodes) (now : Moment) (o : Option Node) (b : Bool) → nodes id ≡ o → (q == id) ≡ b
    → (if b then option_map (give_size None now) o else nodes q) ≡ nodes q
same-at id q nodes now (Some n) true at is = sym at ∙ ap nodes (sym (eqb-true q id is))
same-at id q nodes now None true at is = sym at ∙ ap nodes (sym (eqb-true q id is))
same-at id q nodes now o false at is = refl

nodes-stay : (id : ℕ) (now : Moment) (nodes : Nodes) → with_node id (option_map (give_size None now) (nodes id)) nodes ≡ nodes
unfolding with_node
nodes-stay id now nodes = fun_ext (λ q. same-at id q nodes now (nodes id) (q == id) refl refl)

pub tree-stays : (id : ℕ) (now : Moment) (t : Tree) → taken id None now t ≡ t
unfolding edit_node
tree-stays id now t = ap (λ (nodes : Nodes). let after : Tree = record t { nodes = nodes } in after) (nodes-stay id now t.nodes)

-- no directory is a file
two-kinds : (k : FileType) → is_directory k ≡ true → is_file k ≡ true → ⊥
two-kinds k directory file =
    let both : is_file Dir ≡ true = subst (λ (k : FileType). is_file k ≡ true) (kind-is k directory) file in cc

-- ---- what is told

module _ (t : Tree) (number fileid : ℕ) (directory before : Fattr) (n m : Node) (there : t.nodes number ≡ Some n)
    (kind : is_directory n.inode.kind ≡ true) (is : attributes_of t.fsid number n.inode (length n.content) ≡ directory)
    (own : t.nodes fileid ≡ Some m) (file : IsFile m) (seen : attributes_of t.fsid fileid m.inode (length m.content) ≡ before)
    (size : Option ℕ) (now : Moment) where
  abbrev after : Tree
  after = taken fileid size now t

  apart : number ≡ fileid → ⊥
  apart same =
      let one : n ≡ m = some-same (t.nodes fileid) n m (ap (λ (i : ℕ). t.nodes i) (sym same) ∙ there) own in
      two-kinds m.inode.kind (ap (λ (n : Node). is_directory n.inode.kind) (sym one) ∙ kind) file

  own-fsid : t.fsid ≡ directory.fsid
  unfolding attributes_of
  own-fsid = ap (λ (a : Fattr). a.fsid) is

  after-fsid : after.fsid ≡ t.fsid
  unfolding edit_node
  after-fsid = refl

  abbrev own-handle : List ℕ
  own-handle = handle.spelling (record { fsid = directory.fsid; snapshot = 0; fileid = fileid })

  handle-is : handle_at after (Live fileid) ≡ own-handle
  unfolding handle_at
  handle-is =
      ap (λ (f : ℕ). let h : Handle = record { fsid = f; snapshot = 0; fileid = fileid } in handle.spelling h)
      (after-fsid ∙ own-fsid)

  file-shown : shown after (Live fileid) ≡ Some (taken_attributes size now before)
  file-shown =
      let g = give_size size now m in
      shown-live after fileid g (at-here fileid (give_size size now) t m own)
      ∙ ap (λ (f : ℕ). Some (attributes_of f fileid g.inode (length g.content))) after-fsid
      ∙ ap (λ (a : Fattr). Some a) (given-attributes t.fsid fileid size now m file)
      ∙ ap (λ (a : Fattr). Some (taken_attributes size now a)) seen

  directory-stays : shown after (Live number) ≡ Some directory
  directory-stays =
      shown-live after number n (at-elsewhere fileid number (give_size size now) t apart ∙ there)
      ∙ ap (λ (f : ℕ). Some (attributes_of f number n.inode (length n.content))) after-fsid ∙ ap (λ (a : Fattr). Some a) is

  -- it is what the trees before and behind show
  pub told-is : told_of_new t after (Live number) (Live fileid) ≡ told_taken directory fileid (taken_attributes size now before)
  unfolding told_of_new
  told-is =
      let whole : List ℕ → Option Fattr → Option Fattr → Option Fattr → CreateOk =
      λ h child before now. record { object = Some h; attributes = child; directory = wcc_of before now } in
      ap (λ (h : List ℕ). whole h (shown after (Live fileid)) (shown t (Live number)) (shown after (Live number))) handle-is
      ∙ ap (λ (c : Option Fattr). whole own-handle c (shown t (Live number)) (shown after (Live number))) file-shown
      ∙ ap (λ (b : Option Fattr). whole own-handle (Some (taken_attributes size now before)) b (shown after (Live number)))
      (shown-live t number n there ∙ ap (λ (a : Fattr). Some a) is)
      ∙ ap (λ (d : Option Fattr). whole own-handle (Some (taken_attributes size now before)) (Some directory) d) directory-stays
