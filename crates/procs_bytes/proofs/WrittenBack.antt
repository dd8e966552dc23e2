-- The row of WRITE.
use Rattle.std.proofs.Common.{◌≡◌, ◌∙◌, ℕ, ◌+◌, ◌/◌, ◌%◌, ◌==◌, ◌≤◌, max, Bool, true, false, if◌then◌else◌}
use Rattle.std.proofs.Common.{List, length, take, refl, sym, ap, subst, Option, Some, Ok, Err, arith}
use Rattle.std.proofs.lemmas.Bool.{eq-eqb}
use Rattle.std.proofs.lemmas.List.{length-take}
use Rattle.std.specs.Prelude.{IfSome, IsSomeAnd, option_map}
use Rattle.nfs3_types.specs.declared.args.WriteArgs.{WriteArgs}
use Rattle.nfs3_types.specs.declared.attributes.Fattr.{Fattr}
use Rattle.nfs3_types.specs.declared.attributes.Wcc.{Wcc}
use Rattle.nfs3_types.specs.declared.body.Body.{Body}
use Rattle.nfs3_types.specs.declared.body.Body.TheVariants.{Write}
use Rattle.nfs3_types.specs.declared.cred.Cred.{Cred}
use Rattle.nfs3_types.specs.declared.moment.Moment.{Moment}
use Rattle.nfs3_types.specs.declared.stable_how.StableHow.TheVariants.{FileSync}
use Rattle.nfs3_types.specs.declared.status.Status.{Status}
use Rattle.fs_rules.specs.declared.inode.Inode.{Inode as Kept}
use Rattle.fs_rules.specs.declared.place.Place.{Place}
use Rattle.fs_rules.specs.declared.place.Place.TheVariants.{Live, SnapshotDirectory, Kept as KeptPlace}
use Rattle.fs_rules.specs.declared.plans.WritePlan.{WritePlan}
use Rattle.fs_rules.specs.Attributes.{attributes_of, is_file, size_of, wcc_of}
use Rattle.fs_rules.specs.Checks.{Check, ◌>>=◌, done, find_object, is_live}
use Rattle.fs_rules.specs.Edits.{edit_node, with_node, write_at, written}
use Rattle.fs_rules.specs.Places.{Object, object_by, node_at, attributes, shown, change, fileid_at}
use Rattle.fs_rules.specs.Sound.{IsSound, is_given}
use Rattle.fs_rules.specs.Transfers.{write, write_plan}
use Rattle.fs_rules.specs.Tree.{Tree, Node}
use Rattle.fs_keys.specs.declared.rows.First.{First}
use Rattle.fs_shows.specs.Shows.{first_of}
use Rattle.extent_ops.specs.Ranges.{blocks_in}
use Rattle.procs_object.specs.declared.object.Found.{Found}
use Rattle.procs_object.specs.Finding.{IsObject}
use Rattle.procs_object.proofs.Told.{object-place}
use Rattle.file_ops.specs.Given.{IsFile, MayFill}
use Rattle.file_ops.proofs.Ranged.{file-size}
use Rattle.file_ops.proofs.Wrote.{length-written}
use Rattle.procs_bytes.specs.Writing.{write_plan_for, written_attributes}
use Rattle.procs_bytes.proofs.Transferred.{shown-at, shown-is}

-- ---- how many puts

pub few-blocks : (offset count : ℕ) → count ≤ 32768 → blocks_in offset count + 1 ≤ 6
few-blocks offset count few = by_test (count == 0)
  where
    by_test : (b : Bool) → (if b then 0 else (offset % 8192 + count + 8191) / 8192) + 1 ≤ 6
    by_test true = omega arith
    by_test false = omega (arith, few)

-- so many bytes are that long
pub front-long : (bytes : List ℕ) (count : ℕ) (text : List ℕ) → bytes ≡ take count text → count ≤ length text
    → length bytes ≡ count
front-long bytes count text is within = ap length is ∙ omega (arith, length-take count text, within)

-- ---- the attributes behind a write

abbrev WroteBy : ℕ → ℕ → ℕ → List ℕ → Moment → Node → Type 0
WroteBy fsid id offset bytes now n =
    attributes_of fsid id (write_at offset bytes now n).inode (length (write_at offset bytes now n).content)
    ≡ written_attributes (attributes_of fsid id n.inode (length n.content)) offset (length bytes) now

-- the attributes of a file of this size
sized-by : ℕ → ℕ → Kept → ℕ → Fattr
sized-by fsid id i s = record {
  kind = i.kind;
  mode = i.mode;
  nlink = i.nlink;
  uid = i.uid;
  gid = i.gid;
  size = s;
  used = s;
  rdev = record { major = 0; minor = 0 };
  fsid = fsid;
  fileid = id;
  atime = i.atime;
  mtime = i.mtime;
  ctime = i.ctime;
}

wrote-attributes : (fsid id offset : ℕ) (bytes : List ℕ) (now : Moment) (n : Node) → IsFile n → WroteBy fsid id offset bytes now n
unfolding attributes_of written_attributes sized-by
wrote-attributes fsid id offset bytes now n file = by_test (length bytes == 0)
  where
    touched : Kept
    touched = record n.inode { mtime = now; ctime = now }

    content : List ℕ
    content = written offset bytes n.content

    size : size_of touched (length content) ≡ max (size_of n.inode (length n.content)) (offset + length bytes)
    size =
        file-size (record n { inode = touched; content = content }) file (length content)
        ∙ length-written offset bytes n.content
        ∙ ap (λ (s : ℕ). max s (offset + length bytes)) (sym (file-size n file (length n.content)))

    by_test : (b : Bool)
        → attributes_of fsid id (if b then n else record n { inode = touched; content = content }).inode
        (length (if b then n else record n { inode = touched; content = content }).content)
        ≡ (if b then attributes_of fsid id n.inode (length n.content)
        else sized-by fsid id touched (max (size_of n.inode (length n.content)) (offset + length bytes)))
    by_test true = refl
    by_test false = ap (λ (s : ℕ). sized-by fsid id touched s) size

-- ---- what is edited

pub live-place : (p : Place) → is_live p ≡ true → p ≡ Live (fileid_at p)
live-place (Live id) live = refl
live-place SnapshotDirectory live = absurd (cc)
live-place (KeptPlace number id) live = absurd (cc)

pub edited-node : (t : Tree) (id : ℕ) (edit : Node → Node) (n : Node) → t.nodes id ≡ Some n
    → node_at (edit_node id edit t) (Live id) ≡ Some (edit n)
unfolding node_at edit_node with_node
edited-node t id edit n is =
    ap (λ (b : Bool). if b then option_map edit (t.nodes id) else t.nodes id) (eq-eqb id id refl)
    ∙ ap (λ (o : Option Node). option_map edit o) is

pub live-node : (t : Tree) (id : ℕ) (n : Node) → node_at t (Live id) ≡ Some n → t.nodes id ≡ Some n
unfolding node_at
live-node t id n is = is

pub attributes-live : (t : Tree) (id : ℕ) (n : Node)
    → attributes t (object_by (Live id) n) ≡ attributes_of t.fsid id n.inode (length n.content)
unfolding attributes
attributes-live t id n = refl

pub attributes-edited : (t : Tree) (id : ℕ) (edit : Node → Node) (n : Node)
    → attributes (edit_node id edit t) (object_by (Live id) n) ≡ attributes_of t.fsid id n.inode (length n.content)
unfolding attributes edit_node
attributes-edited t id edit n = refl

pub some-of : (P : Node → Type 0) (o : Option Node) (n : Node) → o ≡ Some n → IfSome o P → P n
some-of P o n is h = subst (λ (o : Option Node). IfSome o P) is h

-- ---- the row

module _ (t : Tree) (cred : Cred) (a : WriteArgs (List ℕ)) (now : Moment) where
  abbrev edit-by : WritePlan → Tree
  edit-by plan = edit_node plan.fileid (write_at a.offset (take plan.count a.«data») now) t

  abbrev tell-by : WritePlan → Tree → Body
  tell-by plan after = Write (record {
    file = change t after (Live plan.fileid);
    count = plan.count;
    committed = FileSync;
    verifier = t.verifier;
  })

  -- the handle leads nowhere
  pub write-halted : (status : Status) → find_object t a.file ≡ Err status → write t cred a now ≡ Err status
  unfolding write write_plan write_plan_for
  write-halted status refused =
      ap (λ (c : Check Object). done (c >>= (λ o. write_plan_for o cred a)) edit-by tell-by) refused

  module _ (x : Found) (o : Object) (found : find_object t a.file ≡ Ok o) (is : IsObject t x o) where
    planned : (r : Check WritePlan) → write_plan_for o cred a ≡ r → write_plan t cred a ≡ r
    unfolding write_plan write_plan_for
    planned r plan = ap (λ (c : Check Object). c >>= (λ o. write_plan_for o cred a)) found ∙ plan

    done-by : (r : Check WritePlan) → write_plan t cred a ≡ r → write t cred a now ≡ done r edit-by tell-by
    unfolding write
    done-by r plan = ap (λ (r : Check WritePlan). done r edit-by tell-by) plan

    -- a check of the plan refuses
    pub write-refused : (status : Status) → write_plan_for o cred a ≡ Err status → write t cred a now ≡ Err status
    write-refused status plan = done-by (Err status) (planned (Err status) plan)

module _ (t : Tree) (x : Found) (o : Object) (is : IsObject t x o) (id : ℕ) (file : is_file x.inode.head.kept.kind ≡ true)
    (live : is_live x.place ≡ true) (id-is : id ≡ fileid_at x.place) where
  pub place-is : x.place ≡ Live id
  place-is = live-place x.place live ∙ ap (λ (id : ℕ). Live id) (sym id-is)

  pub node-is : t.nodes id ≡ Some is.node
  node-is = live-node t id is.node (subst (λ (at : Place). node_at t at ≡ Some is.node) place-is is.there)

  pub node-file : IsFile is.node
  node-file = ap (λ (k : Kept). is_file k.kind) (sym is.inode.kept) ∙ file

  -- the file may be written
  pub write-may : IsSound t → MayFill id t
  write-may sound = record {
    given = some-of (λ n. is_given t id ≡ true) (t.nodes id) is.node node-is (sound.bounds.live.given id);
    file = subst (λ (o : Option Node). IsSomeAnd o IsFile) (sym node-is) node-file;
  }

  pub seen-is : attributes_of t.fsid id is.node.inode (length is.node.content) ≡ x.attributes
  seen-is =
      sym (attributes-live t id is.node)
      ∙ ap (λ (p : Place). attributes t (object_by p is.node)) (sym place-is)
      ∙ ap (λ (o : Object). attributes t o) (sym is.is) ∙ is.attributes

  pub before-is : shown t (Live id) ≡ Some x.attributes
  before-is = ap (λ (p : Place). shown t p) (sym place-is ∙ sym (object-place t x o is)) ∙ shown-is t x o is

  module _ (offset : ℕ) (bytes : List ℕ) (now : Moment) where
    after-is : shown (edit_node id (write_at offset bytes now) t) (Live id)
        ≡ Some (written_attributes x.attributes offset (length bytes) now)
    after-is =
        shown-at (edit_node id (write_at offset bytes now) t) (Live id) (write_at offset bytes now is.node)
        (edited-node t id (write_at offset bytes now) is.node node-is)
        ∙ ap (λ (at : Fattr). Some at)
        (attributes-edited t id (write_at offset bytes now) (write_at offset bytes now is.node)
        ∙ wrote-attributes t.fsid id offset bytes now is.node node-file
        ∙ ap (λ (at : Fattr). written_attributes at offset (length bytes) now) seen-is)

    pub write-change : change t (edit_node id (write_at offset bytes now) t) (Live id)
        ≡ wcc_of (Some x.attributes) (Some (written_attributes x.attributes offset (length bytes) now))
    write-change =
        ap (λ (s : Option Fattr). wcc_of s (shown (edit_node id (write_at offset bytes now) t) (Live id))) before-is
        ∙ ap (λ (s : Option Fattr). wcc_of (Some x.attributes) s) after-is

-- the plan is done, and told
module _ (t : Tree) (cred : Cred) (a : WriteArgs (List ℕ)) (now : Moment) (x : Found) (o : Object)
    (found : find_object t a.file ≡ Ok o) (is : IsObject t x o) (p : WritePlan) (plan : write_plan_for o cred a ≡ Ok p)
    (file : is_file x.inode.head.kept.kind ≡ true) (live : is_live x.place ≡ true) (id-is : p.fileid ≡ fileid_at x.place)
    (within : p.count ≤ length a.«data») where
  pub write-done : (w : Wcc) (begins : First) → first_of t ≡ begins
      → w ≡ wcc_of (Some x.attributes) (Some (written_attributes x.attributes a.offset p.count now))
      → write t cred a now ≡ Ok (record {
        body = Write (record { file = w; count = p.count; committed = FileSync; verifier = begins.verifier });
        tree = edit_node p.fileid (write_at a.offset (take p.count a.«data») now) t;
      })
  write-done w begins first same =
      done-by t cred a now x o found is (Ok p) (planned t cred a now x o found is (Ok p) plan)
      ∙ ap (λ (c : Wcc). Ok (record {
        body = Write (record { file = c; count = p.count; committed = FileSync; verifier = t.verifier });
        tree = edit_node p.fileid (write_at a.offset (take p.count a.«data») now) t;
      }))
      (write-change t x o is p.fileid file live id-is a.offset (take p.count a.«data») now
      ∙ ap (λ (n : ℕ). wcc_of (Some x.attributes) (Some (written_attributes x.attributes a.offset n now)))
      long
      ∙ sym same)
      ∙ ap (λ (r : First). Ok (record {
        body = Write (record { file = w; count = p.count; committed = FileSync; verifier = r.verifier });
        tree = edit_node p.fileid (write_at a.offset (take p.count a.«data») now) t;
      })) first
    where
      long : length (take p.count a.«data») ≡ p.count
      long = omega (arith, length-take p.count a.«data», within)
