-- The row of SETATTR, where a size is given.
use Rattle.std.proofs.Common.{◌≡◌, ◌∙◌, ℕ, ◌+◌, ◌==◌, ◌<◌, nat_lt, nat_le, Bool, true, false, not, ◌&&◌, if◌then◌else◌}
use Rattle.std.proofs.Common.{List, length, refl, sym, ap, subst, Option, Some, None, is_some, Ok, Err}
use Rattle.std.proofs.lemmas.Bool.{eq-eqb}
use Rattle.std.proofs.Math.Path.{fun_ext}
use Rattle.std.specs.Prelude.{⊤, IfSome, IsSomeAnd, option_map}
use Rattle.nfs3_types.specs.declared.args.SetAttrArgs.{SetAttrArgs}
use Rattle.nfs3_types.specs.declared.attributes.Fattr.{Fattr}
use Rattle.nfs3_types.specs.declared.attributes.Sattr.{Sattr}
use Rattle.nfs3_types.specs.declared.attributes.Wcc.{Wcc}
use Rattle.nfs3_types.specs.declared.body.Body.TheVariants.{SetAttr}
use Rattle.nfs3_types.specs.declared.cred.Cred.{Cred}
use Rattle.nfs3_types.specs.declared.moment.Moment.{Moment}
use Rattle.nfs3_types.specs.declared.status.Status.{Status}
use Rattle.nfs3_types.specs.declared.status.Status.TheVariants.{Inval, NoSpc, NotSync}
use Rattle.fs_rules.specs.declared.inode.Inode.{Inode as Kept}
use Rattle.fs_rules.specs.declared.place.Place.{Place}
use Rattle.fs_rules.specs.declared.place.Place.TheVariants.{Live}
use Rattle.fs_rules.specs.declared.plans.SetAttrPlan.{SetAttrPlan}
use Rattle.fs_rules.specs.Attributes.{apply_sattr, attributes_of, given, is_file, sattr_fault, wcc_of}
use Rattle.fs_rules.specs.Checks.{Check, ◌>>=◌, done, find_object, is_live, need_live, no_fault, refuse_if}
use Rattle.fs_rules.specs.Edits.{edit_node, set_attributes, set_size, set_size_if, touch, with_node}
use Rattle.fs_rules.specs.Limits.{most_numbers}
use Rattle.fs_rules.specs.Making.{give_size}
use Rattle.fs_rules.specs.Places.{Object, object_by, node_at, attributes, shown, change, fileid_at}
use Rattle.fs_rules.specs.Setting.{set_attr, set_attr_plan, is_same, lacks_cuts}
use Rattle.fs_rules.specs.Sound.{IsSound, IsNodeWithin}
use Rattle.fs_rules.specs.Tree.{Tree, Node, Nodes}
use Rattle.fs_shows.specs.Views.{IsThere}
use Rattle.extent_ops.proofs.Contents.{length-resized}
use Rattle.procs_object.specs.declared.object.Found.{Found}
use Rattle.procs_object.specs.Finding.{IsObject}
use Rattle.procs_object.specs.Planning.{plan_for}
use Rattle.procs_object.proofs.Told.{object-inode}
use Rattle.file_ops.specs.Given.{IsFile, MaySize}
use Rattle.file_ops.proofs.Ranged.{file-size}
use Rattle.procs_bytes.specs.Resizing.{may_set}
use Rattle.procs_bytes.proofs.HeldUp.{Resizes}
use Rattle.procs_bytes.proofs.Transferred.{shown-at}
use Rattle.procs_bytes.proofs.WrittenBack.{edited-node, live-node, some-of, node-is, node-file, seen-is, before-is, write-may}

-- ---- the checks

first_none : (c : Bool) (rest : Option Status) → (if c then Some Inval else rest) ≡ None → c ≡ false
first_none true rest none = absurd (cc)
first_none false rest none = refl

second_true : (p b : Bool) → p ≡ true → (p && not b) ≡ false → b ≡ true
second_true p true is none = refl
second_true true false is none = absurd (cc)
second_true false false is none = absurd (cc)

-- a size is set of a file alone
pub fault_none : (cred : Cred) (a : Fattr) (s : Sattr) (size : ℕ) → sattr_fault cred a s ≡ None → s.size ≡ Some size
    → is_file a.kind ≡ true
unfolding sattr_fault
fault_none cred a s size none sized =
    second_true (is_some s.size) (is_file a.kind) (ap (λ (z : Option ℕ). is_some z) sized)
    (first_none (is_some s.size && not (is_file a.kind)) _ none)

three : {A : Type 0} (c d e : Check (Unit {0})) (next : Unit {0} → Check A)
    → ((c >>= (λ _. d >>= (λ _. e))) >>= next) ≡ (c >>= (λ _. d >>= (λ _. e >>= next)))
three (Err status) d e next = refl
three (Ok u) (Err status) e next = refl
three (Ok u) (Ok v) e next = refl

-- ---- the attributes behind it

abbrev SetsBy : ℕ → ℕ → ℕ → Node → Moment → Sattr → Type 0
SetsBy fsid id size n now s =
    let p = apply_sattr (attributes_of fsid id n.inode (length n.content)) s now in
    attributes_of fsid id (set_attributes p (set_size size n)).inode (length (set_size size n).content) ≡ p

pub long-sized : (size : ℕ) (n : Node) → length (set_size size n).content ≡ size
unfolding set_size
long-sized size n = length-resized size n.content

sets-sized : (fsid id size : ℕ) (n : Node) (now : Moment) (s : Sattr) → IsFile n
    → SetsBy fsid id size n now (record s { size = Some size })
unfolding attributes_of apply_sattr set_size
sets-sized fsid id size n now s file =
    let p : Fattr = apply_sattr (attributes_of fsid id n.inode (length n.content)) (record s { size = Some size }) now in
    ap (λ (z : ℕ). let r : Fattr = record p { size = z; used = z } in r)
    (file-size (set_attributes p (set_size size n)) file (length (set_size size n).content) ∙ long-sized size n)

sets-so : (fsid id size : ℕ) (n : Node) (now : Moment) (s : Sattr) → IsFile n → s.size ≡ Some size → SetsBy fsid id size n now s
sets-so fsid id size n now s file sized =
    let e : s ≡ record s { size = Some size } = ap (λ (z : Option ℕ). let r : Sattr = record s { size = z } in r) sized in
    subst (SetsBy fsid id size n now) (sym e) (sets-sized fsid id size n now s file)

pub few-cuts : (id : ℕ) (o : Option Node) → IfSome o (IsNodeWithin id) → IfSome o (λ n. n.inode.cuts < most_numbers)
few-cuts id None within = tt
few-cuts id (Some n) within = within.cuts

-- ---- two edits are one

mapped : (f g : Node → Node) (o : Option Node) → option_map (λ n. g (f n)) o ≡ option_map g (option_map f o)
mapped f g None = refl
mapped f g (Some n) = refl

twice : (id : ℕ) (f g : Node → Node) (t : Tree) → edit_node id (λ n. g (f n)) t ≡ edit_node id g (edit_node id f t)
unfolding edit_node with_node
twice id f g t = ap (λ (nodes : Nodes). record t { nodes = nodes }) (fun_ext (λ i. by_test i (i == id) refl))
  where
    first : Nodes
    first = λ i. if i == id then option_map f (t.nodes id) else t.nodes i

    by_test : (i : ℕ) (b : Bool) → (i == id) ≡ b
        → (if b then option_map (λ n. g (f n)) (t.nodes id) else t.nodes i) ≡ (if b then option_map g (first id) else first i)
    by_test i true is =
        mapped f g (t.nodes id)
        ∙ ap (option_map g) (sym (ap (λ (b : Bool). if b then option_map f (t.nodes id) else t.nodes id) (eq-eqb id id refl)))
    by_test i false is = sym (ap (λ (b : Bool). if b then option_map f (t.nodes id) else t.nodes i) is)

attributes-twice : (t : Tree) (id : ℕ) (f g : Node → Node) (n : Node)
    → attributes (edit_node id g (edit_node id f t)) (object_by (Live id) n) ≡ attributes_of t.fsid id n.inode (length n.content)
unfolding attributes edit_node
attributes-twice t id f g n = refl

there-so : (o : Option Node) (n : Node) → o ≡ Some n → IsSomeAnd o (λ n. ⊤)
there-so o n is = subst (λ (o : Option Node). IsSomeAnd o (λ n. ⊤)) (sym is) tt

sized-there : (id size : ℕ) (t : Tree) (o : Option Node) → t.nodes id ≡ o → IsSomeAnd o IsFile
    → IsThere id (edit_node id (set_size size) t)
sized-there id size t None is file = absurd file
sized-there id size t (Some n) is file =
    there-so ((edit_node id (set_size size) t).nodes id) (set_size size n)
    (live-node (edit_node id (set_size size) t) id (set_size size n) (edited-node t id (set_size size) n is))

-- the file is there still, once it was sized
pub sized-still : (id size : ℕ) (t : Tree) → MaySize id t → IsThere id (edit_node id (set_size size) t)
sized-still id size t may = sized-there id size t (t.nodes id) refl may.fill.file

-- and its times then
pub given-so : (id size : ℕ) (now : Moment) (t : Tree)
    → edit_node id (touch now) (edit_node id (set_size size) t) ≡ edit_node id (give_size (Some size) now) t
given-so id size now t = sym (twice id (set_size size) (touch now) t)

-- ---- the row

-- the handle leads nowhere
pub size-halted : (t : Tree) (cred : Cred) (a : SetAttrArgs (List ℕ)) (now : Moment) (status : Status)
    → find_object t a.object ≡ Err status → set_attr t cred a now ≡ Err status
unfolding set_attr set_attr_plan plan_for
size-halted t cred a now status refused =
    ap (λ (c : Check Object). done (c >>= (λ o. plan_for o (attributes t o) cred a now))
    (λ plan. edit_node plan.fileid (λ n. set_attributes plan.attributes (set_size_if a.attributes.size n)) t)
    (λ plan after. SetAttr (change t after (Live plan.fileid)))) refused

module _ (t : Tree) (cred : Cred) (a : SetAttrArgs (List ℕ)) (now : Moment) (x : Found) (o : Object)
    (found : find_object t a.object ≡ Ok o) (is : IsObject t x o) where
  abbrev the-plan : SetAttrPlan
  the-plan = record { fileid = fileid_at o.place; attributes = apply_sattr x.attributes a.attributes now }

  abbrev last : Bool → Check SetAttrPlan
  last lacks = refuse_if lacks NoSpc >>= (λ _. Ok the-plan)

  planned : (r : Check (Unit {0})) → may_set o x.attributes cred a ≡ r
      → set_attr_plan t cred a now ≡ (r >>= (λ _. last (lacks_cuts a.attributes.size o)))
  unfolding set_attr_plan plan_for may_set
  planned r may =
      ap (λ (c : Check Object). c >>= (λ o. plan_for o (attributes t o) cred a now)) found
      ∙ ap (λ (at : Fattr). plan_for o at cred a now) is.attributes
      ∙ sym (three (need_live o) (refuse_if (given a.guard (λ guard. not (is_same guard o.inode.ctime))) NotSync)
      (no_fault (sattr_fault cred x.attributes a.attributes)) (λ _. last (lacks_cuts a.attributes.size o)))
      ∙ ap (λ (c : Check (Unit {0})). c >>= (λ _. last (lacks_cuts a.attributes.size o))) may

  done-by : (r : Check SetAttrPlan) → set_attr_plan t cred a now ≡ r
      → set_attr t cred a now
      ≡ done r (λ plan. edit_node plan.fileid (λ n. set_attributes plan.attributes (set_size_if a.attributes.size n)) t)
      (λ plan after. SetAttr (change t after (Live plan.fileid)))
  unfolding set_attr
  done-by r plan =
      ap (λ (r : Check SetAttrPlan). done r
      (λ plan. edit_node plan.fileid (λ n. set_attributes plan.attributes (set_size_if a.attributes.size n)) t)
      (λ plan after. SetAttr (change t after (Live plan.fileid)))) plan

  -- a check refuses
  pub size-refused : (status : Status) → may_set o x.attributes cred a ≡ Err status → set_attr t cred a now ≡ Err status
  size-refused status may = done-by (Err status) (planned (Err status) may)

  module _ (size : ℕ) (u : Unit {0}) (sized : a.attributes.size ≡ Some size) (may : may_set o x.attributes cred a ≡ Ok u)
      (id : ℕ) (kind : is_file x.attributes.kind ≡ true) (live : is_live x.place ≡ true) (id-is : id ≡ fileid_at x.place) where
    kind-of : is_file x.inode.head.kept.kind ≡ true
    unfolding attributes attributes_of
    kind-of =
        ap (λ (k : Kept). is_file k.kind) (sym (object-inode t x o is)) ∙ ap (λ (at : Fattr). is_file at.kind) is.attributes
        ∙ kind

    size-of : o.size ≡ x.inode.head.size
    size-of =
        ap (λ (o : Object). o.size) is.is
        ∙ sym (is.inode.size ∙ file-size is.node (node-file t x o is id kind-of live id-is) (length is.node.content))

    lacks-is : (b : Bool) → (nat_lt size x.inode.head.size && nat_le most_numbers (x.inode.head.kept.cuts + 1)) ≡ b
        → lacks_cuts a.attributes.size o ≡ b
    lacks-is b lacks =
        ap (λ (z : Option ℕ). lacks_cuts z o) sized
        ∙ ap (λ (s : ℕ). nat_lt size s && nat_le most_numbers (o.inode.cuts + 1)) size-of
        ∙ ap (λ (k : Kept). nat_lt size x.inode.head.size && nat_le most_numbers (k.cuts + 1)) (object-inode t x o is) ∙ lacks

    -- the file was cut too often
    pub size-no-space : (nat_lt size x.inode.head.size && nat_le most_numbers (x.inode.head.kept.cuts + 1)) ≡ true
        → set_attr t cred a now ≡ Err NoSpc
    size-no-space lacks = done-by (Err NoSpc) (planned (Ok u) may ∙ ap (λ (b : Bool). last b) (lacks-is true lacks))

    -- the file may be sized
    pub size-may : IsSound t → MaySize id t
    size-may sound = record {
      fill = write-may t x o is id kind-of live id-is sound;
      cuts = subst (λ (o : Option Node). IsSomeAnd o (λ n. n.inode.cuts < most_numbers))
          (sym (node-is t x o is id kind-of live id-is))
          (some-of (λ n. n.inode.cuts < most_numbers) (t.nodes id) is.node (node-is t x o is id kind-of live id-is)
          (few-cuts id (t.nodes id) (sound.bounds.live.each id)));
    }

    module _ (lacks : (nat_lt size x.inode.head.size && nat_le most_numbers (x.inode.head.kept.cuts + 1)) ≡ false)
        (p : Fattr) (p-is : p ≡ apply_sattr x.attributes a.attributes now) where
      abbrev pub after-size : Tree
      after-size = edit_node id (set_attributes p) (edit_node id (set_size size) t)

      file-is : IsFile is.node
      file-is = node-file t x o is id kind-of live id-is

      becomes-so : node_at after-size (Live id) ≡ Some (set_attributes p (set_size size is.node))
      becomes-so =
          edited-node (edit_node id (set_size size) t) id (set_attributes p) (set_size size is.node)
          (live-node (edit_node id (set_size size) t) id (set_size size is.node)
          (edited-node t id (set_size size) is.node (node-is t x o is id kind-of live id-is)))

      set-is : attributes_of t.fsid id (set_attributes p (set_size size is.node)).inode (length (set_size size is.node).content)
          ≡ p
      set-is =
          let whole : p ≡ apply_sattr (attributes_of t.fsid id is.node.inode (length is.node.content)) a.attributes now =
          p-is ∙ ap (λ (at : Fattr). apply_sattr at a.attributes now) (sym (seen-is t x o is id kind-of live id-is)) in
          ap (λ (at : Fattr). attributes_of t.fsid id (set_attributes at (set_size size is.node)).inode
          (length (set_size size is.node).content)) whole
          ∙ sets-so t.fsid id size is.node now a.attributes file-is sized ∙ sym whole

      after-is : shown after-size (Live id) ≡ Some p
      after-is =
          shown-at after-size (Live id) (set_attributes p (set_size size is.node)) becomes-so
          ∙ ap (λ (at : Fattr). Some at)
          (attributes-twice t id (set_size size) (set_attributes p) (set_attributes p (set_size size is.node)) ∙ set-is)

      edited : edit_node id (λ n. set_attributes p (set_size_if a.attributes.size n)) t ≡ after-size
      edited =
          ap (λ (z : Option ℕ). edit_node id (λ n. set_attributes p (set_size_if z n)) t) sized
          ∙ twice id (set_size size) (set_attributes p) t

      plan-is : set_attr_plan t cred a now ≡ Ok (record { fileid = id; attributes = p })
      plan-is =
          planned (Ok u) may ∙ ap (λ (b : Bool). last b) (lacks-is false lacks)
          ∙ ap (λ (q : Place). let r : Check SetAttrPlan = Ok (record {
            fileid = fileid_at q;
            attributes = apply_sattr x.attributes a.attributes now;
          }) in r) (ap (λ (o : Object). o.place) is.is)
          ∙ ap (λ (i : ℕ). let r : Check SetAttrPlan = Ok (record {
            fileid = i;
            attributes = apply_sattr x.attributes a.attributes now;
          }) in r) (sym id-is)
          ∙ ap (λ (at : Fattr). let r : Check SetAttrPlan = Ok (record { fileid = id; attributes = at }) in r) (sym p-is)

      -- the plan is done, and told
      pub size-done : (w : Wcc) → w ≡ wcc_of (Some x.attributes) (Some p)
          → set_attr t cred a now ≡ Ok (record { body = SetAttr w; tree = after-size })
      size-done w same =
          done-by (Ok (record { fileid = id; attributes = p })) plan-is
          ∙ ap (λ (after : Tree). Ok (record { body = SetAttr (change t after (Live id)); tree = after })) edited
          ∙ ap (λ (w : Wcc). Ok (record { body = SetAttr w; tree = after-size }))
          (ap (λ (at : Option Fattr). wcc_of at (shown after-size (Live id))) (before-is t x o is id kind-of live id-is)
          ∙ ap (λ (at : Option Fattr). wcc_of (Some x.attributes) at) after-is ∙ sym same)

      pub size-resizes : Resizes id size (set_attr t cred a now) t
      size-resizes = record {
        done = record { body = SetAttr (wcc_of (Some x.attributes) (Some p)); tree = after-size };
        is = size-done (wcc_of (Some x.attributes) (Some p)) refl;
        before = is.node;
        was = node-is t x o is id kind-of live id-is;
        file = file-is;
        after = set_attributes p (set_size size is.node);
        becomes = live-node after-size id (set_attributes p (set_size size is.node)) becomes-so;
        long = long-sized size is.node;
      }
