-- The row of SETATTR, where no size is given.
use Rattle.std.proofs.Common.{◌≡◌, ◌∙◌, ℕ, Bool, true, if◌then◌else◌, List, length, refl, sym, ap, subst, Option, Some, None}
use Rattle.std.proofs.Common.{Ok, Err}
use Rattle.std.specs.Prelude.{⊤, IsSomeAnd, option_map}
use Rattle.std.proofs.lemmas.Bool.{eq-eqb}
use Rattle.nfs3_types.specs.declared.args.SetAttrArgs.{SetAttrArgs}
use Rattle.nfs3_types.specs.declared.attributes.Fattr.{Fattr}
use Rattle.nfs3_types.specs.declared.attributes.Sattr.{Sattr}
use Rattle.nfs3_types.specs.declared.attributes.Wcc.{Wcc}
use Rattle.nfs3_types.specs.declared.body.Body.TheVariants.{SetAttr}
use Rattle.nfs3_types.specs.declared.cred.Cred.{Cred}
use Rattle.nfs3_types.specs.declared.moment.Moment.{Moment}
use Rattle.nfs3_types.specs.declared.status.Status.{Status}
use Rattle.fs_rules.specs.declared.inode.Inode.{Inode as Kept}
use Rattle.fs_rules.specs.declared.place.Place.{Place}
use Rattle.fs_rules.specs.declared.place.Place.TheVariants.{Live, SnapshotDirectory, Kept as KeptPlace}
use Rattle.fs_rules.specs.declared.plans.SetAttrPlan.{SetAttrPlan}
use Rattle.fs_rules.specs.Attributes.{apply_sattr, attributes_of, size_of, wcc_of}
use Rattle.fs_rules.specs.Checks.{Check, ◌>>=◌, done, find_object, is_live}
use Rattle.fs_rules.specs.Edits.{edit_node, set_attributes, set_size_if, with_node}
use Rattle.fs_rules.specs.Places.{Object, object_by, object_at, node_at, attributes, shown, change, fileid_at}
use Rattle.fs_rules.specs.Setting.{set_attr, set_attr_plan}
use Rattle.fs_rules.specs.Tree.{Tree, Node}
use Rattle.fs_shows.specs.Views.{IsThere}
use Rattle.procs_object.specs.declared.object.Found.{Found}
use Rattle.procs_object.specs.Finding.{IsObject}
use Rattle.procs_object.specs.Planning.{plan_for}

-- ---- the attributes behind the edit are those of the plan

abbrev SetsBy : ℕ → ℕ → Kept → ℕ → Moment → Sattr → Type 0
SetsBy fsid id i n now s =
    let p = apply_sattr (attributes_of fsid id i n) s now in
    attributes_of fsid id (record i {
      mode = p.mode;
      uid = p.uid;
      gid = p.gid;
      atime = p.atime;
      mtime = p.mtime;
      ctime =
          p.ctime;
    }) n ≡ p

sets-unsized : (fsid id : ℕ) (i : Kept) (n : ℕ) (now : Moment) (s : Sattr) → SetsBy fsid id i n now (record s { size = None })
unfolding attributes_of size_of apply_sattr
sets-unsized fsid id i n now s = refl

sets-so : (fsid id : ℕ) (i : Kept) (n : ℕ) (now : Moment) (s : Sattr) → s.size ≡ None → SetsBy fsid id i n now s
sets-so fsid id i n now s none =
    let e : s ≡ record s { size = None } = ap (λ (z : Option ℕ). let r : Sattr = record s { size = z } in r) none in
    subst (SetsBy fsid id i n now) (sym e) (sets-unsized fsid id i n now s)

live-place : (p : Place) → is_live p ≡ true → p ≡ Live (fileid_at p)
live-place (Live id) live = refl
live-place SnapshotDirectory live = absurd (cc)
live-place (KeptPlace number id) live = absurd (cc)

there-so : (o : Option Node) (n : Node) → o ≡ Some n → IsSomeAnd o (λ n. ⊤)
there-so o n is = subst (λ (o : Option Node). IsSomeAnd o (λ n. ⊤)) (sym is) tt

edit-unsized : (id : ℕ) (at : Fattr) (size : Option ℕ) (t : Tree) → size ≡ None
    → edit_node id (λ n. set_attributes at (set_size_if size n)) t ≡ edit_node id (set_attributes at) t
edit-unsized id at size t none = ap (λ (z : Option ℕ). edit_node id (λ n. set_attributes at (set_size_if z n)) t) none

shown-at : (t : Tree) (p : Place) (n : Node) → node_at t p ≡ Some n → shown t p ≡ Some (attributes t (object_by p n))
unfolding shown object_at
shown-at t p n is = ap (λ (o : Option Node). option_map (attributes t) (option_map (object_by p) o)) is

edited-node : (t : Tree) (id : ℕ) (edit : Node → Node) (n : Node) → t.nodes id ≡ Some n
    → node_at (edit_node id edit t) (Live id) ≡ Some (edit n)
unfolding node_at edit_node with_node
edited-node t id edit n is =
    ap (λ (b : Bool). if b then option_map edit (t.nodes id) else t.nodes id) (eq-eqb id id refl)
    ∙ ap (λ (o : Option Node). option_map edit o) is

live-node : (t : Tree) (id : ℕ) (n : Node) → node_at t (Live id) ≡ Some n → t.nodes id ≡ Some n
unfolding node_at
live-node t id n is = is

attributes-edited : (t : Tree) (id : ℕ) (at : Fattr) (n : Node)
    → attributes (edit_node id (set_attributes at) t) (object_by (Live id) (set_attributes at n))
    ≡ attributes_of t.fsid id (set_attributes at n).inode (length n.content)
unfolding attributes edit_node
attributes-edited t id at n = refl

attributes-live : (t : Tree) (id : ℕ) (n : Node) → attributes t (object_by (Live id) n) ≡ attributes_of t.fsid id n.inode
    (length n.content)
unfolding attributes
attributes-live t id n = refl

-- ---- the row

-- the handle leads nowhere
pub set-halted : (t : Tree) (cred : Cred) (a : SetAttrArgs (List ℕ)) (now : Moment) (status : Status)
    → find_object t a.object ≡ Err status
    → set_attr t cred a now ≡ Err status
unfolding set_attr set_attr_plan plan_for
set-halted t cred a now status refused =
    ap (λ (c : Check Object). done (c >>= (λ o. plan_for o (attributes t o) cred a now))
    (λ plan. edit_node plan.fileid (λ n. set_attributes plan.attributes (set_size_if a.attributes.size n)) t)
    (λ plan after. SetAttr (change t after (Live plan.fileid)))) refused

module _ (t : Tree) (cred : Cred) (a : SetAttrArgs (List ℕ)) (now : Moment) (x : Found) (o : Object)
    (found : find_object t a.object ≡ Ok o) (is : IsObject t x o) where
  planned : (r : Check SetAttrPlan) → plan_for o x.attributes cred a now ≡ r → set_attr_plan t cred a now ≡ r
  unfolding set_attr_plan plan_for
  planned r plan =
      ap (λ (c : Check Object). c >>= (λ o. plan_for o (attributes t o) cred a now)) found
      ∙ ap (λ (at : Fattr). plan_for o at cred a now) is.attributes ∙ plan

  done-by : (r : Check SetAttrPlan) → set_attr_plan t cred a now ≡ r
      → set_attr t cred a now
      ≡ done r (λ plan. edit_node plan.fileid (λ n. set_attributes plan.attributes (set_size_if a.attributes.size n)) t)
      (λ plan after. SetAttr (change t after (Live plan.fileid)))
  unfolding set_attr
  done-by r plan =
      ap (λ (r : Check SetAttrPlan). done r
      (λ plan. edit_node plan.fileid (λ n. set_attributes plan.attributes (set_size_if a.attributes.size n)) t)
      (λ plan after. SetAttr (change t after (Live plan.fileid)))) plan

  -- a check of the plan refuses
  pub set-refused : (status : Status) → plan_for o x.attributes cred a now ≡ Err status → set_attr t cred a now ≡ Err status
  set-refused status plan = done-by (Err status) (planned (Err status) plan)

  module _ (p : SetAttrPlan) (none : a.attributes.size ≡ None) (live : is_live x.place ≡ true)
      (id-is : p.fileid ≡ fileid_at x.place)
      (at-is : p.attributes ≡ apply_sattr x.attributes a.attributes now) where
    place-is : x.place ≡ Live p.fileid
    place-is = live-place x.place live ∙ ap (λ (id : ℕ). Live id) (sym id-is)

    node-is : t.nodes p.fileid ≡ Some is.node
    node-is = live-node t p.fileid is.node (subst (λ (at : Place). node_at t at ≡ Some is.node) place-is is.there)

    object-is : o ≡ object_by (Live p.fileid) is.node
    object-is = is.is ∙ ap (λ (at : Place). object_by at is.node) place-is

    -- the node that is edited is there
    pub set-there : IsThere p.fileid t
    set-there = there-so (t.nodes p.fileid) is.node node-is

    before-is : shown t (Live p.fileid) ≡ Some x.attributes
    before-is =
        shown-at t (Live p.fileid) is.node (subst (λ (at : Place). node_at t at ≡ Some is.node) place-is is.there)
        ∙ ap (λ (o : Object). Some (attributes t o)) (sym object-is) ∙ ap (λ (at : Fattr). Some at) is.attributes

    -- what was found has the attributes of its node
    seen-is : attributes_of t.fsid p.fileid is.node.inode (length is.node.content) ≡ x.attributes
    seen-is = sym (attributes-live t p.fileid is.node) ∙ ap (λ (o : Object). attributes t o) (sym object-is) ∙ is.attributes

    set-is : attributes_of t.fsid p.fileid (set_attributes p.attributes is.node).inode (length is.node.content) ≡ p.attributes
    set-is =
        let whole : p.attributes
        ≡ apply_sattr (attributes_of t.fsid p.fileid is.node.inode (length is.node.content)) a.attributes now =
        at-is ∙ ap (λ (at : Fattr). apply_sattr at a.attributes now) (sym seen-is) in
        ap (λ (at : Fattr). attributes_of t.fsid p.fileid (set_attributes at is.node).inode (length is.node.content)) whole
        ∙ sets-so t.fsid p.fileid is.node.inode (length is.node.content) now a.attributes none ∙ sym whole

    after-is : shown (edit_node p.fileid (set_attributes p.attributes) t) (Live p.fileid) ≡ Some p.attributes
    after-is =
        shown-at (edit_node p.fileid (set_attributes p.attributes) t) (Live p.fileid) (set_attributes p.attributes is.node)
        (edited-node t p.fileid (set_attributes p.attributes) is.node node-is)
        ∙ ap (λ (at : Fattr). Some at) (attributes-edited t p.fileid p.attributes is.node ∙ set-is)

    told-is : (after : Tree) → after ≡ edit_node p.fileid (set_attributes p.attributes) t
        → change t after (Live p.fileid) ≡ wcc_of (Some x.attributes) (Some p.attributes)
    told-is after edited =
        ap (λ (at : Option Fattr). wcc_of at (shown after (Live p.fileid))) before-is
        ∙ ap (λ (at : Option Fattr). wcc_of (Some x.attributes) at)
        (ap (λ (after : Tree). shown after (Live p.fileid)) edited ∙ after-is)

    -- the plan is done, and told
    pub set-done : (w : Wcc) → plan_for o x.attributes cred a now ≡ Ok p → w ≡ wcc_of (Some x.attributes) (Some p.attributes)
        → set_attr t cred a now ≡ Ok (record { body = SetAttr w; tree = edit_node p.fileid (set_attributes p.attributes) t })
    set-done w plan same =
        let edited = edit-unsized p.fileid p.attributes a.attributes.size t none in
        done-by (Ok p) (planned (Ok p) plan)
        ∙ ap (λ (after : Tree). Ok (record { body = SetAttr (change t after (Live p.fileid)); tree = after })) edited
        ∙ ap (λ (w : Wcc). Ok (record { body = SetAttr w; tree = edit_node p.fileid (set_attributes p.attributes) t }))
        (told-is (edit_node p.fileid (set_attributes p.attributes) t) refl ∙ sym same)
