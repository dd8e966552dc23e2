-- What an OK reply to SETATTR tells.
use Rattle.std.proofs.Common.{◌≡◌, ℕ, ◌&&◌, if◌then◌else◌, false, not, List, length, Option, Some, None, is_some}
use Rattle.std.proofs.Common.{unwrap_or, option_map, Ok, refl, ap, subst, ◌∙◌}
use Rattle.nfs3_types.specs.declared.args.SetAttrArgs.{SetAttrArgs}
use Rattle.nfs3_types.specs.declared.attributes.Fattr.{Fattr}
use Rattle.nfs3_types.specs.declared.attributes.Sattr.{Sattr}
use Rattle.nfs3_types.specs.declared.body.Body.TheVariants.{SetAttr}
use Rattle.nfs3_types.specs.declared.cred.Cred.{Cred}
use Rattle.nfs3_types.specs.declared.file_type.FileType.{FileType}
use Rattle.nfs3_types.specs.declared.moment.Moment.{Moment}
use Rattle.nfs3_types.specs.declared.status.Status.TheVariants.{NoSpc, NotSync, Rofs}
use Rattle.fs_rules.specs.Attributes.{apply_sattr, attributes_of, given, is_directory, is_file, sattr_fault, size_of, wcc_of}
use Rattle.fs_rules.specs.Checks.{Check, Done, find_object, is_live}
use Rattle.fs_rules.specs.Edits.{edit_node, resized, set_attributes, set_size, set_size_if}
use Rattle.fs_rules.specs.Places.{Object, attributes, change, fileid_at, node_at, object_at, object_by, shown}
use Rattle.fs_rules.specs.Setting.{is_same, lacks_cuts, set_attr, set_attr_plan}
use Rattle.fs_rules.specs.Tree.{Node, Tree}
use Rattle.fs_rules.specs.declared.place.Place.TheVariants.{Live}
use Rattle.fs_rules.specs.declared.plans.SetAttrPlan.{SetAttrPlan}
use Rattle.fs_laws.proofs.Bytes.{resized_long}
use Rattle.fs_laws.proofs.NodesWithin.{file_is}
use Rattle.fs_laws.proofs.Passed.{ended, is_true, next_of, past, past_fault}
use Rattle.fs_laws.proofs.Places.{IsLive, live_found, of_live, to_live}
use Rattle.fs_laws.proofs.SettingWithin.{may_size}
use Rattle.fs_laws.proofs.Shown.{shown_here}

-- the size that a file has once it was given this one
size_by : (size : Option ℕ) (kind : FileType) (n : Node) → (is_some size && not (is_file kind)) ≡ false
    → (if is_directory kind then 4096 else length (set_size_if size n).content) ≡ unwrap_or size
    (if is_directory kind then 4096 else length n.content)
unfolding set_size
size_by None kind n file = refl
size_by (Some size) kind n file =
    ap (λ (k : FileType). if is_directory k then 4096 else length (resized size n.content))
    (file_is kind (is_true (is_file kind) file))
    ∙ resized_long size n.content

kind_by : (size : Option ℕ) (n : Node) → (set_size_if size n).inode.kind ≡ n.inode.kind
unfolding set_size
kind_by (Some size) n = refl
kind_by None n = refl

links_by : (size : Option ℕ) (n : Node) → (set_size_if size n).inode.nlink ≡ n.inode.nlink
unfolding set_size
links_by (Some size) n = refl
links_by None n = refl

-- what these would be, but for what a node keeps
abbrev told_with : Fattr → FileType → ℕ → ℕ → Fattr
told_with b kind nlink size = record b { kind = kind; nlink = nlink; size = size; used = size }

pub set_shows : (t : Tree) (fileid : ℕ) (n : Node) (s : Sattr) (now : Moment)
    → (is_some s.size && not (is_file n.inode.kind)) ≡ false
    → attributes t (object_by (Live fileid) (set_attributes (apply_sattr (attributes t (object_by (Live fileid) n)) s now)
    (set_size_if s.size n)))
    ≡ apply_sattr (attributes t (object_by (Live fileid) n)) s now
unfolding attributes attributes_of size_of apply_sattr
set_shows t fileid n s now file =
    let b = apply_sattr (attributes t (object_by (Live fileid) n)) s now in
    let m = set_size_if s.size n in
    ap (λ (k : FileType). told_with b k m.inode.nlink (if is_directory k then 4096 else length m.content)) (kind_by s.size n)
    ∙ ap (λ (l : ℕ). told_with b n.inode.kind l (if is_directory n.inode.kind then 4096 else length m.content))
    (links_by s.size n)
    ∙ ap (λ (x : ℕ). told_with b n.inode.kind n.inode.nlink x) (size_by s.size n.inode.kind n file)

shown_live : (t : Tree) (fileid : ℕ) (n : Node) → t.nodes fileid ≡ Some n
    → shown t (Live fileid) ≡ Some (attributes t (object_by (Live fileid) n))
unfolding shown object_at node_at
shown_live t fileid n there = ap (λ (o : Option Node). option_map (attributes t) (option_map (object_by (Live fileid)) o)) there

-- before and after an edit of a node
change_of : (t : Tree) (fileid : ℕ) (n : Node) (edit : Node → Node) (b : Fattr) → t.nodes fileid ≡ Some n
    → attributes t (object_by (Live fileid) (edit n)) ≡ b
    → change t (edit_node fileid edit t) (Live fileid) ≡ wcc_of (Some (attributes t (object_by (Live fileid) n))) (Some b)
change_of t fileid n edit b there is =
    let after : shown (edit_node fileid edit t) (Live fileid) ≡ Some b =
    shown_here t fileid edit ∙ ap (option_map (λ m. attributes t (object_by (Live fileid) (edit m)))) there ∙ ap Some is in
    ap (λ (x : Option Fattr). wcc_of x (shown (edit_node fileid edit t) (Live fileid))) (shown_live t fileid n there)
    ∙ ap (wcc_of (Some (attributes t (object_by (Live fileid) n)))) after

same_found : (o p : Object) (c : Check Object) → c ≡ Ok o → c ≡ Ok p → o ≡ p
same_found o p c e f = cc

-- what the edit of a plan tells of the object
abbrev Tells : Tree → SetAttrArgs (List ℕ) → Moment → Object → SetAttrPlan → Type 0
Tells t a now o plan =
    change t (edit_node plan.fileid (λ n. set_attributes plan.attributes (set_size_if a.attributes.size n)) t) (Live plan.fileid)
    ≡ wcc_of (Some (attributes t o)) (Some (apply_sattr (attributes t o) a.attributes now))

file_of : (t : Tree) (fileid : ℕ) (n : Node) (p : Object) (cred : Cred) (s : Sattr) → IsLive t fileid n p
    → sattr_fault cred (attributes t p) s ≡ None → (is_some s.size && not (is_file n.inode.kind)) ≡ false
unfolding attributes attributes_of
file_of t fileid n p cred s alive fine =
    to_live (λ x. (is_some s.size && not (is_file x.inode.kind)) ≡ false) alive (may_size cred (attributes t p) s fine).file

plan_tells : (t : Tree) (cred : Cred) (a : SetAttrArgs (List ℕ)) (now : Moment) (o : Object) (plan : SetAttrPlan)
    → find_object t a.object ≡ Ok o
    → set_attr_plan t cred a now ≡ Ok plan → Tells t a now o plan
unfolding set_attr_plan
plan_tells t cred a now o plan is e =
    next_of (find_object t a.object) _ plan e (λ p there e.
    past (not (is_live p.place)) Rofs _ plan e (λ live e.
    past (given a.guard (λ guard. not (is_same guard p.inode.ctime))) NotSync _ plan e (λ guard e.
    past_fault (sattr_fault cred (attributes t p) a.attributes) _ plan e (λ fine e.
    past (lacks_cuts a.attributes.size p) NoSpc _ plan e (λ cuts e.
    subst (λ (x : Object). Tells t a now x plan) (same_found p o (find_object t a.object) there is)
    (live_found t a.object p there live (λ fileid n alive.
    let s = a.attributes in
    let b = apply_sattr (attributes t (object_by (Live fileid) n)) s now in
    ended (Tells t a now p) (record { fileid = fileid_at p.place; attributes = apply_sattr (attributes t p) s now }) plan e
    (of_live (λ x. Tells t a now x (record { fileid = fileid_at x.place; attributes = apply_sattr (attributes t x) s now })) alive
    (change_of t fileid n (λ n. set_attributes b (set_size_if s.size n)) b alive.stands
    (set_shows t fileid n s now (file_of t fileid n p cred s alive fine)))))))))))

pub set_attr_tells : (t : Tree) (cred : Cred) (a : SetAttrArgs (List ℕ)) (now : Moment) (o : Object) (d : Done)
    → find_object t a.object ≡ Ok o
    → set_attr t cred a now ≡ Ok d
    → d.body ≡ SetAttr (wcc_of (Some (attributes t o)) (Some (apply_sattr (attributes t o) a.attributes now)))
unfolding set_attr
set_attr_tells t cred a now o d is e =
    next_of (set_attr_plan t cred a now) _ d e (λ plan fits e.
    ended (λ (x : Done). x.body ≡ SetAttr (wcc_of (Some (attributes t o))
    (Some (apply_sattr (attributes t o) a.attributes now)))) _ d e
    (ap SetAttr (plan_tells t cred a now o plan is fits)))
