-- SETATTR and WRITE leave the tree within its bounds.
use Rattle.std.proofs.Common.{◌≡◌, ℕ, ◌+◌, ◌≤◌, ◌<◌, ◌==◌, nat_le, nat_lt, ◌||◌, ◌&&◌, Bool, true, false, not}
use Rattle.std.proofs.Common.{if◌then◌else◌, List, length, take, Option, Some, None, is_some, Ok, Err, refl, subst, sym, arith}
use Rattle.std.proofs.Common.{length-take, inl, inr}
use Rattle.std.proofs.lemmas.Bool.{and_cases, eqb-false, leb-false, ltb-false}
use Rattle.nfs3_types.specs.declared.args.SetAttrArgs.{SetAttrArgs}
use Rattle.nfs3_types.specs.declared.args.WriteArgs.{WriteArgs}
use Rattle.nfs3_types.specs.declared.attributes.Fattr.{Fattr}
use Rattle.nfs3_types.specs.declared.attributes.Sattr.{Sattr}
use Rattle.nfs3_types.specs.declared.cred.Cred.{Cred}
use Rattle.nfs3_types.specs.declared.moment.Moment.{Moment}
use Rattle.nfs3_types.specs.declared.status.Status.{Status}
use Rattle.nfs3_types.specs.declared.status.Status.TheVariants.{Acces, FBig, Inval, NoSpc, NotSync, Perm, Rofs}
use Rattle.fs_rules.specs.Answers.{tree_by}
use Rattle.fs_rules.specs.Attributes.{apply_sattr, attributes_of, given, gives_away, is_client_time, is_file, is_server_time}
use Rattle.fs_rules.specs.Attributes.{is_too_large, lacks_write, regroups, sattr_fault}
use Rattle.fs_rules.specs.Checks.{Check, Done, find_object, is_live, ◌>>=◌}
use Rattle.fs_rules.specs.Edits.{cuts_at, edit_node, set_attributes, set_size, set_size_if, write_at}
use Rattle.fs_rules.specs.Limits.{most_numbers, most_size}
use Rattle.fs_rules.specs.Places.{attributes, fileid_at, object_by}
use Rattle.fs_rules.specs.Rights.{owns}
use Rattle.fs_rules.specs.Setting.{is_same, lacks_cuts, set_attr, set_attr_plan}
use Rattle.fs_rules.specs.Sound.{HasBounds, IsNodeWithin}
use Rattle.fs_rules.specs.Transfers.{may_fill, write, write_count, write_plan}
use Rattle.fs_rules.specs.Tree.{Node, Tree}
use Rattle.fs_rules.specs.declared.place.Place.TheVariants.{Live}
use Rattle.fs_rules.specs.declared.plans.SetAttrPlan.{SetAttrPlan}
use Rattle.fs_rules.specs.declared.plans.WritePlan.{WritePlan}
use Rattle.fs_laws.proofs.NodesWithin.{attributes_within, file_is, mode_within, set_size_within, write_at_within}
use Rattle.fs_laws.proofs.Passed.{ended, is_true, next_of, past, past_fault}
use Rattle.fs_laws.proofs.Places.{live_found, number_is, to_live}
use Rattle.fs_laws.proofs.TreesWithin.{edited_within}

-- a call whose plan, once it is done, keeps the bounds
pub done_within : {Plan : Type 0} (t : Tree) (c : Check Plan) (f : Plan → Done) → HasBounds t
    → ((plan : Plan) → c ≡ Ok plan → HasBounds (f plan).tree) → HasBounds (tree_by t (c >>= (λ plan. Ok (f plan))))
done_within t (Ok plan) f h kept = kept plan refl
done_within t (Err status) f h kept = h

-- ---- a size that is set

cuts_left : (less many : Bool) (cuts : ℕ) → (less && many) ≡ false → (many ≡ false → cuts + 1 < most_numbers)
    → cuts < most_numbers → (if less then cuts + 1 else cuts) < most_numbers
cuts_left true many cuts e left old = left e
cuts_left false many cuts e left old = old

pub cuts_within : (size fileid : ℕ) (n : Node) → lacks_cuts (Some size) (object_by (Live fileid) n) ≡ false
    → IsNodeWithin fileid n → cuts_at size n < most_numbers
cuts_within size fileid n e h =
    cuts_left (nat_lt size (length n.content)) (nat_le most_numbers (n.inode.cuts + 1)) n.inode.cuts e
    (leb-false most_numbers (n.inode.cuts + 1)) h.cuts

pub size_within : (size fileid : ℕ) (n : Node) → is_file n.inode.kind ≡ true → is_too_large (Some size) ≡ false
    → lacks_cuts (Some size) (object_by (Live fileid) n) ≡ false → IsNodeWithin fileid n → IsNodeWithin fileid (set_size size n)
size_within size fileid n file low cuts h =
    set_size_within size fileid n (file_is n.inode.kind file) (ltb-false most_size size low) (cuts_within size fileid n cuts h) h

size_if_within : (size : Option ℕ) (fileid : ℕ) (n : Node) → (is_some size && not (is_file n.inode.kind)) ≡ false
    → is_too_large size ≡ false → lacks_cuts size (object_by (Live fileid) n) ≡ false → IsNodeWithin fileid n
    → IsNodeWithin fileid (set_size_if size n)
size_if_within (Some size) fileid n file low cuts h = size_within size fileid n (is_true (is_file n.inode.kind) file) low cuts h
size_if_within None fileid n file low cuts h = h

-- ---- SETATTR

pub none_past : {G : Type 0} (b : Bool) (status : Status) (rest : Option Status) → (if b then Some status else rest) ≡ None
    → (b ≡ false → rest ≡ None → G) → G
none_past true status rest e more = absurd cc
none_past false status rest e more = more refl e

-- what is known of a size that may be set
pub record MaySize (size : Option ℕ) (a : Fattr) : Type 0 where
  pub file : (is_some size && not (is_file a.kind)) ≡ false
  pub low : is_too_large size ≡ false

pub may_size : (cred : Cred) (a : Fattr) (s : Sattr) → sattr_fault cred a s ≡ None → MaySize s.size a
unfolding sattr_fault
may_size cred a s e =
    none_past (is_some s.size && not (is_file a.kind)) Inval _ e (λ file e.
    none_past (is_some s.mode && not (owns cred a.uid)) Perm _ e (λ two e.
    none_past (gives_away cred a s.uid) Perm _ e (λ three e.
    none_past (regroups cred a s.gid) Perm _ e (λ four e.
    none_past (is_some s.size && lacks_write cred a) Acces _ e (λ five e.
    none_past ((is_client_time s.atime || is_client_time s.mtime) && not (owns cred a.uid)) Perm _ e (λ six e.
    none_past ((is_server_time s.atime || is_server_time s.mtime) && lacks_write cred a) Acces _ e (λ seven e.
    none_past (is_too_large s.size) Inval _ e (λ low e.
    record { file = file; low = low }))))))))

set_within : (t : Tree) (fileid : ℕ) (n : Node) (b : Fattr) (size : Option ℕ) → t.nodes fileid ≡ Some n → b.mode < 4096
    → (is_some size && not (is_file n.inode.kind)) ≡ false → is_too_large size ≡ false
    → lacks_cuts size (object_by (Live fileid) n) ≡ false → HasBounds t
    → HasBounds (edit_node fileid (λ n. set_attributes b (set_size_if size n)) t)
set_within t fileid n b size there mode file low cuts h =
    edited_within t fileid n (λ n. set_attributes b (set_size_if size n)) there
    (λ k. attributes_within b fileid (set_size_if size n) mode (size_if_within size fileid n file low cuts k)) h

set_attr_done : (t : Tree) (cred : Cred) (a : SetAttrArgs (List ℕ)) (now : Moment) (plan : SetAttrPlan) → HasBounds t
    → set_attr_plan t cred a now ≡ Ok plan
    → HasBounds (edit_node plan.fileid (λ n. set_attributes plan.attributes (set_size_if a.attributes.size n)) t)
unfolding set_attr_plan attributes attributes_of
set_attr_done t cred a now plan h e =
    next_of (find_object t a.object) _ plan e (λ o there e.
    past (not (is_live o.place)) Rofs _ plan e (λ live e.
    past (given a.guard (λ guard. not (is_same guard o.inode.ctime))) NotSync _ plan e (λ guard e.
    past_fault (sattr_fault cred (attributes t o) a.attributes) _ plan e (λ fine e.
    past (lacks_cuts a.attributes.size o) NoSpc _ plan e (λ cuts e.
    live_found t a.object o there live (λ fileid n is.
    let b = apply_sattr (attributes t o) a.attributes now in
    let may = may_size cred (attributes t o) a.attributes fine in
    ended (λ (p : SetAttrPlan). HasBounds (edit_node p.fileid (λ n. set_attributes p.attributes
    (set_size_if a.attributes.size n)) t))
    (record { fileid = fileid_at o.place; attributes = b }) plan e
    (subst (λ (x : ℕ). HasBounds (edit_node x (λ n. set_attributes b (set_size_if a.attributes.size n)) t)) (sym (number_is is))
    (set_within t fileid n b a.attributes.size is.stands (mode_within (attributes t o) a.attributes now)
    (to_live (λ x. (is_some a.attributes.size && not (is_file x.inode.kind)) ≡ false) is may.file) may.low
    (to_live (λ x. lacks_cuts a.attributes.size x ≡ false) is cuts) h))))))))

pub set_attr_within : (t : Tree) (cred : Cred) (a : SetAttrArgs (List ℕ)) (now : Moment) → HasBounds t
    → HasBounds (tree_by t (set_attr t cred a now))
unfolding set_attr
set_attr_within t cred a now h = done_within t (set_attr_plan t cred a now) _ h (λ plan. set_attr_done t cred a now plan h)

-- ---- WRITE

written_end : (m offset : ℕ) (bytes : List ℕ) → (nat_lt 0 m && nat_lt most_size (offset + m)) ≡ false
    → (length (take m bytes) == 0) ≡ false → offset + length (take m bytes) ≤ most_size
written_end m offset bytes e some = elim (and_cases (nat_lt 0 m) (nat_lt most_size (offset + m)) e) [
  | inl nothing ↦ absurd (eqb-false (length (take m bytes)) 0 some (omega (arith, length-take m bytes, ltb-false 0 m nothing)))
  | inr low ↦ omega (arith, length-take m bytes, ltb-false most_size (offset + m) low)
]

write_done : (t : Tree) (cred : Cred) (a : WriteArgs (List ℕ)) (now : Moment) (plan : WritePlan) → HasBounds t
    → write_plan t cred a ≡ Ok plan → HasBounds (edit_node plan.fileid (write_at a.offset (take plan.count a.«data») now) t)
unfolding write_plan
write_done t cred a now plan h e =
    next_of (find_object t a.file) _ plan e (λ o there e.
    past (not (is_file o.inode.kind)) Inval _ plan e (λ file e.
    past (not (is_live o.place)) Rofs _ plan e (λ live e.
    past (not (a.count == length a.«data»)) Inval _ plan e (λ count e.
    past (not (may_fill cred o.inode)) Acces _ plan e (λ may e.
    past (nat_lt 0 (write_count a) && nat_lt most_size (a.offset + write_count a)) FBig _ plan e (λ low e.
    live_found t a.file o there live (λ fileid n is.
    let kind = to_live (λ x. is_file x.inode.kind ≡ true) is (is_true (is_file o.inode.kind) file) in
    let bytes = take (write_count a) a.«data» in
    ended (λ (p : WritePlan). HasBounds (edit_node p.fileid (write_at a.offset (take p.count a.«data») now) t))
    (record { fileid = fileid_at o.place; count = write_count a }) plan e
    (subst (λ (x : ℕ). HasBounds (edit_node x (write_at a.offset bytes now) t)) (sym (number_is is))
    (edited_within t fileid n (write_at a.offset bytes now) is.stands
    (write_at_within a.offset bytes now fileid n (file_is n.inode.kind kind)
    (written_end (write_count a) a.offset a.«data» low)) h)))))))))

pub write_within : (t : Tree) (cred : Cred) (a : WriteArgs (List ℕ)) (now : Moment) → HasBounds t
    → HasBounds (tree_by t (write t cred a now))
unfolding write
write_within t cred a now h = done_within t (write_plan t cred a) _ h (λ plan. write_done t cred a now plan h)
