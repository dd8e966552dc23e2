-- Calls that change no name: the tree hangs together as before.
use Rattle.std.proofs.Common.{◌≡◌, ℕ, ◌==◌, Bool, true, false, if◌then◌else◌, List, length, take, Option, Some, None}
use Rattle.std.proofs.Common.{All, refl}
use Rattle.std.proofs.lemmas.List.Elements.{All-filter, All-push}
use Rattle.nfs3_types.specs.declared.args.SetAttrArgs.{SetAttrArgs}
use Rattle.nfs3_types.specs.declared.args.WriteArgs.{WriteArgs}
use Rattle.nfs3_types.specs.declared.attributes.Fattr.{Fattr}
use Rattle.nfs3_types.specs.declared.cred.Cred.{Cred}
use Rattle.nfs3_types.specs.declared.moment.Moment.{Moment}
use Rattle.fs_rules.specs.Answers.{tree_by}
use Rattle.fs_rules.specs.Edits.{edit_node, set_attributes, set_size, set_size_if, touch, write_at, written}
use Rattle.fs_rules.specs.Making.{give_size}
use Rattle.fs_rules.specs.Places.{attributes}
use Rattle.fs_rules.specs.Setting.{set_attr, set_attr_plan}
use Rattle.fs_rules.specs.Snapshots.{add_snapshot, drop_named, drop_snapshot, need_new_snapshot, need_snapshot, take_snapshot}
use Rattle.fs_rules.specs.Sound.{HangTogether}
use Rattle.fs_rules.specs.Transfers.{write, write_plan}
use Rattle.fs_rules.specs.Tree.{Node, Snapshot, Tree}
use Rattle.fs_laws.proofs.Copies.{done_has}
use Rattle.fs_sound.proofs.Skeleton.{at_keeps, skeleton}

-- ---- SETATTR

set_keeps : (attributes : Fattr) (size : Option ℕ) (n : Node)
    → skeleton n ≡ skeleton (set_attributes attributes (set_size_if size n))
unfolding set_size
set_keeps attributes (Some size) n = refl
set_keeps attributes None n = refl

pub set_attr_hangs : (t : Tree) (cred : Cred) (a : SetAttrArgs (List ℕ)) (now : Moment) → HangTogether t.nodes
    → HangTogether (tree_by t (set_attr t cred a now)).nodes
unfolding set_attr
set_attr_hangs t cred a now h = done_has (λ (x : Tree). HangTogether x.nodes) t (set_attr_plan t cred a now) _ h (λ plan is.
    at_keeps t (λ n. set_attributes plan.attributes (set_size_if a.attributes.size n)) plan.fileid
    (λ n. set_keeps plan.attributes a.attributes.size n) h)

-- ---- WRITE

either_keeps : (b : Bool) (n m : Node) → skeleton n ≡ skeleton m → skeleton n ≡ skeleton (if b then n else m)
either_keeps true n m e = refl
either_keeps false n m e = e

write_keeps : (offset : ℕ) (bytes : List ℕ) (now : Moment) (n : Node) → skeleton n ≡ skeleton (write_at offset bytes now n)
write_keeps offset bytes now n =
    either_keeps (length bytes == 0) n (touch now (record n { content = written offset bytes n.content })) refl

pub write_hangs : (t : Tree) (cred : Cred) (a : WriteArgs (List ℕ)) (now : Moment) → HangTogether t.nodes
    → HangTogether (tree_by t (write t cred a now)).nodes
unfolding write
write_hangs t cred a now h = done_has (λ (x : Tree). HangTogether x.nodes) t (write_plan t cred a) _ h (λ plan is.
    at_keeps t (write_at a.offset (take plan.count a.«data») now) plan.fileid
    (λ n. write_keeps a.offset (take plan.count a.«data») now n) h)

-- ---- CREATE over a file that is there

given_keeps : (size : Option ℕ) (now : Moment) (n : Node) → skeleton n ≡ skeleton (give_size size now n)
unfolding set_size
given_keeps (Some size) now n = refl
given_keeps None now n = refl

pub given_size_hangs : (t : Tree) (fileid : ℕ) (size : Option ℕ) (now : Moment) → HangTogether t.nodes
    → HangTogether (edit_node fileid (give_size size now) t).nodes
given_size_hangs t fileid size now h = at_keeps t (give_size size now) fileid (given_keeps size now) h

-- ---- snapshots

abbrev pub KeptHang : Tree → Type 0
KeptHang t = All (λ s. HangTogether s.nodes) t.snapshots

-- the copy hangs together as the live tree does
pub taken_hang : (t : Tree) (now : Moment) (name : List ℕ) → HangTogether t.nodes → KeptHang t
    → KeptHang (add_snapshot now name t)
unfolding add_snapshot
taken_hang t now name h kept =
    let s : Snapshot = record { name = name; number = t.epoch; nodes = t.nodes } in
    All-push (λ (s : Snapshot). HangTogether s.nodes) t.snapshots s kept h

taken_live : (t : Tree) (now : Moment) (name : List ℕ) → HangTogether t.nodes → HangTogether (add_snapshot now name t).nodes
unfolding add_snapshot
taken_live t now name h = h

pub dropped_hang : (t : Tree) (now : Moment) (name : List ℕ) → KeptHang t → KeptHang (drop_named now name t)
unfolding drop_named
dropped_hang t now name kept = All-filter _ (λ (s : Snapshot). HangTogether s.nodes) t.snapshots kept

dropped_live : (t : Tree) (now : Moment) (name : List ℕ) → HangTogether t.nodes → HangTogether (drop_named now name t).nodes
unfolding drop_named
dropped_live t now name h = h

-- both halves of what hangs together
pub record AllHang (t : Tree) : Type 0 where
  pub live : HangTogether t.nodes
  pub kept : KeptHang t

pub take_snapshot_hangs : (t : Tree) (cred : Cred) (name : List ℕ) (now : Moment) → AllHang t
    → AllHang (tree_by t (take_snapshot t cred name now))
unfolding take_snapshot
take_snapshot_hangs t cred name now h =
    done_has AllHang t (need_new_snapshot t cred name) _ h
    (λ plan is. record { live = taken_live t now name h.live; kept = taken_hang t now name h.live h.kept })

pub drop_snapshot_hangs : (t : Tree) (cred : Cred) (name : List ℕ) (now : Moment) → AllHang t
    → AllHang (tree_by t (drop_snapshot t cred name now))
unfolding drop_snapshot
drop_snapshot_hangs t cred name now h =
    done_has AllHang t (need_snapshot t cred name) _ h
    (λ plan is. record { live = dropped_live t now name h.live; kept = dropped_hang t now name h.kept })
