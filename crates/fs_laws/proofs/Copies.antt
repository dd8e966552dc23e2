-- Calls that take and drop no snapshot: what holds of the snapshots holds of them after the call, since they are the same.
use Rattle.std.proofs.Common.{◌≡◌, ℕ, Bool, true, false, if◌then◌else◌, List, Option, Some, None, Ok, Err, refl}
use Rattle.nfs3_types.specs.declared.args.CreateArgs.{CreateArgs}
use Rattle.nfs3_types.specs.declared.args.DirOp.{DirOp}
use Rattle.nfs3_types.specs.declared.args.LinkArgs.{LinkArgs}
use Rattle.nfs3_types.specs.declared.args.MkdirArgs.{MkdirArgs}
use Rattle.nfs3_types.specs.declared.args.RenameArgs.{RenameArgs}
use Rattle.nfs3_types.specs.declared.args.SetAttrArgs.{SetAttrArgs}
use Rattle.nfs3_types.specs.declared.args.SymlinkArgs.{SymlinkArgs}
use Rattle.nfs3_types.specs.declared.args.WriteArgs.{WriteArgs}
use Rattle.nfs3_types.specs.declared.body.Body.{Body}
use Rattle.nfs3_types.specs.declared.cred.Cred.{Cred}
use Rattle.nfs3_types.specs.declared.moment.Moment.{Moment}
use Rattle.fs_rules.specs.Answers.{tree_by}
use Rattle.fs_rules.specs.Checks.{Check, Done, Row, told, ◌>>=◌}
use Rattle.fs_rules.specs.Edits.{add_link, add_node, drop_link, drop_node, edit_node, give_number}
use Rattle.fs_rules.specs.Making.{Making, create, create_edit, create_plan, give_size, make_directory, make_directory_plan}
use Rattle.fs_rules.specs.Making.{make_node, new_file, symlink, symlink_plan}
use Rattle.fs_rules.specs.Places.{Object}
use Rattle.fs_rules.specs.Removing.{drop_directory, lose_name, remove, remove_directory, remove_directory_plan, remove_file}
use Rattle.fs_rules.specs.Removing.{remove_plan}
use Rattle.fs_rules.specs.Renaming.{link, link_plan, move_node, relink, rename, rename_plan, replace}
use Rattle.fs_rules.specs.Setting.{set_attr, set_attr_plan}
use Rattle.fs_rules.specs.Transfers.{write, write_plan}
use Rattle.fs_rules.specs.Tree.{Node, Snapshot, Tree}
use Rattle.fs_rules.specs.declared.plans.CreatePlan.{CreatePlan}
use Rattle.fs_rules.specs.declared.plans.NewPlan.{NewPlan}
use Rattle.fs_rules.specs.declared.plans.RenamePlan.{RenamePlan}
use Rattle.fs_rules.specs.declared.plans.Replaced.{Replaced}

-- what holds of the snapshots
abbrev pub Keeps : (List Snapshot → Type 0) → Tree → Type 0
Keeps P t = P t.snapshots

-- ---- rows

-- what holds of the tree before and of the one that a plan gives holds of the tree after
pub done_has : {Plan : Type 0} (P : Tree → Type 0) (t : Tree) (c : Check Plan) (f : Plan → Done) → P t
    → ((plan : Plan) → c ≡ Ok plan → P (f plan).tree) → P (tree_by t (c >>= (λ plan. Ok (f plan))))
done_has P t (Ok plan) f before h = h plan refl
done_has P t (Err status) f before h = before

pub told_has : (P : Tree → Type 0) (t : Tree) (c : Check Body) → P t → P (tree_by t (told t c))
told_has P t (Ok body) h = h
told_has P t (Err status) h = h

pub either_has : (P : Tree → Type 0) (t : Tree) (b : Bool) (x y : Row) → (b ≡ true → P (tree_by t x)) → P (tree_by t y)
    → P (tree_by t (if b then x else y))
either_has P t true x y h k = h refl
either_has P t false x y h k = k

-- a call whose directory is found first
pub then_has : (P : Tree → Type 0) (t : Tree) (c : Check Object) (next : Object → Row) → P t
    → ((o : Object) → c ≡ Ok o → P (tree_by t (next o)))
    → P (tree_by t (c >>= next))
then_has P t (Ok o) next h kept = kept o refl
then_has P t (Err status) next h kept = h

-- ---- edits

at_kept : (P : List Snapshot → Type 0) (fileid : ℕ) (edit : Node → Node) (t : Tree) → Keeps P t
    → Keeps P (edit_node fileid edit t)
unfolding edit_node
at_kept P fileid edit t h = h

made_kept : (P : List Snapshot → Type 0) (cred : Cred) (now : Moment) (lane : ℕ) (plan : NewPlan) (name : List ℕ) (m : Making)
    (t : Tree) → Keeps P t → Keeps P (make_node cred now lane plan name m t)
unfolding make_node edit_node add_node give_number
made_kept P cred now lane plan name m t h = h

removed_kept : (P : List Snapshot → Type 0) (now : Moment) (directory : ℕ) (name : List ℕ) (fileid : ℕ) (t : Tree) → Keeps P t
    → Keeps P (remove_file now directory name fileid t)
unfolding remove_file edit_node lose_name
removed_kept P now directory name fileid t h = h

directory_removed_kept : (P : List Snapshot → Type 0) (now : Moment) (directory : ℕ) (name : List ℕ) (fileid : ℕ) (t : Tree)
    → Keeps P t → Keeps P (drop_directory now directory name fileid t)
unfolding drop_directory edit_node drop_node
directory_removed_kept P now directory name fileid t h = h

either_kept : (P : List Snapshot → Type 0) (b : Bool) (x y : Tree) → Keeps P x → Keeps P y → Keeps P (if b then x else y)
either_kept P true x y h k = h
either_kept P false x y h k = k

replace_kept : (P : List Snapshot → Type 0) (now : Moment) (to : ℕ) (name : List ℕ) (r : Option Replaced) (t : Tree) → Keeps P t
    → Keeps P (replace now to name r t)
replace_kept P now to name (Some r) t h =
    either_kept P r.is_directory (drop_directory now to name r.fileid t) (remove_file now to name r.fileid t)
    (directory_removed_kept P now to name r.fileid t h) (removed_kept P now to name r.fileid t h)
replace_kept P now to name None t h = h

relinked_kept : (P : List Snapshot → Type 0) (m : RenamePlan) (t : Tree) → Keeps P t → Keeps P (relink m t)
relinked_kept P m t h =
    either_kept P m.reparents (edit_node m.to add_link (edit_node m.from drop_link t)) t
    (at_kept P m.to add_link (edit_node m.from drop_link t) (at_kept P m.from drop_link t h)) h

above_kept : (P : List Snapshot → Type 0) (x : Tree) (a b c : ℕ) (f g k : Node → Node) → Keeps P x
    → Keeps P (edit_node a f (edit_node b g (edit_node c k x)))
unfolding edit_node
above_kept P x a b c f g k h = h

moved_kept : (P : List Snapshot → Type 0) (now : Moment) (a : RenameArgs (List ℕ)) (m : RenamePlan) (t : Tree) → Keeps P t
    → Keeps P (move_node now a m t)
unfolding move_node
moved_kept P now a m t h =
    above_kept P (relink m (replace now m.to a.to.name m.replaced t)) _ _ _ _ _ _
    (relinked_kept P m (replace now m.to a.to.name m.replaced t) (replace_kept P now m.to a.to.name m.replaced t h))

create_edit_kept : (P : List Snapshot → Type 0) (t : Tree) (cred : Cred) (a : CreateArgs (List ℕ)) (now : Moment) (lane : ℕ)
    (plan : CreatePlan) → Keeps P t
    → Keeps P (create_edit t cred a now lane plan)
unfolding create_edit
create_edit_kept P t cred a now lane plan h =
    let p : NewPlan = record { directory = plan.directory; fileid = plan.fileid } in
    either_kept P plan.is_new (make_node cred now lane p a.place.name (new_file a.how) t)
    (edit_node plan.fileid (give_size plan.size now) t)
    (made_kept P cred now lane p a.place.name (new_file a.how) t h) (at_kept P plan.fileid (give_size plan.size now) t h)

-- ---- calls

pub set_attr_kept : (P : List Snapshot → Type 0) (t : Tree) (cred : Cred) (a : SetAttrArgs (List ℕ)) (now : Moment) → Keeps P t
    → Keeps P (tree_by t (set_attr t cred a now))
unfolding set_attr
set_attr_kept P t cred a now h = done_has (Keeps P) t (set_attr_plan t cred a now) _ h (λ plan is. at_kept P plan.fileid _ t h)

pub write_kept : (P : List Snapshot → Type 0) (t : Tree) (cred : Cred) (a : WriteArgs (List ℕ)) (now : Moment) → Keeps P t
    → Keeps P (tree_by t (write t cred a now))
unfolding write
write_kept P t cred a now h = done_has (Keeps P) t (write_plan t cred a) _ h (λ plan is. at_kept P plan.fileid _ t h)

pub create_kept : (P : List Snapshot → Type 0) (t : Tree) (cred : Cred) (a : CreateArgs (List ℕ)) (now : Moment) (lane : ℕ)
    → Keeps P t
    → Keeps P (tree_by t (create t cred a now lane))
unfolding create
create_kept P t cred a now lane h =
    done_has (Keeps P) t (create_plan t cred a lane) _ h (λ plan is. create_edit_kept P t cred a now lane plan h)

pub make_directory_kept : (P : List Snapshot → Type 0) (t : Tree) (cred : Cred) (a : MkdirArgs (List ℕ)) (now : Moment)
    (lane : ℕ) (o : Object) → Keeps P t
    → Keeps P (tree_by t (make_directory t cred a now lane o))
unfolding make_directory
make_directory_kept P t cred a now lane o h =
    done_has (Keeps P) t (make_directory_plan t cred a lane o) _ h (λ plan is. made_kept P cred now lane plan a.place.name _ t h)

pub symlink_kept : (P : List Snapshot → Type 0) (t : Tree) (cred : Cred) (a : SymlinkArgs (List ℕ)) (now : Moment) (lane : ℕ)
    → Keeps P t
    → Keeps P (tree_by t (symlink t cred a now lane))
unfolding symlink
symlink_kept P t cred a now lane h =
    done_has (Keeps P) t (symlink_plan t cred a lane) _ h (λ plan is. made_kept P cred now lane plan a.place.name _ t h)

pub remove_kept : (P : List Snapshot → Type 0) (t : Tree) (cred : Cred) (a : DirOp (List ℕ)) (now : Moment) → Keeps P t
    → Keeps P (tree_by t (remove t cred a now))
unfolding remove
remove_kept P t cred a now h =
    done_has (Keeps P) t (remove_plan t cred a) _ h (λ plan is. removed_kept P now plan.directory a.name plan.fileid t h)

pub remove_directory_kept : (P : List Snapshot → Type 0) (t : Tree) (cred : Cred) (name : List ℕ) (now : Moment) (o : Object)
    → Keeps P t
    → Keeps P (tree_by t (remove_directory t cred name now o))
unfolding remove_directory
remove_directory_kept P t cred name now o h =
    done_has (Keeps P) t (remove_directory_plan t cred name o) _ h (λ plan is. directory_removed_kept P now plan.directory name
    plan.fileid t h)

pub rename_kept : (P : List Snapshot → Type 0) (t : Tree) (cred : Cred) (a : RenameArgs (List ℕ)) (now : Moment) → Keeps P t
    → Keeps P (tree_by t (rename t cred a now))
unfolding rename
rename_kept P t cred a now h = done_has (Keeps P) t (rename_plan t cred a) _ h
    (λ plan is. either_kept P plan.is_same t (move_node now a plan t) h (moved_kept P now a plan t h))

pub link_kept : (P : List Snapshot → Type 0) (t : Tree) (cred : Cred) (a : LinkArgs (List ℕ)) (now : Moment) → Keeps P t
    → Keeps P (tree_by t (link t cred a now))
unfolding link
link_kept P t cred a now h = done_has (Keeps P) t (link_plan t cred a) _ h
    (λ plan is. at_kept P plan.directory _ (edit_node plan.file _ t) (at_kept P plan.file _ t h))
