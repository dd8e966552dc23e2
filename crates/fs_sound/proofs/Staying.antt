-- Which nodes stay behind an edit, and what is shown where a node is.
use Rattle.std.proofs.Common.{◌≡◌, ℕ, ◌==◌, if◌then◌else◌, Bool, true, false, List, Option, Some, None, is_some, option_map}
use Rattle.std.proofs.Common.{option_and_then, Ok, refl, sym, ap, subst, ◌∙◌}
use Rattle.std.proofs.lemmas.Bool.{eqb-false}
use Rattle.nfs3_types.specs.declared.args.RenameArgs.{RenameArgs}
use Rattle.nfs3_types.specs.declared.cred.Cred.{Cred}
use Rattle.nfs3_types.specs.declared.moment.Moment.{Moment}
use Rattle.nfs3_types.specs.declared.status.Status.TheVariants.{BadHandle, Stale}
use Rattle.nfs3_types.specs.Handles.{handle_in}
use Rattle.fs_rules.specs.Attributes.{given, wcc_attr, wcc_of}
use Rattle.fs_rules.specs.Checks.{find_object}
use Rattle.fs_rules.specs.Edits.{add_link, add_name, add_node, drop_link, drop_name, drop_node, edit_node, give_number, touch}
use Rattle.fs_rules.specs.Making.{Making, gain_name, make_node, new_node, told_of_new}
use Rattle.fs_rules.specs.Places.{Object, attributes, change, node_at, object_at, object_by, object_of, place_of, shown}
use Rattle.fs_rules.specs.Places.{snapshot_directory}
use Rattle.fs_rules.specs.Removing.{drop_directory, lose_link, lose_name, remove_file}
use Rattle.fs_rules.specs.Renaming.{move_node, relink, renew, replace}
use Rattle.fs_rules.specs.Tree.{Node, Tree}
use Rattle.fs_rules.specs.declared.place.Place.{Place}
use Rattle.fs_rules.specs.declared.place.Place.TheVariants.{Live, SnapshotDirectory}
use Rattle.fs_rules.specs.declared.plans.NewPlan.{NewPlan}
use Rattle.fs_rules.specs.declared.plans.RenamePlan.{RenamePlan}
use Rattle.fs_rules.specs.declared.plans.Replaced.{Replaced}
use Rattle.fs_laws.proofs.Checked.{either_is}
use Rattle.fs_laws.proofs.Passed.{past_some, some_found}
use Rattle.fs_sound.specs.Whole.{IsWholeChange, IsWholeNew}
use Rattle.fs_sound.proofs.Edited.{add_elsewhere, add_here, at_elsewhere, drop_elsewhere, elsewhere, here}
use Rattle.fs_sound.proofs.Others.{at_one}

-- a live node is there
abbrev pub IsThere : Tree → ℕ → Type 0
IsThere t fileid = is_some (t.nodes fileid) ≡ true

-- the attributes at a place are told
abbrev pub IsShown : Tree → Place → Type 0
IsShown t place = is_some (shown t place) ≡ true

some_mapped : {A B : Type 0} (f : A → B) (o : Option A) → is_some o ≡ true → is_some (option_map f o) ≡ true
some_mapped f (Some a) h = refl
some_mapped f None h = absurd cc

pub shown_by : (t : Tree) (place : Place) (o : Option Node) → node_at t place ≡ o → is_some o ≡ true → IsShown t place
unfolding shown object_at
shown_by t place o is h =
    ap (λ (x : Option Node). is_some (option_map (attributes t) (option_map (object_by place) x))) is
    ∙ some_mapped (attributes t) (option_map (object_by place) o) (some_mapped (object_by place) o h)

pub shown_there : (t : Tree) (fileid : ℕ) → IsThere t fileid → IsShown t (Live fileid)
unfolding node_at
shown_there t fileid h = shown_by t (Live fileid) (t.nodes fileid) refl h

pub shown_snapshots : (t : Tree) → IsShown t SnapshotDirectory
unfolding node_at
shown_snapshots t = shown_by t SnapshotDirectory (Some (snapshot_directory t)) refl refl

-- ---- what a handle leads to

if_some : {A : Type 0} (b : Bool) (o : Option A) (a : A) → (if b then o else None) ≡ Some a → o ≡ Some a
if_some true o a e = e
if_some false o a e = absurd cc

placed_at : (place : Place) (o : Option Node) (x : Object) → option_map (object_by place) o ≡ Some x → place ≡ x.place
placed_at place (Some n) x e = let same : object_by place n ≡ x = cc in ap (λ (y : Object). y.place) same
placed_at place None x e = absurd cc

pub found_at : (t : Tree) (bytes : List ℕ) (o : Object) → find_object t bytes ≡ Ok o → object_at t o.place ≡ Some o
unfolding find_object object_of object_at
found_at t bytes o e = past_some (handle_in bytes) BadHandle _ o e (λ h is e.
    let there = if_some (h.fsid == t.fsid) (object_at t (place_of h)) o (some_found (object_of t h) Stale o e) in
    subst (λ (p : Place). object_at t p ≡ Some o) (placed_at (place_of h) (node_at t (place_of h)) o there) there)

pub shown_found : (t : Tree) (bytes : List ℕ) (o : Object) → find_object t bytes ≡ Ok o → IsShown t o.place
unfolding shown
shown_found t bytes o is = ap (λ (x : Option Object). is_some (option_map (attributes t) x)) (found_at t bytes o is)

-- ---- what is told before and after

pub change_whole : (t u : Tree) (place : Place) → IsShown t place → IsShown u place → IsWholeChange (change t u place)
unfolding wcc_of
change_whole t u place before after = record { before = some_mapped wcc_attr (shown t place) before; after = after }

pub new_whole : (t u : Tree) (directory object : Place) → IsShown u object → IsShown t directory → IsShown u directory
    → IsWholeNew (told_of_new t u directory object)
unfolding told_of_new
new_whole t u directory object there before after =
    record { object = refl; attributes = there; directory = change_whole t u directory before after }

-- a live node that is there before and after
pub record Stays (t u : Tree) (fileid : ℕ) : Type 0 where
  pub before : IsThere t fileid
  pub after : IsThere u fileid

pub stays_whole : (t u : Tree) (fileid : ℕ) → Stays t u fileid → IsWholeChange (change t u (Live fileid))
stays_whole t u fileid s = change_whole t u (Live fileid) (shown_there t fileid s.before) (shown_there u fileid s.after)

-- ---- edits

edited_here : (t : Tree) (fileid : ℕ) (edit : Node → Node)
    → (edit_node fileid edit t).nodes fileid ≡ option_map edit (t.nodes fileid)
unfolding edit_node
edited_here t fileid edit = here fileid (option_map edit (t.nodes fileid)) t.nodes

pub edit_keeps : (t : Tree) (fileid : ℕ) (edit : Node → Node) (q : ℕ) → IsThere t q → IsThere (edit_node fileid edit t) q
edit_keeps t fileid edit q h =
    at_one (λ (k : ℕ). IsThere t k → IsThere (edit_node fileid edit t) k) fileid
    (λ there. ap is_some (edited_here t fileid edit) ∙ some_mapped edit (t.nodes fileid) there)
    (λ k far there. ap is_some (at_elsewhere fileid k edit t far) ∙ there) q h

add_keeps : (t : Tree) (fileid : ℕ) (n : Node) (q : ℕ) → IsThere t q → IsThere (add_node fileid n t) q
add_keeps t fileid n q h =
    at_one (λ (k : ℕ). IsThere t k → IsThere (add_node fileid n t) k) fileid
    (λ there. ap is_some (add_here fileid n t))
    (λ k far there. ap is_some (add_elsewhere fileid k n t far) ∙ there) q h

-- the new node is in no directory yet
abbrev with_new : Cred → Moment → ℕ → NewPlan → Making → Tree → Tree
with_new cred now lane plan m t = add_node plan.fileid (new_node cred now plan.directory m) (give_number lane t)

numbered_keeps : (t : Tree) (lane q : ℕ) → IsThere t q → IsThere (give_number lane t) q
unfolding give_number
numbered_keeps t lane q h = h

pub made_keeps : (t : Tree) (cred : Cred) (now : Moment) (lane : ℕ) (plan : NewPlan) (name : List ℕ) (m : Making) (q : ℕ)
    → IsThere t q → IsThere (make_node cred now lane plan name m t) q
unfolding make_node
made_keeps t cred now lane plan name m q h =
    edit_keeps (with_new cred now lane plan m t) plan.directory (gain_name m.kind name plan.fileid now) q
    (add_keeps (give_number lane t) plan.fileid (new_node cred now plan.directory m) q (numbered_keeps t lane q h))

pub made_there : (t : Tree) (cred : Cred) (now : Moment) (lane : ℕ) (plan : NewPlan) (name : List ℕ) (m : Making)
    → IsThere (make_node cred now lane plan name m t) plan.fileid
unfolding make_node
made_there t cred now lane plan name m =
    edit_keeps (with_new cred now lane plan m t) plan.directory (gain_name m.kind name plan.fileid now) plan.fileid
    (ap is_some (add_here plan.fileid (new_node cred now plan.directory m) (give_number lane t)))

pub removed_keeps : (now : Moment) (d : ℕ) (name : List ℕ) (f : ℕ) (t : Tree) (q : ℕ) → (q ≡ f → ⊥) → IsThere t q
    → IsThere (remove_file now d name f t) q
unfolding remove_file lose_name
removed_keeps now d name f t q far h =
    edit_keeps (lose_name now f t) d (λ n. touch now (drop_name name n)) q
    (ap is_some (elsewhere f q (option_and_then (lose_link now) (t.nodes f)) t.nodes far) ∙ h)

pub directory_removed_keeps : (now : Moment) (d : ℕ) (name : List ℕ) (f : ℕ) (t : Tree) (q : ℕ) → (q ≡ f → ⊥) → IsThere t q
    → IsThere (drop_directory now d name f t) q
unfolding drop_directory
directory_removed_keeps now d name f t q far h =
    edit_keeps (drop_node f t) d (λ n. touch now (drop_link (drop_name name n))) q
    (ap is_some (drop_elsewhere f q t far) ∙ h)

replace_keeps : (now : Moment) (to : ℕ) (name : List ℕ) (r : Option Replaced) (t : Tree) (q : ℕ)
    → given r (λ x. x.fileid == q) ≡ false → IsThere t q → IsThere (replace now to name r t) q
replace_keeps now to name (Some r) t q far h =
    let apart : q ≡ r.fileid → ⊥ = λ is. eqb-false r.fileid q far (sym is) in
    either_is (λ (x : Tree). IsThere x q) r.is_directory (drop_directory now to name r.fileid t)
    (remove_file now to name r.fileid t)
    (directory_removed_keeps now to name r.fileid t q apart h) (removed_keeps now to name r.fileid t q apart h)
replace_keeps now to name None t q far h = h

relinked_keeps : (p : RenamePlan) (t : Tree) (q : ℕ) → IsThere t q → IsThere (relink p t) q
relinked_keeps p t q h =
    either_is (λ (x : Tree). IsThere x q) p.reparents (edit_node p.to add_link (edit_node p.from drop_link t)) t
    (edit_keeps (edit_node p.from drop_link t) p.to add_link q (edit_keeps t p.from drop_link q h)) h

-- a move keeps all but what it replaces
pub moved_keeps : (now : Moment) (a : RenameArgs (List ℕ)) (p : RenamePlan) (t : Tree) (q : ℕ)
    → given p.replaced (λ x. x.fileid == q) ≡ false → IsThere t q → IsThere (move_node now a p t) q
unfolding move_node
moved_keeps now a p t q far h =
    let base : Tree = relink p (replace now p.to a.to.name p.replaced t) in
    let less : Tree = edit_node p.from (λ n. touch now (drop_name a.from.name n)) base in
    let more : Tree = edit_node p.to (λ n. touch now (add_name a.to.name p.fileid n)) less in
    edit_keeps more p.fileid (renew p now) q
    (edit_keeps less p.to (λ n. touch now (add_name a.to.name p.fileid n)) q
    (edit_keeps base p.from (λ n. touch now (drop_name a.from.name n)) q
    (relinked_keeps p (replace now p.to a.to.name p.replaced t) q (replace_keeps now p.to a.to.name p.replaced t q far h))))
