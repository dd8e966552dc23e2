-- A handle says whether it is that of `.snapshot`.
use Rattle.std.proofs.Common.{◌≡◌, ◌∙◌, ℕ, Bool, true, false, if◌then◌else◌, List, refl, sym, ap, subst, Option, Some, None, Ok, Err}
use Rattle.std.specs.Prelude.{◌==◌, option_map}
use Rattle.nfs3_types.specs.declared.handle.Handle.{Handle}
use Rattle.nfs3_types.specs.declared.status.Status.{Status}
use Rattle.nfs3_types.specs.declared.status.Status.TheVariants.{BadHandle, Stale}
use Rattle.nfs3_types.specs.Handles.{handle_in}
use Rattle.fs_rules.specs.declared.place.Place.{Place}
use Rattle.fs_rules.specs.Checks.{Check, ◌>>=◌, find_object, some_or}
use Rattle.fs_rules.specs.Places.{Object, node_at, object_at, object_by, object_of, place_of}
use Rattle.fs_rules.specs.Snapshots.{is_snapshot_directory}
use Rattle.fs_rules.specs.Tree.{Node, Tree}
use Rattle.procs_object.specs.Finding.{is_of_snapshots, says_snapshots}

past_some : {A G : Type 0} (o : Option A) (status : Status) (next : A → Check Object) (b : Object) → (some_or o status >>= next)
    ≡ Ok b
    → ((a : A) → o ≡ Some a → next a ≡ Ok b → G) → G
past_some (Some a) status next b e more = more a refl e
past_some None status next b e more = absurd (cc)

some_found : {A : Type 0} (o : Option A) (status : Status) (a : A) → some_or o status ≡ Ok a → o ≡ Some a
some_found (Some x) status a e = cc
some_found None status a e = absurd (cc)

-- where a handle leads, as the handle says it
if_some : {A : Type 0} (b : Bool) (o : Option A) (a : A) → (if b then o else None) ≡ Some a → o ≡ Some a
if_some true o a e = e
if_some false o a e = absurd (cc)

placed_at : (place : Place) (o : Option Node) (x : Object) → option_map (object_by place) o ≡ Some x → x.place ≡ place
placed_at place (Some n) x e = let same : object_by place n ≡ x = cc in sym (ap (λ (y : Object). y.place) same)
placed_at place None x e = absurd (cc)

says_so : (o : Option Handle) (h : Handle) (b : Bool) → o ≡ Some h → is_of_snapshots o ≡ b
    → is_snapshot_directory (place_of h) ≡ b
says_so o h b is says = subst (λ (x : Option Handle). is_of_snapshots x ≡ b) is says

-- what a handle leads to is `.snapshot` where the handle says so
pub place_says : (t : Tree) (bytes : List ℕ) (o : Object) (b : Bool) → says_snapshots bytes ≡ b → find_object t bytes ≡ Ok o
    → is_snapshot_directory o.place ≡ b
unfolding find_object object_of object_at
place_says t bytes o b says e = past_some (handle_in bytes) BadHandle _ o e (λ h is e.
    let there = if_some (h.fsid == t.fsid) (object_at t (place_of h)) o (some_found (object_of t h) Stale o e) in
    let at : o.place ≡ place_of h = placed_at (place_of h) (node_at t (place_of h)) o there in
    ap (λ (p : Place). is_snapshot_directory p) at ∙ says_so (handle_in bytes) h b is says)
