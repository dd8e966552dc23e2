-- The row of MKDIR outside of `.snapshot`, by the room that was found.
use Rattle.std.proofs.Common.{◌≡◌, ◌∙◌, ℕ, ◌==◌, Bool, true, false, if◌then◌else◌, List, refl, sym, ap, Ok, Err}
use Rattle.std.proofs.lemmas.Bool.{eq-eqb}
use Rattle.std.specs.Prelude.{is_some, option_map, Option, Some, None, IfSome, ◌&&◌}
use Rattle.nfs3_types.specs.declared.args.MkdirArgs.{MkdirArgs}
use Rattle.nfs3_types.specs.declared.body.Body.TheVariants.{Mkdir}
use Rattle.nfs3_types.specs.declared.cred.Cred.{Cred}
use Rattle.nfs3_types.specs.declared.file_type.FileType.TheVariants.{Dir}
use Rattle.nfs3_types.specs.declared.handle.Handle.{Handle}
use Rattle.nfs3_types.specs.declared.moment.Moment.{Moment}
use Rattle.nfs3_types.specs.declared.status.Status.TheVariants.{Acces, BadHandle, Exist, Stale}
use Rattle.nfs3_types.specs.Handles.{handle_in}
use Rattle.fs_rules.specs.declared.place.Place.{Place}
use Rattle.fs_rules.specs.declared.place.Place.TheVariants.{Live, SnapshotDirectory, Kept}
use Rattle.fs_rules.specs.declared.plans.NewPlan.{NewPlan}
use Rattle.fs_rules.specs.Attributes.{size_of}
use Rattle.fs_rules.specs.Checks.{Check, Row, ◌>>=◌, find_directory, find_object, need, need_place_for, need_search, some_or}
use Rattle.fs_rules.specs.Making.{is_reserved, make_directory, make_directory_plan, need_free_name, need_new_node}
use Rattle.fs_rules.specs.Making.{new_directory, new_node}
use Rattle.fs_rules.specs.Places.{Object, entry_at, no_snapshot, node_at, object_at, object_by, object_of, place_of}
use Rattle.fs_rules.specs.Rights.{may_write}
use Rattle.fs_rules.specs.Snapshots.{is_snapshot_directory, mkdir, take_snapshot}
use Rattle.fs_rules.specs.Tree.{Tree, Node}
use Rattle.fs_shows.specs.Files.{IsNew}
use Rattle.procs_object.specs.Finding.{says_snapshots}
use Rattle.procs_object.proofs.Saying.{place_says}
use Rattle.procs_making.specs.declared.room.Room.{Room}
use Rattle.procs_making.specs.Children.{new_inode, node_by}
use Rattle.procs_making.specs.Plans.{directory_check}
use Rattle.procs_making.specs.Rooms.{free_check, name_check, node_check, room_found}
use Rattle.procs_making.proofs.Grouped.{checked-behind, found-then, grouped, is-free}
use Rattle.procs_making.proofs.MakingRows.{Wanted, wanted-child, wanted-check, plan-in, rest-of, row-of}

-- ---- the row

pub directory-whole : (cred : Cred) (a : MkdirArgs (List ℕ)) (now : Moment) (parent : ℕ)
    → node_by (new_inode cred now parent (new_directory a.attributes)) ≡ new_node cred now parent (new_directory a.attributes)
unfolding new_node
directory-whole cred a now parent = refl

abbrev pub directory-wanted : Cred → MkdirArgs (List ℕ) → Moment → ℕ → Wanted
directory-wanted cred a now lane = record {
  cred = cred;
  place = a.place;
  now = now;
  lane = lane;
  check = λ directory is_there next. directory_check cred a directory is_there next;
  making = new_directory a.attributes;
  inode = λ parent. new_inode cred now parent (new_directory a.attributes);
  whole = λ parent. directory-whole cred a now parent;
  body = λ ok. Mkdir ok;
}

module _ (cred : Cred) (a : MkdirArgs (List ℕ)) (now : Moment) (lane : ℕ) where
  module _ (other : says_snapshots a.place.directory ≡ false) (t : Tree) where
    abbrev plan : Object → Check NewPlan
    plan o = plan-in (directory-wanted cred a now lane) t o

    abbrev rest : Object → Check NewPlan
    rest o = rest-of (directory-wanted cred a now lane) t o

    abbrev finish : Check NewPlan → Row
    finish plan = row-of (directory-wanted cred a now lane) t plan

    -- what follows in the table once the place is checked
    abbrev steps : Object → Check NewPlan
    steps o =
        need_search cred o >>= (λ _. need_free_name t cred o a.place.name >>= (λ _.
        need_new_node t cred lane o.inode Dir a.attributes >>= (λ _. plan o)))

    steps-are : (o : Object) → steps o ≡ (name_check cred o a.place.name >>= (λ u. rest o))
    unfolding name_check need_free_name need_new_node directory_check free_check node_check
    steps-are o =
        grouped (need_search cred o) Exist (is_reserved o a.place.name) (is_some (entry_at t o.place a.place.name))
        (need (may_write cred o.inode) Acces) (need_new_node t cred lane o.inode Dir a.attributes >>= (λ _. plan o))
        ∙ ap (λ (c : Check NewPlan). name_check cred o a.place.name >>= (λ u. c))
        (sym (checked-behind (free_check cred o.inode (is_some (entry_at t o.place a.place.name)))
        (λ _. need_new_node t cred lane o.inode Dir a.attributes) (λ u. plan o)))

    -- of what the handle leads to
    abbrev by_place : Object → Row
    by_place o =
        if is_snapshot_directory o.place then take_snapshot t cred a.place.name now else make_directory t cred a now lane o

    outside : (o : Object) → is_snapshot_directory o.place ≡ false
        → by_place o ≡ finish (need_place_for o a.place.name >>= (λ _. steps o))
    unfolding make_directory make_directory_plan
    outside o elsewhere =
        ap (λ (b : Bool). if b then take_snapshot t cred a.place.name now else make_directory t cred a now lane o) elsewhere

    by-object : (c : Check Object) → find_object t a.place.directory ≡ c
        → (c >>= by_place) ≡ finish ((c >>= (λ o. need_place_for o a.place.name >>= (λ _. Ok o))) >>= steps)
    by-object (Ok o) is =
        outside o (place_says t a.place.directory o false other is)
        ∙ ap finish (sym (checked-behind (need_place_for o a.place.name) (λ _. Ok o) steps))
    by-object (Err status) is = refl

    pub directory-row : mkdir t cred a now lane ≡ finish (room_found t cred a.place >>= rest)
    unfolding mkdir room_found find_directory
    directory-row =
        by-object (find_object t a.place.directory) refl
        ∙ ap finish (found-then (find_directory t a.place) (λ o. name_check cred o a.place.name) steps rest steps-are)

  module _ (x : Room) where
    -- a directory has no bytes
    pub directory-new : IsNew (wanted-child (directory-wanted cred a now lane) x).inode
        (node_by (wanted-child (directory-wanted cred a now lane) x).inode)
    unfolding new_node size_of
    directory-new = record {
      is = record { kept = refl; size = refl; target = refl };
      blank = λ offset. refl;
      names = refl;
    }

    -- the name is not there
    pub directory-free : (u : Unit {0}) → wanted-check (directory-wanted cred a now lane) x ≡ Ok u → x.entry ≡ None
    unfolding directory_check free_check
    directory-free u checks =
        is-free x.entry Exist (need (may_write cred x.directory.inode.head.kept) Acces)
        (λ _. node_check cred x.directory.inode.head.kept Dir a.attributes x.next) u checks
