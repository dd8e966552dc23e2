-- The row of SYMLINK, by the room that was found.
use Rattle.std.proofs.Common.{◌≡◌, ◌∙◌, ℕ, List, refl, ap, None, Ok}
use Rattle.std.specs.Prelude.{is_some}
use Rattle.nfs3_types.specs.declared.args.SymlinkArgs.{SymlinkArgs}
use Rattle.nfs3_types.specs.declared.body.Body.TheVariants.{Symlink}
use Rattle.nfs3_types.specs.declared.cred.Cred.{Cred}
use Rattle.nfs3_types.specs.declared.file_type.FileType.TheVariants.{Lnk}
use Rattle.nfs3_types.specs.declared.moment.Moment.{Moment}
use Rattle.nfs3_types.specs.declared.status.Status.TheVariants.{Acces, Exist}
use Rattle.fs_rules.specs.declared.plans.NewPlan.{NewPlan}
use Rattle.fs_rules.specs.Attributes.{size_of}
use Rattle.fs_rules.specs.Checks.{Check, ◌>>=◌, find_directory, need, need_search, no_fault}
use Rattle.fs_rules.specs.Making.{is_reserved, need_free_name, need_new_node, new_link, new_node, symlink, symlink_plan}
use Rattle.fs_rules.specs.Names.{target_fault}
use Rattle.fs_rules.specs.Places.{Object, entry_at}
use Rattle.fs_rules.specs.Rights.{may_write}
use Rattle.fs_rules.specs.Tree.{Tree}
use Rattle.fs_shows.specs.Files.{IsNew}
use Rattle.procs_making.specs.declared.room.Room.{Room}
use Rattle.procs_making.specs.Children.{new_inode, node_by}
use Rattle.procs_making.specs.Plans.{link_check}
use Rattle.procs_making.specs.Rooms.{free_check, name_check, node_check, room_found}
use Rattle.procs_making.proofs.Grouped.{three-behind, found-then, grouped, is-free}
use Rattle.procs_making.proofs.MakingRows.{Wanted, wanted-child, wanted-check, plan-in, rest-of, row-of}

pub link-whole : (cred : Cred) (a : SymlinkArgs (List ℕ)) (now : Moment) (parent : ℕ)
    → node_by (new_inode cred now parent (new_link a.attributes a.target))
    ≡ new_node cred now parent (new_link a.attributes a.target)
unfolding new_node
link-whole cred a now parent = refl

abbrev pub link-wanted : Cred → SymlinkArgs (List ℕ) → Moment → ℕ → Wanted
link-wanted cred a now lane = record {
  cred = cred;
  place = a.place;
  now = now;
  lane = lane;
  check = λ directory is_there next. link_check cred a directory is_there next;
  making = new_link a.attributes a.target;
  inode = λ parent. new_inode cred now parent (new_link a.attributes a.target);
  whole = λ parent. link-whole cred a now parent;
  body = λ ok. Symlink ok;
}

module _ (cred : Cred) (a : SymlinkArgs (List ℕ)) (now : Moment) (lane : ℕ) where
  module _ (t : Tree) where
    abbrev plan : Object → Check NewPlan
    plan o = plan-in (link-wanted cred a now lane) t o

    abbrev rest : Object → Check NewPlan
    rest o = rest-of (link-wanted cred a now lane) t o

    -- what follows in the table once the place is checked
    abbrev steps : Object → Check NewPlan
    steps o =
        need_search cred o >>= (λ _. need_free_name t cred o a.place.name >>= (λ _. no_fault (target_fault a.target) >>= (λ _.
        need_new_node t cred lane o.inode Lnk a.attributes >>= (λ _. plan o))))

    steps-are : (o : Object) → steps o ≡ (name_check cred o a.place.name >>= (λ u. rest o))
    unfolding name_check need_free_name need_new_node link_check free_check node_check
    steps-are o =
        grouped (need_search cred o) Exist (is_reserved o a.place.name) (is_some (entry_at t o.place a.place.name))
        (need (may_write cred o.inode) Acces)
        (no_fault (target_fault a.target) >>= (λ _. need_new_node t cred lane o.inode Lnk a.attributes >>= (λ _. plan o)))
        ∙ ap (λ (c : Check NewPlan). name_check cred o a.place.name >>= (λ u. c))
        (three-behind (free_check cred o.inode (is_some (entry_at t o.place a.place.name))) (no_fault (target_fault a.target))
        (need_new_node t cred lane o.inode Lnk a.attributes) (λ u. plan o))

    planned : symlink_plan t cred a lane ≡ (room_found t cred a.place >>= rest)
    unfolding symlink_plan room_found
    planned = found-then (find_directory t a.place) (λ o. name_check cred o a.place.name) steps rest steps-are

    pub link-row : symlink t cred a now lane ≡ row-of (link-wanted cred a now lane) t (room_found t cred a.place >>= rest)
    unfolding symlink
    link-row = ap (λ (c : Check NewPlan). row-of (link-wanted cred a now lane) t c) planned

  module _ (x : Room) where
    -- a link has a path, and no bytes
    pub link-new : IsNew (wanted-child (link-wanted cred a now lane) x).inode
        (node_by (wanted-child (link-wanted cred a now lane) x).inode)
    unfolding new_node size_of
    link-new = record {
      is = record { kept = refl; size = refl; target = refl };
      blank = λ offset. refl;
      names = refl;
    }

    -- the name is not there
    pub link-free : (u : Unit {0}) → wanted-check (link-wanted cred a now lane) x ≡ Ok u → x.entry ≡ None
    unfolding link_check free_check
    link-free u checks =
        is-free x.entry Exist (need (may_write cred x.directory.inode.head.kept) Acces)
        (λ _. no_fault (target_fault a.target) >>= (λ _. node_check cred x.directory.inode.head.kept Lnk a.attributes x.next)) u
        checks
