-- What is found where a node is to be made, by what was read.
use Rattle.std.proofs.Common.{◌≡◌, ◌∙◌, ℕ, ◌<◌, List, Ok, Err, sym, ap, arith}
use Rattle.std.specs.Prelude.{option_map}
use Rattle.nfs3_types.specs.declared.args.DirOp.{DirOp}
use Rattle.nfs3_types.specs.declared.cred.Cred.{Cred}
use Rattle.nfs3_types.specs.declared.status.Status.{Status}
use Rattle.fs_rules.specs.declared.place.Place.{Place}
use Rattle.fs_rules.specs.declared.place.Place.TheVariants.{Live}
use Rattle.fs_rules.specs.Checks.{Check, ◌>>=◌, find_directory}
use Rattle.fs_rules.specs.Places.{Object, entry_at, fileid_at}
use Rattle.fs_rules.specs.Sound.{IsSound}
use Rattle.fs_rules.specs.Tree.{Tree, next_fileid}
use Rattle.fs_shows.specs.Nodes.{name_row}
use Rattle.inode_ops.specs.Giving.{HasLane}
use Rattle.procs_object.specs.declared.object.Found.{Found}
use Rattle.procs_object.specs.Finding.{IsObject, IsPlaceFor}
use Rattle.procs_object.proofs.Told.{object-place}
use Rattle.procs_making.specs.declared.room.Room.{Room}
use Rattle.procs_making.specs.Rooms.{IsRoom, name_check, room_found}
use Rattle.procs_making.proofs.Placed.{live-is}

module _ (directory name : List ℕ) where
  abbrev place : DirOp (List ℕ)
  place = record { directory = directory; name = name }

  -- what was found, by a handle and a name
  abbrev pub DirectoryOn : Found → Tree → Type 0
  DirectoryOn x t = (o : Object) × (find_directory t place ≡ Ok o) × IsObject t x o

  module _ (t : Tree) (cred : Cred) (a : DirOp (List ℕ)) (is : directory ≡ a.directory) (own : name ≡ a.name) where
    looked : find_directory t place ≡ find_directory t a
    looked =
        ap (λ (b : List ℕ). let d : DirOp (List ℕ) = record { directory = b; name = name } in find_directory t d) is
        ∙ ap (λ (n : List ℕ). let d : DirOp (List ℕ) = record { directory = a.directory; name = n } in find_directory t d) own

    -- no directory was found
    pub room-none : (status : Status) → find_directory t place ≡ Err status → room_found t cred a ≡ Err status
    unfolding room_found
    room-none status refused =
        ap (λ (c : Check Object). c >>= (λ o. name_check cred o a.name >>= (λ u. Ok o))) (sym looked ∙ refused)

    -- the name was checked
    pub room-named : (o : Object) (c : Check (Unit {0})) → find_directory t place ≡ Ok o → name_check cred o name ≡ c
        → room_found t cred a ≡ (c >>= (λ u. Ok o))
    unfolding room_found
    room-named o c found checks =
        ap (λ (c : Check Object). c >>= (λ o. name_check cred o a.name >>= (λ u. Ok o))) (sym looked ∙ found)
        ∙ ap (λ (n : List ℕ). name_check cred o n >>= (λ u. Ok o)) (sym own)
        ∙ ap (λ (c : Check (Unit {0})). c >>= (λ u. Ok o)) checks

    -- all was read
    pub room-there : (x : Room) (lane number : ℕ) (u : Unit {0}) (o : Object) → IsPlaceFor name x.directory
        → find_directory t place ≡ Ok o → IsObject t x.directory o → name_check cred o name ≡ Ok u
        → number ≡ fileid_at x.directory.place → option_map name_row (entry_at t (Live number) name) ≡ x.entry
        → next_fileid t lane ≡ x.next → (o : Object) × (room_found t cred a ≡ Ok o) × IsRoom a.name lane t x o
    room-there x lane number u o fits found object checks at entry next = (
      o,
      room-named o (Ok u) found checks,
      record {
        object = object;
        entry = ap (λ (p : Place). option_map name_row (entry_at t p a.name))
            (object-place t x.directory o object ∙ live-is x.directory.place fits.live ∙ ap (λ (id : ℕ). Live id) (sym at))
            ∙ ap (λ (n : List ℕ). option_map name_row (entry_at t (Live number) n)) (sym own) ∙ entry;
        next = next;
      },
    )

pub lane-there : (t : Tree) (lane : ℕ) → lane < 16 → IsSound t → HasLane lane t
lane-there t lane low sound = omega (arith, low, sound.bounds.lanes)
