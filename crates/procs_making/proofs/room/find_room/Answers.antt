-- The directory, then its name and the lane, each by one read.
use Rattle.std.proofs.Common.{◌≡◌, List, ℕ, Ok, Err, sym, subst}
use Rattle.std.specs.Prelude.{option_map}
use Rattle.fs_rules.specs.declared.place.Place.TheVariants.{Live as LivePlace}
use Rattle.fs_rules.specs.Checks.{find_directory}
use Rattle.fs_rules.specs.Places.{Object, entry_at}
use Rattle.fs_rules.specs.Sound.{IsSound}
use Rattle.fs_rules.specs.Tree.{Tree, next_fileid}
use Rattle.pairs.specs.declared.at.At.TheVariants.{Live}
use Rattle.fs_shows.specs.Nodes.{name_row}
use Rattle.fs_shows.specs.Views.{IsKept}
use Rattle.fs_shows.proofs.Doing.{goes-then}
use Rattle.inode_ops.specs.Giving.{HasLane}
use Rattle.procs_object.specs.Finding.{IsObject, IsPlaceFor}
use Rattle.procs_object.proofs.Gathering.{gathers, gathers-up}
use Rattle.procs_object.proofs.Reading.{reads-more}
use Rattle.procs_object.proofs.Told.{object-place, object-inode}
use Rattle.procs_making.specs.Rooms.{IsRoom, room_found}
use Rattle.procs_making.proofs.Gathered.{halted}
use Rattle.procs_making.proofs.RoomFound.{DirectoryOn, room-none, room-named, room-there, lane-there}
use Rattle.procs_making.proofs.room.find_room.Goals as goal

pub returns-in-Err-clause-goes : goal.returns-in-Err-clause-goes
returns-in-Err-clause-goes g c = c.find_directory.ensures.goes

pub returns-in-Err-clause-check : goal.returns-in-Err-clause-check
returns-in-Err-clause-check g c =
    let d = c.as_slice.result.now in
    let n = c.as_slice-name.result.now in
    halted g.P.Pairs.told c.args.pairs.now c.find_directory.new.pairs IsSound IsObject (IsRoom c.args.place.now.name c.args.lane)
    (λ t. find_directory t (record { directory = d; name = n })) (λ t. room_found t c.args.cred.now c.args.place.now)
    (λ t status refused. room-none d n t c.args.cred.now c.args.place.now c.as_slice.ensures c.as_slice-name.ensures status
    refused)
    c.in-Err.halt c.in-Err.ensures.check

pub returns-in-Err-check_name-clause-goes : goal.returns-in-Err-check_name-clause-goes
returns-in-Err-check_name-clause-goes g c = c.find_directory.ensures.goes

pub returns-in-Err-check_name-clause-check : goal.returns-in-Err-check_name-clause-check
returns-in-Err-check_name-clause-check g c =
    let d = c.as_slice.result.now in
    let n = c.as_slice-name.result.now in
    let x = c.in-Ok.directory in
    reads-more g.P.Pairs.told c.args.pairs.now c.find_directory.new.pairs IsSound IsSound (DirectoryOn d n x)
    (λ t. room_found t c.args.cred.now c.args.place.now ≡ Err c.in-Err-check_name.status) (λ t sound. sound)
    (λ t sound found. room-named d n t c.args.cred.now c.args.place.now c.as_slice.ensures c.as_slice-name.ensures found.0
    (Err c.in-Err-check_name.status) found.1
    (c.in-Err-check_name.ensures found.0 (object-place t x found.0 found.2) (object-inode t x found.0 found.2)))
    c.in-Ok.ensures.check

pub look_up-requires : goal.look_up-requires
look_up-requires g c = c.in-Ok.ensures.place.short

pub returns-in-Err-look_up-clause-goes : goal.returns-in-Err-look_up-clause-goes
returns-in-Err-look_up-clause-goes g c =
    goes-then g.P.Pairs.told c.args.pairs.now c.find_directory.new.pairs c.look_up.new.pairs 0 0 c.find_directory.ensures.goes
    c.look_up.ensures.goes

pub returns-in-Err-look_up-clause-check : goal.returns-in-Err-look_up-clause-check
returns-in-Err-look_up-clause-check g c =
    gathers-up g.P.Pairs.told c.args.pairs.now c.find_directory.new.pairs c.look_up.new.pairs
    (DirectoryOn c.as_slice.result.now c.as_slice-name.result.now c.in-Ok.directory) (IsKept Live) c.look_up.ensures.goes
    c.in-Ok.ensures.check (λ t sound found. tt) 0 c.find_directory.ensures.goes c.in-Err-look_up.fault
    c.in-Err-look_up.ensures.fault

pub returns-in-Ok-peek-clause-goes : goal.returns-in-Ok-peek-clause-goes
returns-in-Ok-peek-clause-goes g c =
    goes-then g.P.Pairs.told c.args.pairs.now c.look_up.new.pairs c.peek.new.pairs 0 0
    (goes-then g.P.Pairs.told c.args.pairs.now c.find_directory.new.pairs c.look_up.new.pairs 0 0 c.find_directory.ensures.goes
    c.look_up.ensures.goes) c.peek.ensures.goes

pub returns-in-Ok-peek-clause-check : goal.returns-in-Ok-peek-clause-check
returns-in-Ok-peek-clause-check g c =
    let d = c.as_slice.result.now in
    let n = c.as_slice-name.result.now in
    let x = c.in-Ok.directory in
    let Q : Tree → Type 0 = DirectoryOn d n x in
    let R : Tree → Type 0 = λ t. option_map name_row (entry_at t (LivePlace c.fileid.result) n) ≡ c.in-Ok-look_up.entry in
    let N : Tree → Type 0 = λ t. next_fileid t c.args.lane ≡ c.in-Ok-peek.next in
    reads-more g.P.Pairs.told c.args.pairs.now c.peek.new.pairs IsSound IsSound (λ t. (Q t × R t) × N t)
    (λ t. (o : Object) × (room_found t c.args.cred.now c.args.place.now ≡ Ok o)
    × IsRoom c.args.place.now.name c.args.lane t
    (record { directory = x; entry = c.in-Ok-look_up.entry; next = c.in-Ok-peek.next }) o)
    (λ t sound. sound)
    (λ t sound found. room-there d n t c.args.cred.now c.args.place.now c.as_slice.ensures c.as_slice-name.ensures
    (record { directory = x; entry = c.in-Ok-look_up.entry; next = c.in-Ok-peek.next }) c.args.lane c.fileid.result
    c.in-Ok-check_name.field-0 found.0.0.0 c.in-Ok.ensures.place found.0.0.1 found.0.0.2
    (c.in-Ok-check_name.ensures found.0.0.0 (object-place t x found.0.0.0 found.0.0.2) (object-inode t x found.0.0.0 found.0.0.2))
    c.fileid.ensures found.0.1 found.1)
    (gathers g.P.Pairs.told c.args.pairs.now c.look_up.new.pairs c.peek.new.pairs (λ t. Q t × R t) (HasLane c.args.lane)
    c.peek.ensures.goes
    (gathers g.P.Pairs.told c.args.pairs.now c.find_directory.new.pairs c.look_up.new.pairs Q (IsKept Live) c.look_up.ensures.goes
    c.in-Ok.ensures.check (λ t sound found. tt) R c.in-Ok-look_up.ensures.ok)
    (λ t sound found. lane-there t c.args.lane c.requires sound) N c.in-Ok-peek.ensures.ok)

pub returns-in-Ok-peek-clause-place : goal.returns-in-Ok-peek-clause-place
returns-in-Ok-peek-clause-place g c =
    let P : List ℕ → Type 0 = λ name. IsPlaceFor name c.in-Ok.directory in
    subst P c.as_slice-name.ensures c.in-Ok.ensures.place

pub returns-in-Err-peek-clause-goes : goal.returns-in-Err-peek-clause-goes
returns-in-Err-peek-clause-goes g c =
    goes-then g.P.Pairs.told c.args.pairs.now c.look_up.new.pairs c.peek.new.pairs 0 0
    (goes-then g.P.Pairs.told c.args.pairs.now c.find_directory.new.pairs c.look_up.new.pairs 0 0 c.find_directory.ensures.goes
    c.look_up.ensures.goes) c.peek.ensures.goes

pub returns-in-Err-peek-clause-check : goal.returns-in-Err-peek-clause-check
returns-in-Err-peek-clause-check g c =
    let n = c.as_slice-name.result.now in
    let Q : Tree → Type 0 = DirectoryOn c.as_slice.result.now n c.in-Ok.directory in
    let R : Tree → Type 0 = λ t. option_map name_row (entry_at t (LivePlace c.fileid.result) n) ≡ c.in-Ok-look_up.entry in
    gathers-up g.P.Pairs.told c.args.pairs.now c.look_up.new.pairs c.peek.new.pairs (λ t. Q t × R t) (HasLane c.args.lane)
    c.peek.ensures.goes
    (gathers g.P.Pairs.told c.args.pairs.now c.find_directory.new.pairs c.look_up.new.pairs Q (IsKept Live) c.look_up.ensures.goes
    c.in-Ok.ensures.check (λ t sound found. tt) R c.in-Ok-look_up.ensures.ok)
    (λ t sound found. lane-there t c.args.lane c.requires sound) 0
    (goes-then g.P.Pairs.told c.args.pairs.now c.find_directory.new.pairs c.look_up.new.pairs 0 0 c.find_directory.ensures.goes
    c.look_up.ensures.goes) c.in-Err-peek.fault c.in-Err-peek.ensures.fault
