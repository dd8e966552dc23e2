-- There is room, and a file that is taken, or one that is made, and told of.
use Rattle.std.proofs.Common.{◌≡◌, ◌≤◌, List, ℕ, length, Ok, Err, sym, subst}
use Rattle.nfs3_types.specs.declared.body.Body.TheVariants.{Create}
use Rattle.fs_rules.specs.Checks.{Row}
use Rattle.fs_rules.specs.Limits.{longest_name, longest_target}
use Rattle.fs_rules.specs.Making.{create}
use Rattle.fs_rules.specs.Places.{Object}
use Rattle.fs_rules.specs.Tree.{Tree}
use Rattle.fs_shows.specs.declared.halt.Halt.TheVariants.{Refused, Fault}
use Rattle.fs_shows.specs.Files.{IsNew}
use Rattle.fs_shows.proofs.Doing.{goes-then}
use Rattle.procs_object.specs.Finding.{IsObject}
use Rattle.procs_object.proofs.Gathering.{gathers}
use Rattle.procs_making.specs.declared.child.NewNode.{NewNode}
use Rattle.procs_making.specs.Children.{node_by}
use Rattle.procs_making.proofs.MakingRows.{RoomOn, making-halts, making-refuses, making-done, making-fails}
use Rattle.procs_making.proofs.Paths.{nothing_short}
use Rattle.procs_making.proofs.Placed.{room-fsid}
use Rattle.procs_bytes.proofs.HeldUp.{no-wait}
use Rattle.procs_create.specs.Taking.{taken_attributes, taken_found, told_taken}
use Rattle.procs_create.proofs.FileRows.{file-wanted, file-halts, file-goes_on, taken-halts, taken-done, taken-may, taken-resizes}
use Rattle.procs_create.proofs.Takes.{next-halts, taking-ends}
use Rattle.procs_create.proofs.Zeros.{file-new}
use Rattle.procs_create.proofs.files.create.Goals as goal

pub find_room-requires : goal.find_room-requires
find_room-requires g c = c.requires

pub returns-in-Err : goal.returns-in-Err
returns-in-Err g c =
    let q = file-wanted c.args.cred.now c.args.a.now c.args.now c.args.lane in
    let row : Tree → Row = λ t. create t c.args.cred.now c.args.a.now c.args.now c.args.lane in
    no-wait g.P.Pairs.told c.args.pairs.now c.find_room.new.pairs 5 row (Err c.in-Err.halt)
    (making-halts g.P.Pairs.told q row (λ t status. file-halts c.args.cred.now c.args.a.now c.args.now c.args.lane t status)
    c.args.pairs.now c.find_room.new.pairs c.find_room.ensures.goes c.in-Err.halt c.in-Err.ensures.check)

pub returns-in-Err-find_taken : goal.returns-in-Err-find_taken
returns-in-Err-find_taken g c =
    let q = file-wanted c.args.cred.now c.args.a.now c.args.now c.args.lane in
    let row : Tree → Row = λ t. create t c.args.cred.now c.args.a.now c.args.now c.args.lane in
    let x = c.in-Ok.room in
    no-wait g.P.Pairs.told c.args.pairs.now c.find_taken.new.pairs 5 row (Err c.in-Err-find_taken.halt)
    (next-halts g.P.Pairs.told row 5 c.args.pairs.now c.find_room.new.pairs c.find_taken.new.pairs c.find_room.ensures.goes
    c.find_taken.ensures.goes (RoomOn q x) (λ t. t.fsid ≡ x.directory.attributes.fsid) c.in-Ok.ensures.check
    (λ t sound found. room-fsid c.args.a.now.place.name c.args.lane t x found.0 found.2 c.in-Ok.ensures.place)
    IsObject (λ t. taken_found t c.args.cred.now c.args.a.now.how c.number_in-fileid.result)
    (λ t found status refused. taken-halts c.args.cred.now c.args.a.now c.args.now c.args.lane t x found.0 found.1 found.2
    c.in-Some.row c.in-Some.is c.number_in-fileid.result c.number_in-fileid.ensures status refused)
    c.in-Err-find_taken.halt c.in-Err-find_taken.ensures.check)

pub returns-in-Some : goal.returns-in-Some
returns-in-Some g c =
    let q = file-wanted c.args.cred.now c.args.a.now c.args.now c.args.lane in
    let row : Tree → Row = λ t. create t c.args.cred.now c.args.a.now c.args.now c.args.lane in
    let x = c.in-Ok.room in
    let y = c.in-Ok-find_taken.file in
    let id = c.number_in-fileid.result in
    let size = c.size_over-size.result in
    let over = c.size_over-size.ensures in
    let Own : Tree → Type 0 = λ t. t.fsid ≡ x.directory.attributes.fsid in
    let Found : Tree → Type 0 = λ t.
    (o : Object) × (taken_found t c.args.cred.now c.args.a.now.how id ≡ Ok o) × IsObject t y o in
    taking-ends g.P.Pairs.told row c.args.pairs.now c.find_taken.new.pairs c.take.new.pairs
    (goes-then g.P.Pairs.told c.args.pairs.now c.find_room.new.pairs c.find_taken.new.pairs 0 0 c.find_room.ensures.goes
    c.find_taken.ensures.goes)
    c.take.ensures.goes (λ t. RoomOn q x t × Found t)
    (gathers g.P.Pairs.told c.args.pairs.now c.find_room.new.pairs c.find_taken.new.pairs (RoomOn q x) Own
    c.find_taken.ensures.goes c.in-Ok.ensures.check
    (λ t sound found. room-fsid c.args.a.now.place.name c.args.lane t x found.0 found.2 c.in-Ok.ensures.place) Found
    c.in-Ok-find_taken.ensures.check)
    id c.number_in-fileid.type_inv size c.args.now
    (told_taken x.directory.attributes id (taken_attributes size c.args.now y.attributes))
    (λ t sound seen. taken-may c.args.cred.now c.args.a.now c.args.now c.args.lane t x seen.0.0 seen.0.1 seen.0.2 c.in-Some.row
    c.in-Some.is id c.number_in-fileid.ensures c.in-Ok.ensures.place y seen.1.0 seen.1.1 seen.1.2 c.in-Ok-find_taken.ensures.place
    c.in-Ok-find_taken.ensures.file sound size)
    (λ t seen. taken-done c.args.cred.now c.args.a.now c.args.now c.args.lane t x seen.0.0 seen.0.1 seen.0.2 c.in-Some.row
    c.in-Some.is id c.number_in-fileid.ensures c.in-Ok.ensures.place y seen.1.0 seen.1.1 seen.1.2 c.in-Ok-find_taken.ensures.place
    c.in-Ok-find_taken.ensures.file size over)
    (λ s sized t seen. taken-resizes c.args.cred.now c.args.a.now c.args.now c.args.lane t x seen.0.0 seen.0.1 seen.0.2
    c.in-Some.row c.in-Some.is id c.number_in-fileid.ensures c.in-Ok.ensures.place y seen.1.0 seen.1.1 seen.1.2
    c.in-Ok-find_taken.ensures.place c.in-Ok-find_taken.ensures.file size over s sized)
    c.take.result c.take.ensures.ends

pub returns-in-Err-check_file : goal.returns-in-Err-check_file
returns-in-Err-check_file g c =
    let q = file-wanted c.args.cred.now c.args.a.now c.args.now c.args.lane in
    let row : Tree → Row = λ t. create t c.args.cred.now c.args.a.now c.args.now c.args.lane in
    let x = c.in-Ok.room in
    no-wait g.P.Pairs.told c.args.pairs.now c.find_room.new.pairs 5 row (Err (Refused c.in-Err-check_file.status))
    (making-refuses g.P.Pairs.told q row x
    (λ t found. file-goes_on c.args.cred.now c.args.a.now c.args.now c.args.lane t x found.0 found.1 found.2 c.in_default.is)
    c.args.pairs.now c.find_room.new.pairs c.find_room.ensures.goes c.in-Ok.ensures.check c.in-Err-check_file.status
    (sym c.in-Err-check_file.ensures))

pub make_and_tell-requires-clause-name : goal.make_and_tell-requires-clause-name
make_and_tell-requires-clause-name g c =
    let P : List ℕ → Type 0 = λ name. length name ≤ longest_name in
    subst P (sym c.as_slice-name.ensures) c.in-Ok.ensures.place.short

pub make_and_tell-requires-clause-target : goal.make_and_tell-requires-clause-target
make_and_tell-requires-clause-target g c =
    let P : NewNode → Type 0 = λ x. length x.inode.target ≤ longest_target in
    subst P (sym c.new_file-child.ensures) nothing_short

pub make_and_tell-requires-clause-blank : goal.make_and_tell-requires-clause-blank
make_and_tell-requires-clause-blank g c =
    let P : NewNode → Type 0 = λ x. IsNew x.inode (node_by x.inode) in
    subst P (sym c.new_file-child.ensures) (file-new c.args.cred.now c.args.now c.args.a.now.how _)

pub returns-in-Ok-make_and_tell : goal.returns-in-Ok-make_and_tell
returns-in-Ok-make_and_tell g c =
    let q = file-wanted c.args.cred.now c.args.a.now c.args.now c.args.lane in
    let row : Tree → Row = λ t. create t c.args.cred.now c.args.a.now c.args.now c.args.lane in
    let x = c.in-Ok.room in
    no-wait g.P.Pairs.told c.args.pairs.now c.make_and_tell.new.pairs 5 row (Ok (Create c.in-Ok-make_and_tell.told))
    (making-done g.P.Pairs.told q row x
    (λ t found. file-goes_on c.args.cred.now c.args.a.now c.args.now c.args.lane t x found.0 found.1 found.2 c.in_default.is)
    c.args.pairs.now c.find_room.new.pairs c.make_and_tell.new.pairs c.find_room.ensures.goes c.make_and_tell.ensures.goes
    c.in-Ok.ensures.check c.in-Ok.ensures.place c.requires c.in_default.is
    (file-new c.args.cred.now c.args.now c.args.a.now.how _) c.in-Ok-check_file.field-0
    (sym c.in-Ok-check_file.ensures) c.as_slice-name.result.now c.new_file-child.result c.as_slice-name.ensures
    c.new_file-child.ensures c.in-Ok-make_and_tell.told c.in-Ok-make_and_tell.ensures.tells c.in-Ok-make_and_tell.ensures.ok)

pub returns : goal.returns
returns g c =
    let q = file-wanted c.args.cred.now c.args.a.now c.args.now c.args.lane in
    let row : Tree → Row = λ t. create t c.args.cred.now c.args.a.now c.args.now c.args.lane in
    let x = c.in-Ok.room in
    no-wait g.P.Pairs.told c.args.pairs.now c.make_and_tell.new.pairs 5 row (Err (Fault c.in-Err-make_and_tell.fault))
    (making-fails g.P.Pairs.told q row x
    (λ t found. file-goes_on c.args.cred.now c.args.a.now c.args.now c.args.lane t x found.0 found.1 found.2 c.in_default.is)
    c.args.pairs.now c.find_room.new.pairs c.make_and_tell.new.pairs c.find_room.ensures.goes c.make_and_tell.ensures.goes
    c.in-Ok.ensures.check c.in-Ok.ensures.place c.requires c.in_default.is
    (file-new c.args.cred.now c.args.now c.args.a.now.how _) c.in-Ok-check_file.field-0
    (sym c.in-Ok-check_file.ensures) c.as_slice-name.result.now c.new_file-child.result c.as_slice-name.ensures
    c.new_file-child.ensures c.in-Err-make_and_tell.fault c.in-Err-make_and_tell.ensures.fault)
