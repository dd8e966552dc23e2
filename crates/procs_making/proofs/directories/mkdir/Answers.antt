-- There is room, the directory is made, and told of.
use Rattle.std.proofs.Common.{◌≤◌, List, ℕ, length, sym, subst}
use Rattle.fs_rules.specs.Limits.{longest_name, longest_target}
use Rattle.fs_rules.specs.Checks.{Row}
use Rattle.fs_rules.specs.Snapshots.{mkdir}
use Rattle.fs_rules.specs.Tree.{Tree}
use Rattle.fs_shows.specs.Files.{IsNew}
use Rattle.procs_making.specs.declared.child.NewNode.{NewNode}
use Rattle.procs_making.specs.Children.{node_by}
use Rattle.procs_making.proofs.DirectoryRows.{directory-wanted, directory-row, directory-new, directory-free}
use Rattle.procs_making.proofs.MakingRows.{row-halts, row-goes_on, making-halts, making-refuses, making-done, making-fails}
use Rattle.procs_making.proofs.Paths.{nothing_short}
use Rattle.procs_making.proofs.directories.mkdir.Goals as goal

pub find_room-requires : goal.find_room-requires
find_room-requires g c = c.requires.lane

pub returns-in-Err : goal.returns-in-Err
returns-in-Err g c =
    let q = directory-wanted c.args.cred.now c.args.a.now c.args.now c.args.lane in
    let row : Tree → Row = λ t. mkdir t c.args.cred.now c.args.a.now c.args.now c.args.lane in
    let is = directory-row c.args.cred.now c.args.a.now c.args.now c.args.lane c.requires.outside in
    making-halts g.P.Pairs.told q row (row-halts q row is) c.args.pairs.now c.find_room.new.pairs c.find_room.ensures.goes
    c.in-Err.halt c.in-Err.ensures.check

pub returns-in-Err-check_directory : goal.returns-in-Err-check_directory
returns-in-Err-check_directory g c =
    let q = directory-wanted c.args.cred.now c.args.a.now c.args.now c.args.lane in
    let row : Tree → Row = λ t. mkdir t c.args.cred.now c.args.a.now c.args.now c.args.lane in
    let is = directory-row c.args.cred.now c.args.a.now c.args.now c.args.lane c.requires.outside in
    making-refuses g.P.Pairs.told q row c.in-Ok.room (λ t found. row-goes_on q row is t found.0 found.1)
    c.args.pairs.now c.find_room.new.pairs c.find_room.ensures.goes c.in-Ok.ensures.check c.in-Err-check_directory.status
    (sym c.in-Err-check_directory.ensures)

pub make_and_tell-requires-clause-name : goal.make_and_tell-requires-clause-name
make_and_tell-requires-clause-name g c =
    let P : List ℕ → Type 0 = λ name. length name ≤ longest_name in
    subst P (sym c.as_slice-name.ensures) c.in-Ok.ensures.place.short

pub make_and_tell-requires-clause-target : goal.make_and_tell-requires-clause-target
make_and_tell-requires-clause-target g c =
    let P : NewNode → Type 0 = λ x. length x.inode.target ≤ longest_target in
    subst P (sym c.new_directory-child.ensures) nothing_short

pub make_and_tell-requires-clause-blank : goal.make_and_tell-requires-clause-blank
make_and_tell-requires-clause-blank g c =
    let P : NewNode → Type 0 = λ x. IsNew x.inode (node_by x.inode) in
    subst P (sym c.new_directory-child.ensures) (directory-new c.args.cred.now c.args.a.now c.args.now c.args.lane c.in-Ok.room)

pub returns-in-Ok-make_and_tell : goal.returns-in-Ok-make_and_tell
returns-in-Ok-make_and_tell g c =
    let q = directory-wanted c.args.cred.now c.args.a.now c.args.now c.args.lane in
    let row : Tree → Row = λ t. mkdir t c.args.cred.now c.args.a.now c.args.now c.args.lane in
    let is = directory-row c.args.cred.now c.args.a.now c.args.now c.args.lane c.requires.outside in
    let u = c.in-Ok-check_directory.field-0 in
    making-done g.P.Pairs.told q row c.in-Ok.room (λ t found. row-goes_on q row is t found.0 found.1)
    c.args.pairs.now c.find_room.new.pairs c.make_and_tell.new.pairs c.find_room.ensures.goes c.make_and_tell.ensures.goes
    c.in-Ok.ensures.check c.in-Ok.ensures.place c.requires.lane
    (directory-free c.args.cred.now c.args.a.now c.args.now c.args.lane c.in-Ok.room u (sym c.in-Ok-check_directory.ensures))
    (directory-new c.args.cred.now c.args.a.now c.args.now c.args.lane c.in-Ok.room) u (sym c.in-Ok-check_directory.ensures)
    c.as_slice-name.result.now c.new_directory-child.result c.as_slice-name.ensures c.new_directory-child.ensures
    c.in-Ok-make_and_tell.told c.in-Ok-make_and_tell.ensures.tells c.in-Ok-make_and_tell.ensures.ok

pub returns : goal.returns
returns g c =
    let q = directory-wanted c.args.cred.now c.args.a.now c.args.now c.args.lane in
    let row : Tree → Row = λ t. mkdir t c.args.cred.now c.args.a.now c.args.now c.args.lane in
    let is = directory-row c.args.cred.now c.args.a.now c.args.now c.args.lane c.requires.outside in
    let u = c.in-Ok-check_directory.field-0 in
    making-fails g.P.Pairs.told q row c.in-Ok.room (λ t found. row-goes_on q row is t found.0 found.1)
    c.args.pairs.now c.find_room.new.pairs c.make_and_tell.new.pairs c.find_room.ensures.goes c.make_and_tell.ensures.goes
    c.in-Ok.ensures.check c.in-Ok.ensures.place c.requires.lane
    (directory-free c.args.cred.now c.args.a.now c.args.now c.args.lane c.in-Ok.room u (sym c.in-Ok-check_directory.ensures))
    (directory-new c.args.cred.now c.args.a.now c.args.now c.args.lane c.in-Ok.room) u (sym c.in-Ok-check_directory.ensures)
    c.as_slice-name.result.now c.new_directory-child.result c.as_slice-name.ensures c.new_directory-child.ensures
    c.in-Err-make_and_tell.fault c.in-Err-make_and_tell.ensures.fault
