-- There is room, the link is made, and told of.
use Rattle.std.proofs.Common.{◌≤◌, List, ℕ, length, sym, subst}
use Rattle.fs_rules.specs.Limits.{longest_name, longest_target}
use Rattle.fs_rules.specs.Checks.{Row}
use Rattle.fs_rules.specs.Making.{symlink}
use Rattle.fs_rules.specs.Tree.{Tree}
use Rattle.fs_shows.specs.Files.{IsNew}
use Rattle.procs_making.specs.declared.child.NewNode.{NewNode}
use Rattle.procs_making.specs.Children.{node_by}
use Rattle.procs_making.proofs.LinkRows.{link-wanted, link-row, link-new, link-free}
use Rattle.procs_making.proofs.MakingRows.{row-halts, row-goes_on, making-halts, making-refuses, making-lacks, making-done}
use Rattle.procs_making.proofs.MakingRows.{making-fails}
use Rattle.procs_making.proofs.links.symlink.Goals as goal

pub find_room-requires : goal.find_room-requires
find_room-requires g c = c.requires

pub returns-in-Err : goal.returns-in-Err
returns-in-Err g c =
    let q = link-wanted c.args.cred.now c.args.a.now c.args.now c.args.lane in
    let row : Tree → Row = λ t. symlink t c.args.cred.now c.args.a.now c.args.now c.args.lane in
    let is = link-row c.args.cred.now c.args.a.now c.args.now c.args.lane in
    making-halts g.P.Pairs.told q row (row-halts q row is) c.args.pairs.now c.find_room.new.pairs c.find_room.ensures.goes
    c.in-Err.halt c.in-Err.ensures.check

pub returns-in-Err-check_link : goal.returns-in-Err-check_link
returns-in-Err-check_link g c =
    let q = link-wanted c.args.cred.now c.args.a.now c.args.now c.args.lane in
    let row : Tree → Row = λ t. symlink t c.args.cred.now c.args.a.now c.args.now c.args.lane in
    let is = link-row c.args.cred.now c.args.a.now c.args.now c.args.lane in
    making-refuses g.P.Pairs.told q row c.in-Ok.room (λ t found. row-goes_on q row is t found.0 found.1)
    c.args.pairs.now c.find_room.new.pairs c.find_room.ensures.goes c.in-Ok.ensures.check c.in-Err-check_link.status
    (sym c.in-Err-check_link.ensures.check)

pub returns-in-Err-new_link : goal.returns-in-Err-new_link
returns-in-Err-new_link g c =
    making-lacks g.P.Pairs.told (λ t. symlink t c.args.cred.now c.args.a.now c.args.now c.args.lane) c.args.pairs.now
    c.find_room.new.pairs c.find_room.ensures.goes c.in-Err-new_link.fault c.in-Err-new_link.ensures.err

pub make_and_tell-requires-clause-name : goal.make_and_tell-requires-clause-name
make_and_tell-requires-clause-name g c =
    let P : List ℕ → Type 0 = λ name. length name ≤ longest_name in
    subst P (sym c.as_slice-name.ensures) c.in-Ok.ensures.place.short

pub make_and_tell-requires-clause-target : goal.make_and_tell-requires-clause-target
make_and_tell-requires-clause-target g c =
    let P : NewNode → Type 0 = λ x. length x.inode.target ≤ longest_target in
    subst P (sym c.in-Ok-new_link.ensures.ok) c.in-Ok-check_link.ensures.short

pub make_and_tell-requires-clause-blank : goal.make_and_tell-requires-clause-blank
make_and_tell-requires-clause-blank g c =
    let P : NewNode → Type 0 = λ x. IsNew x.inode (node_by x.inode) in
    subst P (sym c.in-Ok-new_link.ensures.ok) (link-new c.args.cred.now c.args.a.now c.args.now c.args.lane c.in-Ok.room)

pub returns-in-Ok-make_and_tell : goal.returns-in-Ok-make_and_tell
returns-in-Ok-make_and_tell g c =
    let q = link-wanted c.args.cred.now c.args.a.now c.args.now c.args.lane in
    let row : Tree → Row = λ t. symlink t c.args.cred.now c.args.a.now c.args.now c.args.lane in
    let is = link-row c.args.cred.now c.args.a.now c.args.now c.args.lane in
    let u = c.in-Ok-check_link.field-0 in
    making-done g.P.Pairs.told q row c.in-Ok.room (λ t found. row-goes_on q row is t found.0 found.1)
    c.args.pairs.now c.find_room.new.pairs c.make_and_tell.new.pairs c.find_room.ensures.goes c.make_and_tell.ensures.goes
    c.in-Ok.ensures.check c.in-Ok.ensures.place c.requires
    (link-free c.args.cred.now c.args.a.now c.args.now c.args.lane c.in-Ok.room u (sym c.in-Ok-check_link.ensures.check))
    (link-new c.args.cred.now c.args.a.now c.args.now c.args.lane c.in-Ok.room) u (sym c.in-Ok-check_link.ensures.check)
    c.as_slice-name.result.now c.in-Ok-new_link.child c.as_slice-name.ensures c.in-Ok-new_link.ensures.ok
    c.in-Ok-make_and_tell.told c.in-Ok-make_and_tell.ensures.tells c.in-Ok-make_and_tell.ensures.ok

pub returns : goal.returns
returns g c =
    let q = link-wanted c.args.cred.now c.args.a.now c.args.now c.args.lane in
    let row : Tree → Row = λ t. symlink t c.args.cred.now c.args.a.now c.args.now c.args.lane in
    let is = link-row c.args.cred.now c.args.a.now c.args.now c.args.lane in
    let u = c.in-Ok-check_link.field-0 in
    making-fails g.P.Pairs.told q row c.in-Ok.room (λ t found. row-goes_on q row is t found.0 found.1)
    c.args.pairs.now c.find_room.new.pairs c.make_and_tell.new.pairs c.find_room.ensures.goes c.make_and_tell.ensures.goes
    c.in-Ok.ensures.check c.in-Ok.ensures.place c.requires
    (link-free c.args.cred.now c.args.a.now c.args.now c.args.lane c.in-Ok.room u (sym c.in-Ok-check_link.ensures.check))
    (link-new c.args.cred.now c.args.a.now c.args.now c.args.lane c.in-Ok.room) u (sym c.in-Ok-check_link.ensures.check)
    c.as_slice-name.result.now c.in-Ok-new_link.child c.as_slice-name.ensures c.in-Ok-new_link.ensures.ok
    c.in-Err-make_and_tell.fault c.in-Err-make_and_tell.ensures.fault
