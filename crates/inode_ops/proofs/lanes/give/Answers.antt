use Rattle.std.proofs.Common.{◌≡◌, ◌∙◌, ◌+◌, ◌≤◌, ◌^◌, Some, arith, length}
use Rattle.std.proofs.lemmas.Result.{on_ok_weaker, IfErr-weaker}
use Rattle.xdr_grammar.specs.Items.{hyper}
use Rattle.pairs.specs.declared.at.At.TheVariants.{Live}
use Rattle.fs_keys.specs.declared.key_parts.KeyParts.TheVariants.{Lane}
use Rattle.fs_keys.specs.Values.{lane_in}
use Rattle.fs_shows.specs.Extents.{row}
use Rattle.fs_shows.specs.Nodes.{Holds}
use Rattle.fs_shows.proofs.Doing.{goes-most, does-tell, up-given, up-edit, up-behind, up-memory}
use Rattle.fs_shows.proofs.LaneEdits.{lane-first}
use Rattle.inode_ops.specs.Giving.{HasLane, CanGive}
use Rattle.inode_ops.proofs.Loading.{give-odd, give-edits}
use Rattle.inode_ops.proofs.lanes.give.Goals as goal

pub returns-in-Err-clause-fault : goal.returns-in-Err-clause-fault
returns-in-Err-clause-fault g c =
    up-edit g.P.Pairs.told c.args.pairs.now c.peek.new.pairs (CanGive c.args.lane) c.in-Err.fault
    (up-given g.P.Pairs.told c.args.pairs.now c.peek.new.pairs (CanGive c.args.lane) (HasLane c.args.lane)
    (λ t can. can.has) c.in-Err.fault c.in-Err.ensures.fault)

pub returns-in-None-clause-fault : goal.returns-in-None-clause-fault
returns-in-None-clause-fault g c =
    let high : 2 ^ 64 ≤ c.in-Ok.next + 16 = omega arith in
    give-odd g.P.Pairs.told c.args.pairs.now c.peek.new.pairs c.peek.new.pairs c.args.lane c.in-Ok.next c.in-Ok.ensures.ok high

pub put_row-requires-clause-other : goal.put_row-requires-clause-other
put_row-requires-clause-other g c = lane-first c.args.lane

pub put_row-requires-clause-value : goal.put_row-requires-clause-value
unfolding hyper
put_row-requires-clause-value g c =
    let is : c.as_slice.result.now ≡ hyper.spelling c.in-Some.after = c.as_slice.ensures ∙ c.in-Ok-lane_value.ensures.is in
    rw is (omega arith)

pub returns-in-Ok-lane_value-clause-ok : goal.returns-in-Ok-lane_value-clause-ok
returns-in-Ok-lane_value-clause-ok g c =
    let is : c.as_slice.result.now ≡ c.in-Ok-lane_value.value = c.as_slice.ensures in
    let after : c.in-Some.after ≡ c.in-Ok.next + 16 = omega arith in
    on_ok_weaker c.put_row.result
    (give-edits g.P.Pairs.told c.args.pairs.now c.peek.new.pairs c.put_row.new.pairs c.args.lane c.in-Ok.next c.in-Some.after
    c.in-Ok-lane_value.value c.ranges.lane.fits
    c.put_row.ensures.goes c.in-Ok.ensures.record after c.in-Ok-lane_value.ensures.again)
    (rw is at c.put_row.ensures.ok)

pub returns-in-Ok-lane_value-clause-fault : goal.returns-in-Ok-lane_value-clause-fault
returns-in-Ok-lane_value-clause-fault g c =
    IfErr-weaker c.put_row.result _ _
    (λ fault up. up-behind g.P.Pairs.told c.args.pairs.now c.peek.new.pairs c.put_row.new.pairs 0 1 (λ v. v)
    (λ v. Holds lane_in (row v Live (Lane c.args.lane)) (Some c.in-Ok.next))
    (CanGive c.args.lane) fault (λ v lives. lives) c.in-Ok.ensures.goes c.put_row.ensures.goes
    (does-tell g.P.Pairs.told c.args.pairs.now c.peek.new.pairs
    (λ v. Holds lane_in (row v Live (Lane c.args.lane)) (Some c.in-Ok.next)) c.in-Ok.ensures.record) up)
    c.put_row.ensures.fault

pub returns-in-Err-lane_value-clause-fault : goal.returns-in-Err-lane_value-clause-fault
returns-in-Err-lane_value-clause-fault g c =
    up-edit g.P.Pairs.told c.args.pairs.now c.peek.new.pairs (CanGive c.args.lane) c.from.result
    (up-memory g.P.Pairs.told c.args.pairs.now c.peek.new.pairs (CanGive c.args.lane) c.from.result c.from.ensures)
