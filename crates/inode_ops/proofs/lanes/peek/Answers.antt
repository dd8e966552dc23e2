use Rattle.std.proofs.Common.{◌≡◌, ◌∙◌, ap, sym, Some, None}
use Rattle.fs_rules.specs.Tree.{next_fileid}
use Rattle.pairs.specs.declared.at.At.TheVariants.{Live}
use Rattle.fs_keys.specs.declared.key_parts.KeyParts.TheVariants.{Lane}
use Rattle.fs_keys.specs.Values.{lane_in}
use Rattle.fs_shows.proofs.Doing.{up-read}
use Rattle.inode_ops.specs.Giving.{HasLane}
use Rattle.inode_ops.proofs.Loading.{odd-held, odd-said, said-reads, some-held, lane-holds}
use Rattle.inode_ops.proofs.lanes.peek.Goals as goal

pub returns-in-Err-clause-fault : goal.returns-in-Err-clause-fault
returns-in-Err-clause-fault g c = up-read g.P.Pairs.told c.args.pairs.now c.get_row.new.pairs
    (HasLane c.args.lane) c.in-Err.fault c.in-Err.ensures.fault

pub returns-in-None-clause-fault : goal.returns-in-None-clause-fault
returns-in-None-clause-fault g c =
    odd-held g.P.Pairs.told c.args.pairs.now c.get_row.new.pairs lane_in Live (Lane c.args.lane) c.in-Ok.found c.in-Ok.ensures.ok
    (HasLane c.args.lane) (λ t. next_fileid t c.args.lane) (lane-holds c.args.lane c.ranges.lane.fits) c.in-None.is

pub returns-in-Some-lane_of-clause-ok : goal.returns-in-Some-lane_of-clause-ok
returns-in-Some-lane_of-clause-ok g c =
    let says : lane_in c.in-Some.value ≡ Some c.in-Some-lane_of.next = ap lane_in (sym c.as_slice.ensures)
    ∙ sym c.in-Some-lane_of.ensures in
    said-reads g.P.Pairs.told c.args.pairs.now c.get_row.new.pairs lane_in Live
    (Lane c.args.lane) c.in-Ok.found c.in-Ok.ensures.ok (HasLane c.args.lane)
    (λ t. next_fileid t c.args.lane) c.in-Some.value c.in-Some-lane_of.next
    (lane-holds c.args.lane c.ranges.lane.fits) c.in-Some.is says

pub returns-in-Some-lane_of-clause-record : goal.returns-in-Some-lane_of-clause-record
returns-in-Some-lane_of-clause-record g c =
    let says : lane_in c.in-Some.value ≡ Some c.in-Some-lane_of.next = ap lane_in (sym c.as_slice.ensures)
    ∙ sym c.in-Some-lane_of.ensures in
    some-held g.P.Pairs.told c.args.pairs.now c.get_row.new.pairs lane_in Live
    (Lane c.args.lane) c.in-Ok.found c.in-Ok.ensures.ok c.in-Some.value c.in-Some-lane_of.next c.in-Some.is says

pub returns-clause-fault : goal.returns-clause-fault
returns-clause-fault g c =
    let says : lane_in c.in-Some.value ≡ None = ap lane_in (sym c.as_slice.ensures) ∙ sym c.in-None-lane_of.ensures in
    odd-said g.P.Pairs.told c.args.pairs.now c.get_row.new.pairs lane_in Live (Lane c.args.lane) c.in-Ok.found c.in-Ok.ensures.ok
    (HasLane c.args.lane) (λ t. next_fileid t c.args.lane) c.in-Some.value
    (lane-holds c.args.lane c.ranges.lane.fits) c.in-Some.is says
