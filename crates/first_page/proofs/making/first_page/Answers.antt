-- What the page has behind each step, and so what comes next.
use Rattle.std.proofs.Common.{[], subst}
use Rattle.std.proofs.lemmas.Result.{IfOk-weaker}
use Rattle.btree_page.specs.Content.{Content, Spells}
use Rattle.fs_rules.specs.Tree.{first_tree}
use Rattle.first_page.specs.Records.{first_quad, root_quad, times_quad, lanes_to}
use Rattle.first_page.specs.Standing.{IsFirstPage}
use Rattle.first_page.proofs.Adding.{one_more}
use Rattle.first_page.proofs.Alone.{stands_alone}
use Rattle.first_page.proofs.Lanes.{before_lane, up_to_root, first_next, lane_next, lane_added, lanes_end, root_next, times_next}
use Rattle.first_page.proofs.making.first_page.Goals as goal

pub add_first-requires : goal.add_first-requires
add_first-requires c =
    first_next c.args.fsid c.args.verifier c.args.first c.in_ok-page.page c.arguments_fit.ensures c.in_ok-page.ensures

pub loop-lane-init : goal.loop-lane-init
unfolding lanes_to
loop-lane-init c =
    one_more c.in_ok-page.page c.add_first.new.page [] (first_quad c.args.fsid c.args.verifier) c.in_ok-page.ensures
    c.in_ok-add_first.ensures

pub add_lane-requires : goal.add_lane-requires
add_lane-requires c =
    lane_next c.args.fsid c.args.verifier c.args.first c.loop-lane.lane c.loop-lane.page c.arguments_fit.ensures
    c.loop-lane-test.true c.loop-lane.invariant

pub loop-lane-preserved : goal.loop-lane-preserved
loop-lane-preserved c =
    lane_added c.args.fsid c.args.verifier c.loop-lane.lane c.loop-lane.page c.add_lane.new.page c.loop-lane.invariant
    c.in_ok-add_lane.ensures

pub add_root-requires : goal.add_root-requires
add_root-requires c =
    root_next c.args.fsid c.args.verifier c.args.first c.loop-lane.page c.arguments_fit.ensures
    (lanes_end c.args.fsid c.args.verifier c.loop-lane.lane c.loop-lane.page c.loop-lane-test.false c.loop-lane.auto.lane-end
    c.loop-lane.invariant)

pub add_times-requires : goal.add_times-requires
add_times-requires c =
    times_next c.args.fsid c.args.verifier c.args.first c.add_root.new.page c.arguments_fit.ensures
    (one_more c.loop-lane.page c.add_root.new.page (before_lane c.args.fsid c.args.verifier 16) (root_quad c.args.first)
    (lanes_end c.args.fsid c.args.verifier c.loop-lane.lane c.loop-lane.page c.loop-lane-test.false c.loop-lane.auto.lane-end
    c.loop-lane.invariant) c.in_ok-add_root.ensures)

-- all records lie in the page
pub returns : goal.returns
returns c =
    let lanes = lanes_end c.args.fsid c.args.verifier c.loop-lane.lane c.loop-lane.page c.loop-lane-test.false
    c.loop-lane.auto.lane-end c.loop-lane.invariant in
    let rooted = one_more c.loop-lane.page c.add_root.new.page (before_lane c.args.fsid c.args.verifier 16)
    (root_quad c.args.first) lanes c.in_ok-add_root.ensures in
    let whole = one_more c.add_root.new.page c.add_times.new.page (up_to_root c.args.fsid c.args.verifier c.args.first)
    (times_quad c.args.first) rooted c.in_ok-add_times.ensures in
    IfOk-weaker c.finish.result (λ page. Spells c.add_times.new.page page)
    (λ page. IsFirstPage page (first_tree c.args.fsid c.args.verifier c.args.first))
    (λ page spelled. stands_alone c.args.fsid c.args.verifier c.args.first page c.arguments_fit.ensures
    (c.first_tree_is_sound.ensures c.args.fsid c.args.verifier c.args.first c.requires)
    (subst (λ (content : Content). Spells content page) whole spelled))
    c.finish.ensures
