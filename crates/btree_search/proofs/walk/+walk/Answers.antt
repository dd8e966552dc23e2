use Rattle.std.proofs.Common.{◌≡◌, ◌≢◌, ◌<◌, length, sym, ◌∙◌, arith, add-one}
use Rattle.btree_search.specs.Found.{IsFound}
use Rattle.btree_search.proofs.Leaves.{at_leaf_any}
use Rattle.btree_search.proofs.Walks.{starts, lost, misshown, gave_up, hit, miss, last, Forwards, sees_forwards, hits_forwards}
use Rattle.btree_search.proofs.Walks.{passes_forwards, ends_forwards}
use Rattle.btree_search.proofs.Ways.{leaf_finds_any, unmet_first, unmet_next, unmet_ends, finds_child}
use Rattle.btree_search.proofs.walk.+walk.Goals as goal

pub returns-then-level-eq0-clause-walks : goal.returns-then-level-eq0-clause-walks
returns-then-level-eq0-clause-walks g t c =
    let level : c.args.view.now.level ≡ 0 = omega (arith, c.level-level.ensures.level, c.if-level-eq0.true) in
    at_leaf_any c.args.aim _ (g.G.Pages.state c.args.pages.now) c.args.view.now c.first_in.result level c.first_in.ensures.first
    c.first_in.ensures.fault

pub returns-then-level-eq0-clause-met : goal.returns-then-level-eq0-clause-met
returns-then-level-eq0-clause-met g t c =
    let level : c.args.view.now.level ≡ 0 = omega (arith, c.level-level.ensures.level, c.if-level-eq0.true) in
    leaf_finds_any c.args.aim _ (g.G.Pages.state c.args.pages.now) c.args.view.now c.first_in.result level
    c.first_in.ensures.rules.cells c.first_in.ensures.first

pub loop-i-init : goal.loop-i-init
loop-i-init g t c =
    let inner : c.args.view.now.level ≢ 0 = λ is. c.if-level-eq0.false (c.level-level.ensures.level ∙ is) in (
      starts c.args.aim (record { key = c.args.key.now; birth = c.args.birth }) (g.G.Pages.state c.args.pages.now) c.args.view.now
          c.first_sought-past.result c.saturating_sub-i.result
          c.count-i-end.ensures.rules inner c.first_sought-past.ensures.begins (omega (arith, c.saturating_sub-i.ensures)),
      unmet_first c.args.aim (record { key = c.args.key.now; birth = c.args.birth }) (g.G.Pages.state c.args.pages.now)
          c.args.view.now c.first_sought-past.result c.saturating_sub-i.result
          c.first_sought-past.ensures.begins (omega (arith, c.saturating_sub-i.ensures)),
    )

pub returns-in-Err-clause-walks : goal.returns-in-Err-clause-walks
returns-in-Err-clause-walks g t c =
    let inner : c.args.view.now.level ≢ 0 = λ is. c.if-level-eq0.false (c.level-level.ensures.level ∙ is) in
    let lt : c.loop-i.i < length c.args.view.now.cells = omega (arith, c.count-i-end.ensures.count, c.loop-i-test.true) in
    lost (IsFound c.args.aim (record { key = c.args.key.now; birth = c.args.birth }))
    (Forwards c.args.aim (record { key = c.args.key.now; birth = c.args.birth }) c.args.view.now.cells c.loop-i.i) _ _ _
    c.args.view.now c.loop-i.i c.in-Err.fault inner
    (sees_forwards c.args.aim (record { key = c.args.key.now; birth = c.args.birth }) c.args.view.now.cells c.loop-i.i lt)
    c.loop-i.invariant.0 c.in-Err.ensures.only_reads c.in-Err.ensures.fault

pub returns-in-Err-view_of-clause-walks : goal.returns-in-Err-view_of-clause-walks
returns-in-Err-view_of-clause-walks g t c =
    let inner : c.args.view.now.level ≢ 0 = λ is. c.if-level-eq0.false (c.level-level.ensures.level ∙ is) in
    let lt : c.loop-i.i < length c.args.view.now.cells = omega (arith, c.count-i-end.ensures.count, c.loop-i-test.true) in
    let none = rw c.level-level.ensures.level at c.in-Err-view_of.ensures.not_shown in
    misshown (IsFound c.args.aim (record { key = c.args.key.now; birth = c.args.birth }))
    (Forwards c.args.aim (record { key = c.args.key.now; birth = c.args.birth }) c.args.view.now.cells c.loop-i.i) _ _ _
    c.args.view.now c.loop-i.i c.in-Ok.page c.in-Err-view_of.fault inner
    (sees_forwards c.args.aim (record { key = c.args.key.now; birth = c.args.birth }) c.args.view.now.cells c.loop-i.i lt)
    c.loop-i.invariant.0 c.in-Ok.ensures.only_reads c.in-Ok.ensures.page c.in-Err-view_of.ensures.odd none

pub returns-then-is_some-clause-walks : goal.returns-then-is_some-clause-walks
returns-then-is_some-clause-walks g t c =
    let inner : c.args.view.now.level ≢ 0 = λ is. c.if-level-eq0.false (c.level-level.ensures.level ∙ is) in
    let lt : c.loop-i.i < length c.args.view.now.cells = omega (arith, c.count-i-end.ensures.count, c.loop-i-test.true) in
    let shown = rw c.level-level.ensures.level at c.in-Ok-view_of.ensures.shown in
    hit (IsFound c.args.aim (record { key = c.args.key.now; birth = c.args.birth }))
    (Forwards c.args.aim (record { key = c.args.key.now; birth = c.args.birth }) c.args.view.now.cells c.loop-i.i) _ _ _ _
    c.args.view.now c.in-Ok-view_of.below c.loop-i.i c.in-Ok.page c.in-Ok-walk.found inner
    (sees_forwards c.args.aim (record { key = c.args.key.now; birth = c.args.birth }) c.args.view.now.cells c.loop-i.i lt)
    (hits_forwards c.args.aim (record { key = c.args.key.now; birth = c.args.birth }) c.args.view.now.cells c.loop-i.i lt)
    c.loop-i.invariant.0 c.in-Ok.ensures.only_reads c.in-Ok.ensures.page shown c.in-Ok-walk.ensures.walks (sym c.is_some.ensures
    ∙ c.if-is_some.true)

pub returns-then-is_some-clause-met : goal.returns-then-is_some-clause-met
returns-then-is_some-clause-met g t c =
    let inner : c.args.view.now.level ≢ 0 = λ is. c.if-level-eq0.false (c.level-level.ensures.level ∙ is) in
    let shown = rw c.level-level.ensures.level at c.in-Ok-view_of.ensures.shown in
    finds_child c.args.aim (record { key = c.args.key.now; birth = c.args.birth }) _ _ _ c.args.view.now c.in-Ok-view_of.below
    c.loop-i.i c.in-Ok.page c.in-Ok-walk.found inner
    c.loop-i.invariant.1 c.in-Ok.ensures.only_reads c.in-Ok.ensures.page c.in-Ok-walk.ensures.walks.only shown
    c.in-Ok-walk.ensures.met

pub returns-in-Err-walk-clause-walks : goal.returns-in-Err-walk-clause-walks
returns-in-Err-walk-clause-walks g t c =
    let inner : c.args.view.now.level ≢ 0 = λ is. c.if-level-eq0.false (c.level-level.ensures.level ∙ is) in
    let lt : c.loop-i.i < length c.args.view.now.cells = omega (arith, c.count-i-end.ensures.count, c.loop-i-test.true) in
    let shown = rw c.level-level.ensures.level at c.in-Ok-view_of.ensures.shown in
    gave_up (IsFound c.args.aim (record { key = c.args.key.now; birth = c.args.birth }))
    (Forwards c.args.aim (record { key = c.args.key.now; birth = c.args.birth }) c.args.view.now.cells c.loop-i.i) _ _ _ _
    c.args.view.now c.in-Ok-view_of.below c.loop-i.i c.in-Ok.page c.in-Err-walk.fault inner
    (sees_forwards c.args.aim (record { key = c.args.key.now; birth = c.args.birth }) c.args.view.now.cells c.loop-i.i lt)
    c.loop-i.invariant.0 c.in-Ok.ensures.only_reads c.in-Ok.ensures.page shown c.in-Err-walk.ensures.walks

pub loop-i-preserved : goal.loop-i-preserved
loop-i-preserved g t c =
    let inner : c.args.view.now.level ≢ 0 = λ is. c.if-level-eq0.false (c.level-level.ensures.level ∙ is) in
    let lt : c.loop-i.i < length c.args.view.now.cells = omega (arith, c.count-i-end.ensures.count, c.loop-i-test.true) in
    let shown = rw c.level-level.ensures.level at c.in-Ok-view_of.ensures.shown in (
      miss (IsFound c.args.aim (record { key = c.args.key.now; birth = c.args.birth }))
          (Forwards c.args.aim (record { key = c.args.key.now; birth = c.args.birth }) c.args.view.now.cells c.loop-i.i) _ _ _ _ _
          c.args.view.now c.in-Ok-view_of.below c.loop-i.i c.in-Ok.page c.in-Ok-walk.found inner
          (sees_forwards c.args.aim (record { key = c.args.key.now; birth = c.args.birth }) c.args.view.now.cells c.loop-i.i lt)
          (passes_forwards c.args.aim (record { key = c.args.key.now; birth = c.args.birth }) c.args.view.now.cells c.loop-i.i
          _ lt (add-one c.loop-i.i))
          c.loop-i.invariant.0 c.in-Ok.ensures.only_reads c.in-Ok.ensures.page shown c.in-Ok-walk.ensures.walks
          (sym c.is_some.ensures ∙ c.if-is_some.false),
      unmet_next c.args.aim (record { key = c.args.key.now; birth = c.args.birth }) _ _ _ c.args.view.now c.in-Ok-view_of.below
          c.loop-i.i _ c.in-Ok.page c.in-Ok-walk.found inner
          c.loop-i.invariant.1 c.in-Ok.ensures.only_reads c.in-Ok.ensures.page c.in-Ok-walk.ensures.walks.only shown
          c.in-Ok-walk.ensures.met (sym c.is_some.ensures ∙ c.if-is_some.false) (add-one c.loop-i.i),
    )

pub returns-clause-walks : goal.returns-clause-walks
returns-clause-walks g t c =
    let inner : c.args.view.now.level ≢ 0 = λ is. c.if-level-eq0.false (c.level-level.ensures.level ∙ is) in
    last (IsFound c.args.aim (record { key = c.args.key.now; birth = c.args.birth })) _ _ _ c.args.view.now inner
    (ends_forwards c.args.aim (record { key = c.args.key.now; birth = c.args.birth }) c.args.view.now.cells c.loop-i.i
    (omega (arith, c.count-i-end.ensures.count, c.loop-i-test.false))) c.loop-i.invariant.0

pub returns-clause-met : goal.returns-clause-met
returns-clause-met g t c =
    let inner : c.args.view.now.level ≢ 0 = λ is. c.if-level-eq0.false (c.level-level.ensures.level ∙ is) in
    unmet_ends c.args.aim (record { key = c.args.key.now; birth = c.args.birth }) _ c.args.view.now c.loop-i.i inner
    (omega (arith, c.count-i-end.ensures.count, c.loop-i-test.false)) c.loop-i.invariant.1
