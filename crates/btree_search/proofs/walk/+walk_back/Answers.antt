use Rattle.std.proofs.Common.{◌≡◌, ◌≢◌, suc, ◌+◌, ◌-◌, ◌<◌, length, sym, ◌∙◌, arith}
use Rattle.btree_search.specs.Found.{IsFloor}
use Rattle.btree_search.proofs.Backs.{Behind, sees_back, hits_back, passes_back, ends_back, starts_back, at_leaf_back}
use Rattle.btree_search.proofs.Backs.{some_before}
use Rattle.btree_search.proofs.Walks.{lost, misshown, gave_up, hit, miss, last}
use Rattle.btree_search.proofs.walk.+walk_back.Goals as goal

pub returns-then-level-eq0-clause-walks : goal.returns-then-level-eq0-clause-walks
returns-then-level-eq0-clause-walks g t c =
    let level : c.args.view.now.level ≡ 0 = omega (arith, c.level-level.ensures.level, c.if-level-eq0.true) in
    at_leaf_back _ (g.G.Pages.state c.args.pages.now) c.args.view.now c.last_in.result level c.last_in.ensures.last
    c.last_in.ensures.fault

pub loop-back-init : goal.loop-back-init
loop-back-init g t c =
    let inner : c.args.view.now.level ≢ 0 = λ is. c.if-level-eq0.false (c.level-level.ensures.level ∙ is) in
    starts_back (record { key = c.args.key.now; birth = c.args.birth }) (g.G.Pages.state c.args.pages.now) c.args.view.now
    c.first_sought.result (c.max-past.result - 0)
    (some_before (record { key = c.args.key.now; birth = c.args.birth }) c.args.view.now c.first_sought.result inner
    c.first_sought.ensures.rules c.first_sought.ensures.begins) c.first_sought.ensures.begins
    (omega (
      arith,
      c.max-past.ensures,
      some_before (record { key = c.args.key.now; birth = c.args.birth }) c.args.view.now
          c.first_sought.result inner c.first_sought.ensures.rules c.first_sought.ensures.begins,
    ))

pub returns-in-Err-clause-walks : goal.returns-in-Err-clause-walks
returns-in-Err-clause-walks g t c =
    let inner : c.args.view.now.level ≢ 0 = λ is. c.if-level-eq0.false (c.level-level.ensures.level ∙ is) in
    let n = c.max-past.result - c.loop-back.back in
    let i = c.max-past.result - 1 - c.loop-back.back in
    let lt : i < length c.args.view.now.cells = omega (
      arith,
      c.first_sought.ensures.begins.within,
      c.max-past.ensures,
      c.first_sought.ensures.rules.least (omega (arith, inner)),
      c.loop-back-test.true,
    ) in
    let is : n ≡ suc i = omega (arith, c.loop-back-test.true) in
    lost (IsFloor (record { key = c.args.key.now; birth = c.args.birth }))
    (Behind (record { key = c.args.key.now; birth = c.args.birth }) c.args.view.now.cells
    (c.max-past.result - c.loop-back.back)) _ _ _ c.args.view.now i c.in-Err.fault inner
    (sees_back (record { key = c.args.key.now; birth = c.args.birth }) c.args.view.now.cells i n lt is)
    c.loop-back.invariant c.in-Err.ensures.only_reads c.in-Err.ensures.fault

pub returns-in-Err-view_of-clause-walks : goal.returns-in-Err-view_of-clause-walks
returns-in-Err-view_of-clause-walks g t c =
    let inner : c.args.view.now.level ≢ 0 = λ is. c.if-level-eq0.false (c.level-level.ensures.level ∙ is) in
    let n = c.max-past.result - c.loop-back.back in
    let i = c.max-past.result - 1 - c.loop-back.back in
    let lt : i < length c.args.view.now.cells = omega (
      arith,
      c.first_sought.ensures.begins.within,
      c.max-past.ensures,
      c.first_sought.ensures.rules.least (omega (arith, inner)),
      c.loop-back-test.true,
    ) in
    let is : n ≡ suc i = omega (arith, c.loop-back-test.true) in
    let none = rw c.level-level.ensures.level at c.in-Err-view_of.ensures.not_shown in
    misshown (IsFloor (record { key = c.args.key.now; birth = c.args.birth }))
    (Behind (record { key = c.args.key.now; birth = c.args.birth }) c.args.view.now.cells
    (c.max-past.result - c.loop-back.back)) _ _ _ c.args.view.now i c.in-Ok.page c.in-Err-view_of.fault inner
    (sees_back (record { key = c.args.key.now; birth = c.args.birth }) c.args.view.now.cells i n lt is)
    c.loop-back.invariant c.in-Ok.ensures.only_reads c.in-Ok.ensures.page c.in-Err-view_of.ensures.odd none

pub returns-then-is_some-clause-walks : goal.returns-then-is_some-clause-walks
returns-then-is_some-clause-walks g t c =
    let inner : c.args.view.now.level ≢ 0 = λ is. c.if-level-eq0.false (c.level-level.ensures.level ∙ is) in
    let n = c.max-past.result - c.loop-back.back in
    let i = c.max-past.result - 1 - c.loop-back.back in
    let lt : i < length c.args.view.now.cells = omega (
      arith,
      c.first_sought.ensures.begins.within,
      c.max-past.ensures,
      c.first_sought.ensures.rules.least (omega (arith, inner)),
      c.loop-back-test.true,
    ) in
    let is : n ≡ suc i = omega (arith, c.loop-back-test.true) in
    let shown = rw c.level-level.ensures.level at c.in-Ok-view_of.ensures.shown in
    hit (IsFloor (record { key = c.args.key.now; birth = c.args.birth }))
    (Behind (record { key = c.args.key.now; birth = c.args.birth }) c.args.view.now.cells
    (c.max-past.result - c.loop-back.back)) _ _ _ _ c.args.view.now c.in-Ok-view_of.below i c.in-Ok.page
    c.in-Ok-walk_back.found inner
    (sees_back (record { key = c.args.key.now; birth = c.args.birth }) c.args.view.now.cells i n lt is)
    (hits_back (record { key = c.args.key.now; birth = c.args.birth }) c.args.view.now.cells i n lt is)
    c.loop-back.invariant c.in-Ok.ensures.only_reads c.in-Ok.ensures.page shown c.in-Ok-walk_back.ensures.walks
    (sym c.is_some.ensures ∙ c.if-is_some.true)

pub returns-in-Err-walk_back-clause-walks : goal.returns-in-Err-walk_back-clause-walks
returns-in-Err-walk_back-clause-walks g t c =
    let inner : c.args.view.now.level ≢ 0 = λ is. c.if-level-eq0.false (c.level-level.ensures.level ∙ is) in
    let n = c.max-past.result - c.loop-back.back in
    let i = c.max-past.result - 1 - c.loop-back.back in
    let lt : i < length c.args.view.now.cells = omega (
      arith,
      c.first_sought.ensures.begins.within,
      c.max-past.ensures,
      c.first_sought.ensures.rules.least (omega (arith, inner)),
      c.loop-back-test.true,
    ) in
    let is : n ≡ suc i = omega (arith, c.loop-back-test.true) in
    let shown = rw c.level-level.ensures.level at c.in-Ok-view_of.ensures.shown in
    gave_up (IsFloor (record { key = c.args.key.now; birth = c.args.birth }))
    (Behind (record { key = c.args.key.now; birth = c.args.birth }) c.args.view.now.cells
    (c.max-past.result - c.loop-back.back)) _ _ _ _ c.args.view.now c.in-Ok-view_of.below i c.in-Ok.page
    c.in-Err-walk_back.fault inner
    (sees_back (record { key = c.args.key.now; birth = c.args.birth }) c.args.view.now.cells i n lt is)
    c.loop-back.invariant c.in-Ok.ensures.only_reads c.in-Ok.ensures.page shown c.in-Err-walk_back.ensures.walks

pub loop-back-preserved : goal.loop-back-preserved
loop-back-preserved g t c =
    let inner : c.args.view.now.level ≢ 0 = λ is. c.if-level-eq0.false (c.level-level.ensures.level ∙ is) in
    let n = c.max-past.result - c.loop-back.back in
    let i = c.max-past.result - 1 - c.loop-back.back in
    let lt : i < length c.args.view.now.cells = omega (
      arith,
      c.first_sought.ensures.begins.within,
      c.max-past.ensures,
      c.first_sought.ensures.rules.least (omega (arith, inner)),
      c.loop-back-test.true,
    ) in
    let is : n ≡ suc i = omega (arith, c.loop-back-test.true) in
    let shown = rw c.level-level.ensures.level at c.in-Ok-view_of.ensures.shown in
    miss (IsFloor (record { key = c.args.key.now; birth = c.args.birth }))
    (Behind (record { key = c.args.key.now; birth = c.args.birth }) c.args.view.now.cells
    (c.max-past.result - c.loop-back.back)) _ _ _ _ _ c.args.view.now c.in-Ok-view_of.below i c.in-Ok.page
    c.in-Ok-walk_back.found inner
    (sees_back (record { key = c.args.key.now; birth = c.args.birth }) c.args.view.now.cells i n lt is)
    (passes_back (record { key = c.args.key.now; birth = c.args.birth }) c.args.view.now.cells i n lt is
    (c.max-past.result - (c.loop-back.back + 1)) (omega (arith, c.loop-back-test.true)))
    c.loop-back.invariant c.in-Ok.ensures.only_reads c.in-Ok.ensures.page shown c.in-Ok-walk_back.ensures.walks
    (sym c.is_some.ensures ∙ c.if-is_some.false)

pub returns-clause-walks : goal.returns-clause-walks
returns-clause-walks g t c =
    let inner : c.args.view.now.level ≢ 0 = λ is. c.if-level-eq0.false (c.level-level.ensures.level ∙ is) in
    last (IsFloor (record { key = c.args.key.now; birth = c.args.birth })) _ _ _ c.args.view.now inner
    (ends_back (record { key = c.args.key.now; birth = c.args.birth }) c.args.view.now.cells
    (c.max-past.result - c.loop-back.back) (omega (arith, c.loop-back-test.false))) c.loop-back.invariant
