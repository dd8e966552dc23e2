use Rattle.std.proofs.Common.{arith, ◌≡◌, ◌^◌, ◌<◌, Some, sym, subst}
use Rattle.std.specs.Prelude.{IfOk, IfErr, OnOk, slice_get}
use Rattle.std.proofs.lemmas.Option.{slice_get_read}
use Rattle.pair_types.specs.declared.fault.StepFault.TheVariants as fault
use Rattle.page_types.specs.Fair.{IsFair}
use Rattle.page_types.specs.Journals.{own}
use Rattle.page_types.specs.Ports.{IsAnswer}
use Rattle.store_group.specs.Journal.{Request}
use Rattle.fabric.specs.Keeping.{shown_of}
use Rattle.fabric.specs.Settled.{steps}
use Rattle.fabric.specs.Shown.{past}
use Rattle.fabric.specs.Stepping.{StepsAs, AreHeard, Worsens}
use Rattle.fabric.specs.Taking.{Scene, written}
use Rattle.fabric.proofs.Growing.{keeps, stepped, answers, are_heard, worsened, log_fits, round_fits}
use Rattle.fabric.proofs.fabric.Fabric.step.Goals as goal

pub take_step-requires-clause-next : goal.take_step-requires-clause-next
take_step-requires-clause-next g c =
    let i = c.self.inside in
    let k = c.self.invariant in
    let store : c.args.store < i.stores = subst (λ s. c.args.store < s.origin.stores) (sym c.self.view_is) c.requires.store in
    let there : slice_get i.groups.items c.args.store ≡ Some c.index_mut-group.result.now =
    slice_get_read i.groups.items i.stores c.args.store c.index_mut-group.result.now (sym k.groups_are) store
    c.index_mut-group.ensures.value in
    let room : i.book.steps < 2 ^ 62 = omega (arith, c.if-self-ge-MOST_STEPS.false) in
    log_fits (record { stores = i.stores; first = i.first }) i.replicas c.args.store (written i.book) c.index_mut-group.result.now
    (k.each c.args.store c.index_mut-group.result.now there) k.answered (subst (λ n. n < 2 ^ 62) k.count_is room)

pub take_step-requires-clause-round : goal.take_step-requires-clause-round
take_step-requires-clause-round g c =
    let i = c.self.inside in
    let k = c.self.invariant in
    let store : c.args.store < i.stores = subst (λ s. c.args.store < s.origin.stores) (sym c.self.view_is) c.requires.store in
    let there : slice_get i.groups.items c.args.store ≡ Some c.index_mut-group.result.now =
    slice_get_read i.groups.items i.stores c.args.store c.index_mut-group.result.now (sym k.groups_are) store
    c.index_mut-group.ensures.value in
    let room : i.book.steps < 2 ^ 62 = omega (arith, c.if-self-ge-MOST_STEPS.false) in
    round_fits (record { stores = i.stores; first = i.first }) i.replicas c.args.store (written i.book)
    c.index_mut-group.result.now
    (k.each c.args.store c.index_mut-group.result.now there) (subst (λ n. n < 2 ^ 62) k.count_is room)

pub invariant_of-self : goal.invariant_of-self
invariant_of-self g c =
    let i = c.self.inside in
    let k = c.self.invariant in
    let store : c.args.store < i.stores = subst (λ s. c.args.store < s.origin.stores) (sym c.self.view_is) c.requires.store in
    let there : slice_get i.groups.items c.args.store ≡ Some c.index_mut-group.result.now =
    slice_get_read i.groups.items i.stores c.args.store c.index_mut-group.result.now (sym k.groups_are) store
    c.index_mut-group.ensures.value in
    let room : i.book.steps < 2 ^ 62 = omega (arith, c.if-self-ge-MOST_STEPS.false) in
    let fair : IsFair (g.M.Meaning.stands (record { stores = i.stores; first = i.first })) g.M.Meaning.next i.stores
    (own c.args.pass (written i.book)) c.args.pass c.args.store c.args.command.now =
    subst (λ s. IsFair (g.M.Meaning.stands s.origin) g.M.Meaning.next s.origin.stores (own c.args.pass (past s)) c.args.pass
    c.args.store c.args.command.now) (sym c.self.view_is) c.requires.fair in
    let asked : Request = record { pass = c.args.pass; store = c.args.store; command = c.args.command.now } in
    let old : Scene g.row.W.Denot = record { group = c.index_mut-group.result.now; book = i.book; weather = i.weather } in
    let new : Scene g.row.W.Denot =
    record { group = c.take_step.new.group; book = c.take_step.new.book; weather = c.take_step.new.weather } in
    keeps (g.M.Meaning.stands (record { stores = i.stores; first = i.first })) g.M.Meaning.next g.W.Weather.told i.stores i.first
    i.replicas asked old new i.groups.items c.take_step.result c.take_step.ensures k there room fair

pub returns-clause-step : goal.returns-clause-step
returns-clause-step g c =
    let i = c.self.inside in
    let k = c.self.invariant in
    let store : c.args.store < i.stores = subst (λ s. c.args.store < s.origin.stores) (sym c.self.view_is) c.requires.store in
    let there : slice_get i.groups.items c.args.store ≡ Some c.index_mut-group.result.now =
    slice_get_read i.groups.items i.stores c.args.store c.index_mut-group.result.now (sym k.groups_are) store
    c.index_mut-group.ensures.value in
    let room : i.book.steps < 2 ^ 62 = omega (arith, c.if-self-ge-MOST_STEPS.false) in
    let fair : IsFair (g.M.Meaning.stands (record { stores = i.stores; first = i.first })) g.M.Meaning.next i.stores
    (own c.args.pass (written i.book)) c.args.pass c.args.store c.args.command.now =
    subst (λ s. IsFair (g.M.Meaning.stands s.origin) g.M.Meaning.next s.origin.stores (own c.args.pass (past s)) c.args.pass
    c.args.store c.args.command.now) (sym c.self.view_is) c.requires.fair in
    let asked : Request = record { pass = c.args.pass; store = c.args.store; command = c.args.command.now } in
    let old : Scene g.row.W.Denot = record { group = c.index_mut-group.result.now; book = i.book; weather = i.weather } in
    let new : Scene g.row.W.Denot =
    record { group = c.take_step.new.group; book = c.take_step.new.book; weather = c.take_step.new.weather } in
    subst (λ s. StepsAs g.W.Weather.told s
    (shown_of i.stores i.first i.replicas c.take_step.new.book c.take_step.new.weather) asked c.take_step.result) c.self.view_is
    (stepped (g.M.Meaning.stands (record { stores = i.stores; first = i.first })) g.M.Meaning.next g.W.Weather.told i.stores
    i.first
    i.replicas asked old new i.groups.items c.take_step.result c.take_step.ensures k there room fair)

pub returns-clause-answer : goal.returns-clause-answer
returns-clause-answer g c =
    let i = c.self.inside in
    let k = c.self.invariant in
    let store : c.args.store < i.stores = subst (λ s. c.args.store < s.origin.stores) (sym c.self.view_is) c.requires.store in
    let there : slice_get i.groups.items c.args.store ≡ Some c.index_mut-group.result.now =
    slice_get_read i.groups.items i.stores c.args.store c.index_mut-group.result.now (sym k.groups_are) store
    c.index_mut-group.ensures.value in
    let room : i.book.steps < 2 ^ 62 = omega (arith, c.if-self-ge-MOST_STEPS.false) in
    let fair : IsFair (g.M.Meaning.stands (record { stores = i.stores; first = i.first })) g.M.Meaning.next i.stores
    (own c.args.pass (written i.book)) c.args.pass c.args.store c.args.command.now =
    subst (λ s. IsFair (g.M.Meaning.stands s.origin) g.M.Meaning.next s.origin.stores (own c.args.pass (past s)) c.args.pass
    c.args.store c.args.command.now) (sym c.self.view_is) c.requires.fair in
    let asked : Request = record { pass = c.args.pass; store = c.args.store; command = c.args.command.now } in
    let old : Scene g.row.W.Denot = record { group = c.index_mut-group.result.now; book = i.book; weather = i.weather } in
    let new : Scene g.row.W.Denot =
    record { group = c.take_step.new.group; book = c.take_step.new.book; weather = c.take_step.new.weather } in
    subst (λ s. IfOk c.take_step.result (IsAnswer s.origin.stores c.args.command.now)) c.self.view_is
    (answers (g.M.Meaning.stands (record { stores = i.stores; first = i.first })) g.M.Meaning.next g.W.Weather.told i.stores
    i.first
    i.replicas asked old new i.groups.items c.take_step.result c.take_step.ensures k there room fair)

pub returns-clause-heard : goal.returns-clause-heard
returns-clause-heard g c =
    let i = c.self.inside in
    let k = c.self.invariant in
    let store : c.args.store < i.stores = subst (λ s. c.args.store < s.origin.stores) (sym c.self.view_is) c.requires.store in
    let there : slice_get i.groups.items c.args.store ≡ Some c.index_mut-group.result.now =
    slice_get_read i.groups.items i.stores c.args.store c.index_mut-group.result.now (sym k.groups_are) store
    c.index_mut-group.ensures.value in
    let room : i.book.steps < 2 ^ 62 = omega (arith, c.if-self-ge-MOST_STEPS.false) in
    let fair : IsFair (g.M.Meaning.stands (record { stores = i.stores; first = i.first })) g.M.Meaning.next i.stores
    (own c.args.pass (written i.book)) c.args.pass c.args.store c.args.command.now =
    subst (λ s. IsFair (g.M.Meaning.stands s.origin) g.M.Meaning.next s.origin.stores (own c.args.pass (past s)) c.args.pass
    c.args.store c.args.command.now) (sym c.self.view_is) c.requires.fair in
    let asked : Request = record { pass = c.args.pass; store = c.args.store; command = c.args.command.now } in
    let old : Scene g.row.W.Denot = record { group = c.index_mut-group.result.now; book = i.book; weather = i.weather } in
    let new : Scene g.row.W.Denot =
    record { group = c.take_step.new.group; book = c.take_step.new.book; weather = c.take_step.new.weather } in
    subst (λ s. OnOk c.take_step.result (AreHeard g.W.Weather.told s.replicas s.weather c.args.store)) c.self.view_is
    (are_heard (g.M.Meaning.stands (record { stores = i.stores; first = i.first })) g.M.Meaning.next g.W.Weather.told i.stores
    i.first i.replicas asked old new i.groups.items c.take_step.result c.take_step.ensures k there room fair)

pub returns-clause-worsens : goal.returns-clause-worsens
returns-clause-worsens g c =
    let i = c.self.inside in
    let k = c.self.invariant in
    let store : c.args.store < i.stores = subst (λ s. c.args.store < s.origin.stores) (sym c.self.view_is) c.requires.store in
    let there : slice_get i.groups.items c.args.store ≡ Some c.index_mut-group.result.now =
    slice_get_read i.groups.items i.stores c.args.store c.index_mut-group.result.now (sym k.groups_are) store
    c.index_mut-group.ensures.value in
    let room : i.book.steps < 2 ^ 62 = omega (arith, c.if-self-ge-MOST_STEPS.false) in
    let fair : IsFair (g.M.Meaning.stands (record { stores = i.stores; first = i.first })) g.M.Meaning.next i.stores
    (own c.args.pass (written i.book)) c.args.pass c.args.store c.args.command.now =
    subst (λ s. IsFair (g.M.Meaning.stands s.origin) g.M.Meaning.next s.origin.stores (own c.args.pass (past s)) c.args.pass
    c.args.store c.args.command.now) (sym c.self.view_is) c.requires.fair in
    let asked : Request = record { pass = c.args.pass; store = c.args.store; command = c.args.command.now } in
    let old : Scene g.row.W.Denot = record { group = c.index_mut-group.result.now; book = i.book; weather = i.weather } in
    let new : Scene g.row.W.Denot =
    record { group = c.take_step.new.group; book = c.take_step.new.book; weather = c.take_step.new.weather } in
    subst (λ s. IfErr c.take_step.result (λ why. why ≡ fault.Doubt →
    Worsens g.W.Weather.told s.replicas s.weather c.take_step.new.weather c.args.store)) c.self.view_is
    (worsened (g.M.Meaning.stands (record { stores = i.stores; first = i.first })) g.M.Meaning.next g.W.Weather.told i.stores
    i.first i.replicas asked old new i.groups.items c.take_step.result c.take_step.ensures k there room fair)
