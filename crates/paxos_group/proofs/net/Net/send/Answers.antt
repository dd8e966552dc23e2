use Rattle.std.proofs.Common.{◌≡◌, ◌<◌, sym, ◌∙◌, ap, subst, arith, refl}
use Rattle.std.specs.Prelude.{⊤, IsTrue}
use Rattle.outside.specs.Weather.{is_bad}
use Rattle.slab.specs.Slab.{slab_len}
use Rattle.outside.specs.declared.weather.Fate.TheVariants.{Deliver, Lose, Hold, Repeat}
use Rattle.paxos_group.specs.Scene.{scene, weather_at, GainsAtMost}
use Rattle.paxos_group.specs.Steps.{IsFreshOf}
use Rattle.paxos_group.proofs.Going.{goes-trans, goes-weaken, sent_goes, twice_goes, held_goes, after_stray, bad_reaches}
use Rattle.paxos_group.proofs.Going.{good_reaches, twice_reaches, ok_map, on_ok_always}
use Rattle.paxos_group.proofs.net.Net.send.Goals as goal

pub returns-in_ok-message-in-Hold-clause-goes : goal.returns-in_ok-message-in-Hold-clause-goes
returns-in_ok-message-in-Hold-clause-goes g c =
    let w = g.W.Weather in
    let old = scene w.told c.args.weather.now c.args.self.now c.args.proposer.now in
    let mid = scene w.told c.let_stray.new.weather c.let_stray.new.self c.let_stray.new.proposer in
    let m = c.args.message.now in
    let same = c.in_ok-message-in-Hold.ensures in
    let gains : GainsAtMost c.let_stray.new.self.held c.hold.new.held (record { replica = c.args.replica; message = m }) =
    subst (λ m. GainsAtMost c.let_stray.new.self.held c.hold.new.held (record { replica = c.args.replica; message = m }))
    same c.hold.ensures.gains in
    let count = c.let_stray.ensures.goes.count in
    let lt : c.args.replica < mid.count = subst (λ n. c.args.replica < n) (sym count) c.requires in
    goes-trans (λ x. IsFreshOf x m) (λ x. IsFreshOf x m) old mid _
    (goes-weaken (λ x. ⊤) (λ x. IsFreshOf x m) old mid c.let_stray.ensures.goes (λ x h k. tt))
    (held_goes mid _ c.hold.new.held (record { replica = c.args.replica; message = m }) c.fate_of.result c.fate_of.ensures.met
    (λ e. let clash : Hold ≡ Lose = sym c.in-Hold.is ∙ e in cc) lt gains c.hold.ensures.within)
    (λ x h k given. given)

pub returns-in_ok-message-in-Hold-clause-reaches : goal.returns-in_ok-message-in-Hold-clause-reaches
returns-in_ok-message-in-Hold-clause-reaches g c =
    let w = g.W.Weather in
    let old = scene w.told c.args.weather.now c.args.self.now c.args.proposer.now in
    let mid = scene w.told c.let_stray.new.weather c.let_stray.new.self c.let_stray.new.proposer in
    let m = c.args.message.now in
    let bad : IsTrue (is_bad c.fate_of.result) = subst (λ f. IsTrue (is_bad f)) (sym c.in-Hold.is) refl in
    on_ok_always c.hold.result (
    after_stray (λ x. ⊤) m c.args.replica old mid _ c.let_stray.ensures.goes (λ e. let k = c.let_stray.ensures.idle e in
    (ap (λ n. slab_len n.held) k.0 ∙ e, k.1))
    (bad_reaches mid (weather_at w.told c.fate_of.new.weather mid.store) _ m c.args.replica _ c.fate_of.result
    c.fate_of.ensures.met bad (λ e. let clash : Hold ≡ Deliver = sym c.in-Hold.is ∙ e in cc) (omega arith)))

pub returns-in-Deliver-clause-goes : goal.returns-in-Deliver-clause-goes
returns-in-Deliver-clause-goes g c =
    let w = g.W.Weather in
    let old = scene w.told c.args.weather.now c.args.self.now c.args.proposer.now in
    let mid = scene w.told c.let_stray.new.weather c.let_stray.new.self c.let_stray.new.proposer in
    let m = c.args.message.now in
    goes-trans (λ x. IsFreshOf x m) (λ x. IsFreshOf x m) old mid _
    (goes-weaken (λ x. ⊤) (λ x. IsFreshOf x m) old mid c.let_stray.ensures.goes (λ x h k. tt))
    (sent_goes mid _ _ c.args.replica m c.fate_of.result c.fate_of.ensures.met (λ e. let clash : Deliver ≡ Lose =
    sym c.in-Deliver.is ∙ e in cc) c.bring.ensures.goes)
    (λ x h k given. given)

pub returns-in-Deliver-clause-reaches : goal.returns-in-Deliver-clause-reaches
returns-in-Deliver-clause-reaches g c =
    let w = g.W.Weather in
    let old = scene w.told c.args.weather.now c.args.self.now c.args.proposer.now in
    let mid = scene w.told c.let_stray.new.weather c.let_stray.new.self c.let_stray.new.proposer in
    let m = c.args.message.now in
    ok_map c.bring.result (λ reaches.
    after_stray (λ x. ⊤) m c.args.replica old mid _ c.let_stray.ensures.goes (λ e. let k = c.let_stray.ensures.idle e in
    (ap (λ n. slab_len n.held) k.0 ∙ e, k.1))
    (good_reaches mid _ _ m c.args.replica _ c.fate_of.result c.fate_of.ensures.met reaches))
    c.bring.ensures.reaches

pub returns-in_ok-bring-in-Repeat-clause-goes : goal.returns-in_ok-bring-in-Repeat-clause-goes
returns-in_ok-bring-in-Repeat-clause-goes g c =
    let w = g.W.Weather in
    let old = scene w.told c.args.weather.now c.args.self.now c.args.proposer.now in
    let mid = scene w.told c.let_stray.new.weather c.let_stray.new.self c.let_stray.new.proposer in
    let m = c.args.message.now in
    let not : c.fate_of.result ≡ Lose → ⊥ = λ e. let clash : Repeat ≡ Lose = sym c.in-Repeat.is ∙ e in cc in
    goes-trans (λ x. IsFreshOf x m) (λ x. IsFreshOf x m) old mid _
    (goes-weaken (λ x. ⊤) (λ x. IsFreshOf x m) old mid c.let_stray.ensures.goes (λ x h k. tt))
    (twice_goes mid _ (scene w.told c.bring-in-Repeat.new.weather c.bring-in-Repeat.new.self c.bring-in-Repeat.new.proposer) _
    c.args.replica m c.fate_of.result c.fate_of.ensures.met not c.bring-in-Repeat.ensures.goes
    c.bring-in-Repeat-2.ensures.goes)
    (λ x h k given. given)

pub returns-in_ok-bring-in-Repeat-clause-reaches : goal.returns-in_ok-bring-in-Repeat-clause-reaches
returns-in_ok-bring-in-Repeat-clause-reaches g c =
    let w = g.W.Weather in
    let old = scene w.told c.args.weather.now c.args.self.now c.args.proposer.now in
    let mid = scene w.told c.let_stray.new.weather c.let_stray.new.self c.let_stray.new.proposer in
    let m = c.args.message.now in
    ok_map c.bring-in-Repeat-2.result (λ _.
    after_stray (λ x. ⊤) m c.args.replica old mid _ c.let_stray.ensures.goes (λ e. let k = c.let_stray.ensures.idle e in
    (ap (λ n. slab_len n.held) k.0 ∙ e, k.1))
    (twice_reaches mid _ _ _ _ m c.args.replica _ c.fate_of.result c.fate_of.ensures.met (λ e. let clash : Repeat ≡ Deliver =
    sym c.in-Repeat.is ∙ e in cc) c.in_ok-bring-in-Repeat.ensures.reaches c.bring-in-Repeat-2.ensures.goes))
    c.bring-in-Repeat-2.ensures.reaches
