use Rattle.std.proofs.Common.{◌≡◌, inl, sym, ◌∙◌}
use Rattle.outside.specs.declared.weather.Fate.TheVariants.{Deliver, Lose, Repeat}
use Rattle.paxos_group.specs.Scene.{scene}
use Rattle.paxos_group.specs.Steps.{IsAwaited, IsCounted}
use Rattle.paxos_group.proofs.Going.{came-trans, answer_goes, told_tells, ok_map}
use Rattle.paxos_group.proofs.Told.{counted_grows}
use Rattle.paxos_group.proofs.net.Net.answer.Goals as goal

pub returns-in_err-tell-in-Repeat-clause-goes : goal.returns-in_err-tell-in-Repeat-clause-goes
returns-in_err-tell-in-Repeat-clause-goes g c =
    let w = g.W.Weather in
    answer_goes (scene w.told c.args.weather.now c.args.self.now c.args.proposer.now) _ c.args.self.now.held
    c.tell-in-Repeat.new.proposer c.args.letter c.fate_of.result
    c.fate_of.ensures.met (λ e. let clash : Repeat ≡ Lose = sym c.in-Repeat.is ∙ e in
    cc) (λ key l h. inl h) (λ h. h) c.tell-in-Repeat.ensures.came

pub returns-in-Deliver-clause-goes : goal.returns-in-Deliver-clause-goes
returns-in-Deliver-clause-goes g c =
    let w = g.W.Weather in
    answer_goes (scene w.told c.args.weather.now c.args.self.now c.args.proposer.now) _ c.args.self.now.held
    c.tell.new.proposer c.args.letter c.fate_of.result
    c.fate_of.ensures.met (λ e. let clash : Deliver ≡ Lose = sym c.in-Deliver.is ∙ e in
    cc) (λ key l h. inl h) (λ h. h) c.tell.ensures.came

pub returns-in-Deliver-clause-tells : goal.returns-in-Deliver-clause-tells
returns-in-Deliver-clause-tells g c =
    let w = g.W.Weather in
    ok_map c.tell.result (told_tells (scene w.told c.args.weather.now c.args.self.now c.args.proposer.now) _
    c.tell.new.proposer c.args.letter.message c.args.letter.replica _ c.fate_of.result c.fate_of.ensures.met)
    c.tell.ensures.counted

pub returns-in_ok-tell-in-Repeat-clause-goes : goal.returns-in_ok-tell-in-Repeat-clause-goes
returns-in_ok-tell-in-Repeat-clause-goes g c =
    let w = g.W.Weather in
    answer_goes (scene w.told c.args.weather.now c.args.self.now c.args.proposer.now) _ c.args.self.now.held
    c.tell-in-Repeat-2.new.proposer c.args.letter c.fate_of.result
    c.fate_of.ensures.met (λ e. let clash : Repeat ≡ Lose = sym c.in-Repeat.is ∙ e in cc) (λ key l h. inl h) (λ h. h)
    (came-trans c.args.letter.message c.args.proposer.now c.tell-in-Repeat.new.proposer c.tell-in-Repeat-2.new.proposer
    c.tell-in-Repeat.ensures.came c.tell-in-Repeat-2.ensures.came)

pub returns-in_ok-tell-in-Repeat-clause-tells : goal.returns-in_ok-tell-in-Repeat-clause-tells
returns-in_ok-tell-in-Repeat-clause-tells g c =
    let w = g.W.Weather in
    let first : IsAwaited c.args.proposer.now c.args.letter.message →
    IsCounted c.tell-in-Repeat.new.proposer c.args.letter.message = c.in_ok-tell-in-Repeat.ensures.counted in
    let counted : IsAwaited c.args.proposer.now c.args.letter.message →
    IsCounted c.tell-in-Repeat-2.new.proposer c.args.letter.message = λ awaited.
    counted_grows c.tell-in-Repeat.new.proposer c.tell-in-Repeat-2.new.proposer c.args.letter.message
    c.tell-in-Repeat-2.ensures.came.grows (first awaited) in
    ok_map c.tell-in-Repeat-2.result (λ _. told_tells (scene w.told c.args.weather.now c.args.self.now c.args.proposer.now) _
    c.tell-in-Repeat-2.new.proposer c.args.letter.message c.args.letter.replica _ c.fate_of.result c.fate_of.ensures.met
    counted)
    c.tell-in-Repeat-2.ensures.counted
