use Rattle.std.proofs.Common.{◌≡◌, sym, ◌∙◌, inl, inr}
use Rattle.paxos_core.specs.declared.proposer.Stage.TheVariants.{Waiting, Promised, Chosen}
use Rattle.paxos_group.specs.Scene.{scene}
use Rattle.paxos_group.proofs.Doubt.{ask_goes, ask_calm, ask_doubts, promised_means}
use Rattle.paxos_group.proofs.net.Net.ask.Goals as goal

pub returns-in-Waiting-clause-doubt : goal.returns-in-Waiting-clause-doubt
returns-in-Waiting-clause-doubt g c =
    let w = g.W.Weather in
    let old = scene w.told c.args.weather.now c.args.self.now c.args.proposer.now in
    let new = scene w.told c.send_all.new.weather c.send_all.new.self c.send_all.new.proposer in
    λ is. ask_doubts c.args.replicas c.args.index c.args.ballot old new c.requires
    (ask_goes c.args.index c.args.ballot old new c.send_all.ensures.goes) c.in-Ok.ensures.reaches
    (sym c.stage.ensures ∙ c.in-Waiting.is)

pub returns : goal.returns
returns g c =
    let w = g.W.Weather in
    let old = scene w.told c.args.weather.now c.args.self.now c.args.proposer.now in
    let new = scene w.told c.send_all.new.weather c.send_all.new.self c.send_all.new.proposer in
    record {
      endures = c.send_all.ensures.endures;
      goes = ask_goes c.args.index c.args.ballot old new c.send_all.ensures.goes;
      promised = elim c.in-Promised.is [
        | inl e ↦ promised_means c.send_all.new.proposer Promised (sym c.stage.ensures ∙ e)
            (λ k. let clash : Promised ≡ Waiting = k in cc)
        | inr e ↦ promised_means c.send_all.new.proposer Chosen (sym c.stage.ensures ∙ e) (λ k. let clash : Chosen ≡ Waiting =
            k in cc)
      ];
      calm = ask_calm c.args.replicas c.args.index c.args.ballot old new c.in-Ok.ensures.reaches;
      doubt = tt;
    }
