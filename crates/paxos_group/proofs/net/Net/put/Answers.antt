use Rattle.std.proofs.Common.{◌≡◌, sym, ◌∙◌, inl, inr}
use Rattle.paxos_core.specs.declared.proposer.Stage.TheVariants.{Waiting, Promised, Chosen}
use Rattle.paxos_group.specs.Scene.{scene}
use Rattle.paxos_group.proofs.Doubt.{put_goes, put_calm, put_doubts}
use Rattle.paxos_group.proofs.net.Net.put.Goals as goal

pub returns-in-Chosen-clause-calm : goal.returns-in-Chosen-clause-calm
returns-in-Chosen-clause-calm g c =
    let w = g.W.Weather in
    let old = scene w.told c.args.weather.now c.args.self.now c.args.proposer.now in
    let new = scene w.told c.send_all.new.weather c.send_all.new.self c.send_all.new.proposer in
    put_calm c.args.replicas c.args.index c.args.ballot c.in-Ok.value old new (c.in-Ok.ensures ∙ c.value.ensures)
    c.requires.promised c.in-Ok-send_all.ensures.reaches

pub returns : goal.returns
returns g c =
    let w = g.W.Weather in
    let old = scene w.told c.args.weather.now c.args.self.now c.args.proposer.now in
    let new = scene w.told c.send_all.new.weather c.send_all.new.self c.send_all.new.proposer in
    let value = c.in-Ok.ensures ∙ c.value.ensures in
    let goes = put_goes c.args.index c.args.ballot c.in-Ok.value old new value c.send_all.ensures.goes in
    record {
      endures = c.send_all.ensures.endures;
      goes = goes;
      chosen = tt;
      calm = tt;
      doubt = λ is. elim c.in-Waiting.is [
        | inl e ↦ put_doubts c.args.replicas c.args.index c.args.ballot c.in-Ok.value old new Waiting value c.requires.promised
            c.requires.count goes c.in-Ok-send_all.ensures.reaches (sym c.stage.ensures ∙ e)
            (λ k. let clash : Waiting ≡ Chosen = k in cc)
        | inr e ↦ put_doubts c.args.replicas c.args.index c.args.ballot c.in-Ok.value old new Promised value
            c.requires.promised c.requires.count goes c.in-Ok-send_all.ensures.reaches (sym c.stage.ensures ∙ e)
            (λ k. let clash : Promised ≡ Chosen = k in cc)
      ];
    }
