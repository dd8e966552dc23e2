use Rattle.std.proofs.Common.{◌≡◌, ap, ◌∙◌, sym}
use Rattle.rpc_records.specs.declared.stage.Stage.{Stage}
use Rattle.rpc_records.specs.Progress.Progress.{Holding}
use Rattle.rpc_records.specs.Stage.{progress_at}
use Rattle.rpc_records.proofs.StreamLaws.{HasRead-dropped}
use Rattle.rpc_records.proofs.records.Records.next.Goals as goal

pub returns-in-Whole-clause-stream : goal.returns-in-Whole-clause-stream
returns-in-Whole-clause-stream c = λ text dropped h.
    let i = c.self.inside in
    let view : Holding i.content.items ≡ c.args.self.now =
    ap (λ (s : Stage). progress_at s i.fragments i.content.items i.head) (sym c.in-Whole.is) ∙ c.self.view_is in
    HasRead-dropped text i.content.items dropped c.args.self.now c.begin.new.self view c.begin.ensures.fresh h
