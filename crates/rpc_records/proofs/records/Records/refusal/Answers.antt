use Rattle.std.proofs.Common.{◌≡◌, [], ap, subst, ◌∙◌}
use Rattle.rpc_records.specs.Progress.{Progress, IsUnfinished, reading_of, refusal_of}
use Rattle.rpc_records.specs.Reading.Reading.{Partial}
use Rattle.rpc_records.proofs.ReaderLaws.{unfinished-partial, unrefused}
use Rattle.rpc_records.proofs.records.Records.refusal.Goals as goal

pub returns-in_default : goal.returns-in_default
returns-in_default c =
    let i = c.self.inside in
    record {
      refusal = unrefused i.stage i.fragments i.content.items i.head c.in_default.not-Refused ∙ ap refusal_of c.self.view_is;
      partial = subst (λ (p : Progress). IsUnfinished p → reading_of p [] ≡ Partial) c.self.view_is
          (unfinished-partial i.stage i.fragments i.content.items i.head c.self.invariant.2);
    }
