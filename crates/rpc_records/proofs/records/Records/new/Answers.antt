use Rattle.std.proofs.Common.{List, [], ℕ, sym, subst}
use Rattle.rpc_records.specs.declared.limits.TheConstants.{MOST_FRAGMENTS}
use Rattle.rpc_records.specs.Progress.Progress.{InHead}
use Rattle.rpc_records.specs.Stream.{HasRead}
use Rattle.rpc_records.proofs.StreamLaws.{HasRead-fresh}
use Rattle.rpc_records.proofs.records.Records.new.Goals as goal

pub returns-clause-stream : goal.returns-clause-stream
returns-clause-stream c =
    subst (λ (items : List ℕ). HasRead [] [] (InHead MOST_FRAGMENTS items []))
    (sym c.in_ok-with_capacity.ensures.items) HasRead-fresh
