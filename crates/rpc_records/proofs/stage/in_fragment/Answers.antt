use Rattle.std.proofs.Common.{sym, arith}
use Rattle.rpc_records.specs.Reading.{record_at}
use Rattle.rpc_records.proofs.RecordLaws.{fragment_at-ended_last, fragment_at-ended_more}
use Rattle.rpc_records.proofs.stage.in_fragment.Goals as goal

pub returns-then-last-clause-reading : goal.returns-then-last-clause-reading
returns-then-last-clause-reading c = λ fragments content head text.
    sym (rw c.if-last.true (fragment_at-ended_last (record_at fragments) c.args.left content text (omega arith)))

pub returns-else-last-clause-reading : goal.returns-else-last-clause-reading
returns-else-last-clause-reading c = λ fragments content head text.
    sym (rw c.if-last.false (fragment_at-ended_more (record_at fragments) c.args.left content text (omega arith)))
