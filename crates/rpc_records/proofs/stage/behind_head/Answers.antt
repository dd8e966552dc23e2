use Rattle.std.proofs.Common.{◌-◌, sym, ◌∙◌, arith}
use Rattle.rpc_records.proofs.ReaderLaws.{record_at-no_fragment, record_at-too_long, record_at-fragment}
use Rattle.rpc_records.proofs.stage.behind_head.Goals as goal

pub returns-then-fragments-eq0-clause-reading : goal.returns-then-fragments-eq0-clause-reading
returns-then-fragments-eq0-clause-reading c = λ mark content bytes text long head size.
    sym (record_at-no_fragment c.args.fragments content mark text (omega arith) long)

pub returns-then-left-size-clause-reading : goal.returns-then-left-size-clause-reading
returns-then-left-size-clause-reading c = λ mark content bytes text long head size.
    sym (record_at-too_long c.args.fragments c.args.head content mark text (omega arith) long head (omega arith))

pub returns-else-left-size-clause-reading : goal.returns-else-left-size-clause-reading
returns-else-left-size-clause-reading c = λ mark content bytes text long head size.
    c.in_fragment.ensures.reading (c.args.fragments - 1) content bytes text
    ∙ sym (record_at-fragment c.args.fragments c.args.head content mark text (omega arith) long head (omega arith))
