use Rattle.outside.specs.Seen.{streams, streams_told}
use Rattle.service.proofs.RunSteps.{apart-or_by_text, complete, many-took, no_memory-same, read_fault-rose, refused}
use Rattle.service.proofs.RunSteps.{usage-not, write_fault-rose}
use Rattle.service.proofs.command.run.Goals as goal

pub returns-clause-by_text : goal.returns-clause-by_text
returns-clause-by_text g c =
    apart-or_by_text (streams_told g.S.Source.told g.C.Clock.told g.K.Sink.told) c.args.words.now
    (streams c.args.input.now c.args.clock.now c.args.output.now) (streams c.run_command-end.new.input
    c.run_command-end.new.clock c.run_command-end.new.output)
    c.run_command-end.result c.status.result c.status.ensures c.run_command-end.ensures

pub returns-clause-complete : goal.returns-clause-complete
returns-clause-complete g c feed read write =
    complete (streams_told g.S.Source.told g.C.Clock.told g.K.Sink.told) c.args.words.now
    (streams c.args.input.now c.args.clock.now c.args.output.now) (streams c.run_command-end.new.input
    c.run_command-end.new.clock c.run_command-end.new.output)
    c.run_command-end.result c.status.result c.status.ensures c.run_command-end.ensures feed read write

pub returns-clause-usage : goal.returns-clause-usage
returns-clause-usage g c =
    usage-not (streams_told g.S.Source.told g.C.Clock.told g.K.Sink.told) c.args.words.now
    (streams c.args.input.now c.args.clock.now c.args.output.now) (streams c.run_command-end.new.input
    c.run_command-end.new.clock c.run_command-end.new.output)
    c.run_command-end.result c.status.result c.status.ensures c.run_command-end.ensures

pub returns-clause-refused : goal.returns-clause-refused
returns-clause-refused g c =
    refused (streams_told g.S.Source.told g.C.Clock.told g.K.Sink.told) c.args.words.now
    (streams c.args.input.now c.args.clock.now c.args.output.now) (streams c.run_command-end.new.input
    c.run_command-end.new.clock c.run_command-end.new.output)
    c.run_command-end.result c.status.result c.status.ensures c.run_command-end.ensures

pub returns-clause-read_fault : goal.returns-clause-read_fault
returns-clause-read_fault g c =
    read_fault-rose (streams_told g.S.Source.told g.C.Clock.told g.K.Sink.told) c.args.words.now
    (streams c.args.input.now c.args.clock.now c.args.output.now) (streams c.run_command-end.new.input
    c.run_command-end.new.clock c.run_command-end.new.output)
    c.run_command-end.result c.status.result c.status.ensures c.run_command-end.ensures

pub returns-clause-write_fault : goal.returns-clause-write_fault
returns-clause-write_fault g c =
    write_fault-rose (streams_told g.S.Source.told g.C.Clock.told g.K.Sink.told) c.args.words.now
    (streams c.args.input.now c.args.clock.now c.args.output.now) (streams c.run_command-end.new.input
    c.run_command-end.new.clock c.run_command-end.new.output)
    c.run_command-end.result c.status.result c.status.ensures c.run_command-end.ensures

pub returns-clause-no_memory : goal.returns-clause-no_memory
returns-clause-no_memory g c =
    no_memory-same (streams_told g.S.Source.told g.C.Clock.told g.K.Sink.told) c.args.words.now
    (streams c.args.input.now c.args.clock.now c.args.output.now) (streams c.run_command-end.new.input
    c.run_command-end.new.clock c.run_command-end.new.output)
    c.run_command-end.result c.status.result c.status.ensures c.run_command-end.ensures

pub returns-clause-many_reads : goal.returns-clause-many_reads
returns-clause-many_reads g c =
    many-took (streams_told g.S.Source.told g.C.Clock.told g.K.Sink.told) c.args.words.now
    (streams c.args.input.now c.args.clock.now c.args.output.now) (streams c.run_command-end.new.input
    c.run_command-end.new.clock c.run_command-end.new.output)
    c.run_command-end.result c.status.result c.status.ensures c.run_command-end.ensures
