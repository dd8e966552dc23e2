use Rattle.std.proofs.Common.{◌≡◌, arith}
use Rattle.nfs3_types.specs.Calls.{call_of}
use Rattle.nfs3_types.proofs.CallLaws.{call_of-laws}
use Rattle.nfs3_types.specs.Calls.{procedure_of}
use Rattle.nfs3_args.proofs.Readings.{gives-found, gives-only, gives-fault, gives-fits, gives-size, gives-all}
use Rattle.nfs3_args.proofs.Procedures.{call_of-procedure}
use Rattle.nfs3_args.proofs.reading.read_args.Goals as goal

pub returns-clause-found : goal.returns-clause-found
returns-clause-found c = gives-found (call_of c.args.procedure) (call_of-laws c.args.procedure) c.args.args.now
    c.read_whole.result c.read_whole.ensures

pub returns-clause-only : goal.returns-clause-only
returns-clause-only c = gives-only (call_of c.args.procedure) (call_of-laws c.args.procedure) c.args.args.now c.read_whole.result
    c.read_whole.ensures

pub returns-clause-fault : goal.returns-clause-fault
returns-clause-fault c = gives-fault (call_of c.args.procedure) (call_of-laws c.args.procedure) c.args.args.now
    c.read_whole.result c.read_whole.ensures

pub returns-clause-procedure : goal.returns-clause-procedure
returns-clause-procedure c = gives-all (call_of c.args.procedure) (call_of-laws c.args.procedure) c.args.args.now
    c.read_whole.result (λ lent. procedure_of lent ≡ c.args.procedure) c.read_whole.ensures
    (call_of-procedure c.args.procedure c.requires)

pub returns-clause-fits : goal.returns-clause-fits
returns-clause-fits c = gives-fits (call_of c.args.procedure) (call_of-laws c.args.procedure) c.args.args.now
    (λ i. omega (arith, c.type_inv.args i)) c.read_whole.result c.read_whole.ensures

pub returns-clause-size : goal.returns-clause-size
returns-clause-size c = gives-size (call_of c.args.procedure) (call_of-laws c.args.procedure) c.args.args.now c.read_whole.result
    c.read_whole.ensures
