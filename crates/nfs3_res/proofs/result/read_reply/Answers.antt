use Rattle.std.proofs.Common.{arith}
use Rattle.nfs3_res.proofs.Rewritten.{read_spelled}
use Rattle.nfs3_res.proofs.Readings.{tells_read, tells_only, tells_bad}
use Rattle.nfs3_res.proofs.result.read_reply.Goals as goal

pub returns-clause-read : goal.returns-clause-read
returns-clause-read c = tells_read c.args.procedure c.args.text.now c.read_whole.result c.read_whole.ensures

pub returns-clause-only : goal.returns-clause-only
returns-clause-only c = tells_only c.args.procedure c.args.text.now c.read_whole.result c.read_whole.ensures

pub returns-clause-bad : goal.returns-clause-bad
returns-clause-bad c = tells_bad c.args.procedure c.args.text.now c.read_whole.result c.read_whole.ensures

pub returns-clause-writable : goal.returns-clause-writable
returns-clause-writable c = λ short.
    read_spelled c.args.procedure c.args.text.now c.read_whole.result c.requires (λ i. omega (arith, c.type_inv.text i))
    (tells_read c.args.procedure c.args.text.now c.read_whole.result c.read_whole.ensures) short
