use Rattle.std.proofs.Common.{◌<◌, arith}
use Rattle.pair_types.proofs.MemPagesLemmas.{fresh_so, gives_up_unchanged}
use Rattle.pair_types.proofs.mem_pages.MemPagesPages.fresh.Goals as goal

pub returns-in-Ok : goal.returns-in-Ok
returns-in-Ok c =
    let within : c.in-Some.s.store < c.args.self.now.stores = omega (arith, c.in-Some.ensures.found.store) in
    fresh_so c.args.self.now c.mark.new.self c.in-Some.s c.args.store c.in-Some.ensures.found (c.in-Ok.ensures.ok within)

pub returns-in-Err : goal.returns-in-Err
returns-in-Err c = gives_up_unchanged _ _ _ c.in-Err.ensures.err c.in-Err.ensures.fault
