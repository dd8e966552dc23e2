use Rattle.std.proofs.Common.{refl}
use Rattle.pair_types.proofs.MemPagesLemmas.{gives_up_unchanged, read_so}
use Rattle.pair_types.proofs.mem_pages.MemPagesPages.read.Goals as goal

pub returns-in-Err : goal.returns-in-Err
returns-in-Err c = (
  (
    refl,
    λ _. tt,
    record {
      within = c.in-Err.ensures.within;
      gives_up =
          gives_up_unchanged _ _ _ c.in-Err.ensures.err c.in-Err.ensures.fault;
    },
  ),
  record { after_borrow = tt },
)

pub returns-in-Ok : goal.returns-in-Ok
returns-in-Ok c = (
  (
    refl,
    λ _. tt,
    read_so c.args.self.now c.mark.new.self c.args.s c.page.result.now c.in-Ok.ensures.ok c.in-Ok.ensures.beyond
        c.page.ensures.within c.page.ensures.beyond,
  ),
  record { after_borrow = tt },
)
