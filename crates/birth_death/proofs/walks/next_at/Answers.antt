use Rattle.btree_search.proofs.Walks.{only_then}
use Rattle.birth_death.proofs.Nexts.{walk-starts, walk-ends, walk-finds, walk-passes, only-gives-up}
use Rattle.birth_death.proofs.walks.next_at.Goals as goal

pub loop-turn-init : goal.loop-turn-init
loop-turn-init g c = walk-starts c.args.at c.args.after.now c.in-Ok.last (g.G.Pages.state c.args.pages.now) c.in-Ok.ensures

pub returns-in-Ok-None-clause-only_reads : goal.returns-in-Ok-None-clause-only_reads
returns-in-Ok-None-clause-only_reads g c =
    only_then _ _ _ c.loop-turn.invariant.only c.in-Ok-None.ensures.only_reads

pub returns-in-Ok-None-clause-found : goal.returns-in-Ok-None-clause-found
returns-in-Ok-None-clause-found g c =
    walk-ends c.args.at c.args.after.now c.loop-turn.last _ _ _ c.loop-turn.invariant c.in-Ok-None.ensures.only_reads
    (rw (c.as_slice.ensures, c.in-Ok-None.field-0-is) at c.in-Ok-None.ensures.found)

pub returns-in-Err-next_key-clause-only_reads : goal.returns-in-Err-next_key-clause-only_reads
returns-in-Err-next_key-clause-only_reads g c =
    only_then _ _ _ c.loop-turn.invariant.only c.in-Err-next_key.ensures.only_reads

pub returns-in-Err-next_key-clause-fault : goal.returns-in-Err-next_key-clause-fault
returns-in-Err-next_key-clause-fault g c =
    only-gives-up _ _ _ c.in-Err-next_key.fault c.loop-turn.invariant.only
    c.in-Err-next_key.ensures.only_reads c.in-Err-next_key.ensures.fault

pub returns-in-Ok-Some-get_at-clause-only_reads : goal.returns-in-Ok-Some-get_at-clause-only_reads
returns-in-Ok-Some-get_at-clause-only_reads g c =
    only_then _ _ _ c.loop-turn.invariant.only
    (only_then _ _ _ c.in-Ok-Some.ensures.only_reads c.in-Ok-Some-get_at.ensures.only_reads)

pub returns-in-Ok-Some-get_at-clause-found : goal.returns-in-Ok-Some-get_at-clause-found
returns-in-Ok-Some-get_at-clause-found g c =
    walk-finds c.args.at c.args.after.now c.loop-turn.last c.in-Ok-Some.key c.in-Ok-Some-get_at.value _ _ _ _
    c.loop-turn.invariant (record {
      only = c.in-Ok-Some.ensures.only_reads;
      next = rw (c.as_slice.ensures, c.in-Ok-Some.field-0-is) at c.in-Ok-Some.ensures.found;
      more = c.in-Ok-Some-get_at.ensures.only_reads;
      here = rw (c.as_slice-in-loop-turn.ensures, c.in-Ok-Some-get_at.field-0-is) at c.in-Ok-Some-get_at.ensures.found;
    })

pub returns-in-Err-get_at-clause-only_reads : goal.returns-in-Err-get_at-clause-only_reads
returns-in-Err-get_at-clause-only_reads g c =
    only_then _ _ _ c.loop-turn.invariant.only
    (only_then _ _ _ c.in-Ok-Some.ensures.only_reads c.in-Err-get_at.ensures.only_reads)

pub returns-in-Err-get_at-clause-fault : goal.returns-in-Err-get_at-clause-fault
returns-in-Err-get_at-clause-fault g c =
    only-gives-up _ _ _ c.in-Err-get_at.fault (only_then _ _ _ c.loop-turn.invariant.only c.in-Ok-Some.ensures.only_reads)
    c.in-Err-get_at.ensures.only_reads c.in-Err-get_at.ensures.fault

pub loop-turn-preserved : goal.loop-turn-preserved
loop-turn-preserved g c =
    walk-passes c.args.at c.args.after.now c.loop-turn.last c.in-Ok-Some.key _ _ _ _ c.loop-turn.invariant (record {
      only = c.in-Ok-Some.ensures.only_reads;
      next = rw (c.as_slice.ensures, c.in-Ok-Some.field-0-is) at c.in-Ok-Some.ensures.found;
      more = c.in-Ok-None-get_at.ensures.only_reads;
      here = rw (c.as_slice-in-loop-turn.ensures, c.in-Ok-None-get_at.field-0-is) at c.in-Ok-None-get_at.ensures.found;
    })

pub returns-clause-only_reads : goal.returns-clause-only_reads
returns-clause-only_reads g c = c.loop-turn.invariant.only
