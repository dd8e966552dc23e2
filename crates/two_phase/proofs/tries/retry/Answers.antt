use Rattle.std.proofs.Common.{◌≡◌, ◌<◌, refl, inl, inr, arith, add-one}
use Rattle.two_phase.proofs.Onwards.{onward_none, may_again, tried_now, trying_by, rose_by, stopped_by, lacking_by, out_of_tries}
use Rattle.two_phase.proofs.tries.retry.Goals as goal

pub loop-tried-init : goal.loop-tried-init
loop-tried-init g c = record { trying = onward_none _; rose = inl refl }

pub step-requires-clause-store : goal.step-requires-clause-store
step-requires-clause-store g c = rw c.loop-tried.invariant.trying.origin c.requires.store

pub step-requires-clause-fair : goal.step-requires-clause-fair
step-requires-clause-fair g c =
    may_again g.P.Rules.Meaning.stands g.P.Rules.Meaning.next _ _ _ _ _ c.loop-tried.invariant.trying c.requires.fair

pub returns-in-Ok : goal.returns-in-Ok
returns-in-Ok g c =
    let few : c.loop-tried._tried < 8 = omega arith in
    tried_now _ _ _ _ _ _ c.loop-tried.invariant.trying _ few c.in-Ok.ensures

pub returns-in-Err-NoMemory : goal.returns-in-Err-NoMemory
returns-in-Err-NoMemory g c =
    let few : c.loop-tried._tried < 8 = omega arith in
    lacking_by _ _ _ _ _ _ c.loop-tried.invariant.trying _ c.in-Err-NoMemory.ensures c.in-Err-NoMemory.field-0-is few

pub returns-in-Err-Stopped : goal.returns-in-Err-Stopped
returns-in-Err-Stopped g c =
    let few : c.loop-tried._tried < 8 = omega arith in
    stopped_by _ _ _ _ _ _ c.loop-tried.invariant.trying _ c.in-Err-Stopped.ensures c.in-Err-Stopped.field-0-is few

pub loop-tried-preserved : goal.loop-tried-preserved
loop-tried-preserved g c = record {
  trying = rw add-one
      (trying_by _ _ _ _ _ _ c.loop-tried.invariant.trying _ c.in-Err-Doubt.ensures c.in-Err-Doubt.field-0-is);
  rose = inr (rose_by _ _ _ _ _ _ c.loop-tried.invariant.trying _ c.in-Err-Doubt.ensures c.in-Err-Doubt.field-0-is);
}

pub returns : goal.returns
returns g c =
    let eight : c.loop-tried._tried ≡ 8 = omega arith in
    out_of_tries _ _ _ _ _ eight c.loop-tried.invariant.trying c.loop-tried.invariant.rose
