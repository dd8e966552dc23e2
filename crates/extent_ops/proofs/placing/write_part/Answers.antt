use Rattle.std.proofs.Common.{◌≡◌, ℕ, length, sym, subst, arith}
use Rattle.extent_ops.specs.Marking.{as_marks}
use Rattle.extent_ops.specs.Ranges.{Writes}
use Rattle.extent_ops.proofs.placing.write_part.Goals as goal

pub write_whole-requires-clause-first : goal.write_whole-requires-clause-first
write_whole-requires-clause-first g c = omega (arith, c.requires)

pub write_whole-requires-clause-whole : goal.write_whole-requires-clause-whole
write_whole-requires-clause-whole g c = omega arith

pub write_within-requires : goal.write_within-requires
write_within-requires g c = c.requires

pub returns-in-Ok-clause-goes : goal.returns-in-Ok-clause-goes
returns-in-Ok-clause-goes g c = c.write_whole.ensures.goes

pub returns-in-Ok-clause-ok : goal.returns-in-Ok-clause-ok
returns-in-Ok-clause-ok g c = λ w v agrees shown has.
    let made = c.in-Ok.ensures.ok w v agrees shown has in
    let whole : length c.args.part.now ≡ 8192 = omega arith in
    record {
      versions = made.versions;
      shown = made.shown;
      is = subst (λ (n : ℕ). Writes c.args.file (as_marks c.args.marks) c.args.offset n c.args.part.now v made.versions)
          (sym whole) made.is;
    }

pub returns-in-Err-clause-goes : goal.returns-in-Err-clause-goes
returns-in-Err-clause-goes g c = c.write_whole.ensures.goes

pub returns-in-Err-clause-fault : goal.returns-in-Err-clause-fault
returns-in-Err-clause-fault g c = c.in-Err.ensures.fault

pub returns-in-Ok-write_within-clause-goes : goal.returns-in-Ok-write_within-clause-goes
returns-in-Ok-write_within-clause-goes g c = c.write_within.ensures.goes

pub returns-in-Ok-write_within-clause-ok : goal.returns-in-Ok-write_within-clause-ok
returns-in-Ok-write_within-clause-ok g c = c.in-Ok-write_within.ensures.ok

pub returns-in-Err-write_within-clause-goes : goal.returns-in-Err-write_within-clause-goes
returns-in-Err-write_within-clause-goes g c = c.write_within.ensures.goes

pub returns-in-Err-write_within-clause-fault : goal.returns-in-Err-write_within-clause-fault
returns-in-Err-write_within-clause-fault g c = c.in-Err-write_within.ensures.fault
