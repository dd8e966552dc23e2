-- The plan is made, and done where there is something to do.
use Rattle.std.proofs.Common.{refl, ap, arith}
use Rattle.std.specs.Prelude.{is_ok}
use Rattle.fs_rules.specs.Checks.{Row}
use Rattle.fs_rules.specs.Renaming.{move_node, rename}
use Rattle.fs_shows.proofs.Doing.{goes-most, goes-then}
use Rattle.procs_object.proofs.Gathering.{tells-by, edit-halts-by}
use Rattle.procs_rename.specs.Doing.{CanDo, told_of}
use Rattle.procs_rename.specs.Seeing.{IsPlanned}
use Rattle.procs_rename.proofs.Rows.{not-planned, row-same, row-moved, may-do}
use Rattle.procs_rename.proofs.renaming.rename.Goals as goal

pub returns-in-Err : goal.returns-in-Err
returns-in-Err g c =
    not-planned g.P.Pairs.told c.args.pairs.now c.make_plan.new.pairs 9 c.args.cred.now c.args.a.now c.args.now c.in-Err.halt
    (goes-most g.P.Pairs.told c.args.pairs.now c.make_plan.new.pairs 0 9
    (omega arith) c.in-Err.ensures.goes) c.in-Err.ensures.sees

pub returns-then-x : goal.returns-then-x
returns-then-x g c =
    let a = c.args.a.now in
    let cred = c.args.cred.now in
    let x = c.in-Ok.x in
    tells-by g.P.Pairs.told c.args.pairs.now c.make_plan.new.pairs (λ t. rename t cred a c.args.now) (IsPlanned cred a x)
    c.in-Ok.ensures.sees 9 c.unchanged.result
    (goes-most g.P.Pairs.told c.args.pairs.now c.make_plan.new.pairs 0 9 (omega arith) c.in-Ok.ensures.goes)
    (λ t sound planned. row-same t cred a c.args.now x planned c.if-x.true c.unchanged.result c.unchanged.ensures)

pub perform-requires : goal.perform-requires
perform-requires g c = c.in-Ok.ensures.short

pub returns-in-Ok-perform : goal.returns-in-Ok-perform
returns-in-Ok-perform g c =
    let a = c.args.a.now in
    let cred = c.args.cred.now in
    let x = c.in-Ok.x in
    record {
      goes = goes-then g.P.Pairs.told c.args.pairs.now c.make_plan.new.pairs c.perform.new.pairs 0 9 c.in-Ok.ensures.goes
          c.in-Ok-perform.ensures.goes;
      ends = λ w t agrees lies sound.
          let before = c.in-Ok-perform.ensures.goes.agreed w agrees in
          let planned = c.in-Ok.ensures.sees.learns w t before lies sound in
          let stays = c.in-Ok.ensures.sees.stays w t before lies tt in
          let can = may-do t cred a c.args.now x planned c.if-x.false in
          record {
            tree = move_node c.args.now a x.plan t;
            is = row-moved t cred a c.args.now x planned c.if-x.false c.in-Ok-perform.body
                (c.in-Ok-perform.ensures.told w t agrees stays can);
            lies = c.in-Ok-perform.ensures.edits w t agrees stays can;
          };
    }

pub returns-in-Err-perform : goal.returns-in-Err-perform
returns-in-Err-perform g c =
    let a = c.args.a.now in
    let cred = c.args.cred.now in
    let x = c.in-Ok.x in
    edit-halts-by g.P.Pairs.told c.args.pairs.now c.make_plan.new.pairs (λ t. rename t cred a c.args.now) (IsPlanned cred a x)
    c.in-Ok.ensures.sees c.perform.new.pairs 0 9 c.in-Ok.ensures.goes c.in-Err-perform.ensures.goes (CanDo a x)
    (λ t sound planned. may-do t cred a c.args.now x planned c.if-x.false) (omega arith)
    (λ t sound planned. ap (λ (r : Row). is_ok r)
    (row-moved t cred a c.args.now x planned c.if-x.false (told_of x.plan t (move_node c.args.now a x.plan t)) refl))
    c.in-Err-perform.fault c.in-Err-perform.ensures.fault
