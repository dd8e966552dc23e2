-- A size is given, or it is not.
use Rattle.std.proofs.Common.{Ok, Err, arith}
use Rattle.fs_rules.specs.Setting.{set_attr}
use Rattle.procs_bytes.proofs.HeldUp.{no-wait, performs-more}
use Rattle.procs_bytes.proofs.resizing.set_attr.Goals as goal

pub set_attr_sized-requires : goal.set_attr_sized-requires
set_attr_sized-requires g c = record { sized = c.in-Some.is }

pub set_attr-requires : goal.set_attr-requires
set_attr-requires g c = c.in-None.is

pub returns-in-Ok : goal.returns-in-Ok
returns-in-Ok g c =
    no-wait g.P.Pairs.told c.args.pairs.now c.set_attr.new.pairs 4 (λ t. set_attr t c.args.cred.now c.args.a.now c.args.now)
    (Ok c.in-Ok.body)
    (performs-more g.P.Pairs.told c.args.pairs.now c.set_attr.new.pairs 1 4
    (λ t. set_attr t c.args.cred.now c.args.a.now c.args.now) (Ok c.in-Ok.body) (omega arith) c.in-Ok.ensures)

pub returns-in-Err : goal.returns-in-Err
returns-in-Err g c =
    no-wait g.P.Pairs.told c.args.pairs.now c.set_attr.new.pairs 4 (λ t. set_attr t c.args.cred.now c.args.a.now c.args.now)
    (Err c.in-Err.halt)
    (performs-more g.P.Pairs.told c.args.pairs.now c.set_attr.new.pairs 1 4
    (λ t. set_attr t c.args.cred.now c.args.a.now c.args.now) (Err c.in-Err.halt) (omega arith) c.in-Err.ensures)

pub returns-in-Some : goal.returns-in-Some
returns-in-Some g c = c.set_attr_sized.ensures
