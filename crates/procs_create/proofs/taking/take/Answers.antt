-- What is told is made up first; then the file gets its size.
use Rattle.std.proofs.Common.{◌∙◌, refl, ap, subst, arith}
use Rattle.nfs3_types.specs.declared.attributes.Fattr.{Fattr}
use Rattle.nfs3_types.specs.declared.body.Body.TheVariants.{Create}
use Rattle.nfs3_types.specs.declared.body.CreateOk.{CreateOk}
use Rattle.fs_shows.proofs.Doing.{goes-none, goes-most, up-edit, up-memory}
use Rattle.procs_create.specs.Taking.{MayTake, TakesOrWaits, told_taken}
use Rattle.procs_create.proofs.Takes.{takes-so}
use Rattle.procs_create.proofs.taking.take.Goals as goal

pub returns-in-Err-clause-goes : goal.returns-in-Err-clause-goes
returns-in-Err-clause-goes g c =
    goes-most g.P.Pairs.told c.args.pairs.now c.args.pairs.now 0 4 (omega arith) (goes-none g.P.Pairs.told c.args.pairs.now)

pub returns-in-Err-clause-ends : goal.returns-in-Err-clause-ends
returns-in-Err-clause-ends g c =
    up-edit g.P.Pairs.told c.args.pairs.now c.args.pairs.now (MayTake c.args.fileid c.args.size) c.from.result
    (up-memory g.P.Pairs.told c.args.pairs.now c.args.pairs.now (MayTake c.args.fileid c.args.size) c.from.result c.from.ensures)

pub returns-in-Err-resize-clause-goes : goal.returns-in-Err-resize-clause-goes
returns-in-Err-resize-clause-goes g c = c.resize.ensures.goes

pub returns-in-Err-resize-clause-ends : goal.returns-in-Err-resize-clause-ends
returns-in-Err-resize-clause-ends g c = c.in-Err-resize.ensures.fault

pub returns-then-is_given-clause-goes : goal.returns-then-is_given-clause-goes
returns-then-is_given-clause-goes g c = c.resize.ensures.goes

pub returns-then-is_given-clause-ends : goal.returns-then-is_given-clause-ends
returns-then-is_given-clause-ends g c = (
  ap (λ (ok : CreateOk). Create ok)
      (c.in-Ok.ensures
      ∙ ap (λ (a : Fattr). told_taken c.args.directory.now c.args.fileid a) c.attributes_behind-attributes.ensures),
  takes-so g.P.Pairs.told c.args.pairs.now c.resize.new.pairs c.args.fileid c.args.size c.args.now
      (subst (TakesOrWaits g.P.Pairs.told c.args.pairs.now c.resize.new.pairs c.args.fileid c.args.size c.args.now)
      c.if-is_given.true c.in-Ok-resize.ensures.ok),
)

pub returns-else-is_given-clause-goes : goal.returns-else-is_given-clause-goes
returns-else-is_given-clause-goes g c = c.resize.ensures.goes

pub returns-else-is_given-clause-ends : goal.returns-else-is_given-clause-ends
returns-else-is_given-clause-ends g c = (
  refl,
  subst (TakesOrWaits g.P.Pairs.told c.args.pairs.now c.resize.new.pairs c.args.fileid c.args.size c.args.now)
      c.if-is_given.false c.in-Ok-resize.ensures.ok,
)
