use Rattle.std.proofs.Common.{◌≡◌, ◌∙◌, sym, ap, subst}
use Rattle.store_group.specs.Journal.{Request}
use Rattle.store_group.specs.Readies.{IsReadyFor}
use Rattle.store_group.specs.Shown.{behind}
use Rattle.fabric.proofs.taking.make.Goals as goal

pub returns-clause-made : goal.returns-clause-made
returns-clause-made c = record {
  ready = c.in_ok-ready.ensures.ready;
  command_is = c.in_ok-kept.ensures;
  told = c.in_ok-told.ensures ∙ c.own.ensures (behind c.ready.new.self) c.args.command.now
      (subst (λ b. IsReadyFor b c.args.command.now c.in_ok-ready.ready) (sym c.ready.ensures.same) c.in_ok-ready.ensures.tells);
}
