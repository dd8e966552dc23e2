use Rattle.std.proofs.Common.{◌≡◌, take}
use Rattle.page_types.specs.declared.command.Command.TheVariants.{Resolve}
use Rattle.two_phase.proofs.Ended.{Resolving}
use Rattle.two_phase.proofs.endings.resolve_all.Given as goal

abbrev pub invariant-loop-part : goal.invariant-loop-part
invariant-loop-part g l = record {
  asked : l.command ≡ Resolve (record { tid = l.fn.tid; commit = l.commit });
  resolving : Resolving (g.P.Port.state l.fn.port) (g.P.Port.state l.port) l.parts (take l.part-index l.parts)
      (record { tid = l.fn.tid; commit = l.commit });
}
