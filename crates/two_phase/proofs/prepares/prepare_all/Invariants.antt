use Rattle.std.proofs.Common.{take}
use Rattle.two_phase.proofs.Preparing.{Preparing}
use Rattle.two_phase.proofs.prepares.prepare_all.Given as goal

abbrev pub invariant-loop-part : goal.invariant-loop-part
invariant-loop-part g l = record {
  preparing : Preparing (g.P.Port.state l.fn.port) (g.P.Port.state l.port) l.fn.tid
      (record { home = l.fn.home; parts = l.fn.stores }) l.parts (take l.part-index l.parts);
}
