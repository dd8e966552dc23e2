-- Replies that are handed on, or given up.
use Rattle.std.specs.Prelude.{◌≡◌, ◌⊎◌, Result, Ok, Err}
use Rattle.nfs3_fits.specs.Shape.{HasShape}
use Rattle.nfs3_types.specs.declared.reply.Reply.{Reply}
use Rattle.pair_types.specs.declared.fault.PairFault.TheVariants.{Odd}
use Rattle.nfs3_procs.specs.declared.fault.BodyFault.{BodyFault}
use Rattle.nfs3_procs.specs.declared.fault.BodyFault.TheVariants.{Pair}

-- what was given is a reply that has not the shape that its spelling needs
abbrev pub IsMisshapen : Result Reply BodyFault → Type 0
IsMisshapen (Ok reply) = HasShape reply → ⊥
IsMisshapen (Err fault) = ⊥

-- the fault is the one that was given, or it says that the reply that was given is misshapen
abbrev pub IsHandedOn : Result Reply BodyFault → BodyFault → Type 0
IsHandedOn given fault = (given ≡ Err fault) ⊎ ((fault ≡ Pair Odd) × IsMisshapen given)
