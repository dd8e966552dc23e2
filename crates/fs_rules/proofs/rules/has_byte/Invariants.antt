use Rattle.std.proofs.Common.{◌≡◌, length}
use Rattle.fs_rules.specs.Names.{has_byte}
use Rattle.fs_rules.proofs.rules.has_byte.Given as goal

abbrev pub invariant-loop-rest : goal.invariant-loop-rest
invariant-loop-rest l = has_byte l.byte l.text ≡ has_byte l.byte l.rest

abbrev pub decreases-loop-rest : goal.decreases-loop-rest
decreases-loop-rest l = length l.rest
