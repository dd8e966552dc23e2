use Rattle.std.proofs.Common.{rules}
use Rattle.fs_keys.proofs.Fitting.{some-fits, none-fits}
use Rattle.fs_keys.proofs.value.put_verifier.Goals as goal

pub returns-in_ok-put_fixed-in-Some-clause-fits : goal.returns-in_ok-put_fixed-in-Some-clause-fits
returns-in_ok-put_fixed-in-Some-clause-fits c = rw c.in-Some.is (some-fits c.in-Some.bytes (search rules))

pub returns-in_ok-put_fixed-in-None-clause-fits : goal.returns-in_ok-put_fixed-in-None-clause-fits
returns-in_ok-put_fixed-in-None-clause-fits c = rw c.in-None.is none-fits
