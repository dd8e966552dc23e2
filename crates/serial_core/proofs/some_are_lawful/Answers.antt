use Rattle.serial_core.proofs.Sampling.{is_sample}
use Rattle.serial_core.proofs.some_are_lawful.Goals as goal

pub returns : goal.returns
returns c = is_sample
