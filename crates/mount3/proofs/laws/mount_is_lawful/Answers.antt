use Rattle.mount3.proofs.Protocol.{arguments-laws, mount_result-laws, mount_list-laws, exports-laws}
use Rattle.mount3.proofs.laws.mount_is_lawful.Goals as goal

pub returns-clause-arguments : goal.returns-clause-arguments
returns-clause-arguments c = arguments-laws

pub returns-clause-mount_result : goal.returns-clause-mount_result
returns-clause-mount_result c = mount_result-laws

pub returns-clause-mount_list : goal.returns-clause-mount_list
returns-clause-mount_list c = mount_list-laws

pub returns-clause-exports : goal.returns-clause-exports
returns-clause-exports c = exports-laws
