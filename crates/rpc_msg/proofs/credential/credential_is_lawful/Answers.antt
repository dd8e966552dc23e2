use Rattle.rpc_msg.proofs.Auth.{opaque_auth-laws, auth_sys-laws}
use Rattle.rpc_msg.proofs.credential.credential_is_lawful.Goals as goal

pub returns-clause-opaque_auth : goal.returns-clause-opaque_auth
returns-clause-opaque_auth c = opaque_auth-laws

pub returns-clause-auth_sys : goal.returns-clause-auth_sys
returns-clause-auth_sys c = auth_sys-laws
