-- What is answered without the tree: the checks of a record in their order, of which the first that fits
-- decides (RFC 5531, section 9; RFC 1813, section 3.3 and appendix I).
use Rattle.std.specs.Prelude.{ℕ, ◌==◌, nat_le, if◌then◌else◌, List, [], ◌∷◌, ◌++◌, Option, Some, None, Result, Ok, Err}
use Rattle.xdr_grammar.specs.declared.fault.XdrFault.{XdrFault}
use Rattle.xdr_grammar.specs.Items.{word}
use Rattle.xdr_grammar.specs.Whole.{whole}
use Rattle.rpc_msg.specs.declared.call.HeadFault.{HeadFault}
use Rattle.rpc_msg.specs.declared.call.HeadFault.TheVariants.{Short, NotCall}
use Rattle.rpc_msg.specs.declared.credential.CredFault.{CredFault}
use Rattle.rpc_msg.specs.declared.credential.CredFault.TheVariants.{BadCred, TooWeak, BadVerf}
use Rattle.rpc_msg.specs.Message.{MessageHead, message_head}
use Rattle.rpc_msg.specs.Auth.{Caller, credential_of}
use Rattle.rpc_msg.specs.Replies.{accepted_record, denied_record}
use Rattle.nfs3_types.specs.declared.status.Status.TheVariants.{NotSupp}
use Rattle.nfs3_types.specs.declared.procedure.Procedure.{Procedure}
use Rattle.nfs3_types.specs.declared.procedure.Procedure.TheVariants as procedures
use Rattle.nfs3_types.specs.declared.call.CallOver.TheVariants.{Null, Mknod}
use Rattle.nfs3_types.specs.Procedures.{procedure_named}
use Rattle.nfs3_types.specs.Calls.{Call}
use Rattle.nfs3_types.specs.Calls.{arguments as call_arguments}
use Rattle.nfs3_types.specs.Replies.{Failure, telling, nothing_in, result}
use Rattle.mount3.specs.declared.procedures.TheConstants.{EXPORT}
use Rattle.mount3.specs.Protocol.{arguments}
use Rattle.mount3.specs.Answering.{body}

pub data Immediate : Type 0 where
  -- the record is no call
  Bad : HeadFault → Immediate
  -- the whole record of the reply
  Replied : List ℕ → Immediate
  -- the tree is needed: the transaction id, who calls, and the call
  Needs : ℕ → Caller → Call → Immediate

-- ---- replies without results, and how the call went (accept_stat)

-- the program is none of this service's (PROG_UNAVAIL)
abbrev pub no_program : ℕ → Immediate
no_program xid = Replied (accepted_record xid 1 [])

-- the program has version 3 alone (PROG_MISMATCH)
abbrev pub version_mismatch : ℕ → Immediate
version_mismatch xid = Replied (accepted_record xid 2 (word.spelling 3 ++ word.spelling 3))

-- the program has no such procedure (PROC_UNAVAIL)
abbrev pub no_procedure : ℕ → Immediate
no_procedure xid = Replied (accepted_record xid 3 [])

-- the arguments do not read exactly to the record's end (GARBAGE_ARGS)
abbrev pub garbage : ℕ → Immediate
garbage xid = Replied (accepted_record xid 4 [])

-- ---- denials

-- the RPC version is not 2 (RPC_MISMATCH)
abbrev pub rpc_mismatch : ℕ → Immediate
rpc_mismatch xid = Replied (denied_record xid 3 (0 ∷ 2 ∷ 2 ∷ []))

-- the credential or the verifier is refused (AUTH_ERROR): AUTH_BADCRED, AUTH_BADVERF or AUTH_TOOWEAK
abbrev pub auth_stat : CredFault → ℕ
auth_stat BadCred = 1
auth_stat BadVerf = 3
auth_stat TooWeak = 5

abbrev pub auth_error : ℕ → CredFault → Immediate
auth_error xid fault = Replied (denied_record xid 2 (1 ∷ auth_stat fault ∷ 0 ∷ []))

-- ---- the two programs

-- MKNOD is answered NFS3ERR_NOTSUPP without a look at its handle, and of the change nothing is told
unfoldable pub not_supported : List ℕ
not_supported = (result procedures.Mknod).spelling (Failure NotSupp (nothing_in (telling procedures.Mknod)))

-- NFS version 3: NULL and MKNOD need no tree
abbrev pub of_call : ℕ → Caller → Call → Immediate
of_call xid caller Null = Replied (accepted_record xid 0 [])
of_call xid caller (Mknod _) = Replied (accepted_record xid 0 not_supported)
of_call xid caller call = Needs xid caller call

abbrev pub of_nfs : ℕ → Caller → Result Call XdrFault → Immediate
of_nfs xid caller (Ok call) = of_call xid caller call
of_nfs xid caller (Err fault) = garbage xid

-- MOUNT needs no tree
abbrev pub of_mount : ℕ → ℕ → ℕ → Result (List ℕ) XdrFault → Immediate
of_mount fsid xid procedure (Ok path) = Replied (accepted_record xid 0 (body fsid procedure path))
of_mount fsid xid procedure (Err fault) = garbage xid

-- ---- the checks behind the credential

-- by the procedure whose number it is, if there is one
abbrev pub of_procedure : ℕ → Caller → List ℕ → Option Procedure → Immediate
of_procedure xid caller args (Some procedure) = of_nfs xid caller (whole (call_arguments procedure) args)
of_procedure xid caller args None = no_procedure xid

unfoldable pub in_nfs : MessageHead → Caller → List ℕ → Immediate
in_nfs m caller args =
    if m.vers == 3 then of_procedure m.xid caller args (procedure_named m.procedure) else version_mismatch m.xid

-- EXPORT is the last procedure of MOUNT
unfoldable pub in_mount : ℕ → MessageHead → List ℕ → Immediate
in_mount fsid m args =
    if m.vers == 3
    then (if nat_le m.procedure EXPORT then of_mount fsid m.xid m.procedure
    (whole (arguments m.procedure) args) else no_procedure m.xid)
    else version_mismatch m.xid

-- program 100003 is NFS and 100005 is MOUNT
unfoldable pub in_program : ℕ → MessageHead → Caller → List ℕ → Immediate
in_program fsid m caller args =
    if m.prog == 100003 then in_nfs m caller args
    else (if m.prog == 100005 then in_mount fsid m args
    else no_program m.xid)

abbrev pub behind_credential : ℕ → MessageHead → Result (Caller × List ℕ) CredFault → Immediate
behind_credential fsid m (Ok c) = in_program fsid m c.0 c.1
behind_credential fsid m (Err fault) = auth_error m.xid fault

-- ---- the record

unfoldable pub behind_head : ℕ → MessageHead → List ℕ → Immediate
behind_head fsid m tail =
    if m.rpcvers == 2 then behind_credential fsid m (credential_of tail) else rpc_mismatch m.xid

abbrev pub with_head : ℕ → Result (MessageHead × List ℕ) XdrFault → Immediate
with_head fsid (Ok m) = if m.0.kind == 0 then behind_head fsid m.0 m.1 else Bad NotCall
with_head fsid (Err fault) = Bad Short

-- what is done with a record, of the export of this file system
unfoldable pub immediate_reply : ℕ → List ℕ → Immediate
immediate_reply fsid text = with_head fsid (message_head.read text)
