-- Credentials and verifiers (RFC 5531, section 8.2, and appendix A for flavor AUTH_SYS), and who calls.
use Rattle.std.specs.Prelude.{ℕ, zero, suc, ◌/◌, ◌==◌, if◌then◌else◌, List, [], ◌∷◌, length, take, drop, Result, Ok, Err}
use Rattle.byteorder.specs.Endian.{big_number}
use Rattle.xdr_grammar.specs.declared.fault.XdrFault.{XdrFault}
use Rattle.xdr_grammar.specs.Grammar.{Grammar, ◌at◌, ◌>>=◌, done}
use Rattle.xdr_grammar.specs.Items.{word, opaque, string}
use Rattle.xdr_grammar.specs.Arrays.{array}
use Rattle.xdr_grammar.specs.Whole.{whole}
use Rattle.rpc_msg.specs.declared.credential.CredFault.{CredFault}
use Rattle.rpc_msg.specs.declared.credential.CredFault.TheVariants.{BadCred, TooWeak, BadVerf}

-- a credential or a verifier (opaque_auth): its flavor, and what is said in that flavor
pub record OpaqueAuth : Type 0 where
  pub flavor : ℕ
  pub body : List ℕ

unfoldable pub opaque_auth : Grammar OpaqueAuth
opaque_auth = do
  flavor ← word at (λ a. a.flavor)
  body ← opaque 400 at (λ a. a.body)
  done (record { flavor = flavor; body = body })

-- what is said in flavor AUTH_SYS (authsys_parms)
pub record AuthSys : Type 0 where
  pub stamp : ℕ
  pub machinename : List ℕ
  pub uid : ℕ
  pub gid : ℕ
  pub gids : List ℕ

unfoldable pub auth_sys : Grammar AuthSys
auth_sys = do
  stamp ← word at (λ a. a.stamp)
  machinename ← string 255 at (λ a. a.machinename)
  uid ← word at (λ a. a.uid)
  gid ← word at (λ a. a.gid)
  gids ← array 16 word at (λ a. a.gids)
  done (record { stamp = stamp; machinename = machinename; uid = uid; gid = gid; gids = gids })

-- ---- who calls

-- a user, its group, and the other groups that it is in
pub record Caller : Type 0 where
  pub uid : ℕ
  pub gid : ℕ
  pub gids : List ℕ

-- who calls with a credential that says nothing
abbrev pub nobody : Caller
nobody = record { uid = 65534; gid = 65534; gids = [] }

abbrev pub caller_in : Result AuthSys XdrFault → Result Caller CredFault
caller_in (Ok a) = Ok (record { uid = a.uid; gid = a.gid; gids = a.gids })
caller_in (Err fault) = Err BadCred

-- AUTH_NONE is 0 and AUTH_SYS 1; each other flavor is refused, and AUTH_SYS where its body is none
unfoldable pub caller_of : OpaqueAuth → Result Caller CredFault
caller_of credential =
    if credential.flavor == 0 then Ok nobody
    else (if credential.flavor == 1 then caller_in (whole auth_sys credential.body)
    else Err TooWeak)

-- ---- the first refusal: a credential that does not read, a verifier that does not read, and then what
-- ---- the credential says; nothing is asked of the verifier

abbrev pub before_arguments : List ℕ → Result Caller CredFault → Result (Caller × List ℕ) CredFault
before_arguments arguments (Ok caller) = Ok (caller, arguments)
before_arguments arguments (Err fault) = Err fault

abbrev pub with_verifier : OpaqueAuth → Result (OpaqueAuth × List ℕ) XdrFault → Result (Caller × List ℕ) CredFault
with_verifier credential (Ok verifier) = before_arguments verifier.1 (caller_of credential)
with_verifier credential (Err fault) = Err BadVerf

abbrev pub with_credential : Result (OpaqueAuth × List ℕ) XdrFault → Result (Caller × List ℕ) CredFault
with_credential (Ok credential) = with_verifier credential.0 (opaque_auth.read credential.1)
with_credential (Err fault) = Err BadCred

-- who calls, and the arguments, of what follows a call's head
unfoldable pub credential_of : List ℕ → Result (Caller × List ℕ) CredFault
credential_of tail = with_credential (opaque_auth.read tail)

-- ---- words that are left where they stand

abbrev pub words : ℕ → List ℕ → List ℕ
words zero bytes = []
words (suc n) bytes = big_number 4 (take 4 bytes) ∷ words n (drop 4 bytes)

-- the words that so many bytes spell, four bytes each
unfoldable pub words_in : List ℕ → List ℕ
words_in bytes = words (length bytes / 4) bytes
