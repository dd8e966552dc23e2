-- The MOUNT protocol, version 3 (RFC 1813, appendix I): what calls take and what results say.
use Rattle.std.specs.Prelude.{ℕ, ◌-◌, ◌^◌, ◌==◌, ◌||◌, Bool, List, [], Option, Some, None}
use Rattle.mount3.specs.declared.procedures.TheConstants.{MNT, UMNT}
use Rattle.xdr_grammar.specs.Grammar.{Grammar, ◌at◌, ◌>>=◌, done}
use Rattle.xdr_grammar.specs.Items.{word, opaque, string}
use Rattle.xdr_grammar.specs.Choices.{either, in_case}
use Rattle.xdr_grammar.specs.Arrays.{array}
use Rattle.xdr_grammar.specs.Entries.{entries}

-- a directory's path (5.1.4, dirpath)
unfoldable pub dirpath : Grammar (List ℕ)
dirpath = string 1024

-- the name of a host or of a group of hosts (name)
unfoldable pub name : Grammar (List ℕ)
name = string 255

-- ---- arguments

abbrev pub takes_path : ℕ → Bool
takes_path procedure = (procedure == MNT) || (procedure == UMNT)

-- what a procedure takes: a path or nothing, which is no path
unfoldable pub arguments : ℕ → Grammar (List ℕ)
arguments procedure = either (takes_path procedure) dirpath (done [])

-- ---- results

-- MNT's success (5.2.1, mountres3_ok): the directory's handle, and the flavors of credentials that are
-- taken, the best first
pub record Mounted : Type 0 where
  pub handle : List ℕ
  pub flavors : List ℕ

unfoldable pub mounted : Grammar Mounted
mounted = do
  handle ← opaque 64 at (λ m. m.handle)
  flavors ← array (2 ^ 32 - 1) word at (λ m. m.flavors)
  done (record { handle = handle; flavors = flavors })

-- MNT's result (mountres3): its status is MNT3_OK, 0, or why it was refused
pub data MountResult : Type 0 where
  Mount : Mounted → MountResult
  Refusal : ℕ → MountResult

abbrev pub status_of : MountResult → ℕ
status_of (Mount m) = 0
status_of (Refusal status) = status

abbrev pub mounted_of : MountResult → Option Mounted
mounted_of (Mount m) = Some m
mounted_of (Refusal status) = None

unfoldable pub mount_result : Grammar MountResult
mount_result = do
  status ← word at status_of
  either (status == 0) (in_case Mount mounted_of mounted) (done (Refusal status))

-- DUMP's result (5.2.2, mountlist): which host has mounted what
pub record MountEntry : Type 0 where
  pub hostname : List ℕ
  pub directory : List ℕ

unfoldable pub mount_entry : Grammar MountEntry
mount_entry = do
  hostname ← name at (λ m. m.hostname)
  directory ← dirpath at (λ m. m.directory)
  done (record { hostname = hostname; directory = directory })

unfoldable pub mount_list : Grammar (List MountEntry)
mount_list = entries mount_entry

-- EXPORT's result (5.2.5, exports): which directories can be mounted, and by which groups, where none
-- means by all
pub record Export : Type 0 where
  pub directory : List ℕ
  pub groups : List (List ℕ)

unfoldable pub export : Grammar Export
export = do
  directory ← dirpath at (λ e. e.directory)
  groups ← entries name at (λ e. e.groups)
  done (record { directory = directory; groups = groups })

unfoldable pub exports : Grammar (List Export)
exports = entries export
