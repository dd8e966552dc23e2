-- What this service answers to MOUNT calls: it exports one directory, `/`, to all hosts, and keeps no
-- list of who has mounted it.
use Rattle.std.specs.Prelude.{◌≡◌, ℕ, ◌==◌, if◌then◌else◌, List, [], ◌∷◌, ◌++◌, codes, bytes_eq, Ok}
use Rattle.xdr_grammar.specs.Whole.{whole}
use Rattle.nfs3_types.specs.Handles.{handle}
use Rattle.mount3.specs.declared.procedures.TheConstants.{MNT, DUMP, EXPORT}
use Rattle.mount3.specs.Protocol.{arguments, MountResult, Mount, Refusal, mount_result, mount_list, Export, exports}

-- the exported directory, which is the root of the file system: file 1 of the live tree, which is snapshot 0
abbrev pub root : List ℕ
root = codes "/"

unfoldable pub root_handle : ℕ → List ℕ
root_handle fsid = handle.spelling (record { fsid = fsid; snapshot = 0; fileid = 1 })

-- MNT gives the root's handle, with AUTH_SYS, 1, before AUTH_NONE, 0, and refuses each other path
-- with MNT3ERR_NOENT, 2.
abbrev pub mount : ℕ → List ℕ → MountResult
mount fsid path =
    if bytes_eq path root
    then Mount (record { handle = root_handle fsid; flavors = 1 ∷ 0 ∷ [] })
    else Refusal 2

-- EXPORT lists the one directory, with no groups, which means to all hosts
abbrev pub exported : List Export
exported = record { directory = root; groups = [] } ∷ []

-- the body of the reply; NULL, UMNT and UMNTALL answer nothing
unfoldable pub body : ℕ → ℕ → List ℕ → List ℕ
body fsid procedure path =
    if procedure == MNT then mount_result.spelling (mount fsid path)
    else (if procedure == DUMP then mount_list.spelling []
    else (if procedure == EXPORT then exports.spelling exported
    else []))

-- the arguments were whole, and the buffer gained the body
pub record Answers (fsid procedure : ℕ) (args old new : List ℕ) : Type 0 where
  pub path : List ℕ
  pub read : whole (arguments procedure) args ≡ Ok path
  pub gained : new ≡ old ++ body fsid procedure path
