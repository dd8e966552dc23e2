-- How the parts of MNT's result are spelled, item by item.
use Rattle.std.proofs.Common.{◌≡◌, ℕ, ◌≤◌, Bool, true, false, [], ◌∷◌, ◌++◌, List, refl, arith}
use Rattle.std.specs.Prelude.{◌+◌, ◌-◌, ◌^◌, if◌then◌else◌, bytes_eq}
use Rattle.xdr_grammar.specs.Items.{word, hyper, truth, fixed, opaque}
use Rattle.xdr_grammar.specs.Arrays.{items, array}
use Rattle.nfs3_types.specs.Handles.{handle}
use Rattle.xdr_grammar.specs.Entries as Entries
use Rattle.mount3.specs.Protocol.{Mount, Refusal, mounted, mount_result, mount_list, export, exports, dirpath}
use Rattle.mount3.specs.Answering.{root, root_handle, mount, exported}

pub root_handle-spelled : (fsid : ℕ)
    → (opaque 64).spelling (root_handle fsid) ≡ word.spelling 24 ++
    (hyper.spelling fsid ++ (hyper.spelling 0 ++ hyper.spelling 1))
unfolding root_handle handle opaque fixed hyper word
root_handle-spelled fsid = refl

pub flavors-spelled : (array (2 ^ 32 - 1) word).spelling (1 ∷ 0 ∷ []) ≡ word.spelling 2 ++ (word.spelling 1 ++ word.spelling 0)
unfolding items word
flavors-spelled = refl

pub root_handle_size : (fsid : ℕ)
    → (opaque 64).size (root_handle fsid) ≡ word.size 24 + (hyper.size fsid + (hyper.size 0 + hyper.size 1))
unfolding root_handle handle opaque fixed hyper word
root_handle_size fsid = refl

pub flavors_size : (array (2 ^ 32 - 1) word).size (1 ∷ 0 ∷ []) ≡ word.size 2 + (word.size 1 + word.size 0)
unfolding items word
flavors_size = refl

pub exported-spelled : exports.spelling exported ≡ truth.spelling true ++
    ((opaque 1024).spelling root ++ (truth.spelling false ++ truth.spelling false))
unfolding exports export dirpath truth opaque fixed word Entries.entries
exported-spelled = refl

pub exported_size : exports.size exported ≡ truth.size true + ((opaque 1024).size root + (truth.size false + truth.size false))
unfolding exports export dirpath truth opaque fixed word Entries.entries
exported_size = refl

-- ---- no body is longer than 44 bytes

mount_small : (fsid : ℕ) (b : Bool)
    → mount_result.size (if b then Mount (record { handle = root_handle fsid; flavors = 1 ∷ 0 ∷ [] }) else Refusal 2) ≤ 44
unfolding mount_result mounted items root_handle handle opaque fixed hyper word
mount_small fsid true = omega arith
mount_small fsid false = omega arith

pub mount_size : (fsid : ℕ) (path : List ℕ) → mount_result.size (mount fsid path) ≤ 44
mount_size fsid path = mount_small fsid (bytes_eq path root)

pub exports_size : exports.size exported ≤ 44
unfolding exports export dirpath truth opaque fixed word Entries.entries
exports_size = omega arith

pub mounts_size : mount_list.size [] ≤ 44
unfolding mount_list truth word Entries.entries
mounts_size = omega arith
