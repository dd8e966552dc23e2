-- How long the spelling of a body within bounds is.
use Rattle.std.proofs.Common.{ℕ, ◌+◌, ◌*◌, ◌≤◌, true, List, [], ◌∷◌, length, slice_index_or, Option, Some, None, arith}
use Rattle.std.specs.List.{fold}
use Rattle.std.specs.Prelude.{All, IfSome}
use Rattle.std.proofs.lemmas.List.Elements.{All-head, All-tail}
use Rattle.xdr_grammar.specs.Items.{word, hyper, truth, fixed, opaque}
use Rattle.xdr_grammar.specs.Enumerations.{enumeration}
use Rattle.xdr_grammar.specs.Entries.{entries}
use Rattle.nfs3_types.specs.declared.attributes.Fattr.{Fattr}
use Rattle.nfs3_types.specs.declared.attributes.WccAttr.{WccAttr}
use Rattle.nfs3_types.specs.declared.attributes.Wcc.{Wcc}
use Rattle.nfs3_types.specs.declared.body.DirEntry.{DirEntry}
use Rattle.nfs3_types.specs.declared.body.DirEntryPlus.{DirEntryPlus}
use Rattle.nfs3_types.specs.declared.body.Body.{Body}
use Rattle.nfs3_types.specs.declared.body.Body.TheVariants.{Null, GetAttr, SetAttr, Lookup, Access, ReadLink, Read, Write, Create}
use Rattle.nfs3_types.specs.declared.body.Body.TheVariants.{Mkdir, Symlink, Remove, Rmdir, Rename, Link, ReadDir, ReadDirPlus}
use Rattle.nfs3_types.specs.declared.body.Body.TheVariants.{FsStat, FsInfo, PathConf, Commit, Nothing}
use Rattle.nfs3_types.specs.FileTypes.{file_type}
use Rattle.nfs3_types.specs.Stability.{stable_how}
use Rattle.nfs3_types.specs.Handles.{file_handle, post_op_handle}
use Rattle.nfs3_types.specs.Attributes.{time, spec_data, fattr, post_op_attr, wcc_attr, pre_op_attr, wcc_data}
use Rattle.nfs3_types.specs.Calls.{text, verifier}
use Rattle.nfs3_types.specs.Replies.{lookup_ok, access_ok, read_link_ok, read_ok, write_ok, create_ok, rename_ok, link_ok}
use Rattle.nfs3_types.specs.Replies.{dir_entry, dir_entry_plus, read_dir_ok, read_dir_plus_ok, fs_stat_ok, fs_info_ok}
use Rattle.nfs3_types.specs.Replies.{path_conf_ok, commit_ok, ok_body, said_by}
use Rattle.nfs3_fits.specs.Shape.{IsHandle, AreShort, AreShortPlus, IsWithin}

-- ---- items

post_small : (a : Option Fattr) → post_op_attr.size a ≤ 88
unfolding post_op_attr fattr file_type enumeration spec_data time word hyper truth
post_small (Some a) = omega arith
post_small None = omega arith

pre_small : (w : Option WccAttr) → pre_op_attr.size w ≤ 28
unfolding pre_op_attr wcc_attr time word hyper truth
pre_small (Some w) = omega arith
pre_small None = omega arith

wcc_small : (w : Wcc) → wcc_data.size w ≤ 116
unfolding wcc_data
wcc_small w = omega (arith, pre_small w.before, post_small w.after)

text_small : (t : List ℕ) → text.size t ≤ 7 + length t
unfolding text opaque fixed word
text_small t = omega arith

handle_small : (t : List ℕ) → IsHandle t → file_handle.size t ≤ 68
unfolding file_handle opaque fixed word
handle_small t h = omega (arith, h)

post_handle_small : (o : Option (List ℕ)) → IfSome o IsHandle → post_op_handle.size o ≤ 72
unfolding post_op_handle truth word
post_handle_small (Some t) h = omega (arith, handle_small t h)
post_handle_small None h = omega arith

-- ---- lists

-- where each item takes at most four thirds as much, so does the whole
four_thirds : {A : Type 0} (f g : A → ℕ) (xs : List A) (a b : ℕ) → All (λ x. 3 * f x ≤ 4 * g x) xs → 3 * a ≤ 4 * b
    → 3 * fold (λ a x. a + f x) a xs ≤ 4 * fold (λ b x. b + g x) b xs
four_thirds f g [] a b each le = le
four_thirds f g (x ∷ xs) a b each le =
    four_thirds f g xs (a + f x) (b + g x) (All-tail (λ x. 3 * f x ≤ 4 * g x) x xs each)
    (let one : 3 * f x ≤ 4 * g x = All-head (λ x. 3 * f x ≤ 4 * g x) x xs each in omega (arith, one, le))

entry_small : (e : DirEntry) → 3 * (truth.size true + dir_entry.size e) ≤ 4 * (24 + length e.name)
unfolding dir_entry hyper truth word
entry_small e = omega (arith, text_small e.name)

entry_plus_small : (e : DirEntryPlus) → IfSome e.object IsHandle → 3 * (truth.size true + dir_entry_plus.size e) ≤ 4 *
    (144 + length e.name)
unfolding dir_entry_plus hyper truth word
entry_plus_small e h = omega (arith, text_small e.name, post_small e.attributes, post_handle_small e.object h)

entries_small : (es : List DirEntry) → AreShort es → (entries dir_entry).size es ≤ 43694
unfolding entries truth word
entries_small es h =
    omega (
      arith,
      h,
      four_thirds (λ e. truth.size true + dir_entry.size e) (λ e. 24 + length e.name) es 0 0
          (λ k d lt. entry_small (slice_index_or es k d)) (omega arith),
    )

entries_plus_small : (es : List DirEntryPlus) → AreShortPlus es → (entries dir_entry_plus).size es ≤ 43694
unfolding entries truth word
entries_plus_small es h =
    omega (
      arith,
      h.short,
      four_thirds (λ e. truth.size true + dir_entry_plus.size e) (λ e. 144 + length e.name) es 0 0
          (λ k d lt. entry_plus_small (slice_index_or es k d) (h.handles k d lt)) (omega arith),
    )

-- ---- bodies

pub body_small : (b : Body) → IsWithin b → (ok_body (said_by b)).size b ≤ 43798
unfolding ok_body fattr file_type spec_data lookup_ok access_ok read_link_ok read_ok write_ok create_ok rename_ok link_ok
    read_dir_ok read_dir_plus_ok fs_stat_ok fs_info_ok path_conf_ok commit_ok verifier fixed stable_how enumeration time word
    hyper truth
body_small Null w = omega arith
body_small (GetAttr ok) w = omega arith
body_small (SetAttr ok) w = omega (arith, wcc_small ok)
body_small (Lookup ok) w = omega (arith, handle_small ok.object w, post_small ok.attributes, post_small ok.directory)
body_small (Access ok) w = omega (arith, post_small ok.attributes)
body_small (ReadLink ok) w = omega (arith, w, post_small ok.attributes, text_small ok.target)
body_small (Read ok) w = omega (arith, w, post_small ok.attributes, text_small ok.«data»)
body_small (Write ok) w = omega (arith, wcc_small ok.file)
body_small (Create ok) w = omega (arith, post_handle_small ok.object w, post_small ok.attributes, wcc_small ok.directory)
body_small (Mkdir ok) w = omega (arith, post_handle_small ok.object w, post_small ok.attributes, wcc_small ok.directory)
body_small (Symlink ok) w = omega (arith, post_handle_small ok.object w, post_small ok.attributes, wcc_small ok.directory)
body_small (Remove ok) w = omega (arith, wcc_small ok)
body_small (Rmdir ok) w = omega (arith, wcc_small ok)
body_small (Rename ok) w = omega (arith, wcc_small ok.from, wcc_small ok.to)
body_small (Link ok) w = omega (arith, post_small ok.attributes, wcc_small ok.directory)
body_small (ReadDir ok) w = omega (arith, post_small ok.attributes, entries_small ok.entries w)
body_small (ReadDirPlus ok) w = omega (arith, post_small ok.attributes, entries_plus_small ok.entries w)
body_small (FsStat ok) w = omega (arith, post_small ok.attributes)
body_small (FsInfo ok) w = omega (arith, post_small ok.attributes)
body_small (PathConf ok) w = omega (arith, post_small ok.attributes)
body_small (Commit ok) w = omega (arith, wcc_small ok.file)
body_small Nothing w = absurd w
