-- The shape of replies on a tree within its bounds.
use Rattle.std.proofs.Common.{◌≡◌, ℕ, ◌-◌, ◌^◌, ◌≤◌, ◌==◌, Bool, true, false, nat_le, not, if◌then◌else◌, List, [], ◌∷◌}
use Rattle.std.proofs.Common.{length, take, drop, Option, Some, None, option_map, Ok, Err, refl, subst, sym, arith}
use Rattle.std.proofs.Common.{length-append}
use Rattle.std.specs.List.{All, find, sum_by}
use Rattle.std.specs.Prelude.{IfSome}
use Rattle.std.proofs.lemmas.Bool.{leb-true}
use Rattle.std.proofs.lemmas.List.{length-take}
use Rattle.std.proofs.lemmas.List.Elements.{All-head, All-tail}
use Rattle.std.proofs.lemmas.List.Sums.{sum_by-cons}
use Rattle.std.proofs.lemmas.Option.{IfSome_then}
use Rattle.xdr_grammar.specs.Items.{hyper}
use Rattle.nfs3_types.specs.declared.args.AccessArgs.{AccessArgs}
use Rattle.nfs3_types.specs.declared.args.DirOp.{DirOp}
use Rattle.nfs3_types.specs.declared.args.FileRange.{FileRange}
use Rattle.nfs3_types.specs.declared.args.ReadDirArgs.{ReadDirArgs}
use Rattle.nfs3_types.specs.declared.args.ReadDirPlusArgs.{ReadDirPlusArgs}
use Rattle.nfs3_types.specs.declared.body.Body.{Body}
use Rattle.nfs3_types.specs.declared.body.Body.TheVariants.{Nothing}
use Rattle.nfs3_types.specs.declared.call.CallOver.TheVariants.{Null, GetAttr, SetAttr, Lookup, Access, ReadLink, Read, Write}
use Rattle.nfs3_types.specs.declared.call.CallOver.TheVariants.{Create, Mkdir, Symlink, Mknod, Remove, Rmdir, Rename, Link}
use Rattle.nfs3_types.specs.declared.call.CallOver.TheVariants.{ReadDir, ReadDirPlus, FsStat, FsInfo, PathConf, Commit}
use Rattle.nfs3_types.specs.declared.cred.Cred.{Cred}
use Rattle.nfs3_types.specs.declared.file_type.FileType.{FileType}
use Rattle.nfs3_types.specs.declared.file_type.FileType.TheVariants.{Lnk}
use Rattle.nfs3_types.specs.declared.handle.Handle.{Handle}
use Rattle.nfs3_types.specs.declared.moment.Moment.{Moment}
use Rattle.nfs3_types.specs.declared.status.Status.{Status}
use Rattle.nfs3_types.specs.declared.status.Status.TheVariants.{Ok as StatusOk, BadHandle, Inval, Stale}
use Rattle.nfs3_types.specs.Calls.{Call, procedure_of}
use Rattle.nfs3_types.specs.Handles.{handle, handle_in}
use Rattle.nfs3_types.specs.Replies.{is_ok}
use Rattle.nfs3_fits.specs.Shape.{HasHandle, HasShape, HasStatus, IsBodyOf, IsHandle, Says}
use Rattle.nfs3_fits.proofs.Callers.{made_short, made_short_plus}
use Rattle.fs_rules.specs.Answers.{Asked, after, answer, reply_by, row, row_of}
use Rattle.fs_rules.specs.Attributes.{is_link}
use Rattle.fs_rules.specs.Checks.{Check, Done, Row, find_object, refuse_if, some_or, told, ◌>>=◌}
use Rattle.fs_rules.specs.Limits.{longest_target, most_listing, most_transfer}
use Rattle.fs_rules.specs.Listing.{Listed, bare_size, count_all, entry, entry_plus, entry_plus_size, entry_size, fitting}
use Rattle.fs_rules.specs.Listing.{limit, page, page_behind, page_of, read_dir, read_dir_plus}
use Rattle.fs_rules.specs.Looking.{lookup}
use Rattle.fs_rules.specs.Making.{create, make_directory, symlink, told_of_new}
use Rattle.fs_rules.specs.Places.{Object, content_at, content_of, handle_at, has_number, node_at, node_in, object_at}
use Rattle.fs_rules.specs.Places.{object_by, object_of, place_of, snapshot_directory, snapshot_numbered}
use Rattle.fs_rules.specs.Removing.{remove, remove_directory}
use Rattle.fs_rules.specs.Renaming.{link, rename}
use Rattle.fs_rules.specs.Setting.{set_attr}
use Rattle.fs_rules.specs.Snapshots.{drop_snapshot, is_snapshot_directory, mkdir, rmdir, take_snapshot}
use Rattle.fs_rules.specs.Sound.{AreNodesWithin, HasBounds, IsNodeWithin, IsOfKind}
use Rattle.fs_rules.specs.Telling.{access, fs_info, fs_stat, get_attr, path_conf, read_link}
use Rattle.fs_rules.specs.Transfers.{commit, read, read_count, write}
use Rattle.fs_rules.specs.Tree.{Node, Snapshot, Tree}
use Rattle.fs_rules.specs.declared.place.Place.{Place}
use Rattle.fs_rules.specs.declared.place.Place.TheVariants.{Kept, Live, SnapshotDirectory}
use Rattle.fs_laws.proofs.Blaming.{create_shows, link_shows, make_directory_shows, need_new_snapshot_shows}
use Rattle.fs_laws.proofs.Blaming.{need_snapshot_shows, remove_directory_shows, remove_shows, rename_shows, set_attr_shows}
use Rattle.fs_laws.proofs.Blaming.{symlink_shows, write_shows}
use Rattle.fs_laws.proofs.Checked.{Any, IsRefusal, Shows, checks, either_is, either_shows, find_object_shows, gives, in_order}
use Rattle.fs_laws.proofs.Checked.{in_turn, some_or_shows}

-- ---- handles

handle_long : (t : Tree) (place : Place) → IsHandle (handle_at t place)
unfolding handle_at handle hyper
handle_long t place = simp length-append (omega arith)

new_within : (before after : Tree) (directory object : Place) → HasHandle (told_of_new before after directory object)
unfolding told_of_new
new_within before after directory object = handle_long after object

-- ---- calls that only read

get_attr_fits : (t : Tree) (handle : List ℕ) → Shows (IsBodyOf 1) (get_attr t handle)
unfolding get_attr
get_attr_fits t handle = search checks

lookup_fits : (t : Tree) (cred : Cred) (a : DirOp (List ℕ)) → Shows (IsBodyOf 3) (lookup t cred a)
unfolding lookup
lookup_fits t cred a = search (checks, handle_long) depth 14

access_fits : (t : Tree) (cred : Cred) (a : AccessArgs (List ℕ)) → Shows (IsBodyOf 4) (access t cred a)
unfolding access
access_fits t cred a = search checks

fs_stat_fits : (t : Tree) (handle : List ℕ) → Shows (IsBodyOf 18) (fs_stat t handle)
unfolding fs_stat
fs_stat_fits t handle = search checks

fs_info_fits : (t : Tree) (handle : List ℕ) → Shows (IsBodyOf 19) (fs_info t handle)
unfolding fs_info
fs_info_fits t handle = search checks

path_conf_fits : (t : Tree) (handle : List ℕ) → Shows (IsBodyOf 20) (path_conf t handle)
unfolding path_conf
path_conf_fits t handle = search checks

commit_fits : (t : Tree) (a : FileRange (List ℕ)) → Shows (IsBodyOf 21) (commit t a)
unfolding commit
commit_fits t a = search checks depth 12

-- ---- READ

-- at most the greatest transfer is read
read_short : (a : FileRange (List ℕ)) (size : ℕ) (content : List ℕ)
    → length (take (read_count a size) (drop a.offset content)) ≤ 32768
unfolding most_transfer
read_short a size content = omega (arith, length-take (read_count a size) (drop a.offset content))

read_fits : (t : Tree) (cred : Cred) (a : FileRange (List ℕ)) → Shows (IsBodyOf 6) (read t cred a)
unfolding read
read_fits t cred a = search (checks, read_short) depth 12

-- ---- READLINK

-- where the node is a symbolic link, its path is short
abbrev IsShort : Node → Type 0
IsShort n = is_link n.inode.kind ≡ true → length n.content ≤ 32768

of_kind_short : (kind : FileType) (fileid : ℕ) (n : Node) → IsOfKind kind fileid n → is_link kind ≡ true
    → length n.content ≤ 32768
unfolding longest_target
of_kind_short Lnk fileid n h link = omega (arith, h.short)
of_kind_short kind fileid n h link = absurd cc

within_short : (fileid : ℕ) (n : Node) → IsNodeWithin fileid n → IsShort n
within_short fileid n h link = of_kind_short n.inode.kind fileid n h.kind link

nodes_short : (t : Tree) (nodes : ℕ → Option Node) (fileid : ℕ) → AreNodesWithin t nodes → IfSome (nodes fileid) IsShort
nodes_short t nodes fileid h = IfSome_then (nodes fileid) (h.each fileid) (within_short fileid)

pub find_has : {A : Type 0} (P : A → Type 0) (p : A → Bool) (xs : List A) → All P xs → IfSome (find p xs) P
find_has P p [] all = tt
find_has P p (x ∷ xs) all =
    either_is (λ y. IfSome y P) (p x) (Some x) (find p xs) (All-head P x xs all) (find_has P p xs (All-tail P x xs all))

kept_short : (t : Tree) (s : Option Snapshot) (fileid : ℕ) → IfSome s (λ s. AreNodesWithin t s.nodes)
    → IfSome (node_in s fileid) IsShort
kept_short t (Some s) fileid h = nodes_short t s.nodes fileid h
kept_short t None fileid h = tt

node_at_short : (t : Tree) (place : Place) → HasBounds t → IfSome (node_at t place) IsShort
unfolding node_at snapshot_directory snapshot_numbered
node_at_short t (Live fileid) h = nodes_short t t.nodes fileid h.live
node_at_short t SnapshotDirectory h = λ link. omega arith
node_at_short t (Kept number fileid) h =
    kept_short t (find (has_number number) t.snapshots) fileid (find_has (λ s. AreNodesWithin t s.nodes) (has_number number)
    t.snapshots h.kept)

-- where the object is a symbolic link, the content there is short
abbrev IsShortAt : Tree → Object → Type 0
IsShortAt t o = is_link o.inode.kind ≡ true → length (content_at t o.place) ≤ 32768

object_short : (t : Tree) (place : Place) (n : Option Node) → node_at t place ≡ n → IfSome n IsShort
    → IfSome (option_map (object_by place) n) (IsShortAt t)
object_short t place (Some n) e h = λ link. subst (λ (x : Option Node). length (content_of x) ≤ 32768) (sym e) (h link)
object_short t place None e h = tt

object_of_short : (t : Tree) (h : Handle) → HasBounds t → IfSome (object_of t h) (IsShortAt t)
unfolding object_of object_at
object_of_short t h bounds =
    either_is (λ o. IfSome o (IsShortAt t)) (h.fsid == t.fsid) (object_at t (place_of h)) None
    (object_short t (place_of h) (node_at t (place_of h)) refl (node_at_short t (place_of h) bounds)) tt

-- a plan's checks of which something is to be known
some_or_has : {A : Type 0} (P : A → Type 0) (x : Option A) (status : Status) → IsRefusal status → IfSome x P
    → Shows P (some_or x status)
some_or_has P (Some a) status h has = record { is = has }
some_or_has P None status h has = record { is = h }

refuse_if_has : (b : Bool) (status : Status) → IsRefusal status → Shows (λ _. b ≡ false) (refuse_if b status)
refuse_if_has true status h = record { is = h }
refuse_if_has false status h = record { is = refl }

found_short : (t : Tree) (bytes : List ℕ) → HasBounds t → Shows (IsShortAt t) (find_object t bytes)
unfolding find_object
found_short t bytes bounds =
    in_turn (IsShortAt t) (some_or_shows (handle_in bytes) BadHandle refl)
    (λ h. some_or_has (IsShortAt t) (object_of t h) Stale refl (object_of_short t h bounds))

not_false : (b : Bool) → not b ≡ false → b ≡ true
not_false true h = refl
not_false false h = absurd cc

read_link_fits : (t : Tree) (handle : List ℕ) → HasBounds t → Shows (IsBodyOf 5) (read_link t handle)
unfolding read_link
read_link_fits t handle bounds =
    in_order (IsShortAt t) (IsBodyOf 5) (find_object t handle) _ (found_short t handle bounds)
    (λ o short. in_order (λ _. not (is_link o.inode.kind) ≡ false) (IsBodyOf 5) _ _
    (refuse_if_has (not (is_link o.inode.kind)) Inval refl)
    (λ _ link. gives (IsBodyOf 5) _ (record { is = refl; within = short (not_false (is_link o.inode.kind) link) })))

-- ---- READDIR and READDIRPLUS

first_within : (size : Listed → ℕ) (room : ℕ) (e : Listed) (told : List Listed) (fits : Bool) → nat_le (size e) room ≡ fits
    → sum_by size told ≤ room - size e → sum_by size (if fits then e ∷ told else []) ≤ room
first_within size room e told true fits h = let within = leb-true (size e) room fits in omega (arith, sum_by-cons size e told)
first_within size room e told false fits h = omega arith

fitting_within : (size : Listed → ℕ) (room : ℕ) (entries : List Listed) → sum_by size (fitting size room entries) ≤ room
unfolding fitting
fitting_within size room [] = omega arith
fitting_within size room (e ∷ entries) =
    first_within size room e (fitting size (room - size e) entries) (nat_le (size e) room) refl
    (fitting_within size (room - size e) entries)

page_within : (size : Listed → ℕ) (count : ℕ) (entries : List Listed)
    → sum_by size (fitting size (limit count - bare_size) entries) ≤ 32768
unfolding most_listing
page_within size count entries = omega (arith, fitting_within size (limit count - bare_size) entries)

page_fits : (t : Tree) (cred : Cred) (size : Listed → ℕ) (a : ReadDirArgs (List ℕ))
    → Shows (λ p. sum_by size p.told ≤ 32768) (page t cred size a)
unfolding page page_behind page_of
page_fits t cred size a = search (checks, page_within) depth 12

read_dir_fits : (t : Tree) (cred : Cred) (a : ReadDirArgs (List ℕ)) → Shows (IsBodyOf 16) (read_dir t cred a)
unfolding read_dir
read_dir_fits t cred a =
    in_order (λ p. sum_by entry_size p.told ≤ 32768) (IsBodyOf 16) _ _ (page_fits t cred entry_size a)
    (λ p h. gives (IsBodyOf 16) _ (record { is = refl; within = made_short entry entry_size p.told (λ e. omega arith) h }))

read_dir_plus_fits : (t : Tree) (cred : Cred) (a : ReadDirPlusArgs (List ℕ)) → Shows (IsBodyOf 17) (read_dir_plus t cred a)
unfolding read_dir_plus
read_dir_plus_fits t cred a =
    in_order (λ p. sum_by entry_plus_size p.told ≤ 32768) (IsBodyOf 17) _ _ (page_fits t cred entry_plus_size (count_all a))
    (λ p h. gives (IsBodyOf 17) _
    (record {
      is = refl;
      within = made_short_plus (entry_plus t) entry_plus_size p.told (λ e. omega arith)
          (λ e. handle_long t e.place) h;
    }))

-- ---- rows

-- what a row tells is the body of this procedure
abbrev IsToldOf : ℕ → Done → Type 0
IsToldOf procedure d = IsBodyOf procedure d.body

told_fits : (procedure : ℕ) (t : Tree) (c : Check Body) → Shows (IsBodyOf procedure) c → Shows (IsToldOf procedure) (told t c)
told_fits procedure t c h = in_order (IsBodyOf procedure) (IsToldOf procedure) c _ h (λ body is. record { is = is })

done_fits : {Plan : Type 0} (procedure : ℕ) (c : Check Plan) (f : Plan → Done) → Shows Any c
    → ((p : Plan) → IsBodyOf procedure (f p).body) → Shows (IsToldOf procedure) (c >>= (λ plan. Ok (f plan)))
done_fits procedure c f h body = in_turn (IsToldOf procedure) h (λ plan. record { is = body plan })

row_fits : (t : Tree) (cred : Cred) (now : Moment) (lane : ℕ) (call : Call) → HasBounds t
    → Shows (IsToldOf (procedure_of call)) (row_of t cred now lane call)
unfolding set_attr write create mkdir make_directory take_snapshot symlink remove rmdir remove_directory drop_snapshot rename link
row_fits t cred now lane Null h = record { is = record { is = refl; within = tt } }
row_fits t cred now lane (GetAttr a) h = told_fits 1 t _ (get_attr_fits t a)
row_fits t cred now lane (SetAttr a) h = done_fits 2 _ _ (set_attr_shows t cred a now) (λ p. record { is = refl; within = tt })
row_fits t cred now lane (Lookup a) h = told_fits 3 t _ (lookup_fits t cred a)
row_fits t cred now lane (Access a) h = told_fits 4 t _ (access_fits t cred a)
row_fits t cred now lane (ReadLink a) h = told_fits 5 t _ (read_link_fits t a h)
row_fits t cred now lane (Read a) h = told_fits 6 t _ (read_fits t cred a)
row_fits t cred now lane (Write a) h = done_fits 7 _ _ (write_shows t cred a) (λ p. record { is = refl; within = tt })
row_fits t cred now lane (Create a) h =
    done_fits 8 _ _ (create_shows t cred a lane)
    (λ p. record { is = refl; within = new_within t _ (Live p.directory) (Live p.fileid) })
row_fits t cred now lane (Mkdir a) h = in_turn (IsToldOf 9) (find_object_shows t a.place.directory) (λ o.
    either_shows (IsToldOf 9) (is_snapshot_directory o.place) _ _
    (done_fits 9 _ _ (need_new_snapshot_shows t cred a.place.name)
    (λ p. record { is = refl; within = new_within t _ SnapshotDirectory (Kept t.epoch 1) }))
    (done_fits 9 _ _ (make_directory_shows t cred a lane o)
    (λ p. record { is = refl; within = new_within t _ (Live p.directory) (Live p.fileid) })))
row_fits t cred now lane (Symlink a) h =
    done_fits 10 _ _ (symlink_shows t cred a lane)
    (λ p. record { is = refl; within = new_within t _ (Live p.directory) (Live p.fileid) })
row_fits t cred now lane (Mknod a) h = record { is = refl }
row_fits t cred now lane (Remove a) h = done_fits 12 _ _ (remove_shows t cred a) (λ p. record { is = refl; within = tt })
row_fits t cred now lane (Rmdir a) h = in_turn (IsToldOf 13) (find_object_shows t a.directory) (λ o.
    either_shows (IsToldOf 13) (is_snapshot_directory o.place) _ _
    (done_fits 13 _ _ (need_snapshot_shows t cred a.name) (λ p. record { is = refl; within = tt }))
    (done_fits 13 _ _ (remove_directory_shows t cred a.name o) (λ p. record { is = refl; within = tt })))
row_fits t cred now lane (Rename a) h = done_fits 14 _ _ (rename_shows t cred a) (λ p. record { is = refl; within = tt })
row_fits t cred now lane (Link a) h = done_fits 15 _ _ (link_shows t cred a) (λ p. record { is = refl; within = tt })
row_fits t cred now lane (ReadDir a) h = told_fits 16 t _ (read_dir_fits t cred a)
row_fits t cred now lane (ReadDirPlus a) h = told_fits 17 t _ (read_dir_plus_fits t cred a)
row_fits t cred now lane (FsStat a) h = told_fits 18 t _ (fs_stat_fits t a)
row_fits t cred now lane (FsInfo a) h = told_fits 19 t _ (fs_info_fits t a)
row_fits t cred now lane (PathConf a) h = told_fits 20 t _ (path_conf_fits t a)
row_fits t cred now lane (Commit a) h = told_fits 21 t _ (commit_fits t a)

-- ---- replies

refusal_says : (procedure : ℕ) (status : Status) → IsRefusal status → HasStatus procedure → Says (is_ok status) procedure Nothing
refusal_says procedure StatusOk h has = absurd cc
refusal_says procedure status h has = record { status = has; nothing = refl }

reply_fits : (procedure : ℕ) → HasStatus procedure → (r : Row) → Shows (IsToldOf procedure) r → HasShape (reply_by procedure r)
reply_fits procedure has (Ok d) h = h.is
reply_fits procedure has (Err status) h = refusal_says procedure status h.is has

-- a procedure that can fail
has_status : (procedure : ℕ) → nat_le 1 procedure ≡ true → nat_le procedure 21 ≡ true → HasStatus procedure
has_status procedure first last = record { first = leb-true 1 procedure first; last = leb-true procedure 21 last }

call_fits : (t : Tree) (cred : Cred) (now : Moment) (lane : ℕ) (call : Call) → HasBounds t
    → HasShape (reply_by (procedure_of call) (row_of t cred now lane call))
call_fits t cred now lane Null h = record { is = refl; within = tt }
call_fits t cred now lane call h =
    reply_fits (procedure_of call) (has_status (procedure_of call) refl refl) (row_of t cred now lane call)
    (row_fits t cred now lane call h)

pub answer_fits : (t : Tree) (a : Asked) → HasBounds t → HasShape (answer t a)
unfolding row
answer_fits t a h = call_fits t a.cred a.now a.lane a.call h
