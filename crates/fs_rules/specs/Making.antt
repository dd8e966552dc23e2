-- CREATE and SYMLINK, and MKDIR outside of `.snapshot` (RFC 1813, sections 3.3.8 to 3.3.10).
use Rattle.std.specs.Prelude.{◌%◌, ◌==◌, ◌||◌, ◌&&◌, if◌then◌else◌}
use Rattle.fs_rules.specs.Words.{ℕ, nat_le, Bool, true, false, not, List, [], bytes_eq, is_some, unwrap_or, Option, Some, None}
use Rattle.fs_rules.specs.Words.{Ok, CreateArgs, CreateHow, Unchecked, Guarded, Exclusive, MkdirArgs, SymlinkArgs, Sattr}
use Rattle.fs_rules.specs.Words.{DontChange, Create, Mkdir, Symlink, CreateOk, Cred, FileType, Reg, Dir, Lnk, Moment, Acces}
use Rattle.fs_rules.specs.Words.{Exist, Inval, MLink, NoSpc, Perm, Inode, NameEntry, Place, Live, CreatePlan, NewPlan}
use Rattle.fs_rules.specs.Shared.{given, is_directory, is_file, is_too_large, time_by, Check, Row, ◌>>=◌, done, find_directory}
use Rattle.fs_rules.specs.Shared.{need, need_place_for, need_search, no_fault, refuse_if, some_or, add_link, add_name, add_node}
use Rattle.fs_rules.specs.Shared.{edit_node, give_number, set_size, touch, zeros, most_links, most_numbers, is_dots, target_fault}
use Rattle.fs_rules.specs.Shared.{Object, change, entry_at, fileid_at, handle_at, is_snapshots_name, leads_to, shown, is_in_group}
use Rattle.fs_rules.specs.Shared.{may_write, Node, Tree, next_fileid}
use Rattle.fs_rules.specs.{Setting.lacks_cuts, Transfers.may_fill}

pub record Making : Type 0 where
  pub kind : FileType
  pub attributes : Sattr
  -- the mode, where none is given
  pub mode : ℕ
  pub content : List ℕ
  pub verifier : Option (List ℕ)

-- another than user 0 gives a new node to another user, or to a group that he is not in
abbrev pub is_others : Cred → Option ℕ → Bool
is_others cred uid = not (cred.uid == 0) && given uid (λ uid. not (uid == cred.uid))

abbrev pub is_of_others : Cred → Option ℕ → Bool
is_of_others cred gid = not (cred.uid == 0) && given gid (λ gid. not (is_in_group cred gid))

-- a directory has no room for a further subdirectory
abbrev pub lacks_links : FileType → Inode → Bool
lacks_links kind directory = is_directory kind && nat_le most_links directory.nlink

abbrev pub lacks_numbers : Tree → ℕ → Bool
lacks_numbers t lane = nat_le most_numbers (next_fileid t lane)

abbrev pub lacks_cookies : Inode → Bool
lacks_cookies directory = nat_le most_numbers directory.next_cookie

unfoldable pub need_new_node : Tree → Cred → ℕ → Inode → FileType → Sattr → Check (Unit {0})
need_new_node t cred lane directory kind s = do
  _ ← refuse_if (is_others cred s.uid) Perm
  _ ← refuse_if (is_of_others cred s.gid) Perm
  _ ← refuse_if (is_file kind && is_too_large s.size) Inval
  _ ← refuse_if (lacks_links kind directory) MLink
  _ ← refuse_if (lacks_numbers t lane) NoSpc
  refuse_if (lacks_cookies directory) NoSpc

unfoldable pub new_node : Cred → Moment → ℕ → Making → Node
new_node cred now parent m = record {
  inode = record {
    kind = m.kind;
    mode = unwrap_or m.attributes.mode m.mode % 4096;
    nlink = if is_directory m.kind then 2 else 1;
    uid = unwrap_or m.attributes.uid cred.uid;
    gid = unwrap_or m.attributes.gid cred.gid;
    atime = time_by m.attributes.atime now now;
    mtime = time_by m.attributes.mtime now now;
    ctime = now;
    parent = if is_directory m.kind then parent else 0;
    next_cookie = if is_directory m.kind then 3 else 0;
    verifier = m.verifier;
    cuts = 0;
  };
  content = m.content;
  names = [];
}

abbrev pub gain_name : FileType → List ℕ → ℕ → Moment → Node → Node
gain_name kind name fileid now directory =
    touch now (add_name name fileid (if is_directory kind then add_link directory else directory))

unfoldable pub make_node : Cred → Moment → ℕ → NewPlan → List ℕ → Making → Tree → Tree
make_node cred now lane p name m t =
    edit_node p.directory (gain_name m.kind name p.fileid now)
    (add_node p.fileid (new_node cred now p.directory m) (give_number lane t))

unfoldable pub told_of_new : Tree → Tree → Place → Place → CreateOk
told_of_new before after directory object = record {
  object = Some (handle_at after object);
  attributes = shown after object;
  directory = change before after directory;
}

-- a name that is there without an entry
abbrev pub is_reserved : Object → List ℕ → Bool
is_reserved directory name = is_dots name || is_snapshots_name directory.place name

abbrev pub is_taken : Tree → Object → List ℕ → Bool
is_taken t directory name = is_reserved directory name || is_some (entry_at t directory.place name)

unfoldable pub need_free_name : Tree → Cred → Object → List ℕ → Check (Unit {0})
need_free_name t cred directory name = do
  _ ← refuse_if (is_taken t directory name) Exist
  need (may_write cred directory.inode) Acces

-- ---- MKDIR, once the directory is found

unfoldable pub make_directory_plan : Tree → Cred → MkdirArgs (List ℕ) → ℕ → Object → Check NewPlan
make_directory_plan t cred a lane directory = do
  _ ← need_place_for directory a.place.name
  _ ← need_search cred directory
  _ ← need_free_name t cred directory a.place.name
  _ ← need_new_node t cred lane directory.inode Dir a.attributes
  Ok (record { directory = fileid_at directory.place; fileid = next_fileid t lane })

-- octal 0755
abbrev pub new_directory : Sattr → Making
new_directory s = record { kind = Dir; attributes = s; mode = 493; content = []; verifier = None }

unfoldable pub make_directory : Tree → Cred → MkdirArgs (List ℕ) → Moment → ℕ → Object → Row
make_directory t cred a now lane directory =
    done (make_directory_plan t cred a lane directory)
    (λ plan. make_node cred now lane plan a.place.name (new_directory a.attributes) t)
    (λ plan after. Mkdir (told_of_new t after (Live plan.directory) (Live plan.fileid)))

-- ---- SYMLINK

unfoldable pub symlink_plan : Tree → Cred → SymlinkArgs (List ℕ) → ℕ → Check NewPlan
symlink_plan t cred a lane = do
  directory ← find_directory t a.place
  _ ← need_search cred directory
  _ ← need_free_name t cred directory a.place.name
  _ ← no_fault (target_fault a.target)
  _ ← need_new_node t cred lane directory.inode Lnk a.attributes
  Ok (record { directory = fileid_at directory.place; fileid = next_fileid t lane })

-- octal 0777
abbrev pub new_link : Sattr → List ℕ → Making
new_link s target = record { kind = Lnk; attributes = s; mode = 511; content = target; verifier = None }

unfoldable pub symlink : Tree → Cred → SymlinkArgs (List ℕ) → Moment → ℕ → Row
symlink t cred a now lane =
    done (symlink_plan t cred a lane)
    (λ plan. make_node cred now lane plan a.place.name (new_link a.attributes a.target) t)
    (λ plan after. Symlink (told_of_new t after (Live plan.directory) (Live plan.fileid)))

-- ---- CREATE

-- what is set: of EXCLUSIVE nothing, and the mode is 0
abbrev pub create_attributes : CreateHow → Sattr
create_attributes (Unchecked s) = s
create_attributes (Guarded s) = s
create_attributes (Exclusive verifier) =
    record { mode = Some 0; uid = None; gid = None; size = None; atime = DontChange; mtime = DontChange }

abbrev pub create_verifier : CreateHow → Option (List ℕ)
create_verifier (Exclusive verifier) = Some verifier
create_verifier how = None

-- octal 0644
abbrev pub new_file : CreateHow → Making
new_file how = record {
  kind = Reg;
  attributes = create_attributes how;
  mode = 420;
  content = zeros (unwrap_or (create_attributes how).size 0);
  verifier = create_verifier how;
}

-- a file that is there may be taken: by UNCHECKED every one, by EXCLUSIVE what its own verifier made
abbrev pub may_reuse : CreateHow → Inode → Bool
may_reuse (Unchecked s) file = true
may_reuse (Guarded s) file = false
may_reuse (Exclusive verifier) file = given file.verifier (λ own. bytes_eq own verifier)

abbrev pub size_over : CreateHow → Option ℕ
size_over (Unchecked s) = s.size
size_over how = None

unfoldable pub reuse_plan : Tree → Cred → Object → NameEntry → CreateHow → Check CreatePlan
reuse_plan t cred directory e how = do
  file ← some_or (leads_to t (Live e.fileid)) Exist
  _ ← need (is_file file.inode.kind) Exist
  _ ← need (may_reuse how file.inode) Exist
  _ ← refuse_if (is_some (size_over how) && not (may_fill cred file.inode)) Acces
  _ ← refuse_if (is_too_large (size_over how)) Inval
  _ ← refuse_if (lacks_cuts (size_over how) file) NoSpc
  Ok (record { directory = fileid_at directory.place; fileid = e.fileid; is_new = false; size = size_over how })

unfoldable pub new_plan : Tree → Cred → Object → CreateHow → ℕ → Check CreatePlan
new_plan t cred directory how lane = do
  _ ← need (may_write cred directory.inode) Acces
  _ ← need_new_node t cred lane directory.inode Reg (create_attributes how)
  Ok (record { directory = fileid_at directory.place; fileid = next_fileid t lane; is_new = true; size = None })

abbrev pub plan_by : Tree → Cred → Object → Option NameEntry → CreateHow → ℕ → Check CreatePlan
plan_by t cred directory (Some e) how lane = reuse_plan t cred directory e how
plan_by t cred directory None how lane = new_plan t cred directory how lane

unfoldable pub create_plan : Tree → Cred → CreateArgs (List ℕ) → ℕ → Check CreatePlan
create_plan t cred a lane = do
  directory ← find_directory t a.place
  _ ← need_search cred directory
  _ ← refuse_if (is_reserved directory a.place.name) Exist
  plan_by t cred directory (entry_at t directory.place a.place.name) a.how lane

-- a file that is there is touched where it is given a size, also the one that it has
abbrev pub give_size : Option ℕ → Moment → Node → Node
give_size (Some size) now n = touch now (set_size size n)
give_size None now n = n

unfoldable pub create_edit : Tree → Cred → CreateArgs (List ℕ) → Moment → ℕ → CreatePlan → Tree
create_edit t cred a now lane p =
    if p.is_new
    then make_node cred now lane (record { directory = p.directory; fileid = p.fileid }) a.place.name (new_file a.how) t
    else edit_node p.fileid (give_size p.size now) t

unfoldable pub create : Tree → Cred → CreateArgs (List ℕ) → Moment → ℕ → Row
create t cred a now lane =
    done (create_plan t cred a lane) (create_edit t cred a now lane)
    (λ plan after. Create (told_of_new t after (Live plan.directory) (Live plan.fileid)))
