-- Snapshots that are kept: each is found by its number after the call as before it.
use Rattle.std.proofs.Common.{◌≡◌, ℕ, Bool, true, false, true≢false, not, ◌&&◌, cond, List, [], ◌∷◌, ◌++◌, filter, bytes_eq}
use Rattle.std.proofs.Common.{Option, Some, refl, sym, ap, ◌∙◌, subst}
use Rattle.std.specs.List.{find}
use Rattle.nfs3_types.specs.declared.args.DirOp.{DirOp}
use Rattle.nfs3_types.specs.declared.args.MkdirArgs.{MkdirArgs}
use Rattle.nfs3_types.specs.declared.call.CallOver.TheVariants.{Null, GetAttr, SetAttr, Lookup, Access, ReadLink, Read, Write}
use Rattle.nfs3_types.specs.declared.call.CallOver.TheVariants.{Create, Mkdir, Symlink, Mknod, Remove, Rmdir, Rename, Link}
use Rattle.nfs3_types.specs.declared.call.CallOver.TheVariants.{ReadDir, ReadDirPlus, FsStat, FsInfo, PathConf, Commit}
use Rattle.nfs3_types.specs.declared.cred.Cred.{Cred}
use Rattle.nfs3_types.specs.declared.moment.Moment.{Moment}
use Rattle.nfs3_types.specs.Calls.{Call}
use Rattle.fs_rules.specs.Answers.{Asked, after, row, row_of, tree_by}
use Rattle.fs_rules.specs.Checks.{Check, find_object}
use Rattle.fs_rules.specs.Places.{Object, has_number, snapshot_numbered}
use Rattle.fs_rules.specs.Snapshots.{add_snapshot, drop_named, drop_snapshot, is_snapshot_directory, mkdir, need_new_snapshot}
use Rattle.fs_rules.specs.Snapshots.{need_snapshot, rmdir, take_snapshot}
use Rattle.fs_rules.specs.Tree.{Snapshot, Tree}
use Rattle.fs_laws.proofs.Copies.{Keeps, create_kept, done_has, either_has, link_kept, make_directory_kept}
use Rattle.fs_laws.proofs.Copies.{remove_directory_kept, remove_kept, rename_kept, set_attr_kept, symlink_kept, then_has}
use Rattle.fs_laws.proofs.Copies.{told_has, write_kept}
use Rattle.fs_laws.specs.Dropping.{drops, leads_there}

-- ---- lists

-- what is found is found in a longer list
found_more_by : {A : Type 0} (b : Bool) (x s : A) (rest more : Option A) → (rest ≡ Some s → more ≡ Some s)
    → cond b (Some x) rest ≡ Some s → cond b (Some x) more ≡ Some s
found_more_by true x s rest more next h = h
found_more_by false x s rest more next h = next h

found_more : {A : Type 0} (p : A → Bool) (xs ys : List A) (s : A) → find p xs ≡ Some s → find p (xs ++ ys) ≡ Some s
found_more p [] ys s h = absurd cc
found_more p (x ∷ xs) ys s h = found_more_by (p x) x s (find p xs) (find p (xs ++ ys)) (found_more p xs ys s) h

-- what is found and passes the test is found among what passes it
kept_by : {A : Type 0} (p q : A → Bool) (x s : A) (xs : List A) (b c : Bool) → p x ≡ b → q x ≡ c → q s ≡ true
    → (find p xs ≡ Some s → find p (filter q xs) ≡ Some s) → cond b (Some x) (find p xs) ≡ Some s
    → find p (cond c (x ∷ filter q xs) (filter q xs)) ≡ Some s
kept_by p q x s xs true true e f pass next h = ap (λ (b : Bool). cond b (Some x) (find p (filter q xs))) e ∙ h
kept_by p q x s xs true false e f pass next h = let same : x ≡ s = cc in absurd (true≢false (sym pass ∙ sym (ap q same) ∙ f))
kept_by p q x s xs false true e f pass next h = ap (λ (b : Bool). cond b (Some x) (find p (filter q xs))) e ∙ next h
kept_by p q x s xs false false e f pass next h = next h

found_kept : {A : Type 0} (p q : A → Bool) (xs : List A) (s : A) → q s ≡ true → find p xs ≡ Some s → find p (filter q xs) ≡ Some s
found_kept p q [] s pass h = absurd cc
found_kept p q (x ∷ xs) s pass h = kept_by p q x s xs (p x) (q x) refl refl pass (found_kept p q xs s pass) h

-- ---- calls

-- this one is found by this number
abbrev IsKept : ℕ → Snapshot → List Snapshot → Type 0
IsKept number s snapshots = find (has_number number) snapshots ≡ Some s

taken_keeps : (t : Tree) (number : ℕ) (s : Snapshot) (cred : Cred) (name : List ℕ) (now : Moment) → IsKept number s t.snapshots
    → Keeps (IsKept number s) (tree_by t (take_snapshot t cred name now))
unfolding take_snapshot add_snapshot
taken_keeps t number s cred name now h =
    done_has (Keeps (IsKept number s)) t (need_new_snapshot t cred name) _ h
    (λ plan e. found_more (has_number number) t.snapshots _ s h)

dropped_keeps : (t : Tree) (number : ℕ) (s : Snapshot) (cred : Cred) (name : List ℕ) (now : Moment) → bytes_eq s.name name ≡ false
    → IsKept number s t.snapshots → Keeps (IsKept number s) (tree_by t (drop_snapshot t cred name now))
unfolding drop_snapshot drop_named
dropped_keeps t number s cred name now other h =
    done_has (Keeps (IsKept number s)) t (need_snapshot t cred name) _ h
    (λ plan e. found_kept (has_number number) (λ s. not (bytes_eq s.name name)) t.snapshots s (ap not other) h)

mkdir_keeps : (t : Tree) (number : ℕ) (s : Snapshot) (cred : Cred) (a : MkdirArgs (List ℕ)) (now : Moment) (lane : ℕ)
    → IsKept number s t.snapshots
    → Keeps (IsKept number s) (tree_by t (mkdir t cred a now lane))
unfolding mkdir
mkdir_keeps t number s cred a now lane h = then_has (Keeps (IsKept number s)) t (find_object t a.place.directory) _ h (λ o is.
    either_has (Keeps (IsKept number s)) t (is_snapshot_directory o.place) _ _
    (λ there. taken_keeps t number s cred a.place.name now h)
    (make_directory_kept (IsKept number s) t cred a now lane o h))

other_name : (b : Bool) (other : Bool) → b ≡ true → (b && other) ≡ false → other ≡ false
other_name true other e h = h
other_name false other e h = absurd cc

rmdir_keeps : (t : Tree) (number : ℕ) (s : Snapshot) (cred : Cred) (a : DirOp (List ℕ)) (now : Moment)
    → (leads_there (find_object t a.directory) && bytes_eq s.name a.name) ≡ false → IsKept number s t.snapshots
    → Keeps (IsKept number s) (tree_by t (rmdir t cred a now))
unfolding rmdir
rmdir_keeps t number s cred a now stays h = then_has (Keeps (IsKept number s)) t (find_object t a.directory) _ h (λ o is.
    let here = subst (λ (c : Check Object). (leads_there c && bytes_eq s.name a.name) ≡ false) is stays in
    either_has (Keeps (IsKept number s)) t (is_snapshot_directory o.place) _ _
    (λ there. dropped_keeps t number s cred a.name now (other_name (is_snapshot_directory o.place) (bytes_eq s.name a.name)
    there here) h)
    (remove_directory_kept (IsKept number s) t cred a.name now o h))

row_keeps : (t : Tree) (number : ℕ) (s : Snapshot) (cred : Cred) (now : Moment) (lane : ℕ) (call : Call) → drops t call s ≡ false
    → IsKept number s t.snapshots → Keeps (IsKept number s) (tree_by t (row_of t cred now lane call))
row_keeps t number s cred now lane Null e h = h
row_keeps t number s cred now lane (GetAttr a) e h = told_has (Keeps (IsKept number s)) t _ h
row_keeps t number s cred now lane (SetAttr a) e h = set_attr_kept (IsKept number s) t cred a now h
row_keeps t number s cred now lane (Lookup a) e h = told_has (Keeps (IsKept number s)) t _ h
row_keeps t number s cred now lane (Access a) e h = told_has (Keeps (IsKept number s)) t _ h
row_keeps t number s cred now lane (ReadLink a) e h = told_has (Keeps (IsKept number s)) t _ h
row_keeps t number s cred now lane (Read a) e h = told_has (Keeps (IsKept number s)) t _ h
row_keeps t number s cred now lane (Write a) e h = write_kept (IsKept number s) t cred a now h
row_keeps t number s cred now lane (Create a) e h = create_kept (IsKept number s) t cred a now lane h
row_keeps t number s cred now lane (Mkdir a) e h = mkdir_keeps t number s cred a now lane h
row_keeps t number s cred now lane (Symlink a) e h = symlink_kept (IsKept number s) t cred a now lane h
row_keeps t number s cred now lane (Mknod a) e h = h
row_keeps t number s cred now lane (Remove a) e h = remove_kept (IsKept number s) t cred a now h
row_keeps t number s cred now lane (Rmdir a) e h = rmdir_keeps t number s cred a now e h
row_keeps t number s cred now lane (Rename a) e h = rename_kept (IsKept number s) t cred a now h
row_keeps t number s cred now lane (Link a) e h = link_kept (IsKept number s) t cred a now h
row_keeps t number s cred now lane (ReadDir a) e h = told_has (Keeps (IsKept number s)) t _ h
row_keeps t number s cred now lane (ReadDirPlus a) e h = told_has (Keeps (IsKept number s)) t _ h
row_keeps t number s cred now lane (FsStat a) e h = told_has (Keeps (IsKept number s)) t _ h
row_keeps t number s cred now lane (FsInfo a) e h = told_has (Keeps (IsKept number s)) t _ h
row_keeps t number s cred now lane (PathConf a) e h = told_has (Keeps (IsKept number s)) t _ h
row_keeps t number s cred now lane (Commit a) e h = told_has (Keeps (IsKept number s)) t _ h

pub call_keeps : (t : Tree) (a : Asked) (number : ℕ) (s : Snapshot) → drops t a.call s ≡ false
    → snapshot_numbered t number ≡ Some s
    → snapshot_numbered (after t a) number ≡ Some s
unfolding row snapshot_numbered
call_keeps t a number s e h = row_keeps t number s a.cred a.now a.lane a.call e h
