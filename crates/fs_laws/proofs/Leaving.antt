-- Which calls leave the tree as it was: those that fail, and those that only read.
use Rattle.std.proofs.Common.{◌≡◌, ℕ, false, Ok, Err, refl}
use Rattle.nfs3_types.specs.declared.body.Body.{Body}
use Rattle.nfs3_types.specs.declared.call.CallOver.TheVariants.{Null, GetAttr, Lookup, Access, ReadLink, Read}
use Rattle.nfs3_types.specs.declared.call.CallOver.TheVariants.{Mknod}
use Rattle.nfs3_types.specs.declared.call.CallOver.TheVariants.{ReadDir, ReadDirPlus, FsStat, FsInfo, PathConf, Commit}
use Rattle.nfs3_types.specs.declared.cred.Cred.{Cred}
use Rattle.nfs3_types.specs.declared.moment.Moment.{Moment}
use Rattle.nfs3_types.specs.Calls.{Call, procedure_of}
use Rattle.nfs3_types.specs.Replies.{is_ok}
use Rattle.fs_rules.specs.Answers.{Asked, after, answer, is_changing, reply_by, row, row_of, tree_by}
use Rattle.fs_rules.specs.Checks.{Check, Row, told}
use Rattle.fs_rules.specs.Tree.{Tree}

told_leaves : (t : Tree) (c : Check Body) → tree_by t (told t c) ≡ t
told_leaves t (Ok body) = refl
told_leaves t (Err status) = refl

-- ---- failing calls

-- where the call failed, the tree is as it was
tree_kept : (procedure : ℕ) (t : Tree) (r : Row) → is_ok (reply_by procedure r).status ≡ false → tree_by t r ≡ t
tree_kept procedure t (Ok d) failed = absurd cc
tree_kept procedure t (Err status) failed = refl

pub failure_leaves : (t : Tree) (a : Asked) → is_ok (answer t a).status ≡ false → after t a ≡ t
failure_leaves t a failed = tree_kept (procedure_of a.call) t (row t a) failed

-- ---- calls that only read

call_reads : (t : Tree) (cred : Cred) (now : Moment) (lane : ℕ) (call : Call) → is_changing call ≡ false
    → tree_by t (row_of t cred now lane call) ≡ t
call_reads t cred now lane Null h = refl
call_reads t cred now lane (GetAttr a) h = told_leaves t _
call_reads t cred now lane (Lookup a) h = told_leaves t _
call_reads t cred now lane (Access a) h = told_leaves t _
call_reads t cred now lane (ReadLink a) h = told_leaves t _
call_reads t cred now lane (Read a) h = told_leaves t _
call_reads t cred now lane (Mknod a) h = refl
call_reads t cred now lane (ReadDir a) h = told_leaves t _
call_reads t cred now lane (ReadDirPlus a) h = told_leaves t _
call_reads t cred now lane (FsStat a) h = told_leaves t _
call_reads t cred now lane (FsInfo a) h = told_leaves t _
call_reads t cred now lane (PathConf a) h = told_leaves t _
call_reads t cred now lane (Commit a) h = told_leaves t _
call_reads t cred now lane call h = absurd cc

pub reading_leaves : (t : Tree) (a : Asked) → is_changing a.call ≡ false → after t a ≡ t
unfolding row
reading_leaves t a h = call_reads t a.cred a.now a.lane a.call h
