-- READ, WRITE and COMMIT (RFC 1813, sections 3.3.6, 3.3.7 and 3.3.21).
use Rattle.std.specs.Prelude.{◌+◌, ◌-◌, ◌==◌, ◌||◌, ◌&&◌}
use Rattle.fs_rules.specs.Words.{ℕ, nat_le, nat_lt, Bool, min, List, length, take, drop, Some, Ok, FileRange, WriteArgs, Body}
use Rattle.fs_rules.specs.Words.{Read, Write, Commit, Cred, Moment, FileSync, Acces, FBig, Inval, Inode, Live, WritePlan}
use Rattle.fs_rules.specs.Shared.{Check, Row, ◌>>=◌, done, find_object, need, need_file, need_live, refuse_if, edit_node}
use Rattle.fs_rules.specs.Shared.{write_at, most_size, most_transfer, attributes, change, content_at, fileid_at, may_read}
use Rattle.fs_rules.specs.Shared.{may_search, may_write, owns, Tree}

-- how many bytes are read of so many: what is asked for, at most the greatest transfer, and what is there
abbrev pub read_count : FileRange (List ℕ) → ℕ → ℕ
read_count a size = min a.count (min most_transfer (size - a.offset))

-- the owner may always read, and who may execute may read too
unfoldable pub read : Tree → Cred → FileRange (List ℕ) → Check Body
read t cred a = do
  o ← find_object t a.file
  _ ← need_file o
  _ ← need (owns cred o.inode.uid || may_read cred o.inode || may_search cred o.inode) Acces
  Ok (Read (record {
    attributes = Some (attributes t o);
    count = read_count a o.size;
    eof = nat_le o.size (a.offset + read_count a o.size);
    «data» = take (read_count a o.size) (drop a.offset (content_at t o.place));
  }))

-- all that is written is lasting at once
unfoldable pub commit : Tree → FileRange (List ℕ) → Check Body
commit t a = do
  o ← find_object t a.file
  _ ← need_file o
  Ok (Commit (record { file = change t t o.place; verifier = t.verifier }))

abbrev pub may_fill : Cred → Inode → Bool
may_fill cred i = owns cred i.uid || may_write cred i

abbrev pub write_count : WriteArgs (List ℕ) → ℕ
write_count a = min a.count most_transfer

unfoldable pub write_plan : Tree → Cred → WriteArgs (List ℕ) → Check WritePlan
write_plan t cred a = do
  o ← find_object t a.file
  _ ← need_file o
  _ ← need_live o
  _ ← need (a.count == length a.«data») Inval
  _ ← need (may_fill cred o.inode) Acces
  _ ← refuse_if (nat_lt 0 (write_count a) && nat_lt most_size (a.offset + write_count a)) FBig
  Ok (record { fileid = fileid_at o.place; count = write_count a })

unfoldable pub write : Tree → Cred → WriteArgs (List ℕ) → Moment → Row
write t cred a now =
    done (write_plan t cred a)
    (λ plan. edit_node plan.fileid (write_at a.offset (take plan.count a.«data») now) t)
    (λ plan after. Write (record {
      file = change t after (Live plan.fileid);
      count = plan.count;
      committed = FileSync;
      verifier = t.verifier;
    }))
