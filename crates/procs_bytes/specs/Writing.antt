-- WRITE's checks once its file is found, and the file's attributes behind it.
use Rattle.std.specs.Prelude.{◌+◌, ◌==◌, ◌&&◌, max, if◌then◌else◌}
use Rattle.fs_rules.specs.Words.{ℕ, nat_lt, Bool, List, length, Ok, WriteArgs, Fattr, Cred, Moment, Acces, FBig, Inval}
use Rattle.fs_rules.specs.declared.plans.WritePlan.{WritePlan}
use Rattle.fs_rules.specs.Shared.{Check, ◌>>=◌, need, need_file, need_live, refuse_if, most_size, Object, fileid_at}
use Rattle.fs_rules.specs.Transfers.{may_fill, write_count}

-- so many bytes would reach beyond the greatest size; no byte would
abbrev pub too_far : ℕ → ℕ → Bool
too_far offset count = nat_lt 0 count && nat_lt most_size (offset + count)

-- the plan for an object
unfoldable pub write_plan_for : Object → Cred → WriteArgs (List ℕ) → Check WritePlan
write_plan_for o cred a = do
  _ ← need_file o
  _ ← need_live o
  _ ← need (a.count == length a.«data») Inval
  _ ← need (may_fill cred o.inode) Acces
  _ ← refuse_if (too_far a.offset (write_count a)) FBig
  Ok (record { fileid = fileid_at o.place; count = write_count a })

-- the attributes behind a write of so many bytes at an offset
unfoldable pub written_attributes : Fattr → ℕ → ℕ → Moment → Fattr
written_attributes before offset count now =
    if count == 0 then before
    else record before {
      size = max before.size (offset + count);
      used = max before.size (offset + count);
      mtime = now;
      ctime = now;
    }
