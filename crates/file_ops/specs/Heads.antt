-- Heads of files that are written and sized.
use Rattle.std.specs.Prelude.{ℕ, ◌+◌, max}
use Rattle.nfs3_types.specs.declared.moment.Moment.{Moment}
use Rattle.fs_keys.specs.declared.inode.Head.{Head}
use Rattle.extent_ops.specs.Cuts.{floor_of}

-- written up to this end
abbrev pub filled : ℕ → Moment → Head → Head
filled end now h = record { kept = record h.kept { mtime = now; ctime = now }; size = max h.size end; floor = h.floor }

-- of another size, which is no smaller
abbrev pub grown : ℕ → Head → Head
grown size h = record h { size = size }

-- of a smaller size
abbrev pub cut : ℕ → Head → Head
cut size h = record { kept = record h.kept { cuts = h.kept.cuts + 1 }; size = size; floor = floor_of size }
