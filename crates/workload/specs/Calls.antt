-- What three draws make a call.
use Rattle.std.specs.Prelude.{ℕ, ◌-◌, ◌*◌, ◌%◌, ◌^◌, ◌==◌, List, ◌∷◌, Option, Some, None, if◌then◌else◌}
use Rattle.std.specs.Prelude.{replicate, decimal, unwrap_or}
use Rattle.nfs3_types.specs.declared.args.DirOp.{DirOp}
use Rattle.nfs3_types.specs.declared.args.CreateHow.TheVariants.{Unchecked}
use Rattle.nfs3_types.specs.declared.attributes.Sattr.{Sattr}
use Rattle.nfs3_types.specs.declared.attributes.SetTime.TheVariants.{DontChange}
use Rattle.nfs3_types.specs.declared.call.CallOver.TheVariants.{GetAttr, Lookup, Read, Write, Create, Mkdir, Remove, ReadDirPlus}
use Rattle.nfs3_types.specs.declared.handle.Handle.{Handle}
use Rattle.nfs3_types.specs.declared.stable_how.StableHow.TheVariants.{FileSync}
use Rattle.nfs3_types.specs.Calls.{Call}
use Rattle.nfs3_types.specs.Handles.{handle}
use Rattle.workload.specs.declared.choice.Choice.{Choice}
use Rattle.workload.specs.declared.choice.Kind.{Kind}
use Rattle.workload.specs.declared.choice.Kind.TheVariants.{Listing, Finding, Writing, Reading, Asking, Removing, Making, Keeping}
use Rattle.workload.specs.Draws.{drawn, draw_of}

-- what the first draw, modulo 8, makes the call
abbrev pub kind_of : ℕ → Kind
kind_of n = if n == 0 then Listing else (if n == 1 then Finding else (if n == 3 then Reading else (if n == 4 then Asking
    else (if n == 5 then Removing else (if n == 6 then Making else Writing)))))

-- each 512th call takes a snapshot instead
abbrev pub kind_at : ℕ → ℕ → Kind
kind_at number draw = if number % 512 == 0 then Keeping else kind_of (draw % 8)

-- what the call of this number is, by the state before its three draws
unfoldable pub choice_at : ℕ → ℕ → Choice
choice_at number state = record {
  kind = kind_at number (draw_of (drawn state));
  name = draw_of (drawn (drawn state)) % 256;
  piece = draw_of (drawn (drawn (drawn state)));
}

-- ---- the calls

abbrev pub root : Handle
root = record { fsid = 4294967296; snapshot = 0; fileid = 1 }

-- the directory `.snapshot`
abbrev pub snapshots : Handle
snapshots = record { fsid = 4294967296; snapshot = 2 ^ 64 - 1; fileid = 2 }

abbrev pub in_directory : Handle → List ℕ → DirOp (List ℕ)
in_directory directory name = record { directory = handle.spelling directory; name = name }

-- f and the number of the name
abbrev pub in_root : ℕ → DirOp (List ℕ)
in_root name = in_directory root (102 ∷ decimal name)

abbrev pub with_mode : Option ℕ → Sattr
with_mode mode = record { mode = mode; uid = None; gid = None; size = None; atime = DontChange; mtime = DontChange }

-- READDIRPLUS of the root
abbrev pub listing : Call
listing = ReadDirPlus (record {
  directory = handle.spelling root;
  cookie = 0;
  verifier = replicate 8 0;
  dircount = 8192;
  maxcount = 8192;
})

-- WRITE, by the third draw
abbrev pub writing : ℕ → List ℕ → Call
writing piece to = Write (record {
  file = to;
  offset = 4096 * (piece % 16);
  count = 6000;
  stable = FileSync;
  «data» = replicate 6000 (piece % 256);
})

abbrev pub reading : List ℕ → Call
reading to = Read (record { file = to; offset = 0; count = 32768 })

abbrev pub making : ℕ → Call
making name = Create (record { place = in_root name; how = Unchecked (with_mode (Some 420)) })

-- MKDIR in `.snapshot` of s and the call's number
abbrev pub keeping : ℕ → Call
keeping number = Mkdir (record { place = in_directory snapshots (115 ∷ decimal number); attributes = with_mode None })

-- the call of this number, of a kind, for a name, with the third draw, to a handle
abbrev pub call_by : ℕ → Kind → ℕ → ℕ → List ℕ → Call
call_by number Listing name piece to = listing
call_by number Finding name piece to = Lookup (in_root name)
call_by number Writing name piece to = writing piece to
call_by number Reading name piece to = reading to
call_by number Asking name piece to = GetAttr to
call_by number Removing name piece to = Remove (in_root name)
call_by number Making name piece to = making name
call_by number Keeping name piece to = keeping number

-- the call of this number, where this handle is known for its name
unfoldable pub call_of : ℕ → Choice → Option Handle → Call
call_of number choice known = call_by number choice.kind choice.name choice.piece (handle.spelling (unwrap_or known root))

-- after how many steps the way to the stores is cut at the call of this number
unfoldable pub fuse_of : ℕ → ℕ → ℕ → Option ℕ
fuse_of rough number piece = if rough == 0 then None else (if number % 16 == 0 then Some (piece % 16) else None)
