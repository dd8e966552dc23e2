-- A file that is there, and that CREATE takes.
use Rattle.std.specs.Prelude.{ℕ, nat_le, nat_lt, ◌≡◌, ◌+◌, ◌&&◌, not, is_some, ⊤, Bool, true, false, Option, Some, None}
use Rattle.std.specs.Prelude.{Result, Ok, Err}
use Rattle.nfs3_types.specs.declared.args.CreateHow.{CreateHow}
use Rattle.nfs3_types.specs.declared.attributes.Fattr.{Fattr}
use Rattle.nfs3_types.specs.declared.body.Body.{Body}
use Rattle.nfs3_types.specs.declared.body.Body.TheVariants.{Create}
use Rattle.nfs3_types.specs.declared.body.CreateOk.{CreateOk}
use Rattle.nfs3_types.specs.declared.cred.Cred.{Cred}
use Rattle.nfs3_types.specs.declared.moment.Moment.{Moment}
use Rattle.nfs3_types.specs.declared.status.Status.TheVariants.{Acces, Exist, Inval, NoSpc}
use Rattle.nfs3_types.specs.Handles.{handle}
use Rattle.fs_rules.specs.declared.inode.Inode.{Inode}
use Rattle.fs_rules.specs.declared.place.Place.TheVariants.{Live}
use Rattle.fs_rules.specs.Attributes.{given, is_file, is_too_large, wcc_of}
use Rattle.fs_rules.specs.Checks.{Check, ◌>>=◌, need, refuse_if, some_or}
use Rattle.fs_rules.specs.Edits.{edit_node}
use Rattle.fs_rules.specs.Limits.{most_numbers}
use Rattle.fs_rules.specs.Making.{give_size, may_reuse, size_over}
use Rattle.fs_rules.specs.Places.{Object, leads_to}
use Rattle.fs_rules.specs.Transfers.{may_fill}
use Rattle.fs_rules.specs.Tree.{Tree}
use Rattle.pairs.specs.Told.{PairsTold}
use Rattle.fs_shows.specs.declared.halt.Halt.TheVariants.{Refused, Fault}
use Rattle.fs_shows.specs.Steps.{Edits, EditGivesUp}
use Rattle.file_ops.specs.Given.{MaySize}
use Rattle.procs_bytes.specs.declared.stop.Stop.{Stop}
use Rattle.procs_bytes.specs.declared.stop.Stop.TheVariants.{Halted, SweepFirst}
use Rattle.procs_bytes.specs.Resizing.{GivesOrWaits}

-- ---- the checks

-- the size that is given is a cut of a file of this inode and size, and one too many
abbrev pub cuts_lack : Option ℕ → Inode → ℕ → Bool
cuts_lack size i long = given size (λ size. nat_lt size long && nat_le most_numbers (i.cuts + 1))

-- of a file of this inode and size
unfoldable pub taken_check : Cred → CreateHow → Inode → ℕ → Check (Unit {0})
taken_check cred how i long = do
  _ ← need (is_file i.kind) Exist
  _ ← need (may_reuse how i) Exist
  _ ← refuse_if (is_some (size_over how) && not (may_fill cred i)) Acces
  _ ← refuse_if (is_too_large (size_over how)) Inval
  refuse_if (cuts_lack (size_over how) i long) NoSpc

unfoldable pub taken_found : Tree → Cred → CreateHow → ℕ → Check Object
taken_found t cred how fileid = do
  file ← some_or (leads_to t (Live fileid)) Exist
  _ ← taken_check cred how file.inode file.size
  Ok file

-- ---- what is told

-- the attributes of a file behind it: a size sets its times, also the one that it has
abbrev pub taken_attributes : Option ℕ → Moment → Fattr → Fattr
taken_attributes (Some size) now a = record a { size = size; used = size; mtime = now; ctime = now }
taken_attributes None now a = a

-- of a file of these attributes, in a directory of those, which stays
abbrev pub told_taken : Fattr → ℕ → Fattr → CreateOk
told_taken directory fileid attributes = record {
  object = Some (handle.spelling (record { fsid = directory.fsid; snapshot = 0; fileid = fileid }));
  attributes = Some attributes;
  directory = wcc_of (Some directory) (Some directory);
}

-- ---- what is done

-- a file to which a size is given may be sized
abbrev pub MayTake : ℕ → Option ℕ → Tree → Type 0
MayTake id None t = ⊤
MayTake id (Some size) t = MaySize id t

abbrev pub taken : ℕ → Option ℕ → Moment → Tree → Tree
taken id size now t = edit_node id (give_size size now) t

-- it was taken; or its size waits for a sweep and nothing was changed
abbrev pub TakesOrWaits : {S W : Type 0} → PairsTold S W → S → S → ℕ → Option ℕ → Moment → Bool → Type 0
TakesOrWaits told old new id None now true = Edits told old new (MayTake id None) (taken id None now)
TakesOrWaits told old new id None now false = ⊥
TakesOrWaits told old new id (Some size) now is_given = GivesOrWaits told old new id size now is_given

module _ {S W : Type 0} (told : PairsTold S W) (old new : S) where
  -- How CREATE ends of a file that is there and of this number, and that is given this, where the other attributes are as they
  -- were: what is told of it is this.
  abbrev pub TakesAs : ℕ → Option ℕ → Moment → CreateOk → Result Body Stop → Type 0
  TakesAs id size now ok (Ok body) = (body ≡ Create ok) × Edits told old new (MayTake id size) (taken id size now)
  TakesAs id size now ok (Err (SweepFirst first)) = (first ≡ id) × TakesOrWaits told old new id size now false
  TakesAs id size now ok (Err (Halted (Refused status))) = ⊥
  TakesAs id size now ok (Err (Halted (Fault fault))) = EditGivesUp told old new (MayTake id size) fault
