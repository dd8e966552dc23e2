-- Which snapshot a call drops.
use Rattle.std.specs.Prelude.{Bool, false, ◌&&◌, bytes_eq, Ok, Err}
use Rattle.nfs3_types.specs.declared.call.CallOver.TheVariants.{Rmdir}
use Rattle.nfs3_types.specs.Calls.{Call}
use Rattle.fs_rules.specs.Checks.{Check, find_object}
use Rattle.fs_rules.specs.Places.{Object}
use Rattle.fs_rules.specs.Snapshots.{is_snapshot_directory}
use Rattle.fs_rules.specs.Tree.{Snapshot, Tree}

-- what is found is the directory `.snapshot`
abbrev pub leads_there : Check Object → Bool
leads_there (Ok o) = is_snapshot_directory o.place
leads_there (Err status) = false

-- RMDIR of its name in the directory `.snapshot`
abbrev pub drops : Tree → Call → Snapshot → Bool
drops t (Rmdir a) s = leads_there (find_object t a.directory) && bytes_eq s.name a.name
drops t call s = false
