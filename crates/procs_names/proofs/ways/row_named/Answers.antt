-- The number is that of the row that was found.
use Rattle.std.proofs.Common.{◌≡◌}
use Rattle.std.specs.Prelude.{option_map}
use Rattle.fs_rules.specs.Places.{entry_at}
use Rattle.fs_shows.specs.Nodes.{name_row}
use Rattle.fs_shows.specs.Views.{place_in, IsKept}
use Rattle.procs_object.proofs.Reading.{reads-more}
use Rattle.procs_names.specs.Naming.{fileid_of}
use Rattle.procs_names.proofs.Leading.{number-by-row}
use Rattle.procs_names.proofs.ways.row_named.Goals as goal

pub look_up-requires : goal.look_up-requires
look_up-requires g c = c.requires

pub returns-in-Ok-clause-goes : goal.returns-in-Ok-clause-goes
returns-in-Ok-clause-goes g c = c.look_up.ensures.goes

pub returns-in-Ok-clause-ok : goal.returns-in-Ok-clause-ok
returns-in-Ok-clause-ok g c =
    let place = place_in c.args.at c.args.directory in
    reads-more g.P.Pairs.told c.args.pairs.now c.look_up.new.pairs (IsKept c.args.at) (IsKept c.args.at)
    (λ t. option_map name_row (entry_at t place c.args.name.now) ≡ c.in-Ok.found)
    (λ t. option_map fileid_of (entry_at t place c.args.name.now) ≡ c.fileid_of.result) (λ t kept. kept)
    (λ t kept said. number-by-row (entry_at t place c.args.name.now) c.in-Ok.found c.fileid_of.result said c.fileid_of.ensures)
    c.in-Ok.ensures.ok

pub returns-in-Err-clause-goes : goal.returns-in-Err-clause-goes
returns-in-Err-clause-goes g c = c.look_up.ensures.goes

pub returns-in-Err-clause-fault : goal.returns-in-Err-clause-fault
returns-in-Err-clause-fault g c = c.in-Err.ensures.fault
