-- The name is looked up, and then what its number leads to.
use Rattle.std.proofs.Common.{◌≡◌, ◌∙◌, Err}
use Rattle.std.specs.Prelude.{option_map}
use Rattle.nfs3_types.specs.declared.status.Status.TheVariants.{NoEnt}
use Rattle.pairs.specs.declared.at.At.TheVariants.{Live as LiveView}
use Rattle.fs_rules.specs.declared.place.Place.TheVariants.{Live}
use Rattle.fs_rules.specs.Places.{entry_at}
use Rattle.fs_shows.specs.Nodes.{name_row}
use Rattle.fs_shows.specs.Views.{IsKept}
use Rattle.fs_shows.proofs.Doing.{goes-then, up-given}
use Rattle.procs_object.proofs.Reading.{reads-more}
use Rattle.procs_names.specs.Naming.{IsOf, child_at}
use Rattle.procs_names.proofs.Entries.{child-lacks, child-then}
use Rattle.procs_names.proofs.finding.child.Goals as goal

pub returns-in-Err-clause-goes : goal.returns-in-Err-clause-goes
returns-in-Err-clause-goes g c = c.look_up.ensures.goes

pub returns-in-Err-clause-check : goal.returns-in-Err-clause-check
returns-in-Err-clause-check g c =
    up-given g.P.Pairs.told c.args.pairs.now c.look_up.new.pairs (IsOf c.args.fsid) (IsKept LiveView) (λ t own. tt) c.in-Err.fault
    c.in-Err.ensures.fault

pub look_up-requires : goal.look_up-requires
look_up-requires g c = c.requires

pub returns-in-Some-clause-goes : goal.returns-in-Some-clause-goes
returns-in-Some-clause-goes g c =
    goes-then g.P.Pairs.told c.args.pairs.now c.look_up.new.pairs c.stand.new.pairs 0 0 c.look_up.ensures.goes
    c.stand.ensures.goes

pub returns-in-Some-clause-check : goal.returns-in-Some-clause-check
returns-in-Some-clause-check g c =
    child-then g.P.Pairs.told c.args.pairs.now c.look_up.new.pairs c.stand.new.pairs c.args.fsid c.args.directory c.args.name.now
    c.in-Ok.found c.in-Some.row c.in-Some.is c.look_up.ensures.goes c.stand.ensures.goes c.in-Ok.ensures.ok c.stand.result
    c.stand.ensures.check

pub returns-in-None-clause-goes : goal.returns-in-None-clause-goes
returns-in-None-clause-goes g c = c.look_up.ensures.goes

pub returns-in-None-clause-check : goal.returns-in-None-clause-check
returns-in-None-clause-check g c =
    reads-more g.P.Pairs.told c.args.pairs.now c.look_up.new.pairs (IsOf c.args.fsid) (IsKept LiveView)
    (λ t. option_map name_row (entry_at t (Live c.args.directory) c.args.name.now) ≡ c.in-Ok.found)
    (λ t. child_at t (Live c.args.directory) c.args.name.now ≡ Err NoEnt) (λ t own. tt)
    (λ t own said. child-lacks t c.args.directory c.args.name.now (said ∙ c.in-None.is))
    c.in-Ok.ensures.ok

pub returns-in-Some-clause-live : goal.returns-in-Some-clause-live
returns-in-Some-clause-live g c = c.stand.ensures.live
