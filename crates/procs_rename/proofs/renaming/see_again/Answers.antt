-- What stands there is told.
use Rattle.std.proofs.Common.{◌≡◌, Some}
use Rattle.fs_rules.specs.declared.place.Place.TheVariants.{Live as LivePlace}
use Rattle.fs_rules.specs.Places.{leads_to, shown}
use Rattle.fs_rules.specs.Tree.{Tree}
use Rattle.fs_shows.proofs.Doing.{up-given}
use Rattle.procs_object.specs.Finding.{IsLed}
use Rattle.procs_object.proofs.Reading.{reads-more}
use Rattle.procs_rename.specs.Doing.{CanTell}
use Rattle.procs_rename.proofs.Rows.{found-told, found-none}
use Rattle.procs_rename.proofs.renaming.see_again.Goals as goal

pub returns-in-Err-clause-fault : goal.returns-in-Err-clause-fault
returns-in-Err-clause-fault g c =
    up-given g.P.Pairs.told c.args.pairs.now c.find_child.new.pairs (CanTell c.args.fsid c.args.fileid)
    (λ (t : Tree). t.fsid ≡ c.args.fsid) (λ t can. can.own) c.in-Err.fault c.in-Err.ensures.fault

pub returns-in-Some-clause-ok : goal.returns-in-Some-clause-ok
returns-in-Some-clause-ok g c =
    let id = c.args.fileid in
    reads-more g.P.Pairs.told c.args.pairs.now c.find_child.new.pairs (CanTell c.args.fsid id) (λ (t : Tree). t.fsid
    ≡ c.args.fsid)
    (λ t. IsLed t c.in-Ok.found (leads_to t (LivePlace id))) (λ t. shown t (LivePlace id) ≡ Some c.in-Some.x.attributes)
    (λ t can. can.own) (λ t can led. found-told t id c.in-Ok.found c.in-Some.x c.in-Some.is led) c.in-Ok.ensures.ok

pub returns-in-None-clause-fault : goal.returns-in-None-clause-fault
returns-in-None-clause-fault g c = λ w t agrees lies can.
    found-none t c.args.fileid c.in-Ok.found c.in-None.is (c.in-Ok.ensures.ok.learns w t agrees lies can.own) can.there
