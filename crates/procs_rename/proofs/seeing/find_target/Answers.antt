-- The name is looked up, and what its number leads to.
use Rattle.std.proofs.Common.{◌≡◌, true, Option, Some, None, subst}
use Rattle.std.specs.Prelude.{option_map, IfSome}
use Rattle.std.proofs.lemmas.Result.{IfOk-weaker, IfErr-weaker}
use Rattle.fs_rules.specs.declared.place.Place.TheVariants.{Live as LivePlace}
use Rattle.fs_rules.specs.Checks.{is_live}
use Rattle.fs_rules.specs.Places.{entry_at, leads_to}
use Rattle.fs_rules.specs.Renaming.{target_at}
use Rattle.fs_rules.specs.Tree.{Tree}
use Rattle.pairs.specs.declared.at.At.TheVariants.{Live}
use Rattle.fs_keys.specs.declared.rows.NameRow.{NameRow}
use Rattle.fs_shows.specs.Nodes.{name_row}
use Rattle.fs_shows.specs.Steps.{Reads}
use Rattle.fs_shows.specs.Views.{IsKept}
use Rattle.fs_shows.proofs.Doing.{up-given}
use Rattle.fs_shows.proofs.Passing.{reads_both, gives_up_behind}
use Rattle.procs_object.specs.Finding.{IsLed}
use Rattle.procs_object.proofs.Reading.{reads-more}
use Rattle.procs_rename.proofs.Sights.{target-unnamed, target-there, lives-at}
use Rattle.procs_rename.proofs.seeing.find_target.Goals as goal

pub returns-in-Err-clause-fault : goal.returns-in-Err-clause-fault
returns-in-Err-clause-fault g c =
    up-given g.P.Pairs.told c.args.pairs.now c.look_up.new.pairs (λ (t : Tree). t.fsid ≡ c.args.fsid) (IsKept Live)
    (λ t given. tt) c.in-Err.fault c.in-Err.ensures.fault

pub returns-in-Some-clause-ok : goal.returns-in-Some-clause-ok
returns-in-Some-clause-ok g c =
    let d = c.args.directory in
    let name = c.args.name.now in
    let row = c.in-Some.row in
    let Given : Tree → Type 0 = λ t. t.fsid ≡ c.args.fsid in
    IfOk-weaker c.find_child.result
    (λ found. Reads g.P.Pairs.told c.look_up.new.pairs c.find_child.new.pairs Given (λ t. IsLed t found (leads_to t
    (LivePlace row.fileid))))
    (λ found. Reads g.P.Pairs.told c.args.pairs.now c.find_child.new.pairs Given
    (λ t. IsLed t found (target_at t (entry_at t (LivePlace d) name))))
    (λ found reads. reads-more g.P.Pairs.told c.args.pairs.now c.find_child.new.pairs Given Given
    (λ t. (option_map name_row (entry_at t (LivePlace d) name) ≡ Some row) × IsLed t found (leads_to t (LivePlace row.fileid)))
    (λ t. IsLed t found (target_at t (entry_at t (LivePlace d) name))) (λ t given. given)
    (λ t given learned. target-there t d name row learned.0 found learned.1)
    (reads_both g.P.Pairs.told c.args.pairs.now c.look_up.new.pairs c.find_child.new.pairs 0 Given
    (λ t. option_map name_row (entry_at t (LivePlace d) name) ≡ Some row)
    (λ t. IsLed t found (leads_to t (LivePlace row.fileid))) c.find_child.ensures.goes
    (reads-more g.P.Pairs.told c.args.pairs.now c.look_up.new.pairs Given (IsKept Live)
    (λ t. option_map name_row (entry_at t (LivePlace d) name) ≡ c.in-Ok.entry)
    (λ t. option_map name_row (entry_at t (LivePlace d) name) ≡ Some row) (λ t given. tt)
    (λ t given is. subst (λ (o : Option NameRow). option_map name_row (entry_at t (LivePlace d) name) ≡ o) c.in-Some.is is)
    c.in-Ok.ensures.ok)
    reads))
    c.find_child.ensures.ok

pub returns-in-Some-clause-live : goal.returns-in-Some-clause-live
returns-in-Some-clause-live g c =
    IfOk-weaker c.find_child.result (λ found. IfSome found (λ x. x.place ≡ LivePlace c.in-Some.row.fileid))
    (λ found. IfSome found (λ x. is_live x.place ≡ true)) (λ found place. lives-at found c.in-Some.row.fileid place)
    c.find_child.ensures.place

pub returns-in-Some-clause-fault : goal.returns-in-Some-clause-fault
returns-in-Some-clause-fault g c =
    IfErr-weaker c.find_child.result _ _
    (λ fault up. gives_up_behind g.P.Pairs.told c.args.pairs.now c.look_up.new.pairs c.find_child.new.pairs 0 0
    (λ (t : Tree). t.fsid ≡ c.args.fsid) (λ (t : Tree). t.fsid ≡ c.args.fsid) (λ t. t) c.in-Ok.ensures.goes
    c.find_child.ensures.goes (λ w t agrees lies given. c.in-Ok.ensures.ok.stays w t agrees lies tt) (λ t is. is) fault up)
    c.find_child.ensures.fault

pub returns-in-None-clause-ok : goal.returns-in-None-clause-ok
returns-in-None-clause-ok g c =
    let d = c.args.directory in
    let name = c.args.name.now in
    reads-more g.P.Pairs.told c.args.pairs.now c.look_up.new.pairs (λ (t : Tree). t.fsid ≡ c.args.fsid) (IsKept Live)
    (λ t. option_map name_row (entry_at t (LivePlace d) name) ≡ c.in-Ok.entry)
    (λ t. IsLed t None (target_at t (entry_at t (LivePlace d) name))) (λ t given. tt)
    (λ t given is. target-unnamed t d name
    (subst (λ (o : Option NameRow). option_map name_row (entry_at t (LivePlace d) name) ≡ o) c.in-None.is is))
    c.in-Ok.ensures.ok
