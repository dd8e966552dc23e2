-- The name is looked up, and what its number leads to.
use Rattle.std.proofs.Common.{◌≡◌, Option, Some, Ok, Err, subst}
use Rattle.std.specs.Prelude.{option_map, IfSome}
use Rattle.nfs3_types.specs.declared.status.Status.TheVariants.{NoEnt}
use Rattle.fs_rules.specs.declared.place.Place.TheVariants.{Live as LivePlace}
use Rattle.fs_rules.specs.Places.{Object, entry_at, leads_to}
use Rattle.fs_rules.specs.Tree.{Tree}
use Rattle.pairs.specs.declared.at.At.TheVariants.{Live}
use Rattle.fs_keys.specs.declared.rows.NameRow.{NameRow}
use Rattle.fs_shows.specs.Nodes.{name_row}
use Rattle.fs_shows.specs.Views.{IsKept}
use Rattle.fs_shows.proofs.Doing.{up-given}
use Rattle.fs_shows.proofs.Passing.{reads_both, gives_up_behind}
use Rattle.procs_object.specs.declared.object.Found.{Found}
use Rattle.procs_object.specs.Finding.{IsLed}
use Rattle.procs_object.proofs.Reading.{reads-more}
use Rattle.procs_rename.specs.Seeing.{source_at, IsNamed}
use Rattle.procs_rename.proofs.Sights.{source-unnamed, source-nowhere, source-there, live-at}
use Rattle.procs_rename.proofs.seeing.find_source.Goals as goal

pub returns-in-Err-clause-check : goal.returns-in-Err-clause-check
returns-in-Err-clause-check g c =
    up-given g.P.Pairs.told c.args.pairs.now c.look_up.new.pairs (λ (t : Tree). t.fsid ≡ c.args.fsid) (IsKept Live)
    (λ t given. tt) c.in-Err.fault c.in-Err.ensures.fault

pub returns-in_default-clause-check : goal.returns-in_default-clause-check
returns-in_default-clause-check g c =
    let d = c.args.directory in
    let name = c.args.name.now in
    reads-more g.P.Pairs.told c.args.pairs.now c.look_up.new.pairs (λ (t : Tree). t.fsid ≡ c.args.fsid) (IsKept Live)
    (λ t. option_map name_row (entry_at t (LivePlace d) name) ≡ c.in-Ok.entry) (λ t. source_at t d name ≡ Err NoEnt)
    (λ t given. tt)
    (λ t given is. source-unnamed t d name
    (subst (λ (o : Option NameRow). option_map name_row (entry_at t (LivePlace d) name) ≡ o) c.in_default.is is))
    c.in-Ok.ensures.ok

pub returns-in-Err-find_child-clause-check : goal.returns-in-Err-find_child-clause-check
returns-in-Err-find_child-clause-check g c =
    gives_up_behind g.P.Pairs.told c.args.pairs.now c.look_up.new.pairs c.find_child.new.pairs 0 0
    (λ (t : Tree). t.fsid ≡ c.args.fsid) (λ (t : Tree). t.fsid ≡ c.args.fsid) (λ t. t) c.in-Ok.ensures.goes
    c.in-Err-find_child.ensures.goes (λ w t agrees lies given. c.in-Ok.ensures.ok.stays w t agrees lies tt) (λ t is. is)
    c.in-Err-find_child.fault c.in-Err-find_child.ensures.fault

pub returns-in-Some-found-clause-check : goal.returns-in-Some-found-clause-check
returns-in-Some-found-clause-check g c =
    let d = c.args.directory in
    let name = c.args.name.now in
    let row = c.in-Some.row in
    let x = c.in-Some-found.source in
    let Given : Tree → Type 0 = λ t. t.fsid ≡ c.args.fsid in
    reads-more g.P.Pairs.told c.args.pairs.now c.find_child.new.pairs Given Given
    (λ t. (option_map name_row (entry_at t (LivePlace d) name) ≡ Some row)
    × IsLed t c.in-Ok-find_child.found (leads_to t (LivePlace row.fileid)))
    (λ t. (o : Object) × (source_at t d name ≡ Ok o) × IsNamed d name t x o) (λ t given. given)
    (λ t given learned. source-there t d name row learned.0 x
    (subst (λ (f : Option Found). IsLed t f (leads_to t (LivePlace row.fileid))) c.in-Some-found.is learned.1))
    (reads_both g.P.Pairs.told c.args.pairs.now c.look_up.new.pairs c.find_child.new.pairs 0 Given
    (λ t. option_map name_row (entry_at t (LivePlace d) name) ≡ Some row)
    (λ t. IsLed t c.in-Ok-find_child.found (leads_to t (LivePlace row.fileid))) c.in-Ok-find_child.ensures.goes
    (reads-more g.P.Pairs.told c.args.pairs.now c.look_up.new.pairs Given (IsKept Live)
    (λ t. option_map name_row (entry_at t (LivePlace d) name) ≡ c.in-Ok.entry)
    (λ t. option_map name_row (entry_at t (LivePlace d) name) ≡ Some row) (λ t given. tt)
    (λ t given is. subst (λ (o : Option NameRow). option_map name_row (entry_at t (LivePlace d) name) ≡ o) c.in-Some.is is)
    c.in-Ok.ensures.ok)
    c.in-Ok-find_child.ensures.ok)

pub returns-in-None-clause-check : goal.returns-in-None-clause-check
returns-in-None-clause-check g c =
    let d = c.args.directory in
    let name = c.args.name.now in
    let row = c.in-Some.row in
    let Given : Tree → Type 0 = λ t. t.fsid ≡ c.args.fsid in
    reads-more g.P.Pairs.told c.args.pairs.now c.find_child.new.pairs Given Given
    (λ t. (option_map name_row (entry_at t (LivePlace d) name) ≡ Some row)
    × IsLed t c.in-Ok-find_child.found (leads_to t (LivePlace row.fileid)))
    (λ t. source_at t d name ≡ Err NoEnt) (λ t given. given)
    (λ t given learned. source-nowhere t d name row learned.0
    (subst (λ (f : Option Found). IsLed t f (leads_to t (LivePlace row.fileid))) c.in-None.is learned.1))
    (reads_both g.P.Pairs.told c.args.pairs.now c.look_up.new.pairs c.find_child.new.pairs 0 Given
    (λ t. option_map name_row (entry_at t (LivePlace d) name) ≡ Some row)
    (λ t. IsLed t c.in-Ok-find_child.found (leads_to t (LivePlace row.fileid))) c.in-Ok-find_child.ensures.goes
    (reads-more g.P.Pairs.told c.args.pairs.now c.look_up.new.pairs Given (IsKept Live)
    (λ t. option_map name_row (entry_at t (LivePlace d) name) ≡ c.in-Ok.entry)
    (λ t. option_map name_row (entry_at t (LivePlace d) name) ≡ Some row) (λ t given. tt)
    (λ t given is. subst (λ (o : Option NameRow). option_map name_row (entry_at t (LivePlace d) name) ≡ o) c.in-Some.is is)
    c.in-Ok.ensures.ok)
    c.in-Ok-find_child.ensures.ok)

pub returns-in-Some-found-clause-live : goal.returns-in-Some-found-clause-live
returns-in-Some-found-clause-live g c =
    live-at c.in-Some-found.source.place c.in-Some.row.fileid
    (subst (λ (f : Option Found). IfSome f (λ x. x.place ≡ LivePlace c.in-Some.row.fileid)) c.in-Some-found.is
    c.in-Ok-find_child.ensures.place)
