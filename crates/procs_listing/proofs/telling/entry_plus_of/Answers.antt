-- What the entry leads to is told.
use Rattle.std.proofs.Common.{◌≡◌, ◌∙◌, Option, sym, ap}
use Rattle.nfs3_types.specs.declared.attributes.Fattr.{Fattr}
use Rattle.fs_rules.specs.Listing.{entry_plus}
use Rattle.fs_rules.specs.Places.{leads_to}
use Rattle.fs_shows.proofs.Doing.{up-memory}
use Rattle.procs_object.specs.Finding.{Begins, IsLed}
use Rattle.procs_object.proofs.Reading.{reads-more}
use Rattle.procs_listing.specs.Entries.{listed_as, plus_by}
use Rattle.procs_listing.proofs.Rows.{plus-found}
use Rattle.procs_listing.proofs.telling.entry_plus_of.Goals as goal

pub returns-in-Err-clause-goes : goal.returns-in-Err-clause-goes
returns-in-Err-clause-goes g c = c.find_place.ensures.goes

pub returns-in-Err-clause-fault : goal.returns-in-Err-clause-fault
returns-in-Err-clause-fault g c = c.in-Err.ensures.fault

pub returns-in-Ok-plus_of-clause-goes : goal.returns-in-Ok-plus_of-clause-goes
returns-in-Ok-plus_of-clause-goes g c = c.find_place.ensures.goes

pub returns-in-Ok-plus_of-clause-ok : goal.returns-in-Ok-plus_of-clause-ok
returns-in-Ok-plus_of-clause-ok g c =
    reads-more g.P.Pairs.told c.args.pairs.now c.find_place.new.pairs (Begins c.args.begins.now) (Begins c.args.begins.now)
    (λ t. IsLed t c.in-Ok.found (leads_to t c.args.e.now.place))
    (λ t. entry_plus t (listed_as c.args.e.now) ≡ c.in-Ok-plus_of.entry) (λ t is. is)
    (λ t of led. plus-found t c.args.begins.now c.args.e.now c.in-Ok.found of led
    ∙ ap (λ (a : Option Fattr). plus_by c.args.begins.now.fsid c.args.e.now a) (sym c.attributes_by-attributes.ensures)
    ∙ sym c.in-Ok-plus_of.ensures) c.in-Ok.ensures.ok

pub returns-clause-goes : goal.returns-clause-goes
returns-clause-goes g c = c.find_place.ensures.goes

pub returns-clause-fault : goal.returns-clause-fault
returns-clause-fault g c =
    up-memory g.P.Pairs.told c.args.pairs.now c.find_place.new.pairs (Begins c.args.begins.now) c.from.result c.from.ensures
