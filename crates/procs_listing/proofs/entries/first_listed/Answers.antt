-- Itself and the directory above it are listed first, and then the names.
use Rattle.std.proofs.Common.{◌≡◌, Option, Some, sym, subst}
use Rattle.fs_rules.specs.Places.{names_at}
use Rattle.fs_shows.proofs.Doing.{goes-none, up-memory}
use Rattle.dir_ops.specs.Listing.{next_entry}
use Rattle.procs_object.proofs.Reading.{reads-none, reads-more}
use Rattle.fs_rules.specs.Tree.{Tree}
use Rattle.procs_object.specs.Finding.{HasPlace}
use Rattle.procs_listing.specs.declared.entries.Entry.{Entry}
use Rattle.procs_listing.specs.Entries.{lists, IsNextOf}
use Rattle.procs_listing.proofs.Rising.{Rises, place-rises}
use Rattle.procs_listing.proofs.Behind.{dots-next, names-next}
use Rattle.procs_listing.proofs.entries.first_listed.Goals as goal

pub first_name-requires : goal.first_name-requires
first_name-requires g c = c.if-cookie-lt-ABOVE.false

pub returns-in-Ok-clause-goes : goal.returns-in-Ok-clause-goes
returns-in-Ok-clause-goes g c = goes-none g.P.Pairs.told c.args.pairs.now

pub returns-in-Ok-clause-ok : goal.returns-in-Ok-clause-ok
returns-in-Ok-clause-ok g c =
    let up : (t : Tree) → HasPlace c.args.directory t → Rises (names_at t c.args.directory) =
    λ t has. place-rises t has.sound c.args.directory in
    reads-none g.P.Pairs.told c.args.pairs.now (HasPlace c.args.directory)
    (λ t. IsNextOf (lists t c.args.directory c.args.above) c.args.cookie (Some c.in-Ok.e))
    (λ t is. subst (λ (e : Entry). IsNextOf (lists t c.args.directory c.args.above) c.args.cookie (Some e))
    (sym c.in-Ok.ensures)
    (dots-next t c.args.directory c.args.above (up t is).next (up t is).rises c.args.cookie c.if-cookie-lt-ABOVE.true))

pub returns-in-Err-clause-goes : goal.returns-in-Err-clause-goes
returns-in-Err-clause-goes g c = goes-none g.P.Pairs.told c.args.pairs.now

pub returns-in-Err-clause-fault : goal.returns-in-Err-clause-fault
returns-in-Err-clause-fault g c =
    up-memory g.P.Pairs.told c.args.pairs.now c.args.pairs.now (HasPlace c.args.directory) c.from.result c.from.ensures

pub returns-in-Ok-first_name-clause-goes : goal.returns-in-Ok-first_name-clause-goes
returns-in-Ok-first_name-clause-goes g c = c.first_name.ensures.goes

pub returns-in-Ok-first_name-clause-ok : goal.returns-in-Ok-first_name-clause-ok
returns-in-Ok-first_name-clause-ok g c =
    let up : (t : Tree) → HasPlace c.args.directory t → Rises (names_at t c.args.directory) =
    λ t has. place-rises t has.sound c.args.directory in
    reads-more g.P.Pairs.told c.args.pairs.now c.first_name.new.pairs (HasPlace c.args.directory)
    (HasPlace c.args.directory)
    (λ t. next_entry c.args.cookie (names_at t c.args.directory) ≡ c.in-Ok-first_name.found)
    (λ t. IsNextOf (lists t c.args.directory c.args.above) c.args.cookie c.told_as.result) (λ t is. is)
    (λ t is same. subst (λ (o : Option Entry). IsNextOf (lists t c.args.directory c.args.above) c.args.cookie o)
    (sym c.told_as.ensures)
    (names-next t c.args.directory c.args.above (up t is).next (up t is).rises c.args.cookie c.in-Ok-first_name.found c.if-cookie-lt-ABOVE.false same))
    c.in-Ok-first_name.ensures.ok

pub returns-in-Err-first_name-clause-goes : goal.returns-in-Err-first_name-clause-goes
returns-in-Err-first_name-clause-goes g c = c.first_name.ensures.goes

pub returns-in-Err-first_name-clause-fault : goal.returns-in-Err-first_name-clause-fault
returns-in-Err-first_name-clause-fault g c = c.in-Err-first_name.ensures.fault
